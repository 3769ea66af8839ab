-- The state that stored bytes spell: what was stored in the head, in a container or as a count, and all else as it was.
-- Assumes nothing.
use Rattle.std.proofs.Common.{Option}
use Prim.Native.Nat.{ℕ, zero, suc, ◌+◌, ◌*◌, ◌/◌, ◌%◌, ◌^◌, ◌<◌, ◌≤◌}
use native.Mathlib.Omega.{arith}
use native.Mathlib.Nat.{mod-eq_of_lt}
use mathlib.Core.Path.{◌≡◌, refl, sym, ◌∙◌, ap}
use mathlib.Core.Bool.{Bool, true, false, not}
use mathlib.Core.Logic.{⊎_elim}
use mathlib.Core.List.{List, [], ◌∷◌, ◌++◌}
use lib.Dec.{eqb, ltb}
use lib.ListN.{length, get_or, take, drop, set, length-set, get_or-append}
use lib.Seq.{get_or-append-add, get_or-set_same, get_or-set_other, length-take-le, ext_get_or}
use borrow.Author.Tests.{eq-eqb, lt-ltb, eqb-true, eqb-false, ltb-true, ltb-false}
use Rattle.ion.proofs.Tests.{by_cases}
use Rattle.buffer.specs.Laid.{laid, placed}
use Rattle.buffer.proofs.Laid.{length-laid, byte_before, byte_behind, placed-fits, placed_or}
use Rattle.machine.specs.declared.Container.{Container}
use Rattle.machine.specs.Machine.{most_open, no_container, with_member, counted}
use Rattle.state_bytes.specs.StateBytes.{record_size, state_size, four, place_of, container_at, containers_from, state_of, four_bytes, flag, head_bytes}
use Rattle.state_bytes.specs.StateBytes.{container_bytes, stored_head, stored_container, stored_members, stored_count, numbers_laid}
use Rattle.state_bytes.proofs.Laws.{state_is, container_is, length_containers}

-- ---- a byte among laid ones

module _ (b : List ℕ) (at : ℕ) (xs : List ℕ) (h : at + length xs ≤ length b) where
  byte_within : (p j : ℕ) → p ≡ at + j → j < length xs → get_or (laid b at xs) p 0 ≡ get_or xs j 0
  unfolding laid
  byte_within p j e k =
      let q : p ≡ length (take at b) + j = e ∙ ap (λ (n : ℕ). n + j) (sym (length-take-le at b (omega arith))) in
      ap (λ (n : ℕ). get_or (take at b ++ (xs ++ drop (at + length xs) b)) n 0) q
      ∙ (get_or-append-add (take at b) (xs ++ drop (at + length xs) b) j 0 ∙ get_or-append xs (drop (at + length xs) b) 0 j k)

-- four bytes give their number back
pub four_back : (n : ℕ) → n < 2 ^ 32 → n % 256 + 256 * (n / 256 % 256) + 65536 * (n / 65536 % 256) + 16777216 * (n / 16777216 % 256) ≡ n
four_back n h =
    let p : n / 65536 ≡ n / 256 / 256 = omega arith in
    let q : n / 16777216 ≡ n / 65536 / 256 = omega arith in
    let r : n / 16777216 % 256 ≡ n / 16777216 = omega arith in
    let x : n / 65536 % 256 + 256 * (n / 16777216) ≡ n / 65536 = rw q (omega arith) in
    let y : n / 256 % 256 + 256 * (n / 65536) ≡ n / 256 = rw p (omega arith) in
    let z : n % 256 + 256 * (n / 256) ≡ n = omega arith in
    rw r (sum (n % 256) (n / 256 % 256) (n / 65536 % 256) (n / 16777216) (n / 65536) (n / 256) n x y z)
  where
    sum : (a b c d e f g : ℕ) → c + 256 * d ≡ e → b + 256 * e ≡ f → a + 256 * f ≡ g → a + 256 * b + 65536 * c + 16777216 * d ≡ g
    sum a b c d e f g x y z = omega arith

-- a number among laid bytes
pub four_within : (b : List ℕ) (at : ℕ) (xs : List ℕ) → at + length xs ≤ length b → (p j : ℕ) → p ≡ at + j → j + 4 ≤ length xs
    → four (laid b at xs) p ≡ four xs j
four_within b at xs h p j e k =
    rw (
      byte_within b at xs h p j e (omega arith),
      byte_within b at xs h (p + 1) (j + 1) (omega arith) (omega arith),
      byte_within b at xs h (p + 2) (j + 2) (omega arith) (omega arith),
      byte_within b at xs h (p + 3) (j + 3) (omega arith) (omega arith),
    )

same-four : (b c : List ℕ) (at : ℕ) → ((p : ℕ) → at ≤ p → p < at + 4 → get_or b p 0 ≡ get_or c p 0) → four b at ≡ four c at
same-four b c at f =
    rw (
      f at (omega arith) (omega arith),
      f (at + 1) (omega arith) (omega arith),
      f (at + 2) (omega arith) (omega arith),
      f (at + 3) (omega arith) (omega arith),
    )

-- ---- the numbers that a closing answers

placed_kept : (b : List ℕ) (at p : ℕ) (xs : List ℕ) → p + 4 ≤ at → four (placed b at xs).1 p ≡ four b p
placed_kept b at p xs h =
    ⊎_elim
    (λ q. ap (λ (x : Option ℕ × List ℕ). four x.1 p) q.1 ∙ same-four (laid b at xs) b p (λ k i j. byte_before b at xs q.0 k (omega arith)))
    (λ q. ap (λ (x : Option ℕ × List ℕ). four x.1 p) q.1)
    (placed_or b at xs)

length-placed : (b : List ℕ) (at : ℕ) (xs : List ℕ) → length (placed b at xs).1 ≡ length b
length-placed b at xs =
    ⊎_elim
    (λ q. ap (λ (x : Option ℕ × List ℕ). length x.1) q.1 ∙ length-laid b at xs q.0)
    (λ q. ap (λ (x : Option ℕ × List ℕ). length x.1) q.1)
    (placed_or b at xs)

-- those behind leave it
numbers_kept : (at p : ℕ) (ns b : List ℕ) → p + 4 ≤ at → four (numbers_laid at ns b) p ≡ four b p
unfolding numbers_laid
numbers_kept at p [] b h = refl
numbers_kept at p (n ∷ ns) b h = numbers_kept (at + 4) p ns (placed b at (four_bytes n)).1 (omega arith) ∙ placed_kept b at p (four_bytes n) h

-- the number n, with ms before it and ns behind it
pub number-laid : (ms : List ℕ) (n : ℕ) (ns : List ℕ) (at p : ℕ) (b : List ℕ) → p ≡ at + 4 * length ms → p + 4 ≤ length b → n < 2 ^ 32
    → four (numbers_laid at (ms ++ (n ∷ ns)) b) p ≡ n
unfolding numbers_laid
number-laid [] n ns at p b e h k =
    let f = placed-fits b at (four_bytes n) (omega arith) in
    numbers_kept (at + 4) p ns (placed b at (four_bytes n)).1 (omega arith)
    ∙ (ap (λ (x : Option ℕ × List ℕ). four x.1 p) f ∙ (four_within b at (four_bytes n) (omega arith) p 0 (omega arith) (omega arith) ∙ four_back n k))
number-laid (m ∷ ms) n ns at p b e h k =
    number-laid ms n ns (at + 4) p (placed b at (four_bytes m)).1 (omega arith) (omega (arith, length-placed b at (four_bytes m))) k

-- ---- containers that lie in the same bytes

same_container : (b c : List ℕ) (at : ℕ) → ((p : ℕ) → at ≤ p → p < at + record_size → get_or b p 0 ≡ get_or c p 0) → container_at b at ≡ container_at c at
same_container b c at f =
    rw (
      same-four b c at (λ p h k. f p h (omega arith)),
      same-four b c (at + 4) (λ p h k. f p (omega arith) (omega arith)),
      f (at + 8) (omega arith) (omega arith),
      same-four b c (at + 9) (λ p h k. f p (omega arith) (omega arith)),
    )

-- ---- the head

flag_back : (t : Bool) → not (eqb (flag t) 0) ≡ t
flag_back true = refl
flag_back false = refl

module _ (st : List ℕ) (u d : ℕ) (wt : Bool) (h : length st ≡ state_size) where
  head_laid : stored_head u d wt st ≡ laid st 0 (head_bytes u d wt)
  unfolding stored_head
  head_laid = rw (eq-eqb (length st) state_size h, stored_head)

  pub length_head : length (stored_head u d wt st) ≡ state_size
  length_head = ap length head_laid ∙ (length-laid st 0 (head_bytes u d wt) (omega arith) ∙ h)

  containers_head : containers_from (stored_head u d wt st) 0 most_open ≡ containers_from st 0 most_open
  containers_head =
      ext_get_or no_container (containers_from (stored_head u d wt st) 0 most_open) (containers_from st 0 most_open)
      (length_containers (stored_head u d wt st) 0 most_open ∙ sym (length_containers st 0 most_open))
      (λ i k.
      let j : i < most_open = omega (arith, k, length_containers (stored_head u d wt st) 0 most_open) in
      container_is (stored_head u d wt st) i j
      ∙ (same_container (stored_head u d wt st) st (place_of i)
      (λ p q r. ap (λ (l : List ℕ). get_or l p 0) head_laid ∙ byte_behind st 0 (head_bytes u d wt) (omega arith) p (omega arith))
      ∙ sym (container_is st i j)))

  pub state_head : u < 2 ^ 32 → d < 256 → state_of (stored_head u d wt st) ≡ record { used = u; depth = d; waiting = wt; containers = (state_of st).containers }
  unfolding laid
  state_head ku kd =
      state_is (stored_head u d wt st) length_head
      ∙ rw (containers_head, head_laid, four_back u ku, flag_back wt, mod-eq_of_lt {n = d} {m = 256} kd, state_is st h)

-- ---- a container

-- bytes laid within the record of the container i
module _ (st : List ℕ) (i at : ℕ) (xs : List ℕ) (h : length st ≡ state_size) (k : i < most_open) (from : place_of i ≤ at)
    (to : at + length xs ≤ place_of i + record_size) where
  abbrev after : List ℕ
  after = laid st at xs

  length_within : length after ≡ state_size
  length_within = length-laid st at xs (omega arith) ∙ h

  -- another container lies in other bytes
  container_other : (j : ℕ) → (j ≡ i → ⊥) → container_at after (place_of j) ≡ container_at st (place_of j)
  container_other j n =
      same_container after st (place_of j)
      (λ p q r.
      by_cases (ltb j i)
      (λ t. byte_before st at xs (omega arith) p (omega (arith, ltb-true j i t)))
      (λ t. byte_behind st at xs (omega arith) p (omega (arith, ltb-false j i t, n))))

  -- c is the container that they leave
  module _ (c : Container) (back : container_at after (place_of i) ≡ c) where
    containers_set : containers_from after 0 most_open ≡ set (containers_from st 0 most_open) i c
    containers_set =
        ext_get_or no_container (containers_from after 0 most_open) (set (containers_from st 0 most_open) i c)
        (length_containers after 0 most_open ∙ sym (length-set (containers_from st 0 most_open) i c ∙ length_containers st 0 most_open))
        (λ j q.
        let m : j < most_open = omega (arith, q, length_containers after 0 most_open) in
        container_is after j m
        ∙ by_cases (eqb j i)
        (λ t. rw (eqb-true j i t) (back ∙ sym (get_or-set_same (containers_from st 0 most_open) i c no_container (omega (arith, length_containers st 0 most_open)))))
        (λ t. container_other j (eqb-false j i t)
        ∙ sym (get_or-set_other (containers_from st 0 most_open) i j c no_container (eqb-false j i t) ∙ container_is st j m)))

    state_within : (state_of after).containers ≡ set (state_of st).containers i c
    state_within = rw (state_is after length_within, state_is st h) containers_set

module _ (st : List ℕ) (i : ℕ) (c : Container) (h : length st ≡ state_size) (k : i < most_open) where
  container_laid : stored_container i c st ≡ laid st (place_of i) (container_bytes c)
  unfolding stored_container
  container_laid = rw (eq-eqb (length st) state_size h, lt-ltb i most_open k, stored_container)

  pub length_container : length (stored_container i c st) ≡ state_size
  length_container = ap length container_laid ∙ length_within st i (place_of i) (container_bytes c) h k (omega arith) (omega arith)

  container_back : c.start < 2 ^ 32 → c.header < 2 ^ 32 → c.members < 2 ^ 32 → container_at (laid st (place_of i) (container_bytes c)) (place_of i) ≡ c
  container_back ks kh km =
      let f : (p j : ℕ) → p ≡ place_of i + j → j + 4 ≤ record_size
      → four (laid st (place_of i) (container_bytes c)) p ≡ four (container_bytes c) j =
      four_within st (place_of i) (container_bytes c) (omega arith) in
      rw (
        f (place_of i) 0 (omega arith) (omega arith),
        f (place_of i + 4) 4 refl (omega arith),
        byte_within st (place_of i) (container_bytes c) (omega arith) (place_of i + 8) 8 refl (omega arith),
        f (place_of i + 9) 9 refl (omega arith),
        four_back c.start ks,
        four_back c.header kh,
        four_back c.members km,
      )

  pub state_container : c.start < 2 ^ 32 → c.header < 2 ^ 32 → c.members < 2 ^ 32
      → (state_of (stored_container i c st)).containers ≡ set (state_of st).containers i c
  state_container ks kh km = rw container_laid (state_within st i (place_of i) (container_bytes c) h k (omega arith) (omega arith) c (container_back ks kh km))

-- ---- a count

module _ (st : List ℕ) (i n : ℕ) (h : length st ≡ state_size) (k : i < most_open) where
  members-laid : stored_members i n st ≡ laid st (place_of i + 9) (four_bytes n)
  unfolding stored_members
  members-laid = rw (eq-eqb (length st) state_size h, lt-ltb i most_open k, stored_members)

  length-members : length (stored_members i n st) ≡ state_size
  length-members = ap length members-laid ∙ length_within st i (place_of i + 9) (four_bytes n) h k (omega arith) (omega arith)

  abbrev with_count : Container → Container
  with_count c = record { start = c.start; header = c.header; code = c.code; members = n }

  members_back : n < 2 ^ 32 → container_at (laid st (place_of i + 9) (four_bytes n)) (place_of i) ≡ with_count (container_at st (place_of i))
  members_back kn =
      let f : (p : ℕ) → p < place_of i + 9 → get_or (laid st (place_of i + 9) (four_bytes n)) p 0 ≡ get_or st p 0 =
      byte_before st (place_of i + 9) (four_bytes n) (omega arith) in
      rw (
        same-four (laid st (place_of i + 9) (four_bytes n)) st (place_of i) (λ p q r. f p (omega arith)),
        same-four (laid st (place_of i + 9) (four_bytes n)) st (place_of i + 4) (λ p q r. f p (omega arith)),
        f (place_of i + 8) (omega arith),
        four_within st (place_of i + 9) (four_bytes n) (omega arith) (place_of i + 9) 0 (omega arith) (omega arith),
        four_back n kn,
      )

  state_members : n < 2 ^ 32
      → (state_of (stored_members i n st)).containers
      ≡ set (state_of st).containers i (with_count (get_or (state_of st).containers i no_container))
  state_members kn =
      let g : get_or (state_of st).containers i no_container ≡ container_at st (place_of i) = rw (state_is st h) (container_is st i k) in
      rw (members-laid, g) (state_within st i (place_of i + 9) (four_bytes n) h k (omega arith) (omega arith)
      (with_count (container_at st (place_of i))) (members_back kn))

-- the count of the innermost of d containers
module _ (st : List ℕ) (h : length st ≡ state_size) where
  pub length_count : (cs : List Container) (d : ℕ) → d ≤ most_open → length (stored_count d cs st) ≡ state_size
  length_count cs zero k = h
  length_count cs (suc i) k = length-members st i (get_or cs i no_container).members h (omega arith)

  pub state_count : (d : ℕ) → d ≤ most_open → ((j : ℕ) → j < d → (get_or (state_of st).containers j no_container).members + 1 < 2 ^ 32)
      → (state_of (stored_count d (counted (state_of st).containers d) st)).containers ≡ counted (state_of st).containers d
  state_count zero k few = refl
  state_count (suc i) k few =
      let cs : List Container = (state_of st).containers in
      let l : length cs ≡ most_open = rw (state_is st h) (length_containers st 0 most_open) in
      let g : get_or (counted cs (suc i)) i no_container ≡ with_member (get_or cs i no_container) =
      get_or-set_same cs i (with_member (get_or cs i no_container)) no_container (omega arith) in
      rw g (state_members st i ((get_or cs i no_container).members + 1) h (omega arith) (few i (omega arith)))
