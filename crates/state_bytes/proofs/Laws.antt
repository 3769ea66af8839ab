-- The state that bytes spell, part by part, and whether a check by place passes over them.
-- Assumes nothing.
use Prim.Native.Nat.{ℕ, zero, suc, ◌+◌, ◌-◌, ◌*◌, ◌%◌, ◌<◌, ◌≤◌}
use native.Mathlib.Omega.{arith}
use native.Mathlib.Nat.{add-zero, add-suc, suc-add, zero-add}
use mathlib.Core.Path.{◌≡◌, refl, sym, ◌∙◌, ap}
use mathlib.Core.Bool.{Bool, true, false, false≢true, not, ◌&&◌, ◌||◌, and-false, and-true}
use mathlib.Core.List.{List, [], ◌∷◌, ◌++◌}
use lib.Dec.{eqb, ltb, leb, eqb-suc-zero}
use lib.ListN.{length, get_or, set, get_or-eq_default, replicate}
use lib.Seq.{get_or-set_same}
use mir.Val.{bool_byte}
use borrow.Author.Tests.{eq-eqb, ne_eqb, eqb-true, eqb-false, lt-ltb, le-ltb, lt-leb, le-leb, leb-true, leb-false, ltb-true, ltb-false}
use Rattle.ion.proofs.Tests.{by_cases}
use Rattle.buffer.specs.Laid.{laid, placed}
use Rattle.buffer.proofs.Laid.{leb_iff, laid_snoc, laid_more}
use Rattle.machine.specs.declared.Container.{Container}
use Rattle.machine.specs.declared.State.{State}
use Rattle.machine.specs.Machine.{most_open, longest_buffer, no_container, innermost_first, open_containers, is_open, in_struct, with_member, counted}
use Rattle.machine.specs.Machine.{container_fits, containers_fit, fits, place_verdict, is_accepted}
use Rattle.place.specs.declared.CallKind.{CallKind}
use Rattle.place.specs.Misplaced.{misplaced_where, misplaced}
use Rattle.place.proofs.Laws.{open_of, innermost_step, innermost-none, chain_step, fits_overused, fits_overopen}
use Rattle.state_bytes.specs.StateBytes.{head_size, record_size, state_size, four, place_of, container_at, containers_from, unfit_state, state_of}
use Rattle.state_bytes.specs.StateBytes.{four_bytes, flag, stored_head, stored_container, stored_members, stored_count, numbers_laid}

-- ---- the state

abbrev pub spelled : List ℕ → State
spelled b = record { used = four b 0; depth = get_or b 4 0; waiting = not (eqb (get_or b 5 0) 0); containers = containers_from b 0 most_open }

pub state_is : (b : List ℕ) → length b ≡ state_size → state_of b ≡ spelled b
unfolding state_of
state_is b h = rw (eq-eqb (length b) state_size h, state_of)

pub state_none : (b : List ℕ) → (length b ≡ state_size → ⊥) → state_of b ≡ unfit_state
unfolding state_of
state_none b h = rw (ne_eqb (length b) state_size h, state_of)

container_of : (b : List ℕ) (i n j : ℕ) → j < n → get_or (containers_from b i n) j no_container ≡ container_at b (place_of (i + j))
unfolding containers_from
container_of b i zero j h = absurd (none j h)
  where
    none : (k : ℕ) → k < 0 → ⊥
    none k q = omega arith
container_of b i (suc n) zero h = rw (add-zero i)
container_of b i (suc n) (suc j) h = container_of b (suc i) n j (omega arith) ∙ rw (add-suc i j, suc-add i j)

pub container_is : (b : List ℕ) (j : ℕ) → j < most_open → get_or (containers_from b 0 most_open) j no_container ≡ container_at b (place_of j)
container_is b j h = container_of b 0 most_open j h ∙ rw (zero-add j)

pub length_containers : (b : List ℕ) (i n : ℕ) → length (containers_from b i n) ≡ n
unfolding containers_from
length_containers b i zero = refl
length_containers b i (suc n) = ap suc (length_containers b (suc i) n)

pub container_past : (b : List ℕ) (j : ℕ) → most_open ≤ j → no_container ≡ get_or (containers_from b 0 most_open) j no_container
container_past b j h = sym (get_or-eq_default (containers_from b 0 most_open) no_container (omega (arith, length_containers b 0 most_open)))

-- the container that is read before the place i
pub container-at : (b : List ℕ) (i : ℕ) (c : Container) → length b ≡ state_size → 0 < i → i ≤ most_open → c ≡ container_at b (place_of (i - 1))
    → c ≡ get_or (state_of b).containers (i - 1) no_container
container-at b i c h p q e = e ∙ (rw (state_is b h) (sym (container_is b (i - 1) (omega arith))))

-- each container of the state that does not fit is one of zeros
pub container_unfit : (j : ℕ) → no_container ≡ get_or unfit_state.containers j no_container
container_unfit j = of_zeros most_open j
  where
    of_zeros : (n k : ℕ) → no_container ≡ get_or (replicate n no_container) k no_container
    of_zeros zero k = refl
    of_zeros (suc n) zero = refl
    of_zeros (suc n) (suc k) = of_zeros n k

-- ---- the innermost container

pub in_struct_step : (l : List Container) (n : ℕ) → 0 < n → eqb (get_or l (n - 1) no_container).code 0xD0 ≡ in_struct (innermost_first l n)
in_struct_step l n h = rw (innermost_step l n h)

pub in_struct-none : (l : List Container) (n : ℕ) → n ≤ 0 → false ≡ in_struct (innermost_first l n)
in_struct-none l n h = rw (innermost-none l n h)

-- the code of the container below d; at 0 the byte there is the highest of the used length
pub struct_below : (b : List ℕ) (d : ℕ) → length b ≡ state_size → d ≤ most_open → (state_of b).used ≤ longest_buffer
    → eqb (get_or b (head_size + record_size * d - 5) 0) 0xD0 ≡ in_struct (innermost_first (state_of b).containers d)
struct_below b d h k u =
    by_cases (eqb d 0)
    (λ p.
    let e : head_size + record_size * d - 5 ≡ 3 = omega (arith, eqb-true d 0 p) in
    let f : four b 0 ≤ longest_buffer = rw (state_is b h) at u in
    rw (e, ne_eqb (get_or b 3 0) 0xD0 (λ q. omega (arith, f, q))) (in_struct-none (state_of b).containers d (omega (arith, eqb-true d 0 p))))
    (λ p.
    let q : 0 < d = positive (eqb-false d 0 p) in
    let e : head_size + record_size * d - 5 ≡ place_of (d - 1) + 8 = omega arith in
    rw e (sym (ap (λ (c : Container). eqb c.code 0xD0)
    (ap (λ (s : State). get_or s.containers (d - 1) no_container) (state_is b h) ∙ container_is b (d - 1) (omega arith)))
    ∙ in_struct_step (state_of b).containers d q))
  where
    positive : (d ≡ 0 → ⊥) → 0 < d
    positive n = omega (arith, n)

-- ---- whether it fits

-- members within what is left of the limit
pub within : (end members limit : ℕ) → (leb end limit && leb members (limit - end)) ≡ leb (end + members) limit
within end members limit =
    by_cases (leb end limit)
    (λ p. let h = leb-true end limit p in rw p (leb_iff members (limit - end) (end + members) limit (λ k. omega arith) (λ k. omega arith)))
    (λ p. rw (p, lt-leb (end + members) limit (omega (arith, leb-false end limit p))))

-- a header that is the start or lies four beyond it
pub apart : (header start : ℕ) → (not (eqb header start) && ltb header (start + 4)) ≡ false → (eqb header start || leb (start + 4) header) ≡ true
apart header start e =
    by_cases (eqb header start) (λ p. rw p)
    (λ p. let q : ltb header (start + 4) ≡ false = rw p at e in rw (p, le-leb (start + 4) header (ltb-false header (start + 4) q)))

pub between : (header start : ℕ) → (not (eqb header start) && ltb header (start + 4)) ≡ true → (eqb header start || leb (start + 4) header) ≡ false
between header start e =
    by_cases (eqb header start) (λ p. let q : false ≡ true = rw p at e in absurd (false≢true q))
    (λ p. let q : ltb header (start + 4) ≡ true = rw p at e in rw (p, lt-leb (start + 4) header (ltb-true header (start + 4) q)))

-- ---- the containers, one by one

-- c is the container below i
module _ (b : List ℕ) (i limit : ℕ) (c : Container) (h : length b ≡ state_size) (some : 0 < i) (most : i ≤ most_open)
    (e : c ≡ container_at b (place_of (i - 1))) where
  chain_by : containers_fit limit (innermost_first (state_of b).containers i)
      ≡ (container_fits limit c && containers_fit c.start (innermost_first (state_of b).containers (i - 1)))
  chain_by = chain_step (state_of b).containers i limit some ∙ rw (← (container-at b i c h some most e))

  pub chain_unfit : container_fits limit c ≡ false → containers_fit limit (innermost_first (state_of b).containers i) ≡ false
  chain_unfit n = chain_by ∙ rw n

  pub chain_fit : container_fits limit c ≡ true
      → containers_fit limit (innermost_first (state_of b).containers i)
      ≡ containers_fit c.start (innermost_first (state_of b).containers (i - 1))
  chain_fit n = chain_by ∙ rw n

-- ---- stores

pub flag_is : (w : Bool) → bool_byte w ≡ flag w
flag_is true = refl
flag_is false = refl

pub stored-head : (b l : List ℕ) (used depth f : ℕ) (waiting : Bool) → length b ≡ state_size → l ≡ laid b 0 (four_bytes used) → f ≡ flag waiting
    → set (set l 4 (depth % 256)) 5 f ≡ stored_head used depth waiting b
unfolding stored_head
stored-head b l used depth f waiting h p e =
    rw (eq-eqb (length b) state_size h, stored_head, ← e, p)
    (ap (λ (x : List ℕ). set x 5 f) (laid_snoc b 0 (four_bytes used) 4 (depth % 256) refl (omega arith))
    ∙ laid_snoc b 0 (four_bytes used ++ (depth % 256 ∷ [])) 5 f refl (omega arith))

pub stored-container : (b l m n : List ℕ) (i : ℕ) (c : Container) → length b ≡ state_size → i < most_open
    → l ≡ laid b (place_of i) (four_bytes c.start) → m ≡ laid l (place_of i + 4) (four_bytes c.header)
    → n ≡ laid (set m (place_of i + 8) c.code) (place_of i + 9) (four_bytes c.members) → n ≡ stored_container i c b
unfolding stored_container
stored-container b l m n i c h k p q s =
    let a : m ≡ laid b (place_of i) (four_bytes c.start ++ four_bytes c.header) =
    q ∙ ap (λ (x : List ℕ). laid x (place_of i + 4) (four_bytes c.header)) p
    ∙ laid_more b (place_of i) (four_bytes c.start) (omega arith) (four_bytes c.header) in
    let e : set m (place_of i + 8) c.code ≡ laid b (place_of i) (four_bytes c.start ++ (four_bytes c.header ++ (c.code ∷ []))) =
    ap (λ (x : List ℕ). set x (place_of i + 8) c.code) a
    ∙ laid_snoc b (place_of i) (four_bytes c.start ++ four_bytes c.header) (place_of i + 8) c.code refl (omega arith) in
    rw (eq-eqb (length b) state_size h, lt-ltb i most_open k, stored_container)
    (s ∙ ap (λ (x : List ℕ). laid x (place_of i + 9) (four_bytes c.members)) e
    ∙ laid_more b (place_of i) (four_bytes c.start ++ (four_bytes c.header ++ (c.code ∷ []))) (omega arith)
    (four_bytes c.members))

-- the count of the innermost of d containers
module _ (b : List ℕ) (cs : List Container) where
  pub uncounted_short : (d : ℕ) → (length b ≡ state_size → ⊥) → b ≡ stored_count d cs b
  unfolding stored_members
  uncounted_short zero h = refl
  uncounted_short (suc i) h = rw (ne_eqb (length b) state_size h, stored_members)

  pub uncounted : (d : ℕ) → (eqb d 0 || ltb most_open d) ≡ true → b ≡ stored_count d cs b
  unfolding stored_members
  uncounted zero e = refl
  uncounted (suc i) e =
      let q : ltb most_open (suc i) ≡ true = rw (eqb-suc-zero i) at e in
      rw (le-ltb i most_open (omega (arith, ltb-true most_open (suc i) q)), and-false (eqb (length b) state_size), stored_members)

pub some-counted : (d : ℕ) → (eqb d 0 || ltb most_open d) ≡ false → (0 < d) × (d ≤ most_open)
some-counted zero e = absurd (false≢true (sym e))
some-counted (suc i) e = (omega arith, ltb-false most_open (suc i) (rw (eqb-suc-zero i) at e))

pub stored-count : (b l : List ℕ) (d n : ℕ) → length b ≡ state_size → (0 < d) × (d ≤ most_open)
    → n ≡ four b (head_size + record_size * (d - 1) + 9) → l ≡ laid b (head_size + record_size * (d - 1) + 9) (four_bytes (n + 1))
    → l ≡ stored_count d (counted (state_of b).containers d) b
unfolding stored_members
stored-count b l zero n h k e q = absurd (omega (arith, k.0))
stored-count b l (suc i) n h k e q =
    let j : i < most_open = omega (arith, k.1) in
    let p : head_size + record_size * (suc i - 1) + 9 ≡ place_of i + 9 = omega arith in
    let c : Container = container_at b (place_of i) in
    let r : get_or (state_of b).containers i no_container ≡ c = ap (λ (s : State). get_or s.containers i no_container) (state_is b h) ∙ container_is b i j in
    let g : get_or (counted (state_of b).containers (suc i)) i no_container ≡ with_member c =
    get_or-set_same (state_of b).containers i (with_member (get_or (state_of b).containers i no_container)) no_container
    (rw (state_is b h) (omega (arith, length_containers b 0 most_open)))
    ∙ ap with_member r in
    rw (eq-eqb (length b) state_size h, lt-ltb i most_open j, stored_members, g) (rw (e, p) at q)

-- the numbers that a closing answers, by how many of them the slice holds
pub numbers_three : (b : List ℕ) (n m k : ℕ) {x y z : List ℕ} → x ≡ (placed b 0 (four_bytes n)).1 → y ≡ (placed x 4 (four_bytes m)).1
    → z ≡ (placed y 8 (four_bytes k)).1
    → z ≡ numbers_laid 0 (n ∷ m ∷ k ∷ []) b
unfolding numbers_laid
numbers_three b n m k p q r = rw (r, q, p) refl

pub unstored_head : (b : List ℕ) (used depth : ℕ) (waiting : Bool) → (length b ≡ state_size → ⊥) → b ≡ stored_head used depth waiting b
unfolding stored_head
unstored_head b used depth waiting h = rw (ne_eqb (length b) state_size h, stored_head)

pub unstored_short : (b : List ℕ) (i : ℕ) (c : Container) → (length b ≡ state_size → ⊥) → b ≡ stored_container i c b
unfolding stored_container
unstored_short b i c h = rw (ne_eqb (length b) state_size h, stored_container)

pub unstored_past : (b : List ℕ) (i : ℕ) (c : Container) → length b ≡ state_size → most_open ≤ i → b ≡ stored_container i c b
unfolding stored_container
unstored_past b i c h k = rw (eq-eqb (length b) state_size h, le-ltb i most_open k, stored_container)

-- ---- whether no line fails

tests : (f w i m : Bool) → ((f && (not w || i)) && not m) ≡ (not ((w && not i) || m) && f)
tests false w i m = sym (and-false (not ((w && not i) || m)))
tests true false i m = sym (and-true (not m))
tests true true true m = sym (and-true (not m))
tests true true false m = refl

none_of : (a b c : Bool) → ((a || b) || c) ≡ false → (a ≡ false) × (b ≡ false) × (c ≡ false)
none_of false false false e = (refl, refl, refl)
none_of true b c e = absurd (false≢true (sym e))
none_of false true c e = absurd (false≢true (sym e))
none_of false false true e = absurd (false≢true (sym e))

module _ (s : State) (room : ℕ) (m : Bool) where
  accepted_is : is_accepted (place_verdict s room m) ≡ (leb room longest_buffer && (fits s room && not m))
  unfolding place_verdict
  accepted_is =
      by_cases (leb room longest_buffer)
      (λ p. rw (p, le-ltb longest_buffer room (leb-true room longest_buffer p))
      (by_cases (fits s room) (λ f. rw f (by_cases m (λ q. rw q) (λ q. rw q))) (λ f. rw f)))
      (λ p. rw (p, lt-ltb longest_buffer room (leb-false room longest_buffer p)))

  overopen : leb s.depth most_open ≡ false → false ≡ is_accepted (place_verdict s room m)
  overopen d = sym (accepted_is ∙ rw (unfit_depth, and-false (leb room longest_buffer)))
    where
      unfit_depth : fits s room ≡ false
      unfit_depth =
          by_cases (leb s.used room)
          (λ u. sym (fits_overopen s room (leb-true s.used room u) (leb-false s.depth most_open d)))
          (λ u. sym (fits_overused s room (leb-false s.used room u)))

  -- the depth, the room and the used length are asked first
  pub too_far : ((ltb most_open s.depth || ltb longest_buffer room) || ltb room s.used) ≡ true → false ≡ is_accepted (place_verdict s room m)
  too_far e =
      by_cases (ltb most_open s.depth)
      (λ p. overopen (lt-leb s.depth most_open (ltb-true most_open s.depth p)))
      (λ p. by_cases (ltb longest_buffer room)
      (λ q. sym (accepted_is ∙ rw (lt-leb room longest_buffer (ltb-true longest_buffer room q))))
      (λ q. let u : ltb room s.used ≡ true = rw (p, q) at e in
      sym (accepted_is ∙ rw (← (fits_overused s room (ltb-true room s.used u)), and-false (leb room longest_buffer)))))

  pub near : ((ltb most_open s.depth || ltb longest_buffer room) || ltb room s.used) ≡ false
      → (s.depth ≤ most_open) × (room ≤ longest_buffer) × (s.used ≤ room)
  near e =
      let n = none_of (ltb most_open s.depth) (ltb longest_buffer room) (ltb room s.used) e in
      (ltb-false most_open s.depth n.0, ltb-false longest_buffer room n.1, ltb-false room s.used n.2)

  -- what is asked then
  pub passes_is : (s.depth ≤ most_open) × (room ≤ longest_buffer) × (s.used ≤ room)
      → is_accepted (place_verdict s room m)
      ≡ (not ((s.waiting && not (in_struct (open_containers s))) || m) && containers_fit s.used (open_containers s))
  unfolding fits
  passes_is h =
      accepted_is
      ∙ rw (le-leb s.depth most_open h.0, le-leb room longest_buffer h.1, le-leb s.used room h.2)
      (tests (containers_fit s.used (open_containers s)) s.waiting (in_struct (open_containers s)) m)

-- the same by what the bytes of the head hold
module _ (k : CallKind) (b : List ℕ) (room used depth : ℕ) (inside m : Bool) (h : length b ≡ state_size) (u : used ≡ four b 0) (d : depth ≡ get_or b 4 0)
    (i : (state_of b).used ≤ longest_buffer → inside ≡ in_struct (innermost_first (state_of b).containers depth))
    (e : m ≡ misplaced_where k (not (eqb depth 0)) inside (not (eqb (get_or b 5 0) 0)))
    (n : ((ltb most_open depth || ltb longest_buffer room) || ltb room used) ≡ false) where
  pub passes_by : is_accepted (place_verdict (state_of b) room (misplaced k (state_of b)))
      ≡ (not ((not (eqb (get_or b 5 0) 0) && not inside) || m) && containers_fit (state_of b).used (open_containers (state_of b)))
  passes_by =
      let s = state_of b in
      let x : used ≡ s.used = u ∙ rw (state_is b h) in
      let y : depth ≡ s.depth = d ∙ rw (state_is b h) in
      let l = near s room (misplaced k s) (rw (x, y) at n) in
      let w : not (eqb (get_or b 5 0) 0) ≡ s.waiting = rw (state_is b h) in
      let j : inside ≡ in_struct (open_containers s) = i (omega (arith, l.1, l.2)) ∙ rw y in
      let o : not (eqb depth 0) ≡ is_open (open_containers s) = rw y (open_of s.containers s.depth) in
      let q : m ≡ misplaced k s = e ∙ (cc) in
      passes_is s room (misplaced k s) l ∙ rw (← q, ← w, ← j)
