-- The laws of lent sids: each fits a u64, a sid more is its bytes more, and the size of them all has a bound.
-- By recursion on the number of sids. Assumes nothing.
use mathlib.Core.Path.{◌≡◌, refl, sym, ◌∙◌, ap}
use mathlib.Core.List.{List, [], ◌∷◌, ◌++◌, append-nil}
use Prim.Native.Nat.{ℕ, zero, suc, min, ◌+◌, ◌-◌, ◌*◌, ◌^◌, ◌≤◌, ◌<◌}
use native.Mathlib.Omega.{arith}
use native.Mathlib.Numerals.{add-one}
use native.Mathlib.Nat.{add-zero, one-le-pow, pow-suc, eq-or-lt_of_le}
use mathlib.Core.Logic.{◌⊎◌, inl, inr, ⊎_elim}
use lib.ListN.{length, take, drop, get_or, get_or-eq_default, length-append, length-drop, drop_of_length-le}
use lib.Seq.{get_or-drop, get_or-take, take_at, drop_at, drop-drop}
use Rattle.std.proofs.lemmas.List.{nil_from_length}
use Rattle.buffer.specs.Laid.{placed}
use Rattle.std.specs.Prelude.{Option, Some, None}
use Rattle.buffer.proofs.Laid.{placed-some, placed_then, placed_then_none}
use Rattle.encoding.specs.Fields.{var_uint_bytes, var_uints_bytes}
use Rattle.encoding.specs.Headers.{annotation_bytes}
use Rattle.encoding.proofs.Sizes.{var_uint_least, var_uint-most}
use Rattle.encoding.proofs.Fields.{var_uints_snoc}
use Rattle.annotations.specs.Sids.{least_first, sid_at, sid_count, sids_up_to, sids_of}

-- the byte before k - 1 others, of eight
pub least_first_more : (b : List ℕ) (at k : ℕ) → 0 < k → k ≤ 8
    → get_or b (at + (k - 1)) 0 + 256 * least_first b (at + k) (8 - k) ≡ least_first b (at + (k - 1)) (8 - (k - 1))
unfolding least_first
least_first_more b at k p h =
    let n : 8 - (k - 1) ≡ suc (8 - k) = omega arith in
    let e : at + (k - 1) + 1 ≡ at + k = omega arith in
    rw (n, least_first, e) refl

-- past the end every byte is zero
pub least_first_end : (b : List ℕ) (at k : ℕ) → length b ≤ at → least_first b at k ≡ 0
unfolding least_first
least_first_end b at zero h = refl
least_first_end b at (suc k) h = rw (get_or-eq_default b 0 {n = at} h, least_first_end b (at + 1) k (omega arith)) refl

least_first-next : (b : List ℕ) (at n k : ℕ) → least_first b (at + n) (suc k) ≡ get_or b (at + n) 0 + 256 * least_first b (at + suc n) k
unfolding least_first
least_first-next b at n k = let e : at + n + 1 ≡ at + suc n = omega arith in rw (least_first, e) refl

-- eight bytes as one sum
pub least_first_eight : (b : List ℕ) (at : ℕ) →
    get_or b at 0 + 256 * get_or b (at + 1) 0 + 65536 * get_or b (at + 2) 0 + 16777216 * get_or b (at + 3) 0 + 4294967296 * get_or b (at + 4) 0
    + 1099511627776 * get_or b (at + 5) 0 + 281474976710656 * get_or b (at + 6) 0 + 72057594037927936 * get_or b (at + 7) 0 ≡ least_first b at 8
unfolding least_first
least_first_eight b at =
    omega (
      arith,
      least_first-next b at 1 6,
      least_first-next b at 2 5,
      least_first-next b at 3 4,
      least_first-next b at 4 3,
      least_first-next b at 5 2,
      least_first-next b at 6 1,
      least_first-next b at 7 0,
    )

-- the bytes of a part, from its front on
pub least_first_drop : (b : List ℕ) (at n k : ℕ) → least_first (drop at b) n k ≡ least_first b (at + n) k
unfolding least_first
least_first_drop b at n zero = refl
least_first_drop b at n (suc k) =
    let e : at + (n + 1) ≡ at + n + 1 = omega arith in
    rw (get_or-drop at b n 0, least_first_drop b at (n + 1) k, e) refl

least_first_take : (b : List ℕ) (n at k : ℕ) → at + k ≤ n → least_first (take n b) at k ≡ least_first b at k
unfolding least_first
least_first_take b n at zero h = refl
least_first_take b n at (suc k) h = rw (get_or-take n b at 0 (omega arith), least_first_take b n (at + 1) k (omega arith)) refl

-- the first eight bytes, as one sum
pub least_first_whole : (b bytes : List ℕ) (n : ℕ) → bytes ≡ take 8 b
    → n ≡ get_or bytes 0 0 + get_or bytes 1 0 * 256 + get_or bytes 2 0 * 65536 + get_or bytes 3 0 * 16777216 + get_or bytes 4 0 * 4294967296
    + get_or bytes 5 0 * 1099511627776 + get_or bytes 6 0 * 281474976710656 + get_or bytes 7 0 * 72057594037927936 → n ≡ least_first b 0 8
least_first_whole b bytes n e f =
    let sum : n ≡ least_first bytes 0 8 = omega (arith, least_first_eight bytes 0) in
    sum ∙ rw e (least_first_take b 8 0 8 (omega arith))

-- ---- sids are numbers of 64 bits

module _ (b : List ℕ) (bytes : (i : ℕ) → get_or b i 0 < 256) where
  pub least_first-below : (at k j : ℕ) → k ≤ j → least_first b at k < 256 ^ j
  unfolding least_first
  least_first-below at zero j h = one-le-pow j 256 (omega arith)
  least_first-below at (suc k) zero h = absurd (omega arith)
  least_first-below at (suc k) (suc j) h = omega (arith, pow-suc 256 j, bytes at, least_first-below (at + 1) k j (omega arith))

  pub sid_at_u64 : (i : ℕ) → sid_at b i < 2 ^ 64
  unfolding sid_at
  sid_at_u64 i = least_first-below (8 * i) 8 8 (omega arith)

-- ---- the bytes of the first n sids

abbrev pub sid_bytes : List ℕ → ℕ → List ℕ
sid_bytes b n = var_uints_bytes (sids_up_to b n)

pub sid_bytes-none : (b : List ℕ) → sid_bytes b 0 ≡ []
unfolding sids_up_to var_uints_bytes
sid_bytes-none b = refl

pub sid_bytes_more : (b : List ℕ) (n : ℕ) → sid_bytes b (suc n) ≡ sid_bytes b n ++ var_uint_bytes (sid_at b n)
unfolding sids_up_to
sid_bytes_more b n = var_uints_snoc (sids_up_to b n) (sid_at b n)

pub sid_bytes_all : (b : List ℕ) → var_uints_bytes (sids_of b) ≡ sid_bytes b (sid_count b)
unfolding sids_of
sid_bytes_all b = refl

pub length-sid_bytes_more : (b : List ℕ) (n : ℕ) → length (sid_bytes b (suc n)) ≡ length (sid_bytes b n) + length (var_uint_bytes (sid_at b n))
length-sid_bytes_more b n = ap length (sid_bytes_more b n) ∙ length-append (sid_bytes b n) (var_uint_bytes (sid_at b n))

pub sid_bytes_within : (b : List ℕ) (i n : ℕ) → i ≤ n → length (sid_bytes b i) ≤ length (sid_bytes b n)
sid_bytes_within b i zero h = let e : i ≡ 0 = omega arith in rw e (omega arith)
sid_bytes_within b i (suc n) h = ⊎_elim
    (λ e. rw e (omega arith))
    (λ l. omega (arith, length-sid_bytes_more b n, sid_bytes_within b i n (omega arith)))
    (eq-or-lt_of_le h)

-- the length with one sid more
pub sums_more : (b : List ℕ) (n sum size : ℕ) → sum ≡ length (sid_bytes b n) → size ≡ length (var_uint_bytes (sid_at b n)) → sum + size ≡ length (sid_bytes b (n + 1))
sums_more b n sum size e q = rw (add-one n, e, q) (sym (length-sid_bytes_more b n))

-- Sids placed one behind the other, where there is room for all: n and l are what is answered and left of i of them, m and l' of the next.
module _ (b : List ℕ) (at : ℕ) (s : List ℕ) (all : at + length (var_uints_bytes (sids_of s)) ≤ length b) where
  pub sids_room : (i : ℕ) → i ≤ sid_count s → at + length (sid_bytes s i) ≤ length b
  sids_room i h = omega (arith, ap length (sid_bytes_all s), sid_bytes_within s i (sid_count s) h)

  module _ (i n : ℕ) (l : List ℕ) (e : ◌≡◌ {A = Option ℕ × List ℕ} (Some n, l) (placed b at (sid_bytes s i))) where
    -- no word is passed
    pub sids_end : at + n ≤ length b
    sids_end = omega (arith, placed-some b at (sid_bytes s i) n l e)

    pub sids_next : (v m : ℕ) (l' : List ℕ) → v ≡ sid_at s i → ◌≡◌ {A = Option ℕ × List ℕ} (Some m, l') (placed l (at + n) (var_uint_bytes v)) →
        ◌≡◌ {A = Option ℕ × List ℕ} (Some (n + m), l') (placed b at (sid_bytes s (i + 1)))
    sids_next v m l' q f =
        rw (add-one i, sid_bytes_more s i)
        (placed_then b at (sid_bytes s i) n l e (var_uint_bytes (sid_at s i)) m l'
        (f ∙ ap (λ (x : ℕ). placed l (at + n) (var_uint_bytes x)) q))

    -- the next has room
    pub sids_put : i < sid_count s → (v : ℕ) (l' : List ℕ) → v ≡ sid_at s i → ◌≡◌ {A = Option ℕ × List ℕ} (None, l') (placed l (at + n) (var_uint_bytes v)) → ⊥
    sids_put h v l' q f =
        let k = placed_then_none b at (sid_bytes s i) n l e (var_uint_bytes (sid_at s i)) l' (f ∙ ap (λ (x : ℕ). placed l (at + n) (var_uint_bytes x)) q) in
        omega (arith, sids_room (suc i) (omega arith), length-sid_bytes_more s i)

-- ---- the sids one after the other, in chunks of their bytes

-- n of them are read, and `rest` is left, to be cut in chunks of `size`
pub record Read (s rest : List ℕ) (size n : ℕ) : Type 0 where
  pub left : rest ≡ drop (8 * n) s
  pub eight : size ≡ 8
  pub count : n ≤ sid_count s

pub read_none : (s : List ℕ) (size : ℕ) → size ≡ 8 → Read s s size 0
read_none s size e = record { left = refl; eight = e; count = omega arith }

pub read_all : {s rest : List ℕ} {size n : ℕ} → Read s rest size n → length rest ≡ 0 → n ≡ sid_count s
read_all {s} {rest} {size} {n} r e = let l = r.count in omega (arith, e, ap length r.left, length-drop (8 * n) s)

-- the next chunk x, and rest' behind it
pub record Step (s x rest' : List ℕ) (size' n : ℕ) : Type 0 where
  pub within : n < sid_count s
  pub sid : least_first x 0 8 ≡ sid_at s n
  pub next : Read s rest' size' (n + 1)

module _ {s rest : List ℕ} {size n : ℕ} (r : Read s rest size n) (x rest' : List ℕ) (size' : ℕ)
    (t : (size' ≡ size) × ((rest ≡ x ++ rest') × (length x ≡ min size (length rest)) × (0 < length rest))) where
  rest_length : length rest ≡ length s - 8 * n
  rest_length = ap length r.left ∙ length-drop (8 * n) s

  parts : length rest ≡ length x + length rest'
  parts = ap length t.1.0 ∙ length-append x rest'

  -- it is the first eight bytes, or all
  chunk : (length x ≡ 8) ⊎ (rest' ≡ [])
  chunk =
      let k : length x ≤ 8 = omega (arith, r.eight) in
      ⊎_elim inl (λ l. inr (nil_from_length rest' (omega (arith, parts, r.eight)))) (eq-or-lt_of_le k)

  chunk_first : least_first x 0 8 ≡ least_first rest 0 8
  chunk_first = ⊎_elim
      (λ q. ap (λ (l : List ℕ). least_first l 0 8) (sym (take_at x rest' 8 q))
      ∙ (least_first_take (x ++ rest') 8 0 8 (omega arith) ∙ ap (λ (l : List ℕ). least_first l 0 8) (sym t.1.0)))
      (λ q. ap (λ (l : List ℕ). least_first l 0 8) (sym (t.1.0 ∙ (ap (λ (l : List ℕ). x ++ l) q ∙ append-nil x))))
      chunk

  chunk_sid : least_first x 0 8 ≡ sid_at s n
  unfolding sid_at
  chunk_sid = chunk_first ∙ rw (r.left, least_first_drop s (8 * n) 0 8, add-zero) refl

  next_left : rest' ≡ drop (8 * (n + 1)) s
  next_left =
      let m : 8 * n + 8 ≡ 8 * (n + 1) = omega arith in
      ⊎_elim
      (λ q. sym (drop_at x rest' 8 q) ∙ (ap (drop 8) (sym t.1.0 ∙ r.left) ∙ (drop-drop 8 (8 * n) s ∙ ap (λ (k : ℕ). drop k s) m)))
      (λ q. q ∙ sym (drop_of_length-le s {i = 8 * (n + 1)} (omega (arith, rest_length, parts, ap length q, r.eight))))
      chunk

  pub read_step : Step s x rest' size' n
  read_step =
      let w : n < sid_count s = omega (arith, rest_length) in
      record { within = w; sid = chunk_sid; next = record { left = next_left; eight = t.0 ∙ r.eight; count = omega arith } }

-- ten bytes a sid at most
pub sid_bytes-most : (b : List ℕ) → ((i : ℕ) → get_or b i 0 < 256) → (n : ℕ) → length (sid_bytes b n) ≤ 10 * n
sid_bytes-most b bytes zero = rw (sid_bytes-none b) (omega arith)
sid_bytes-most b bytes (suc n) = omega (arith, length-sid_bytes_more b n, var_uint-most (sid_at b n) (sid_at_u64 b bytes n), sid_bytes-most b bytes n)

-- ---- the sum, then the sids

pub length-annotations : (an : List ℕ) → length (annotation_bytes an) ≡ length (var_uint_bytes (length (var_uints_bytes an))) + length (var_uints_bytes an)
unfolding annotation_bytes
length-annotations an = length-append (var_uint_bytes (length (var_uints_bytes an))) (var_uints_bytes an)

-- the same, of a sum and a whole that are known
pub whole_parts : (an : List ℕ) (sum whole : ℕ) → sum ≡ length (var_uints_bytes an) → whole ≡ length (annotation_bytes an) → whole ≡ length (var_uint_bytes sum) + sum
whole_parts an sum whole e q = q ∙ (length-annotations an ∙ ap (λ (n : ℕ). length (var_uint_bytes n) + n) (sym e))

pub annotations_least : (an : List ℕ) → 1 ≤ length (annotation_bytes an)
annotations_least an = omega (arith, length-annotations an, var_uint_least (length (var_uints_bytes an)))

-- ---- an empty list, and one that is not

pub sids_none : (b : List ℕ) → length b ≡ 0 → sids_of b ≡ []
unfolding sids_of sids_up_to
sids_none b e = rw e refl

snoc_some : (ns : List ℕ) (n : ℕ) → (a : ℕ) × (an : List ℕ) × (ns ++ (n ∷ []) ≡ a ∷ an)
snoc_some [] n = (n, [], refl)
snoc_some (m ∷ ns) n = (m, ns ++ (n ∷ []), refl)

pub sids_some : (b : List ℕ) → 0 < length b → (a : ℕ) × (an : List ℕ) × (sids_of b ≡ a ∷ an)
unfolding sids_of sids_up_to
sids_some b h =
    let e : sid_count b ≡ suc (sid_count b - 1) = omega arith in
    let s = snoc_some (sids_up_to b (sid_count b - 1)) (sid_at b (sid_count b - 1)) in
    (s.0, s.1, ap (sids_up_to b) e ∙ s.2)
