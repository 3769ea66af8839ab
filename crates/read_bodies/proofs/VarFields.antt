-- The groups of a VarUInt or VarInt at a place of a body, one step at a time.
-- Assumes nothing.
use Prim.Native.Nat.{ℕ, suc, ◌+◌, ◌-◌, ◌*◌, ◌%◌, ◌^◌, ◌≤◌, ◌<◌}
use native.Mathlib.Omega.{arith}
use native.Mathlib.Numerals.{add-one}
use mathlib.Core.Path.{◌≡◌, refl, sym, ◌∙◌, ap, subst}
use mathlib.Core.Bool.{Bool, true, false}
use mathlib.Core.List.{List, [], ◌∷◌}
use mathlib.Core.Option.{Option, none, some, some-injective, none-ne-some}
use lib.Dec.{ltb, leb}
use Rattle.std.specs.Prelude.{Result, Ok, Err}
use lib.ListN.{length, get_or, drop, length-drop, drop_of_length-le}
use lib.Seq.{drop-cons, drop-drop}
use borrow.Author.Tests.{lt-ltb, le-ltb, le-leb, lt-leb, ltb-true, ltb-false, leb-true, leb-false}
use Rattle.ion.specs.Value.{Signed, signed}
use Rattle.ion.specs.Chain.{check}
use Rattle.ion.specs.Fields.{groups, in_u64, is_i64, var_uint, give_sign, is_negative, var_int}
use Rattle.ion.proofs.Tests.{by_cases}
use Rattle.reading.specs.declared.Number.{Number}
use Rattle.reading.specs.declared.Refusal.{Refusal}
use Rattle.reading.specs.declared.Refusal.TheVariants.{NotIon}
use Rattle.reading.specs.Headers as Headers
use Rattle.reading.specs.Headers.{var_uint_from}
use Rattle.read_bodies.specs.declared.VarInt.{VarInt}
use Rattle.read_bodies.specs.Places.{number_in, groups_at, var_uint_at, signed_in, var_int_at, with_sign}

-- ---- the number is at least what its groups so far make

pub groups_least : (acc : ℕ) (l : List ℕ) (x : ℕ × List ℕ) → groups acc l ≡ some x → acc * 128 ≤ x.0
unfolding groups
groups_least acc [] x e = absurd (none-ne-some x e)
groups_least acc (b ∷ bs) x e = go (ltb b 0x80) e (λ q. groups_least (acc * 128 + b) bs x q)
  where
    go : (t : Bool) → elim t [ true ↦ groups (acc * 128 + b) bs | false ↦ some (acc * 128 + b % 128, bs) ] ≡ some x →
        (groups (acc * 128 + b) bs ≡ some x → (acc * 128 + b) * 128 ≤ x.0) → acc * 128 ≤ x.0
    go true e k = omega (arith, k e)
    go false e k = let q : acc * 128 + b % 128 ≡ x.0 = ap (λ (y : ℕ × List ℕ). y.0) (some-injective (acc * 128 + b % 128, bs) x e) in omega arith

pub groups-past : (acc : ℕ) (l : List ℕ) → 2 ^ 57 ≤ acc → in_u64 (groups acc l) ≡ none
groups-past acc l h = go (groups acc l) refl
  where
    go : (o : Option (ℕ × List ℕ)) → groups acc l ≡ o → in_u64 o ≡ none
    go none e = refl
    go (some x) e = rw (le-ltb x.0 (2 ^ 64) (omega (arith, groups_least acc l x e))) refl

-- ---- one byte

pub front : (s : List ℕ) (i b : ℕ) → i < length s → b ≡ get_or s i 0 → drop i s ≡ b ∷ drop (i + 1) s
front s i b inside is = rw (add-one, is) (drop-cons s i 0 inside)

-- where the bytes behind a place begin
pub behind : (s : List ℕ) (i : ℕ) → i ≤ length s → length s - length (drop i s) ≡ i
behind s i h = rw (length-drop i s) (omega arith)

-- ---- the reader's VarUInt is the grammar's

from-groups : (acc at : ℕ) (l : List ℕ) → var_uint_from NotIon acc at l ≡ number_in (at + length l) (in_u64 (groups acc l))
unfolding var_uint_from groups
from-groups acc at [] = refl
from-groups acc at (b ∷ bs) =
    by_cases (ltb (acc * 128 + b % 128) (2 ^ 64))
    (λ p. by_cases (ltb b 0x80)
    (λ q.
    let m : b % 128 ≡ b = let h = ltb-true b 0x80 q in omega arith in
    let n : at + 1 + length bs ≡ at + suc (length bs) = omega arith in
    rw (p, groups, q, m) (from-groups (acc * 128 + b) (at + 1) bs ∙ ap (λ (size : ℕ). number_in size (in_u64 (groups (acc * 128 + b) bs))) n))
    (λ q.
    let n : at + 1 ≡ at + suc (length bs) - length bs = omega arith in
    rw (p, groups, q, p) (ap (λ (next : ℕ). Ok (record { value = acc * 128 + b % 128; next = next })) n)))
    (λ p. by_cases (ltb b 0x80)
    (λ q.
    let m : b % 128 ≡ b = let h = ltb-true b 0x80 q in omega arith in
    rw (p, groups, q, groups-past (acc * 128 + b) bs (omega (arith, ltb-false (acc * 128 + b % 128) (2 ^ 64) p))) refl)
    (λ q. rw (p, groups, q, p) refl))

pub groups-at : (s : List ℕ) (at acc : ℕ) → var_uint_from NotIon acc at (drop at s) ≡ groups_at s at acc
unfolding groups_at
groups-at s at acc =
    by_cases (leb at (length s))
    (λ p.
    let n : at + length (drop at s) ≡ length s = omega (arith, length-drop at s, leb-true at (length s) p) in
    from-groups acc at (drop at s) ∙ ap (λ (size : ℕ). number_in size (in_u64 (groups acc (drop at s)))) n)
    (λ p. rw (drop_of_length-le s {i = at} (omega (arith, leb-false at (length s) p))) (unfold var_uint_from groups in refl))

pub var_uint_same : (s : List ℕ) (at : ℕ) → Headers.var_uint_at NotIon s at ≡ var_uint_at s at
unfolding groups_at var_uint_at var_uint Headers.var_uint_at
var_uint_same s at = groups-at s at 0

pub ruleset a_number = (groups-at, var_uint_same)

-- ---- the first byte of a VarInt

not_i64 : (s : Bool) (n : ℕ) → 2 ^ 64 ≤ n → is_i64 (signed s n) ≡ false
not_i64 false n h = le-ltb n (2 ^ 63) (omega arith)
not_i64 true n h = lt-leb n (2 ^ 63) (omega arith)

small_i64 : (s : Bool) (n : ℕ) → n < 2 ^ 63 → is_i64 (signed s n) ≡ true
small_i64 false n h = lt-ltb n (2 ^ 63) (omega arith)
small_i64 true n h = le-leb n (2 ^ 63) (omega arith)

-- the magnitude that its groups make, with its sign
abbrev pub signed_groups : Bool → Result Number Refusal → Result VarInt Refusal
signed_groups s (Ok n) = with_sign s n
signed_groups s (Err r) = Err r

-- signed 64 bits are within 64 bits
pub signed-groups : (s : Bool) (size : ℕ) (o : Option (ℕ × List ℕ)) → signed_groups s (number_in size (in_u64 o)) ≡ signed_in size (give_sign s o)
signed-groups s size none = refl
signed-groups s size (some x) =
    by_cases (ltb x.0 (2 ^ 64))
    (λ p. by_cases (is_i64 (signed s x.0)) (λ q. rw (p, q) refl) (λ q. rw (p, q) refl))
    (λ p. rw (p, not_i64 s x.0 (ltb-false x.0 (2 ^ 64) p)) refl)

module _ (s : List ℕ) (at : ℕ) where
  pub var_int_out : length s ≤ at → var_int_at s at ≡ Err NotIon
  unfolding var_int_at var_int
  var_int_out h = rw (drop_of_length-le s {i = at} h) refl

  module _ (inside : at < length s) where
    abbrev b : ℕ
    b = get_or s at 0

    pub var_int_short : 0x7F < b → var_int_at s at ≡ Ok (record { negative = is_negative b; magnitude = b % 64; next = at + 1 })
    unfolding var_int_at var_int
    var_int_short h =
        rw (front s at b inside refl, var_int, le-ltb b 0x80 (omega arith), small_i64 (is_negative b) (b % 64) (omega arith), behind s (at + 1) (omega arith)) refl

    pub var_int_long : b ≤ 0x7F → var_int_at s at ≡ signed_groups (is_negative b) (groups_at s (at + 1) (b % 64))
    unfolding var_int_at var_int groups_at
    var_int_long h =
        rw (front s at b inside refl, var_int, lt-ltb b 0x80 (omega arith)) (sym (signed-groups (is_negative b) (length s) (groups (b % 64) (drop (at + 1) s))))

pub ruleset first_byte = (var_int_out, var_int_short, var_int_long)

-- ---- what a place told of a field says of the bytes

-- what is left of l behind its first bytes, at least one
record Behind (l rest : List ℕ) : Type 0 where
  count : ℕ
  more : 1 ≤ count
  most : count ≤ length l
  is : rest ≡ drop count l

one_behind : (b : ℕ) (bs : List ℕ) → Behind (b ∷ bs) bs
one_behind b bs = record { count = 1; more = omega arith; most = omega arith; is = refl }

later : {b : ℕ} {l rest : List ℕ} → Behind l rest → Behind (b ∷ l) rest
later r = record { count = suc r.count; more = omega arith; most = omega (arith, r.most); is = r.is }

groups-behind : (acc : ℕ) (l : List ℕ) (x : ℕ × List ℕ) → groups acc l ≡ some x → Behind l x.1
unfolding groups
groups-behind acc [] x e = absurd (none-ne-some x e)
groups-behind acc (b ∷ bs) x e = go (ltb b 0x80) e (λ q. groups-behind (acc * 128 + b) bs x q)
  where
    go : (t : Bool) → elim t [ true ↦ groups (acc * 128 + b) bs | false ↦ some (acc * 128 + b % 128, bs) ] ≡ some x →
        (groups (acc * 128 + b) bs ≡ some x → Behind bs x.1) → Behind (b ∷ bs) x.1
    go true e k = later (k e)
    go false e k = subst (λ (y : ℕ × List ℕ). Behind (b ∷ bs) y.1) (some-injective (acc * 128 + b % 128, bs) x e) (one_behind b bs)

-- the bytes behind, by the place where they begin
behind-place : (s : List ℕ) (at : ℕ) (rest : List ℕ) → Behind (drop at s) rest →
    (at < length s - length rest) × (length s - length rest ≤ length s) × (rest ≡ drop (length s - length rest) s)
behind-place s at rest h =
    let n = h.count in
    let k : n ≤ length s - at = rw (← length-drop at s) h.most in
    let f : 1 ≤ n = h.more in
    let e : rest ≡ drop (at + n) s = h.is ∙ drop-drop n at s in
    let p : length s - length rest ≡ at + n = ap (λ (l : List ℕ). length s - length l) e ∙ behind s (at + n) (omega arith) in
    (omega arith, omega arith, e ∙ ap (λ (i : ℕ). drop i s) (sym p))

-- a field at a place, and the place behind it
pub record FieldAt {A : Type 0} (s : List ℕ) (at : ℕ) (field : Option (A × List ℕ)) (value : A) (next : ℕ) : Type 0 where
  pub after : at < next
  pub within : next ≤ length s
  pub is : field ≡ some (value, drop next s)

in_u64-some : (o : Option (ℕ × List ℕ)) (x : ℕ × List ℕ) → in_u64 o ≡ some x → o ≡ some x
in_u64-some none x e = absurd (none-ne-some x e)
in_u64-some (some y) x e = go (ltb y.0 (2 ^ 64)) e
  where
    go : (t : Bool) → check t (some y) ≡ some x → some y ≡ some x
    go true e = e
    go false e = absurd (none-ne-some x e)

pair : {A : Type 0} {y v : A} {k l : List ℕ} → y ≡ v → k ≡ l → ◌≡◌ {A = A × List ℕ} (y, k) (v, l)
pair f g = cc

pub var_uint_is : (s : List ℕ) (at : ℕ) (n : Number) → var_uint_at s at ≡ Ok n → FieldAt s at (var_uint (drop at s)) n.value n.next
unfolding var_uint_at var_uint
var_uint_is s at n e = go (in_u64 (groups 0 (drop at s))) refl e
  where
    go : (o : Option (ℕ × List ℕ)) → in_u64 (groups 0 (drop at s)) ≡ o → number_in (length s) o ≡ Ok n → FieldAt s at (in_u64 (groups 0 (drop at s))) n.value n.next
    go none q e = absurd (cc)
    go (some x) q e =
        let p = behind-place s at x.1 (groups-behind 0 (drop at s) x (in_u64-some (groups 0 (drop at s)) x q)) in
        let k : length s - length x.1 ≡ n.next = cc in
        let m : x.0 ≡ n.value = cc in
        record { after = omega (arith, p.0, k); within = omega (arith, p.1, k); is = q ∙ ap some (pair m (p.2 ∙ ap (λ (i : ℕ). drop i s) k)) }

pub var_uint_no : (s : List ℕ) (at : ℕ) (r : Refusal) → var_uint_at s at ≡ Err r → (r ≡ NotIon) × (var_uint (drop at s) ≡ none)
unfolding var_uint_at
var_uint_no s at r e = go (var_uint (drop at s)) refl e
  where
    go : (o : Option (ℕ × List ℕ)) → var_uint (drop at s) ≡ o → number_in (length s) o ≡ Err r → (r ≡ NotIon) × (var_uint (drop at s) ≡ none)
    go none q e = (cc, q)
    go (some x) q e = absurd (cc)

sign_behind : (s : Bool) (l : List ℕ) (o : Option (ℕ × List ℕ)) (x : Signed × List ℕ) → ((y : ℕ × List ℕ) → o ≡ some y → Behind l y.1)
    → give_sign s o ≡ some x → Behind l x.1
sign_behind s l none x h e = absurd (none-ne-some x e)
sign_behind s l (some y) x h e = go (is_i64 (signed s y.0)) e
  where
    go : (t : Bool) → check t (some (signed s y.0, y.1)) ≡ some x → Behind l x.1
    go true e = subst (λ (z : Signed × List ℕ). Behind l z.1) (some-injective (signed s y.0, y.1) x e) (h y refl)
    go false e = absurd (none-ne-some x e)

var_int-behind : (l : List ℕ) (x : Signed × List ℕ) → var_int l ≡ some x → Behind l x.1
unfolding var_int
var_int-behind [] x e = absurd (none-ne-some x e)
var_int-behind (b ∷ bs) x e = go (ltb b 0x80) e
  where
    go : (t : Bool)
        → elim t [ true ↦ give_sign (is_negative b) (groups (b % 64) bs) | false ↦ give_sign (is_negative b) (some (b % 64, bs)) ] ≡ some x
        → Behind (b ∷ bs) x.1
    go true e = sign_behind (is_negative b) (b ∷ bs) (groups (b % 64) bs) x (λ y q. later (groups-behind (b % 64) bs y q)) e
    go false e =
        sign_behind (is_negative b) (b ∷ bs) (some (b % 64, bs)) x
        (λ y q. subst (λ (z : ℕ × List ℕ). Behind (b ∷ bs) z.1) (some-injective (b % 64, bs) y q) (one_behind b bs)) e

pub var_int_is : (s : List ℕ) (at : ℕ) (v : VarInt) → var_int_at s at ≡ Ok v → FieldAt s at (var_int (drop at s)) (signed v.negative v.magnitude) v.next
unfolding var_int_at
var_int_is s at v e = go (var_int (drop at s)) refl e
  where
    go : (o : Option (Signed × List ℕ)) → var_int (drop at s) ≡ o → signed_in (length s) o ≡ Ok v → FieldAt s at (var_int (drop at s)) (signed v.negative v.magnitude) v.next
    go none q e = absurd (cc)
    go (some (signed t m, rest)) q e =
        let p = behind-place s at rest (var_int-behind (drop at s) (signed t m, rest) q) in
        let n : length s - length rest ≡ v.next = cc in
        let f : t ≡ v.negative = cc in
        let g : m ≡ v.magnitude = cc in
        record {
          after = omega (arith, p.0, n);
          within = omega (arith, p.1, n);
          is = q ∙ ap some (pair (cc (f, g)) (p.2 ∙ ap (λ (i : ℕ). drop i s) n));
        }

-- the place behind a VarInt is within the bytes
pub var_int_within : (s : List ℕ) (at : ℕ) (n : VarInt) → var_int_at s at ≡ Ok n → n.next ≤ length s
var_int_within s at n e = (var_int_is s at n e).within
