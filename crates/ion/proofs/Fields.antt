-- VarUInt: what is read does not depend on the bytes behind it, and splits the bytes in two.
-- Assumes nothing.
use Prim.Native.Nat.{ℕ, ◌+◌, ◌*◌, ◌%◌, ◌^◌, ◌<◌}
use native.Mathlib.Omega.{arith}
use mathlib.Core.Path.{◌≡◌, sym, ◌∙◌, ap}
use mathlib.Core.Bool.{true}
use mathlib.Core.List.{List, [], ◌∷◌, ◌++◌}
use mathlib.Core.Option.{Option, none, some, some-injective, none-ne-some, map}
use lib.Dec.{ltb}
use lib.ListN.{length}
use Rattle.ion.specs.Fields.{groups, in_u64, var_uint, VarUInt}
use Rattle.ion.proofs.Tests.{by_cases}

pub groups_append : (l : List ℕ) (acc n : ℕ) (s r : List ℕ) → groups acc l ≡ some (n, s) → groups acc (l ++ r) ≡ some (n, s ++ r)
unfolding groups
groups_append [] acc n s r e = absurd (none-ne-some (n, s) e)
groups_append (b ∷ bs) acc n s r e =
    by_cases (ltb b 0x80)
    (λ p. rw (p, groups) (groups_append bs (acc * 128 + b) n s r (rw (p, groups) at e)))
    (λ p. rw (p, groups) (let f : ◌≡◌ {A = Option (ℕ × List ℕ)} (some (acc * 128 + b % 128, bs)) (some (n, s)) = rw (p, groups) at e in
    ap (map (λ (x : ℕ × List ℕ). (x.0, x.1 ++ r))) f))

pub groups-split : (b : List ℕ) (acc n : ℕ) (r : List ℕ) → groups acc b ≡ some (n, r) → (l : List ℕ) × (b ≡ l ++ r) × (groups acc l ≡ some (n, []))
unfolding groups
groups-split [] acc n r e = absurd (none-ne-some (n, r) e)
groups-split (b ∷ bs) acc n r e =
    by_cases (ltb b 0x80)
    (λ p.
    let s = groups-split bs (acc * 128 + b) n r (rw (p, groups) at e) in
    (b ∷ s.0, ap (b ∷◌) s.1, rw (p, groups) s.2))
    (λ p.
    let f : ◌≡◌ {A = Option (ℕ × List ℕ)} (some (acc * 128 + b % 128, bs)) (some (n, r)) = rw (p, groups) at e in
    let g : (acc * 128 + b % 128, bs) ≡ (n, r) = some-injective _ _ f in
    (b ∷ [], ap (λ (x : ℕ × List ℕ). b ∷ x.1) g, rw (p, groups) (ap (λ (x : ℕ × List ℕ). some (x.0, [])) g)))

-- the limit of 64 bits, met and given back
pub in_u64-some : (o : Option (ℕ × List ℕ)) (n : ℕ) (s : List ℕ) → in_u64 o ≡ some (n, s) → (o ≡ some (n, s)) × (ltb n (2 ^ 64) ≡ true)
in_u64-some none n s e = absurd (none-ne-some (n, s) e)
in_u64-some (some x) n s e =
    by_cases (ltb x.0 (2 ^ 64))
    (λ p.
    let f : ◌≡◌ {A = Option (ℕ × List ℕ)} (some x) (some (n, s)) = rw p at e in
    let g : x ≡ (n, s) = some-injective _ _ f in
    (f, sym (ap (λ (y : ℕ × List ℕ). ltb y.0 (2 ^ 64)) g) ∙ p))
    (λ p. let f : ◌≡◌ {A = Option (ℕ × List ℕ)} none (some (n, s)) = rw p at e in absurd (none-ne-some (n, s) f))

pub some-in_u64 : (o : Option (ℕ × List ℕ)) (n : ℕ) (s : List ℕ) → o ≡ some (n, s) → ltb n (2 ^ 64) ≡ true → in_u64 o ≡ some (n, s)
some-in_u64 o n s e p = rw (e, p)

pub var_uint_append : (l : List ℕ) (n : ℕ) (s r : List ℕ) → var_uint l ≡ some (n, s) → var_uint (l ++ r) ≡ some (n, s ++ r)
unfolding var_uint
var_uint_append l n s r e =
    let q = in_u64-some (groups 0 l) n s e in
    some-in_u64 (groups 0 (l ++ r)) n (s ++ r) (groups_append l 0 n s r q.0) q.1

pub var_uint-split : (b : List ℕ) (n : ℕ) (r : List ℕ) → var_uint b ≡ some (n, r) → (l : List ℕ) × (b ≡ l ++ r) × VarUInt l n
unfolding var_uint
var_uint-split b n r e =
    let q = in_u64-some (groups 0 b) n r e in
    let s = groups-split b 0 n r q.0 in
    (s.0, s.1, some-in_u64 (groups 0 s.0) n [] s.2 q.1)

pub var_uint_pos : (l : List ℕ) {n : ℕ} → VarUInt l n → 0 < length l
unfolding var_uint groups
var_uint_pos [] {n} e = absurd (none-ne-some (n, []) e)
var_uint_pos (b ∷ bs) e = omega arith
