-- How many bytes a timestamp's body has: for the offset and for the year two at most, for each other field one, for the fraction nine at most.
-- So none that passes check 7 has 19 bytes or more. By the size of each part. Assumes nothing.
use Prim.Native.Nat.{ℕ, suc, ◌+◌, ◌^◌, ◌≤◌, ◌<◌}
use native.Mathlib.Omega.{arith}
use native.Mathlib.Nat.{pow-le-pow_right}
use mathlib.Core.Path.{◌≡◌, refl, ◌∙◌}
use mathlib.Core.Bool.{true, false, false≢true}
use mathlib.Core.List.{List, [], ◌∷◌}
use mathlib.Core.Option.{Option, none, some}
use lib.Dec.{leb, eqb}
use lib.ListN.{length, length-append}
use lib.IntN.{ℤ, pos, negsuc, nat_abs}
use borrow.Author.Tests.{ltb-true, leb-true}
use Rattle.ion.specs.Value.{Fraction, no_fraction, fraction}
use Rattle.ion.specs.Scalars.{are_fields}
use Rattle.ion.proofs.Tests.{both}
use Rattle.encoding.specs.Fields.{var_uint_bytes, var_uints_bytes, AllBelow}
use Rattle.encoding.specs.Timestamp.{utc, offset_bytes, fraction_bytes, timestamp_body, BodyBelow19}
use Rattle.encoding.proofs.Sizes.{var_uint-size-small, var_uint_within, var_int_within}
use Rattle.encoding.proofs.Rules.{offset_fits, fraction_fits, passed}
use Rattle.encoding.proofs.Fractions.{digits-most}
use Rattle.encoding.proofs.Timestamp.{utc_are_fields, fields-small}

-- ---- the offset

pub unknown_most : length (offset_bytes none) ≤ 2
unknown_most = var_int_within true 1 0 (omega arith)

pub known_most : (z : ℤ) → nat_abs z < 8192 → length (offset_bytes (some z)) ≤ 2
known_most (pos n) h = var_int_within false 1 n (omega arith)
known_most (negsuc n) h = var_int_within true 1 (suc n) (omega arith)

-- what check 7 tells of it
pub offset-fits : (z : ℤ) (fs : List ℕ) → offset_fits (some z) fs ≡ true → nat_abs z ≤ 1439
offset-fits z fs e = leb-true (nat_abs z) 1439 (both {a = leb 5 (length fs)} e).1

offset_most : (o : Option ℤ) (fs : List ℕ) → offset_fits o fs ≡ true → length (offset_bytes o) ≤ 2
offset_most none fs e = unknown_most
offset_most (some z) fs e = known_most z (omega (arith, offset-fits z fs e))

-- ---- the fields

length-small : (ns : List ℕ) → AllBelow 128 ns → length (var_uints_bytes ns) ≡ length ns
unfolding var_uints_bytes
length-small [] h = refl
length-small (n ∷ ns) h = length-append (var_uint_bytes n) (var_uints_bytes ns) ∙ rw (var_uint-size-small n h.0, length-small ns h.1) (omega arith)

pub length_fields : (y : ℕ) (ns : List ℕ) → AllBelow 128 ns → length (var_uints_bytes (y ∷ ns)) ≡ length (var_uint_bytes y) + length ns
unfolding var_uints_bytes
length_fields y ns h = length-append (var_uint_bytes y) (var_uints_bytes ns) ∙ rw (length-small ns h)

pub year_most : (y : ℕ) → y < 16384 → length (var_uint_bytes y) ≤ 2
year_most y h = var_uint_within 1 y (omega arith)

fields-most : (us : List ℕ) → are_fields us ≡ true → length (var_uints_bytes us) ≤ 7
fields-most [] e = absurd (false≢true (unfold are_fields in e))
fields-most (y ∷ ns) e =
    let s = fields-small y ns e in
    omega (arith, length_fields y ns s.1, year_most y (omega (arith, s.0)), s.2)

-- ---- the fraction

-- what check 7 tells of it
pub fraction-fits : (k c : ℕ) (fs : List ℕ) → fraction_fits (fraction k c) fs ≡ true → (1 ≤ k) × (k ≤ 18) × (c < 2 ^ 63)
fraction-fits k c fs e =
    let a = both {a = leb 1 k} (both {a = eqb (length fs) 6} e).1 in
    let b = both {a = leb k 18} a.1 in
    let most : k ≤ 18 = leb-true k 18 b.0 in
    let below : 10 ^ k ≤ 10 ^ 18 = pow-le-pow_right {n = 10} (omega arith) most in
    (leb-true 1 k a.0, most, omega (arith, ltb-true c (10 ^ k) b.1))

fraction_most : (x : Fraction) (fs : List ℕ) → fraction_fits x fs ≡ true → length (fraction_bytes x) ≤ 9
fraction_most no_fraction fs e = omega arith
fraction_most (fraction k c) fs e = let f = fraction-fits k c fs e in digits-most k c f.0 (omega (arith, f.1)) f.2

-- ---- the body

pub timestamp_body-below_19 : BodyBelow19
unfolding timestamp_body
timestamp_body-below_19 o fs x e =
    let a = passed o fs x e in
    let offset = offset_most o fs a.offset in
    let fields = fields-most (utc o fs) (utc_are_fields o fs x e) in
    let digits = fraction_most x fs a.fraction in
    simp length-append (omega arith)
