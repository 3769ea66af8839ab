-- The value of each bit pattern is IEEE 754's: the fields are read off, and what `odd` makes of a number of least numbers has that size and sign.
-- And every finite binary32 and binary64 is a whole number of units of 2 ^ -1074. Assumes nothing.
use Prim.Native.Nat.{ℕ, zero, suc, ◌+◌, ◌-◌, ◌*◌, ◌/◌, ◌%◌, ◌^◌, ◌<◌, ◌≤◌, ◌∣◌}
use native.Mathlib.Omega.{arith}
use native.Mathlib.Nat.{dvd-mul_left, dvd-mul_left_of_dvd, div-mul_cancel, le_trans, lt_of_lt_of_le, lt_irrefl}
use native.Mathlib.Nat.{mul-one, mul_assoc, mul_right_comm, mul-div_cancel}
use mathlib.Core.Path.{◌≡◌, refl, sym, ◌∙◌, ap, subst}
use mathlib.Core.Bool.{Bool, true, false, cond, ◌&&◌}
use lib.Dec.{T, leb, ltb, eqb, leb→le, eqb→eq}
use lib.IntN.{ℤ, pos, negsuc}
use lib.Pow.{pow-add, pow-lt}
use lib.Ieee.{Float, nan, inf, fin, Format, binary32, binary64, low, up, down, prec, emax, hid, ones, top, odd, of_fields, of_bits}
use lib.Ieee.{fits as holds}
use lib.Ieee.Bits.{of_bits-fits}
use lib.Ieee.Exact.{HasValue, odd_sign}
use lib.Ieee.Fits.{and_l, and_r, down_pos}
use borrow.Author.Tests.{leb-true, leb-false, le-leb, lt-leb}
use Rattle.ion.specs.Value.{infinite, not_anumber, finite}
use Rattle.ion.specs.Scalars.{float_value, float_of}
use Rattle.ion.specs.Ieee.{exponent_width, significand_width, pattern, least_number, ieee_value, FloatsByIeee}
use Rattle.ion.proofs.Tests.{by_cases}

-- ---- the fields of a pattern

by_fields : (f : Format) (b : ℕ) {s : Bool} {e t : ℕ} → leb (top f) b ≡ s → b % top f / hid f ≡ e → b % hid f ≡ t → of_bits f b ≡ of_fields f s e t
unfolding of_bits
by_fields f b p q r = rw (p, q, r)

pattern-fields : (f : Format) (s : Bool) (e t : ℕ) → e < 2 ^ exponent_width f → t < 2 ^ significand_width f → of_bits f (pattern f s e t) ≡ of_fields f s e t
pattern-fields binary32 true e t h k =
    let b = pattern binary32 true e t in by_fields binary32 b (le-leb (2 ^ 31) b (omega arith)) (omega arith) (omega arith)
pattern-fields binary32 false e t h k =
    let b = pattern binary32 false e t in by_fields binary32 b (lt-leb (2 ^ 31) b (omega arith)) (omega arith) (omega arith)
pattern-fields binary64 true e t h k =
    let b = pattern binary64 true e t in by_fields binary64 b (le-leb (2 ^ 63) b (omega arith)) (omega arith) (omega arith)
pattern-fields binary64 false e t h k =
    let b = pattern binary64 false e t in by_fields binary64 b (lt-leb (2 ^ 63) b (omega arith)) (omega arith) (omega arith)

-- ---- the size of n least numbers

least_units : (f : Format) → 2 ^ low f * least_number f ≡ 2 ^ 1074
least_units binary32 = refl
least_units binary64 = refl

number_value : (f : Format) (v : Float) (s : Bool) (n : ℕ) → HasValue v s n (2 ^ low f) → float_value v ≡ finite s (n * least_number f)
number_value f nan s n h = absurd h
number_value f (inf t) s n h = absurd h
number_value f (fin t m e) s n h =
    let w = least_number f in
    let u : m * up e * 2 ^ 1074 ≡ n * w * down e =
    ap (λ (x : ℕ). m * up e * x) (sym (least_units f))
    ∙ sym (mul_assoc (m * up e) (2 ^ low f) w)
    ∙ ap (λ (x : ℕ). x * w) h.1
    ∙ mul_right_comm n (down e) w in
    ap (λ (x : Bool). finite x (m * up e * 2 ^ 1074 / down e)) h.0
    ∙ ap (finite s) (ap (λ (x : ℕ). x / down e) u ∙ mul-div_cancel (n * w) (down_pos e))

odd_value : (f : Format) (s : Bool) (q k : ℕ) → float_value (odd (prec f) s q k (low f)) ≡ finite s (q * 2 ^ k * least_number f)
odd_value f s q k = number_value f (odd (prec f) s q k (low f)) s (q * 2 ^ k) (odd_sign (prec f) s q k (low f))

-- ---- the value of the fields

zero_field : (f : Format) → eqb 0 (2 ^ exponent_width f - 1) ≡ false
zero_field binary32 = refl
zero_field binary64 = refl

all_ones : (f : Format) → 2 ^ exponent_width f - 1 ≡ ones f
all_ones binary32 = refl
all_ones binary64 = refl

leading : (f : Format) → 2 ^ significand_width f ≡ hid f
leading binary32 = refl
leading binary64 = refl

fields_value : (f : Format) (s : Bool) (e t : ℕ) → float_value (of_fields f s e t) ≡ ieee_value f s e t
unfolding of_fields
fields_value f s zero t = rw (zero_field f) (odd_value f s t 0 ∙ ap (λ (n : ℕ). finite s (n * least_number f)) (mul-one t))
fields_value f s (suc e) t = rw (all_ones f, leading f) (by_test (eqb (suc e) (ones f)))
  where
    special : (z : Bool) → float_value (cond z (inf s) nan) ≡ cond z (infinite s) not_anumber
    special true = refl
    special false = refl

    by_test : (a : Bool)
        → float_value (cond a (cond (eqb t 0) (inf s) nan) (odd (prec f) s (hid f + t) e (low f)))
        ≡ cond a (cond (eqb t 0) (infinite s) not_anumber) (finite s ((hid f + t) * 2 ^ e * least_number f))
    by_test true = special (eqb t 0)
    by_test false = odd_value f s (hid f + t) e

pub float_of_ieee : FloatsByIeee
unfolding float_of
float_of_ieee f s e t h k = ap float_value (pattern-fields f s e t h k) ∙ fields_value f s e t

-- ---- the whole number of units

power_divides : (k p : ℕ) → k ≤ p → 2 ^ k ∣ 2 ^ p
power_divides k p h =
    let e : p - k + k ≡ p = omega arith in
    subst (λ (x : ℕ). 2 ^ k ∣ x) (sym (pow-add 2 (p - k) k) ∙ ap (λ (j : ℕ). 2 ^ j) e) (dvd-mul_left (2 ^ k) (2 ^ (p - k)))

pub exponent_le : (k p : ℕ) → 2 ^ k ≤ 2 ^ p → k ≤ p
exponent_le k p h = by_cases (leb k p) (λ e. leb-true k p e) (λ e. absurd (lt_irrefl (2 ^ p) (lt_of_lt_of_le (pow-lt (leb-false k p e)) h)))

low_most : (f : Format) → low f ≤ 1074
low_most binary32 = omega arith
low_most binary64 = omega arith

down_divides : (f : Format) (s : Bool) (m : ℕ) (e : ℤ) → T (holds f (fin s m e)) → down e ∣ 2 ^ 1074
unfolding holds
down_divides f s m (pos k) h = power_divides 0 1074 (omega arith)
down_divides f s zero (negsuc k) h =
    subst (λ (x : ℕ). x ∣ 2 ^ 1074) (sym (one_of (2 ^ suc k) (eqb→eq (1 * 2 ^ suc k) 1 h))) (power_divides 0 1074 (omega arith))
  where
    one_of : (x : ℕ) → 1 * x ≡ 1 → x ≡ 1
    one_of x q = omega arith
down_divides f s (suc m) (negsuc k) h =
    let a = eqb (suc m % 2) 1 && ltb (suc m) (2 ^ prec f) in
    let b = leb (2 ^ suc k) (2 ^ low f) in
    let c = ltb (suc m * 1) (2 ^ suc (emax f) * 2 ^ suc k) in
    let l : suc k ≤ low f = exponent_le (suc k) (low f) (leb→le (2 ^ suc k) (2 ^ low f) (and_r a b (and_l (a && b) c h))) in
    power_divides (suc k) 1074 (le_trans l (low_most f))

-- the division in `float_value` leaves no remainder
pub units_whole : (f : Format) (b : ℕ) (s : Bool) (m : ℕ) (e : ℤ)
    → of_bits f b ≡ fin s m e → m * up e * 2 ^ 1074 / down e * down e ≡ m * up e * 2 ^ 1074
units_whole f b s m e q =
    let d : down e ∣ 2 ^ 1074 = down_divides f s m e (subst (λ v. T (holds f v)) q (of_bits-fits f b)) in
    div-mul_cancel (down e) (dvd-mul_left_of_dvd (down e) d (m * up e))
