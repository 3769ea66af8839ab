-- A fraction as bytes: the exponent, of one byte, then the coefficient, which has no leading zero bytes.
-- By the first of its digits. Assumes nothing.
use Prim.Native.Nat.{ℕ, zero, suc, ◌*◌, ◌/◌, ◌%◌, ◌^◌, ◌≤◌, ◌<◌}
use native.Mathlib.Omega.{arith}
use native.Mathlib.Nat.{pow-suc, mul_comm, one-le-pow, mod-eq_of_lt, le-div_iff_mul-le, div-lt_iff_lt-mul}
use mathlib.Core.Path.{◌≡◌, refl, ◌∙◌, ap}
use mathlib.Core.Bool.{true, false}
use mathlib.Core.List.{List, [], ◌∷◌, ◌++◌}
use lib.ListN.{length, length-append}
use lib.IntN.{negsuc}
use Rattle.ion.specs.Value.{signed, fraction}
use Rattle.encoding.specs.Digits.{low_digits, digit_count, digits}
use Rattle.encoding.specs.Fields.{var_int_bytes, uint_bytes, trimmed, int_bytes}
use Rattle.encoding.specs.Decimal.{is_zero_decimal, decimal_body}
use Rattle.encoding.specs.Timestamp.{fraction_bytes}
use Rattle.encoding.proofs.Digits.{low_digits-first, digit_count-below, digit_count_reaches}
use Rattle.encoding.proofs.Sizes.{var_int-size-small, int_within}
use Rattle.encoding.proofs.Trimmed.{trimmed_nil, trimmed-first}

-- the digits of a number begin with one that is not zero
first_pos : (n j : ℕ) → digit_count 256 n ≡ suc j → 0 < n / 256 ^ j % 256
first_pos n j e =
    let p : 1 ≤ 256 ^ j = one-le-pow j 256 (omega arith) in
    let least : 256 ^ j ≤ n = rw e at (digit_count_reaches 256 (omega arith) n) in
    let most : n < 256 ^ suc j = rw e at (digit_count-below 256 (omega arith) n) in
    let q : 256 ^ suc j ≡ 256 * 256 ^ j = pow-suc 256 j ∙ mul_comm (256 ^ j) 256 in
    let top : n / 256 ^ j < 256 = (div-lt_iff_lt-mul {k = 256 ^ j} {x = n} {y = 256} p).1 (rw (← q) most) in
    let one : 1 ≤ n / 256 ^ j = (le-div_iff_mul-le {k = 256 ^ j} {x = 1} {y = n} p).1 (omega arith) in
    rw (mod-eq_of_lt top) one

trimmed-uint : (n : ℕ) → trimmed (uint_bytes n) ≡ uint_bytes n
unfolding uint_bytes digits low_digits
trimmed-uint n = at (digit_count 256 n) refl
  where
    at : (k : ℕ) → digit_count 256 n ≡ k → trimmed (low_digits 256 k n) ≡ low_digits 256 k n
    at zero e = trimmed_nil
    at (suc j) e = rw (low_digits-first 256 j n) (trimmed-first (n / 256 ^ j % 256) (low_digits 256 j n) (first_pos n j e))

-- a negative exponent is never left out
not_zero : (m : List ℕ) (k : ℕ) → is_zero_decimal false m (negsuc k) ≡ false
not_zero [] k = refl
not_zero (b ∷ bs) k = refl

pub fraction_bytes_is : (k c : ℕ) → 1 ≤ k → fraction_bytes (fraction k c) ≡ var_int_bytes (signed true k) ++ int_bytes false (uint_bytes c)
unfolding decimal_body
fraction_bytes_is zero c h = absurd (omega arith)
fraction_bytes_is (suc k) c h = rw (not_zero (trimmed (uint_bytes c)) k, decimal_body, trimmed-uint c)

-- ---- how many bytes

pub exponent_one : (k : ℕ) → k < 64 → length (var_int_bytes (signed true k)) ≡ 1
exponent_one k h = var_int-size-small true k h

pub fraction_length : (k c : ℕ) → 1 ≤ k → k < 64 → length (fraction_bytes (fraction k c)) ≡ suc (length (int_bytes false (uint_bytes c)))
fraction_length k c h l =
    ap length (fraction_bytes_is k c h)
    ∙ (length-append (var_int_bytes (signed true k)) (int_bytes false (uint_bytes c)) ∙ rw (exponent_one k l) (omega arith))

pub coefficient_most : (c : ℕ) → c < 2 ^ 63 → length (int_bytes false (uint_bytes c)) ≤ 8
coefficient_most c h = int_within 7 c (omega arith)

pub digits-most : (k c : ℕ) → 1 ≤ k → k < 64 → c < 2 ^ 63 → length (fraction_bytes (fraction k c)) ≤ 9
digits-most k c h l m = omega (arith, fraction_length k c h l, coefficient_most c m)
