-- A finite value as a whole number of units, the least value of its format: the number and the sign determine its bits, and the bits the value.
-- Assumes nothing.
use Prim.Native.Nat.{ℕ, zero, suc, ◌+◌, ◌-◌, ◌*◌, ◌/◌, ◌^◌, ◌≤◌, ◌<◌}
use mathlib.Core.Path.{◌≡◌, refl, sym, ◌∙◌, ap}
use mathlib.Core.Bool.{Bool, true, false, cond}
use native.Mathlib.Nat.{add_assoc, mul_right_comm, mul_assoc, suc-add, le_of_lt, le_antisymm, lt_of_lt_of_le, lt_of_le_of_lt, lt_irrefl, mul-le-mul_right}
use native.Mathlib.Omega.{arith}
use borrow.Author.Tests.{leb-true, leb-false}
use lib.Dec.{T, leb}
use lib.Pow.{pow_pos, pow-add, pow_mono, shl_lt, shl-shr}
use lib.Ieee.{Float, nan, inf, fin, Format, binary32, binary64, prec, low, up, down, hid, top, size, odd, fits, to_bits, of_bits}
use lib.Ieee.Bits.{of_bits-to_bits}
use lib.Ieee.Digits.{size-le, size-lt}
use lib.Ieee.Exact.{HasValue, odd_sign}
use lib.Ieee.Fits.{odd-fits, fits_widens, down_pos}
use lib.Ieee.Nearest.{div_same}

-- the bits of n units with the sign s
unfoldable pub bits_of : Format → Bool → ℕ → ℕ
bits_of f s n = cond s (top f) 0 + (size n - prec f) * hid f + n / 2 ^ (size n - prec f)

-- of a value of a / c
pub value_bits : (f : Format) (v : Float) (s : Bool) (a c : ℕ) → 0 < c → HasValue v s a c → to_bits f v ≡ bits_of f s (a * 2 ^ low f / c)
unfolding to_bits bits_of
value_bits f nan s a c h v = absurd v
value_bits f (inf t) s a c h v = absurd v
value_bits f (fin t m e) s a c h v =
    let l = 2 ^ low f in
    let n : m * up e * l / down e ≡ a * l / c =
    div_same (m * up e * l) (down e) (a * l) c (down_pos e) h
    (mul_right_comm (m * up e) l c ∙ (ap (λ (z : ℕ). z * l) v.1 ∙ mul_right_comm a (down e) l)) in
    ap (λ (b : Bool). bits_of f b (m * up e * l / down e)) v.0 ∙ ap (bits_of f s) n

-- two values of one format with the same sign and number are one
same_value : (f : Format) (v w : Float) (s : Bool) (a c b d : ℕ) → 0 < c → 0 < d → T (fits f v) → T (fits f w) →
    HasValue v s a c → HasValue w s b d → a * d ≡ b * c → v ≡ w
same_value f v w s a c b d hc hd fv fw hv hw e =
    let l = 2 ^ low f in
    let n : a * l / c ≡ b * l / d = div_same (a * l) c (b * l) d hc hd (mul_right_comm a l d ∙ (ap (λ (z : ℕ). z * l) e ∙ mul_right_comm b c l)) in
    let t : to_bits f v ≡ to_bits f w = value_bits f v s a c hc hv ∙ (ap (bits_of f s) n ∙ sym (value_bits f w s b d hd hw)) in
    sym (of_bits-to_bits f v fv) ∙ (ap (of_bits f) t ∙ of_bits-to_bits f w fw)

-- q' * 2 ^ k' units of binary32 are q * 2 ^ k units of binary64
pub same_units : (s : Bool) (q k q' k' : ℕ) → q < 2 ^ 53 → q * 2 ^ k < 2 ^ 2098 → q' < 2 ^ 24 → q' * 2 ^ k' < 2 ^ 277 →
    q * 2 ^ k ≡ q' * 2 ^ k' * 2 ^ 925 → odd 24 s q' k' 149 ≡ odd 53 s q k 1074
same_units s q k q' k' a b a' b' e =
    let e' : q' * 2 ^ k' * 2 ^ 1074 ≡ q * 2 ^ k * 2 ^ 149 = sym (ap (λ (z : ℕ). z * 2 ^ 149) e ∙ mul_assoc (q' * 2 ^ k') (2 ^ 925) (2 ^ 149)) in
    same_value binary64 (odd 24 s q' k' 149) (odd 53 s q k 1074) s (q' * 2 ^ k') (2 ^ 149) (q * 2 ^ k) (2 ^ 1074) (pow_pos 149) (pow_pos 1074)
    (fits_widens _ (odd-fits binary32 24 s q' k' a' (le_of_lt a') b')) (odd-fits binary64 53 s q k a (le_of_lt a) b)
    (odd_sign 24 s q' k' 149) (odd_sign 53 s q k 1074) e'

-- ---- the fields of those bits

pub pow_less : (a b : ℕ) → 2 ^ a < 2 ^ b → a < b
pow_less a b h = by_test (leb b a) refl
  where
    by_test : (t : Bool) → leb b a ≡ t → a < b
    by_test true e = absurd (lt_irrefl (2 ^ a) (lt_of_lt_of_le h (pow_mono (leb-true b a e))))
    by_test false e = leb-false b a e

size_is : (n j : ℕ) → n < 2 ^ suc j → 2 ^ j ≤ n → size n ≡ suc j
size_is n j a b = le_antisymm (size-le n (suc j) a) (pow_less j (size n) (lt_of_le_of_lt b (size-lt n)))

-- 24 digits and k zeros, of which the first digit is no zero unless k is
module _ (m k : ℕ) (few : m < 2 ^ 24) (full : 0 < k → 2 ^ 23 ≤ m) where
  over_24 : size (m * 2 ^ k) - 24 ≡ k
  over_24 = by_zeros k full
    where
      by_zeros : (j : ℕ) → (0 < j → 2 ^ 23 ≤ m) → size (m * 2 ^ j) - 24 ≡ j
      by_zeros zero h = omega (arith, size-le (m * 1) 24 (omega arith))
      by_zeros (suc j) h =
          let hi : m * 2 ^ suc j < 2 ^ suc (23 + suc j) = rw (← (suc-add 23 (suc j))) (shl_lt 24 (suc j) few) in
          let lo : 2 ^ (23 + suc j) ≤ m * 2 ^ suc j = rw (pow-add 2 23 (suc j)) (mul-le-mul_right (2 ^ suc j) (h (omega arith))) in
          omega (arith, size_is (m * 2 ^ suc j) (23 + suc j) hi lo)

  pub bits_fields : (s : Bool) → bits_of binary32 s (m * 2 ^ k) ≡ cond s (top binary32) 0 + (k * 2 ^ 23 + m)
  unfolding bits_of
  bits_fields s = rw (over_24, shl-shr m k) (add_assoc (cond s (top binary32) 0) (k * 2 ^ 23) m)
