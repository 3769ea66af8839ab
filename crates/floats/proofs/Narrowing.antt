-- Which values of binary64 binary32 holds, by the fields of their bits, and their bits there. A finite value is a number of units, of 2 ^ -1074 in the
-- one and of 2 ^ -149 in the other, so binary32 holds multiples of 2 ^ 925 units of binary64, with 24 digits. Assumes nothing.
use Prim.Native.Nat.{ℕ, zero, suc, ◌+◌, ◌-◌, ◌*◌, ◌/◌, ◌%◌, ◌^◌, ◌≤◌, ◌<◌}
use mathlib.Core.Path.{◌≡◌, refl, sym, ◌∙◌, ap, subst}
use mathlib.Core.Bool.{Bool, true, false, not, cond, ◌&&◌}
use native.Mathlib.Nat.{add_comm, suc-mul, mul_assoc, mul-one, mul-pos, zero-mul, le_of_lt, le_trans, lt_irrefl, lt_of_lt_of_le, lt_of_le_of_lt}
use native.Mathlib.Nat.{mul-le-mul_left, mul-le-mul_right, mul-lt-mul_of_pos_right, eq_of_mul-eq-mul_right}
use native.Mathlib.Numerals.{sub-one}
use native.Mathlib.Omega.{arith}
use borrow.Author.Tests.{leb-true, leb-false, eqb-true, eqb-false, ne_eqb}
use lib.Count.{count_trailing_zeros}
use lib.Dec.{T, lit<, lit≤, leb, ltb, eqb, leb→le, ltb→lt}
use lib.IntN.{ℤ, pos, negsuc}
use lib.Pow.{pow_pos, pow-add, pow_mono, shl_lt, shl-shr, shr_lt}
use lib.Ieee.{Float, nan, inf, fin, binary32, binary64, up, down, odd, is_nan, top, of_fields, of_bits, to_bits}
use lib.Ieee.{fits as holds}
use lib.Ieee.Bits.{is_true}
use lib.Ieee.Exact.{HasValue, odd_sign}
use lib.Ieee.Fits.{odd-fits, and_l, and_r, down_pos}
use Rattle.ion.proofs.Floats.{exponent_le}
use Rattle.encoding.specs.Argument.{narrows}
use Rattle.std.specs.Prelude.{Option, Some, None}
use Rattle.floats.specs.Narrowed.{narrowed_to, narrowed_bits, Dropped}
use Rattle.floats.proofs.Zeros.{multiple_zeros, zeros_multiple}
use Rattle.floats.proofs.Units.{pow_less, bits_of, value_bits, same_units, bits_fields}

-- as `narrowed_bits`, of the value that the bits stand for
unfoldable pub narrowed_value : Float → Option ℕ
narrowed_value v = narrowed_to (not (is_nan v) && holds binary32 v) (to_bits binary32 v)

-- ---- powers of two side by side

pow_join : (m a b : ℕ) → m * 2 ^ a * 2 ^ b ≡ m * 2 ^ (a + b)
pow_join m a b = mul_assoc m (2 ^ a) (2 ^ b) ∙ ap (λ (z : ℕ). m * z) (sym (pow-add 2 a b))

pow_shift : (m a b c d : ℕ) → a + b ≡ c + d → m * 2 ^ a * 2 ^ b ≡ m * 2 ^ c * 2 ^ d
pow_shift m a b c d e = pow_join m a b ∙ (ap (λ (z : ℕ). m * 2 ^ z) e ∙ sym (pow_join m c d))

-- ---- a number of binary32's units that is q * 2 ^ k of binary64's

pub record Held (q k : ℕ) : Type 0 where
  pub digits : ℕ
  pub shift : ℕ
  pub few : digits < 2 ^ 24
  pub small : digits * 2 ^ shift < 2 ^ 277
  pub same : q * 2 ^ k ≡ digits * 2 ^ shift * 2 ^ 925

number-held : (q k m : ℕ) (e : ℤ) → m < 2 ^ 24 → down e ≤ 2 ^ 149 → m * up e < 2 ^ 128 * down e → m * up e * 2 ^ 1074 ≡ q * 2 ^ k * down e → Held q k
number-held q k m (pos j) a b c e = record {
  digits = m;
  shift = j + 149;
  few = a;
  small = rw (← (pow_join m j 149)) (shl_lt 128 149 (rw (mul-one (2 ^ 128)) at c));
  same = sym (mul-one (q * 2 ^ k)) ∙ (sym e ∙ pow_shift m j 1074 (j + 149) 925 (omega arith));
}
number-held q k m (negsuc j) a b c e =
    let l : suc j ≤ 149 = exponent_le (suc j) 149 b in
    let c' : m < 2 ^ (128 + suc j) = rw (pow-add 2 128 (suc j)) (rw (mul-one m) at c) in
    let n : 128 + suc j + (149 - suc j) ≡ 277 = omega arith in
    let f : 149 - suc j + 925 + suc j ≡ 1074 = omega arith in
    let r : m * 2 ^ (149 - suc j) * 2 ^ 925 * 2 ^ suc j ≡ m * 2 ^ 1074 =
    ap (λ (z : ℕ). z * 2 ^ suc j) (pow_join m (149 - suc j) 925) ∙ (pow_join m (149 - suc j + 925) (suc j) ∙ ap (λ (z : ℕ). m * 2 ^ z) f) in
    record {
      digits = m;
      shift = 149 - suc j;
      few = a;
      small = rw n at (shl_lt (128 + suc j) (149 - suc j) c');
      same = eq_of_mul-eq-mul_right (2 ^ suc j) (pow_pos (suc j)) (q * 2 ^ k) (m * 2 ^ (149 - suc j) * 2 ^ 925)
          (sym e ∙ (ap (λ (z : ℕ). z * 2 ^ 1074) (mul-one m) ∙ sym r));
    }

-- what binary32 holds is such a number
fits-held : (v : Float) (s : Bool) (q k : ℕ) → T (holds binary32 v) → HasValue v s (q * 2 ^ k) (2 ^ 1074) → Held q k
unfolding holds
fits-held nan s q k t v = absurd v
fits-held (inf b) s q k t v = absurd v
fits-held (fin b zero e) s q k t v = record {
  digits = 0;
  shift = 0;
  few = lit< tt;
  small = lit< tt;
  same = eq_of_mul-eq-mul_right (down e) (down_pos e) (q * 2 ^ k) 0 (sym v.1 ∙ (ap (λ (z : ℕ). z * 2 ^ 1074) (zero-mul (up e)) ∙ sym (zero-mul (down e))));
}
fits-held (fin b (suc m) e) s q k t v =
    let a₁ = eqb (suc m % 2) 1 in
    let a₂ = ltb (suc m) (2 ^ 24) in
    let a₃ = leb (down e) (2 ^ 149) in
    let a₄ = ltb (suc m * up e) (2 ^ 128 * down e) in
    let t₃ = and_l (a₁ && a₂ && a₃) a₄ t in
    number-held q k (suc m) e (ltb→lt (suc m) (2 ^ 24) (and_r a₁ a₂ (and_l (a₁ && a₂) a₃ t₃))) (leb→le (down e) (2 ^ 149) (and_r (a₁ && a₂) a₃ t₃))
    (ltb→lt (suc m * up e) (2 ^ 128 * down e) (and_r (a₁ && a₂ && a₃) a₄ t)) v.1

odd_no_nan : (s : Bool) (q k : ℕ) → is_nan (odd 53 s q k 1074) ≡ false
unfolding odd is_nan
odd_no_nan s zero k = refl
odd_no_nan s (suc q) k = refl

not_held : (s : Bool) (q k : ℕ) → (Held q k → ⊥) → narrowed_value (odd 53 s q k 1074) ≡ None
unfolding narrowed_value
not_held s q k h = rw (odd_no_nan s q k) (by_test (holds binary32 (odd 53 s q k 1074)) refl)
  where
    by_test : (t : Bool) → holds binary32 (odd 53 s q k 1074) ≡ t → narrowed_to t (to_bits binary32 (odd 53 s q k 1074)) ≡ None
    by_test true e = absurd (h (fits-held (odd 53 s q k 1074) s q k (subst T (sym e) tt) (odd_sign 53 s q k 1074)))
    by_test false e = refl

-- and such a number is held, with the bits of that many units
is_held : (s : Bool) (q k : ℕ) (h : Held q k) → q < 2 ^ 53 → q * 2 ^ k < 2 ^ 2098 →
    narrowed_value (odd 53 s q k 1074) ≡ Some (bits_of binary32 s (h.digits * 2 ^ h.shift))
unfolding narrowed_value
is_held s q k h a b =
    let q' = h.digits in
    let k' = h.shift in
    let n : odd 24 s q' k' 149 ≡ odd 53 s q k 1074 = same_units s q k q' k' a b h.few h.small h.same in
    let f : holds binary32 (odd 53 s q k 1074) ≡ true =
    is_true _ (subst (λ (z : Float). T (holds binary32 z)) n (odd-fits binary32 24 s q' k' h.few (le_of_lt h.few) h.small)) in
    let t : to_bits binary32 (odd 53 s q k 1074) ≡ bits_of binary32 s (q' * 2 ^ k' * 2 ^ 149 / 2 ^ 149) =
    ap (to_bits binary32) (sym n) ∙ value_bits binary32 (odd 24 s q' k' 149) s (q' * 2 ^ k') (2 ^ 149) (pow_pos 149) (odd_sign 24 s q' k' 149) in
    rw (odd_no_nan s q k, f, t, shl-shr (q' * 2 ^ k') 149)

-- ---- by the fields: a sign, an exponent's field x and digits t

pub narrowed_zero : (s : Bool) → narrowed_value (of_fields binary64 s 0 0) ≡ Some (cond s (top binary32) 0)
unfolding narrowed_value of_fields odd is_nan holds to_bits
narrowed_zero true = refl
narrowed_zero false = refl

pub narrowed_infinity : (s : Bool) → narrowed_value (of_fields binary64 s 2047 0) ≡ Some (cond s (top binary32) 0 + 0x7F800000)
unfolding narrowed_value of_fields is_nan holds to_bits
narrowed_infinity true = refl
narrowed_infinity false = refl

fields_normal : (s : Bool) (x t : ℕ) → 0 < x → x < 2047 → of_fields binary64 s x t ≡ odd 53 s (t + 2 ^ 52) (x - 1) 1074
unfolding of_fields
fields_normal s zero t h l = absurd (omega arith)
fields_normal s (suc x) t h l = rw (ne_eqb (suc x) 2047 (λ e. omega arith), sub-one (suc x), add_comm t (2 ^ 52))

-- A multiple of w below w is 0. (omega takes no coefficient as large as 2 ^ 925.)
below_multiple : (n p w : ℕ) → n ≡ p * w → n < w → n ≡ 0
below_multiple n zero w e l = e ∙ zero-mul w
below_multiple n (suc p) w e l = let f = suc-mul p w in absurd (omega arith)

-- less than a unit of binary32
below_unit : (s : Bool) (q k : ℕ) → 0 < q → q * 2 ^ k < 2 ^ 925 → narrowed_value (odd 53 s q k 1074) ≡ None
below_unit s q k p l =
    not_held s q k
    (λ h.
    let z = below_multiple (q * 2 ^ k) (h.digits * 2 ^ h.shift) (2 ^ 925) h.same l in
    let a : 0 < q * 2 ^ k = mul-pos p (pow_pos k) in
    omega (arith, a, z))

pub narrowed_below : (s : Bool) (x t : ℕ) → t < 2 ^ 52 → x < 874 → (x ≡ 0 → t ≡ 0 → ⊥) → narrowed_value (of_fields binary64 s x t) ≡ None
unfolding of_fields
narrowed_below s zero t l u n = below_unit s t 0 (omega (arith, n refl)) (lt_of_lt_of_le {m = 2 ^ 52} (rw (mul-one t) l) (lit≤ tt))
narrowed_below s (suc x) t l u n =
    rw (fields_normal s (suc x) t (omega arith) (omega arith), sub-one (suc x))
    (below_unit s (t + 2 ^ 52) x (omega arith)
    (lt_of_lt_of_le (shl_lt 53 x (omega arith)) (pow_mono {i = 53 + x} {j = 925} (omega arith))))

pub narrowed_above : (s : Bool) (x t : ℕ) → 1150 < x → x < 2048 → (x ≡ 2047 → t ≡ 0 → ⊥) → narrowed_value (of_fields binary64 s x t) ≡ None
unfolding narrowed_value of_fields is_nan
narrowed_above s x t u v n = by_test (eqb x 2047) refl
  where
    by_test : (b : Bool) → eqb x 2047 ≡ b → narrowed_value (of_fields binary64 s x t) ≡ None
    by_test true e = let m = eqb-true x 2047 e in rw (m, ne_eqb t 0 (n m))
    by_test false e =
        rw (fields_normal s x t (omega arith) (omega (arith, eqb-false x 2047 e)))
        (not_held s (t + 2 ^ 52) (x - 1)
        (λ h.
        let a : 2 ^ 52 * 2 ^ (x - 1) ≤ (t + 2 ^ 52) * 2 ^ (x - 1) = mul-le-mul_right (2 ^ (x - 1)) (omega arith) in
        let b : 2 ^ 52 * 2 ^ 1150 ≤ 2 ^ 52 * 2 ^ (x - 1) = mul-le-mul_left (2 ^ 52) (pow_mono {i = 1150} {j = x - 1} (omega arith)) in
        let c : h.digits * 2 ^ h.shift * 2 ^ 925 < 2 ^ 277 * 2 ^ 925 = mul-lt-mul_of_pos_right h.small (pow_pos 925) in
        lt_irrefl _ (lt_of_le_of_lt (le_trans b a) (subst (λ (z : ℕ). z < 2 ^ 277 * 2 ^ 925) (sym h.same) c))))

module _ (s : Bool) (x t k : ℕ) (few : t < 2 ^ 52) (lo : 874 ≤ x) (hi : x ≤ 1150) (d : Dropped x k) where
  place-most : x + k ≤ 1179
  place-most = by_test (leb (x + k) 926) refl
    where
      by_test : (b : Bool) → leb (x + k) 926 ≡ b → x + k ≤ 1179
      by_test true e = omega (arith, leb-true (x + k) 926 e)
      by_test false e = omega (arith, d.tight (leb-false (x + k) 926 e))

  -- the k digits are zeros of what is held
  dropped_multiple : Held (t + 2 ^ 52) (x - 1) → (m : ℕ) × (t + 2 ^ 52 ≡ m * 2 ^ k)
  dropped_multiple h =
      let q = t + 2 ^ 52 in
      let j = h.shift + 925 in
      let a : 2 ^ (52 + (x - 1)) ≤ q * 2 ^ (x - 1) = rw (pow-add 2 52 (x - 1)) (mul-le-mul_right (2 ^ (x - 1)) (omega arith)) in
      let b : q * 2 ^ (x - 1) ≡ h.digits * 2 ^ j = h.same ∙ pow_join h.digits h.shift 925 in
      let c : 2 ^ (52 + (x - 1)) < 2 ^ (24 + j) = lt_of_le_of_lt a (subst (λ (z : ℕ). z < 2 ^ (24 + j)) (sym b) (shl_lt 24 j h.few)) in
      let g : 52 + (x - 1) < 24 + j = pow_less (52 + (x - 1)) (24 + j) c in
      let u : x - 1 + k ≤ j = by_test (leb (x + k) 926) refl g in
      let r = j - (x - 1 + k) in
      let f : j ≡ r + k + (x - 1) = omega arith in (
        h.digits * 2 ^ r,
        eq_of_mul-eq-mul_right (2 ^ (x - 1)) (pow_pos (x - 1)) q (h.digits * 2 ^ r * 2 ^ k)
            (b
            ∙ (ap (λ (z : ℕ). h.digits * 2 ^ z) f
            ∙ (sym (pow_join h.digits (r + k) (x - 1)) ∙ ap (λ (z : ℕ). z * 2 ^ (x - 1)) (sym (pow_join h.digits r k))))),
      )
    where
      by_test : (b : Bool) → leb (x + k) 926 ≡ b → 52 + (x - 1) < 24 + (h.shift + 925) → x - 1 + k ≤ h.shift + 925
      by_test true e g = omega (arith, leb-true (x + k) 926 e)
      by_test false e g = omega (arith, d.tight (leb-false (x + k) 926 e))

  pub narrowed_cut : count_trailing_zeros 64 (t + 2 ^ 52) < k → narrowed_value (of_fields binary64 s x t) ≡ None
  narrowed_cut z =
      rw (fields_normal s x t (omega arith) (omega arith))
      (not_held s (t + 2 ^ 52) (x - 1)
      (λ h.
      let w = dropped_multiple h in
      let a : k ≤ count_trailing_zeros 64 (t + 2 ^ 52) = rw w.1 (multiple_zeros 64 k w.0 (omega (arith, d.most))) in
      omega arith))

  kept_few : (t + 2 ^ 52) / 2 ^ k < 2 ^ 24
  kept_few = shr_lt 24 k (lt_of_lt_of_le {m = 2 ^ 53} (omega arith) (pow_mono {i = 53} {j = 24 + k} (omega (arith, d.least))))

  -- no bit of the sign
  pub magnitude-small : (x + k - 926) * 2 ^ 23 + (t + 2 ^ 52) / 2 ^ k < 2 ^ 31
  magnitude-small = omega (arith, place-most, kept_few)

  pub narrowed_exact : k ≤ count_trailing_zeros 64 (t + 2 ^ 52) →
      narrowed_value (of_fields binary64 s x t) ≡ Some (cond s (top binary32) 0 + ((x + k - 926) * 2 ^ 23 + (t + 2 ^ 52) / 2 ^ k))
  narrowed_exact z =
      let q = t + 2 ^ 52 in
      let e = x + k - 926 in
      let w = zeros_multiple 64 k q z in
      let m = w.0 in
      let kept : q / 2 ^ k ≡ m = ap (λ (n : ℕ). n / 2 ^ k) w.1 ∙ shl-shr m k in
      let m_few : m < 2 ^ 24 = subst (λ (n : ℕ). n < 2 ^ 24) kept kept_few in
      let full : 0 < e → 2 ^ 23 ≤ m =
      λ p. let k_is : k ≡ 29 = d.tight (omega arith) in omega (arith, subst (λ (n : ℕ). t + 2 ^ 52 ≡ m * 2 ^ n) k_is w.1) in
      let h : Held q (x - 1) = record {
        digits = m;
        shift = e;
        few = m_few;
        small = lt_of_lt_of_le (shl_lt 24 e m_few) (pow_mono {i = 24 + e} {j = 277} (omega (arith, place-most)));
        same = ap (λ (n : ℕ). n * 2 ^ (x - 1)) w.1 ∙ pow_shift m k (x - 1) e 925 (omega (arith, d.place));
      } in
      rw (fields_normal s x t (omega arith) (omega arith), kept)
      (is_held s q (x - 1) h (omega arith) (lt_of_lt_of_le (shl_lt 53 (x - 1) (omega arith)) (pow_mono {i = 53 + (x - 1)} {j = 2098} (omega arith)))
      ∙ ap Some (bits_fields m e m_few full s))

-- ---- by the bits

pub narrowed_fields : (b : ℕ) → narrowed_bits b ≡ narrowed_value (of_fields binary64 (leb (2 ^ 63) b) (b % 2 ^ 63 / 2 ^ 52) (b % 2 ^ 52))
unfolding narrowed_bits narrowed_value narrows of_bits
narrowed_fields b = refl

pub sign_bits : (b : ℕ) → b < 2 ^ 64 → cond (leb (2 ^ 63) b) (2 ^ 31) 0 ≡ b / 2 ^ 63 * 2 ^ 31
sign_bits b h = by_test (leb (2 ^ 63) b) refl
  where
    by_test : (t : Bool) → leb (2 ^ 63) b ≡ t → cond t (2 ^ 31) 0 ≡ b / 2 ^ 63 * 2 ^ 31
    by_test true e = omega (arith, leb-true (2 ^ 63) b e)
    by_test false e = omega (arith, leb-false (2 ^ 63) b e)
