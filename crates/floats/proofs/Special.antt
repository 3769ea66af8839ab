-- NaN and zero: what the comparisons tell of the bits, for either format.
-- Assumes nothing.
use Prim.Native.Nat.{ℕ, zero, suc, ◌*◌, ◌<◌}
use mathlib.Core.Path.{◌≡◌, refl, sym, ◌∙◌, ap, subst}
use mathlib.Core.Bool.{Bool, true, false, ◌&&◌, cond, false≢true}
use native.Mathlib.Nat.{zero-mul, mul-pos, zero-lt-suc, lt_irrefl, pow-suc}
use native.Mathlib.Omega.{arith}
use borrow.Author.Tests.{eqb-true, eqb-false, ltb-true, lt-ltb}
use lib.Dec.{T, ltb, eqb, eqb→eq}
use lib.Pow.{pow_pos}
use lib.IntN.{ℤ, pos, negsuc}
use lib.Ieee.{Float, nan, inf, fin, Format, binary32, binary64, up, down, top, fits, is_nan, of_bits, to_bits, eq}
use lib.Ieee.Bits.{of_bits-to_bits}
use lib.Ieee.Fits.{up_pos}
use Rattle.ion.proofs.Tests.{by_cases, both}

pub nan_bits : (f : Format) (v : Float) → is_nan v ≡ true → to_bits f v ≡ to_bits f nan
unfolding is_nan
nan_bits f nan e = refl
nan_bits f (inf s) e = absurd (false≢true e)
nan_bits f (fin s m x) e = absurd (false≢true e)

-- the exponent of a zero that is written in the one way
zero_exponent : (e : ℤ) → up e * down e ≡ 1 → e ≡ pos 0
zero_exponent (pos zero) h = refl
zero_exponent (pos (suc k)) h = let p = pow-suc 2 k in let q = pow_pos k in absurd (omega arith)
zero_exponent (negsuc k) h = let p = pow-suc 2 k in let q = pow_pos k in absurd (omega arith)

-- the literal 0.0
zero_literal : (f : Format) → of_bits f 0 ≡ fin false 0 (pos 0)
unfolding of_bits
zero_literal binary32 = refl
zero_literal binary64 = refl

-- what equals zero is a zero of either sign
equals_zero : (f : Format) (v : Float) → T (fits f v) → eq v (fin false 0 (pos 0)) ≡ true → (s : Bool) × (v ≡ fin s 0 (pos 0))
unfolding eq fits
equals_zero f nan h e = absurd (subst T (sym e) tt)
equals_zero f (inf s) h e = absurd (subst T (sym e) tt)
equals_zero f (fin s zero x) h e = (s, ap (fin s 0) (zero_exponent x (eqb→eq _ _ h)))
equals_zero f (fin s (suc m) x) h e =
    let p : suc m * up x * 1 ≡ 0 * 1 * down x = eqb-true _ _ (both e).0 in
    let q : 0 < suc m * up x = mul-pos (zero-lt-suc m) (up_pos x) in
    let z : 0 * 1 * down x ≡ 0 = zero-mul (down x) in
    absurd (omega arith)

signed-zero : (f : Format) (s : Bool) → to_bits f (fin s 0 (pos 0)) ≡ cond s (top f) 0
unfolding to_bits
signed-zero binary32 true = refl
signed-zero binary32 false = refl
signed-zero binary64 true = refl
signed-zero binary64 false = refl

-- a zero whose bits b have no sign
zero_bits : (f : Format) (v : Float) (b : ℕ) → T (fits f v) → b ≡ to_bits f v → (eq v (of_bits f 0) && ltb b (top f)) ≡ true → to_bits f v ≡ 0
zero_bits f v b h is e =
    let z = equals_zero f v h (subst (λ (x : Float). eq v x ≡ true) (zero_literal f) (both {a = eq v (of_bits f 0)} e).0) in
    let signed : to_bits f v ≡ cond z.0 (top f) 0 = ap (to_bits f) z.1 ∙ signed-zero f z.0 in
    let l : b < top f = ltb-true _ _ (both {a = eq v (of_bits f 0)} e).1 in
    signed ∙ by_sign z.0 (subst (λ (x : ℕ). x < top f) (is ∙ signed) l)
  where
    by_sign : (s : Bool) → cond s (top f) 0 < top f → cond s (top f) 0 ≡ 0
    by_sign true l = absurd (lt_irrefl (top f) l)
    by_sign false l = refl

-- the bits 0 are those of the literal
bits_zero : (f : Format) (v : Float) (b : ℕ) → T (fits f v) → b ≡ to_bits f v → to_bits f v ≡ 0 → (eq v (of_bits f 0) && ltb b (top f)) ≡ true
unfolding eq
bits_zero f v b h is z =
    let w : v ≡ fin false 0 (pos 0) = sym (of_bits-to_bits f v h) ∙ (ap (of_bits f) z ∙ zero_literal f) in
    rw (w, zero_literal f, is, z, lt-ltb 0 (top f) (top_pos f))
  where
    top_pos : (g : Format) → 0 < top g
    top_pos binary32 = omega arith
    top_pos binary64 = omega arith

-- so the comparison with zero and the sign bit tell whether the bits are 0
pub positive_zero : (f : Format) (v : Float) (b : ℕ) → T (fits f v) → b ≡ to_bits f v → (eq v (of_bits f 0) && ltb b (top f)) ≡ eqb (to_bits f v) 0
positive_zero f v b h is =
    by_cases (eqb (to_bits f v) 0)
    (λ p. bits_zero f v b h is (eqb-true (to_bits f v) 0 p) ∙ sym p)
    (λ p. by_cases (eq v (of_bits f 0) && ltb b (top f))
    (λ q. absurd (eqb-false (to_bits f v) 0 p (zero_bits f v b h is q)))
    (λ q. q ∙ sym p))
