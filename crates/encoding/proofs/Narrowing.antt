-- What goes out in four bytes keeps its value, and every f64 whose value a binary32 has goes out so: of a value that binary64 holds, sign and size
-- determine the bits, so the two formats hold it as the same data. Assumes nothing.
use Prim.Native.Nat.{ℕ, ◌+◌, ◌-◌, ◌*◌, ◌/◌, ◌^◌, ◌<◌}
use mathlib.Core.Path.{◌≡◌, refl, sym, ◌∙◌, ap, subst}
use mathlib.Core.Bool.{true, false, false≢true, cond, and-false}
use lib.Dec.{T}
use lib.Ieee.{Float, nan, inf, fin, binary32, binary64, of_bits, to_bits, size, hid, ones, top, is_nan}
use lib.Ieee.{fits as holds}
use lib.Ieee.Bits.{is_true, of_bits-fits, of_bits-to_bits, to_bits-lt}
use lib.Ieee.Fits.{fits_widens}
use Rattle.ion.specs.Value.{FloatValue, not_anumber, infinite, finite}
use Rattle.ion.specs.Scalars.{float_value, float_of}
use Rattle.ion.proofs.Tests.{by_cases}
use Rattle.encoding.specs.Argument.{narrows}
use Rattle.encoding.specs.Narrowing.{NarrowsExactly}

-- ---- what goes out in four bytes

holds_narrowed : (b : ℕ) → narrows b ≡ true → T (holds binary32 (of_bits binary64 b))
unfolding narrows
holds_narrowed b e =
    by_cases (holds binary32 (of_bits binary64 b))
    (λ p. subst T (sym p) tt)
    (λ p. absurd (false≢true (rw (narrows, p, and-false) at e)))

pub narrowed_exact : (b : ℕ) → narrows b ≡ true
    → (to_bits binary32 (of_bits binary64 b) < 2 ^ 32) × (float_of binary32 (to_bits binary32 (of_bits binary64 b)) ≡ float_of binary64 b)
unfolding float_of
narrowed_exact b e =
    let v = of_bits binary64 b in
    let t = holds_narrowed b e in
    (to_bits-lt binary32 v t, ap float_value (of_bits-to_bits binary32 v t))

-- ---- a value of binary64 by its sign and size

-- the bits in binary64
bits64 : FloatValue → ℕ
bits64 not_anumber = ones binary64 * hid binary64 + hid binary64 / 2
bits64 (infinite s) = cond s (top binary64) 0 + ones binary64 * hid binary64
bits64 (finite s n) = cond s (top binary64) 0 + (size n - 53) * hid binary64 + n / 2 ^ (size n - 53)

to_bits_value : (v : Float) → to_bits binary64 v ≡ bits64 (float_value v)
unfolding to_bits bits64
to_bits_value nan = refl
to_bits_value (inf s) = refl
to_bits_value (fin s m e) = refl

same_value : (v w : Float) → T (holds binary64 v) → T (holds binary64 w) → float_value v ≡ float_value w → v ≡ w
same_value v w p q e =
    sym (of_bits-to_bits binary64 v p)
    ∙ ap (of_bits binary64) (to_bits_value v ∙ ap bits64 e ∙ sym (to_bits_value w))
    ∙ of_bits-to_bits binary64 w q

-- ---- the converse

no_nan : (v : Float) → (float_value v ≡ not_anumber → ⊥) → is_nan v ≡ false
unfolding is_nan
no_nan nan h = absurd (h refl)
no_nan (inf s) h = refl
no_nan (fin s m e) h = refl

pub narrowed_all : (b n : ℕ) → (float_of binary64 b ≡ not_anumber → ⊥) → float_of binary32 n ≡ float_of binary64 b → narrows b ≡ true
unfolding narrows float_of
narrowed_all b n h e =
    let v = of_bits binary64 b in
    let w = of_bits binary32 n in
    let same : w ≡ v = same_value w v (fits_widens w (of_bits-fits binary32 n)) (of_bits-fits binary64 b) e in
    let f : holds binary32 v ≡ true = is_true _ (subst (λ (x : Float). T (holds binary32 x)) same (of_bits-fits binary32 n)) in
    rw (no_nan v h, f)

-- ---- both ways

nan_value : (v : Float) → float_value v ≡ not_anumber → is_nan v ≡ true
unfolding is_nan
nan_value nan e = refl
nan_value (inf s) e = cc
nan_value (fin s m x) e = cc

no_nan_narrowed : (b : ℕ) → narrows b ≡ true → float_of binary64 b ≡ not_anumber → ⊥
unfolding narrows float_of
no_nan_narrowed b e h = false≢true (rw (narrows, nan_value (of_bits binary64 b) h) at e)

pub narrows_exactly : NarrowsExactly
narrows_exactly b = (
  λ e. (no_nan_narrowed b e, (to_bits binary32 (of_bits binary64 b), (narrowed_exact b e).0, (narrowed_exact b e).1)),
  λ h. narrowed_all b h.1.0 h.0 h.1.2,
)
