-- The bytes of a float by the cases of its bits.
-- Assumes nothing.
use Prim.Native.Nat.{ℕ}
use mathlib.Core.Path.{◌≡◌, refl, ap}
use mathlib.Core.Bool.{Bool, true, false}
use mathlib.Core.List.{◌∷◌}
use native.Mathlib.Omega.{arith}
use borrow.Author.Tests.{ne_eqb}
use lib.Ieee.{binary32, binary64, of_bits, to_bits}
use Rattle.encoding.specs.Digits.{low_digits}
use Rattle.encoding.specs.Fields.{fixed_bytes}
use Rattle.encoding.specs.Argument.{narrows, float32_bytes, float64_bytes}
use Rattle.std.specs.Prelude.{Some, None}
use Rattle.floats.specs.Narrowed.{narrowed_to, narrowed_bits}

pub float32_zero : (b : ℕ) → b ≡ 0 → float32_bytes b ≡ 0x40 ∷ fixed_bytes 0 0
unfolding float32_bytes fixed_bytes low_digits
float32_zero b e = rw e refl

pub float32_other : (b : ℕ) → (b ≡ 0 → ⊥) → float32_bytes b ≡ 0x44 ∷ fixed_bytes 4 b
unfolding float32_bytes
float32_other b h = rw (ne_eqb b 0 h, float32_bytes)

pub float64_narrowed : (b n : ℕ) → narrowed_bits b ≡ Some n → float64_bytes b ≡ float32_bytes n
unfolding float64_bytes narrowed_bits
float64_narrowed b n e = by_test (narrows b) e
  where
    by_test : (t : Bool) → narrowed_to t (to_bits binary32 (of_bits binary64 b)) ≡ Some n →
        elim t [ true ↦ float32_bytes (to_bits binary32 (of_bits binary64 b)) | false ↦ 0x48 ∷ fixed_bytes 8 b ] ≡ float32_bytes n
    by_test true q = let m : to_bits binary32 (of_bits binary64 b) ≡ n = cc in ap float32_bytes m
    by_test false q = let z : ◌≡◌ {A = ℕ} 0 1 = cc in absurd (omega arith)

pub float64_other : (b : ℕ) → narrowed_bits b ≡ None → float64_bytes b ≡ 0x48 ∷ fixed_bytes 8 b
unfolding float64_bytes narrowed_bits
float64_other b e = by_test (narrows b) e
  where
    by_test : (t : Bool) → narrowed_to t (to_bits binary32 (of_bits binary64 b)) ≡ None →
        elim t [ true ↦ float32_bytes (to_bits binary32 (of_bits binary64 b)) | false ↦ 0x48 ∷ fixed_bytes 8 b ] ≡ 0x48 ∷ fixed_bytes 8 b
    by_test true q = let z : ◌≡◌ {A = ℕ} 0 1 = cc in absurd (omega arith)
    by_test false q = refl

pub ruleset by_bits = (float32_zero, float32_other, float64_narrowed, float64_other)
