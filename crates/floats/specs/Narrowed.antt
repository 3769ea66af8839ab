-- An f64 by its bits, narrowed to binary32.
-- Assumes nothing.
use Rattle.std.specs.Prelude.{ℕ, ◌+◌, ◌≤◌, ◌<◌, ◌≡◌, Bool, true, false, Option, Some, None}
use Rattle.std.specs.Float.{binary32, binary64}
use Rattle.std.specs.Float.Ieee.{of_bits, to_bits}
use Rattle.encoding.specs.Argument.{narrows}

abbrev pub narrowed_to : Bool → ℕ → Option ℕ
narrowed_to true n = Some n
narrowed_to false n = None

-- The bits in binary32 of a value that binary32 holds; none of another, nor of a NaN.
unfoldable pub narrowed_bits : ℕ → Option ℕ
narrowed_bits b = narrowed_to (narrows b) (to_bits binary32 (of_bits binary64 b))

-- Without its last n of 53 digits, a number with the exponent's field x has the 24 digits of binary32 and none below 2 ^ -149; n is the least such.
pub record Dropped (x n : ℕ) : Type 0 where
  pub least : 29 ≤ n
  pub most : n ≤ 52
  pub place : 926 ≤ x + n
  pub tight : 926 < x + n → n ≡ 29
