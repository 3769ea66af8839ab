-- Positive zero, of either format, has the bits 0 and takes the byte 40.
-- Assumes nothing.
use Rattle.std.specs.Prelude.{◌≡◌, ◌∷◌, refl}
use Rattle.std.specs.Float.Ieee.{of_bits, to_bits, is_nan, fits as holds}
use Rattle.encoding.specs.Digits.{low_digits}
use Rattle.encoding.specs.Fields.{fixed_bytes}
use Rattle.encoding.specs.Argument.{narrows, float32_bytes, float64_bytes}

pub float32_zero : float32_bytes 0 ≡ 0x40 ∷ fixed_bytes 0 0
unfolding float32_bytes fixed_bytes low_digits
float32_zero = refl

pub float64_zero : float64_bytes 0 ≡ 0x40 ∷ fixed_bytes 0 0
unfolding float64_bytes float32_bytes fixed_bytes low_digits narrows of_bits to_bits holds is_nan
float64_zero = refl
