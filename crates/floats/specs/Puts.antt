-- The bytes of a call that takes a float by its bits.
-- Assumes nothing.
use Rattle.std.specs.Prelude.{ℕ, ◌≡◌, refl}
use Rattle.encoding.specs.Argument.{argument_bytes, write_f32, write_f64, float32_bytes, float64_bytes}

pub float32_puts : (n : ℕ) → argument_bytes (write_f32 n) ≡ float32_bytes n
unfolding argument_bytes
float32_puts n = refl

pub float64_puts : (n : ℕ) → argument_bytes (write_f64 n) ≡ float64_bytes n
unfolding argument_bytes
float64_puts n = refl
