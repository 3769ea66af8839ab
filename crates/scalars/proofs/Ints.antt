-- The bytes of an int by its sign and its lent magnitude.
-- Assumes nothing.
use mathlib.Core.Path.{◌≡◌, refl}
use mathlib.Core.List.{List}
use mathlib.Core.Bool.{Bool}
use Prim.Native.Nat.{ℕ, ◌*◌, ◌/◌}
use Rattle.encoding.specs.Fields.{trimmed, or_zero}
use Rattle.encoding.specs.Headers.{type_byte, framed_bytes}
use Rattle.encoding.specs.Argument.{write_int, code_of_sign, argument_bytes}
use Rattle.encoding.proofs.Headers.{type_byte_high}
use Rattle.encoding.proofs.Trimmed.{trimmed-part, or_zero-none, or_zero-some}
use Rattle.scalars.proofs.Puts.{written_whole, written_framed, unwritten}

-- the bytes by the code of the sign and by the body; the low four bits of the code do not count
pub int_by : (s : Bool) (m : List ℕ) → (code : ℕ) → code ≡ type_byte (code_of_sign s) →
    (l : List ℕ) → l ≡ or_zero (trimmed m) → framed_bytes (code / 16 * 16) l ≡ argument_bytes (write_int s m)
unfolding argument_bytes
int_by s m code f l g = rw (f, type_byte_high (code_of_sign s), g) refl

pub ruleset by_magnitude = (unwritten, int_by, trimmed-part, or_zero-none, or_zero-some, written_whole, written_framed)
