-- `writes::f32_of` is safe: bits with a magnitude up to that of infinity are no NaN's. Assumes nothing.
use Prim.Native.Nat.{◌%◌}
use borrow.Author.Tests.{le-ltb}
use lib.Ieee.{binary32}
use lib.Ieee.Bits.{nan_bits_above}
use Rattle.calls.proofs.writes.f32_of.Goals as goal

pub float_from_bits-result : goal.float_from_bits-result
float_from_bits-result c = let b = c.args.bits in rw (nan_bits_above binary32 b, le-ltb 2139095040 (b % 2147483648) c.if-bits-gt-INFINITY_32.false) tt
