-- `writes::f64_of` is safe: bits with a magnitude up to that of infinity are no NaN's. Assumes nothing.
use Prim.Native.Nat.{◌%◌}
use borrow.Author.Tests.{le-ltb}
use lib.Ieee.{binary64}
use lib.Ieee.Bits.{nan_bits_above}
use Rattle.calls.proofs.writes.f64_of.Goals as goal

pub float_from_bits-result : goal.float_from_bits-result
float_from_bits-result c = let b = c.args.bits in
    rw (nan_bits_above binary64 b, le-ltb 9218868437227405312 (b % 9223372036854775808) c.if-bits-gt-INFINITY_64.false) tt
