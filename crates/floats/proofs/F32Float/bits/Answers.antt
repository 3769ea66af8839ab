-- The bits of the quiet NaN are those that the definition gives a NaN.
-- Assumes nothing.
use Rattle.std.proofs.Common.{sym, ◌∙◌}
use lib.Ieee.{binary32, to_bits}
use Rattle.floats.proofs.Special.{nan_bits}
use Rattle.floats.proofs.F32Float.bits.Goals as goal

pub returns-then-is_nan : goal.returns-then-is_nan
unfolding to_bits
returns-then-is_nan c = sym (nan_bits binary32 c.args.self (sym c.is_nan.ensures.value ∙ c.if-is_nan.true))
