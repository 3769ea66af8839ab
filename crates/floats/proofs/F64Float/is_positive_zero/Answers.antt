-- By the law of a comparison with zero and the sign bit.
-- Assumes nothing.
use Rattle.std.proofs.Common.{sym, subst}
use lib.Dec.{T}
use lib.Ieee.{binary64}
use Rattle.floats.proofs.Special.{positive_zero}
use Rattle.floats.proofs.F64Float.is_positive_zero.Goals as goal

pub returns : goal.returns
returns c = positive_zero binary64 c.args.self c.bits.result (subst T (sym c.well_formed.0.1) tt) c.bits.ensures
