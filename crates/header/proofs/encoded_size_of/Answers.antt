-- `header::encoded_size_of` meets its contract: one byte, and from 14 on those of a VarUInt.
-- Assumes nothing.
use mathlib.Core.Path.{sym, ap}
use native.Mathlib.Omega.{arith}
use lib.ListN.{length}
use Rattle.encoding.proofs.Sizes.{var_uint-most}
use Rattle.encoding.proofs.Headers.{header_short, header_long}
use borrow.Author.Rules.{rules}
use Rattle.header.proofs.encoded_size_of.Goals as goal

pub returns-then-body-lt-LONG : goal.returns-then-body-lt-LONG
returns-then-body-lt-LONG c = sym (ap length (header_short 0 c.args.body (omega arith)))

pub overflow_add-result : goal.overflow_add-result
overflow_add-result c = omega (arith, var_uint-most c.args.body (search rules))

pub returns : goal.returns
returns c = omega (arith, ap length (header_long 0 c.args.body (omega arith)))
