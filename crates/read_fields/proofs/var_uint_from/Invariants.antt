-- `read_fields::var_uint_from` meets its contract: at each byte, what is read from here with the groups so far is what is read from `at`.
-- Assumes nothing.
use Rattle.std.proofs.Common.{◌≡◌, drop}
use Rattle.reading.specs.Headers.{var_uint_from}
use Rattle.read_fields.proofs.var_uint_from.Given as goal

abbrev pub invariant-loop-i : goal.invariant-loop-i
invariant-loop-i l = var_uint_from l.out l.acc l.at (drop l.at l.s) ≡ var_uint_from l.out l.value l.i (drop l.i l.s)
