-- The year and the fields below it as far as the loop has come.
use Rattle.std.proofs.Common.{◌+◌, ◌≤◌}
use Rattle.timestamp.proofs.Fields.{Put}
use Rattle.timestamp.proofs.Utc.put_fields.Given as goal

abbrev pub invariant-loop-i : goal.invariant-loop-i
invariant-loop-i l = record { within : l.i ≤ l.count; put : Put l.fn.buf l.at l.fn.self.t.year l.field-items l.i (l.year + l.i) l.buf }
