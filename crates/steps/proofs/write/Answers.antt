-- `steps::write` meets its contract: refused by place, or put.
-- Assumes nothing.
use Rattle.std.proofs.Common.{◌≡◌, refl}
use Rattle.annotations.specs.Sids.{sids_of}
use Rattle.machine.specs.Call.{write}
use Rattle.machine.specs.Machine.{lacks_name}
use Rattle.steps.proofs.Scalars.{scalar_lines}
use Rattle.steps.proofs.Ends.{barred}
use Rattle.steps.proofs.Exits.{exit_err}
use Rattle.steps.proofs.write.Goals as goal

pub returns-in_err-check-clause-call : goal.returns-in_err-check-clause-call
returns-in_err-check-clause-call g c =
    let a = c.args in
    let s = g.S.Standing.state a.s.now in
    let an = sids_of a.annotations.now in
    let x = g.V.WriteAsIon.argument a.value in
    rw (exit_err c.from_residual.result c.in_err-check.field-0.0 c.from_residual.ensures.1)
    (barred (write an x) s a.buf.now (lacks_name s) (scalar_lines an x s a.buf.now) refl c.in_err-check.field-0.0 c.in_err-check.ensures)
