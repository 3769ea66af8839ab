-- `steps::abandon` meets its contract: refused by place, or given back.
-- Assumes nothing.
use Rattle.std.proofs.Common.{refl, arith}
use Rattle.machine.specs.Call.{abandonment}
use Rattle.place.specs.declared.CallKind.TheVariants.{Abandonment}
use Rattle.place.specs.Misplaced.{misplaced}
use Rattle.steps.proofs.Run.{room_line}
use Rattle.steps.proofs.Containers.{abandonment_run, abandonment_open}
use Rattle.steps.proofs.Ends.{barred}
use Rattle.steps.proofs.Exits.{exit_err}
use Rattle.steps.proofs.abandon.Goals as goal

pub returns-in_err-check : goal.returns-in_err-check
returns-in_err-check g c =
    let a = c.args in
    let s = g.S.Standing.state a.s.now in
    rw (exit_err c.from_residual.result c.in_err-check.field-0.0 c.from_residual.ensures.1)
    (barred abandonment s a.buf.now (misplaced Abandonment s) (room_line abandonment s a.buf.now) refl c.in_err-check.field-0.0 c.in_err-check.ensures)

pub overflow_sub-outer : goal.overflow_sub-outer
overflow_sub-outer g c =
    omega (arith, c.depth-outer.ensures, abandonment_open (g.S.Standing.state c.args.s.now) c.args.buf.now c.in_ok-check.ensures)

pub returns : goal.returns
returns g c =
    let s = g.S.Standing.state c.args.s.now in
    rw (c.container-c.ensures, c.depth-outer.ensures)
    (abandonment_run s c.args.buf.now c.abandon.result c.abandon.new.buf c.in_struct.result c.in_ok-check.ensures
    (rw (c.used-used.ensures, c.container-c.ensures, c.depth-outer.ensures) at c.abandon.ensures) (rw c.depth-outer.ensures at c.in_struct.ensures))
