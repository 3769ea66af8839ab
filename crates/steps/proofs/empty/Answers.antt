-- `steps::empty` meets its contract: refused by place, or the used length alone alters.
-- Assumes nothing.
use Rattle.std.proofs.Common.{refl, sym, ◌∙◌, length, arith, le-ltb}
use Rattle.machine.specs.Call.{emptying}
use Rattle.place.specs.declared.CallKind.TheVariants.{Top}
use Rattle.place.specs.Misplaced.{misplaced}
use Rattle.steps.proofs.Run.{room_line, past-place, run_accepted}
use Rattle.steps.proofs.Ends.{barred}
use Rattle.steps.proofs.Exits.{exit_err}
use Rattle.steps.proofs.empty.Goals as goal

pub returns-in_err-check : goal.returns-in_err-check
returns-in_err-check g c =
    let a = c.args in
    let s = g.S.Standing.state a.s.now in
    rw (exit_err c.from_residual.result c.in_err-check.field-0.0 c.from_residual.ensures.1)
    (barred emptying s a.buf.now (misplaced Top s) (room_line emptying s a.buf.now) refl c.in_err-check.field-0.0 c.in_err-check.ensures)

pub returns : goal.returns
returns g c =
    let s = g.S.Standing.state c.args.s.now in
    let b = c.args.buf.now in
    rw (c.depth.ensures, c.waits.ensures)
    (sym (run_accepted emptying s b (past-place emptying s b (misplaced Top s) (room_line emptying s b) refl c.in_ok-check.ensures
    ∙ rw (le-ltb (length b) 0 (omega arith)))))
