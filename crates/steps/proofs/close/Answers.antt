-- `steps::close` meets its contract: refused by place or for room, or closed, and counted in the outer container, whose count is not cut.
-- Assumes nothing.
use Rattle.std.proofs.Common.{◌-◌, refl, length, arith}
use Rattle.machine.specs.Call.{closing}
use Rattle.place.specs.declared.CallKind.TheVariants.{Closing}
use Rattle.place.specs.Misplaced.{misplaced}
use Rattle.steps.proofs.Run.{room_line}
use Rattle.steps.proofs.Containers.{accepted_fits, closing_some, closing_refused, closing-start, closing_accepted}
use Rattle.steps.proofs.Members.{counted_uncut}
use Rattle.steps.proofs.Ends.{barred}
use Rattle.steps.proofs.Exits.{exit_err, exit_none}
use Rattle.steps.proofs.close.Goals as goal

pub returns-in_err-check-clause-call : goal.returns-in_err-check-clause-call
returns-in_err-check-clause-call g c =
    let a = c.args in
    let s = g.S.Standing.state a.s.now in
    rw (exit_err c.from_residual.result c.in_err-check.field-0.0 c.from_residual.ensures.1)
    (barred closing s a.buf.now (misplaced Closing s) (room_line closing s a.buf.now) refl c.in_err-check.field-0.0 c.in_err-check.ensures)

pub overflow_sub-outer : goal.overflow_sub-outer
overflow_sub-outer g c =
    omega (arith, c.depth-outer.ensures, closing_some (g.S.Standing.state c.args.s.now) c.args.buf.now c.in_ok-check.ensures)

pub returns-in_err-closing-clause-call : goal.returns-in_err-closing-clause-call
returns-in_err-closing-clause-call g c =
    let s = g.S.Standing.state c.args.s.now in
    let none = c.in_err-closing.ensures.ok_part in
    rw (exit_none c.from_residual-in_err-closing.result _ _ _ c.from_residual-in_err-closing.ensures.1 c.in_err-closing.ensures.value none)
    (closing_refused s c.args.buf.now c.close.new.buf c.in_ok-check.ensures
    (rw (none, c.used-used.ensures, c.container-c.ensures, c.depth-outer.ensures) at c.close.ensures))

pub overflow_sub-result : goal.overflow_sub-result
overflow_sub-result g c =
    let s = g.S.Standing.state c.args.s.now in
    rw (c.container-c.ensures, c.depth-outer.ensures)
    (closing-start s c.args.buf.now c.close.new.buf c.in_ok-check.ensures c.in_ok-closing.closing
    (rw (c.in_ok-closing.ensures.ok_part, c.used-used.ensures, c.container-c.ensures, c.depth-outer.ensures) at c.close.ensures))

pub returns-clause-call : goal.returns-clause-call
returns-clause-call g c =
    let s = g.S.Standing.state c.args.s.now in
    rw (c.container-c.ensures, c.depth-outer.ensures)
    (closing_accepted s c.args.buf.now c.close.new.buf c.in_ok-check.ensures c.in_ok-closing.closing
    (rw (c.in_ok-closing.ensures.ok_part, c.used-used.ensures, c.container-c.ensures, c.depth-outer.ensures) at c.close.ensures))

pub returns-clause-uncut : goal.returns-clause-uncut
returns-clause-uncut g c =
    let s = g.S.Standing.state c.args.s.now in
    let b = c.args.buf.now in
    rw c.depth-outer.ensures
    (counted_uncut s (length b) (accepted_fits s (length b) _ c.in_ok-check.ensures) (omega arith) (s.depth - 1) (omega arith))
