-- `steps::version_marker` meets its contract: refused by place or for room, or put at the end of the used bytes.
-- Assumes nothing.
use Rattle.std.proofs.Common.{refl, arith}
use Rattle.encoding.specs.Headers.{marker_bytes}
use Rattle.machine.specs.Call.{version_marker}
use Rattle.place.specs.declared.CallKind.TheVariants.{Top}
use Rattle.place.specs.Misplaced.{misplaced}
use Rattle.steps.proofs.Run.{room_line}
use Rattle.steps.proofs.Ends.{barred, end_full, end_put, end_fits}
use Rattle.steps.proofs.Exits.{exit_err, exit_none}
use Rattle.steps.proofs.version_marker.Goals as goal

pub returns-in_err-check : goal.returns-in_err-check
returns-in_err-check g c =
    let a = c.args in
    let s = g.S.Standing.state a.s.now in
    rw (exit_err c.from_residual.result c.in_err-check.field-0.0 c.from_residual.ensures.1)
    (barred version_marker s a.buf.now (misplaced Top s) (room_line version_marker s a.buf.now) refl c.in_err-check.field-0.0 c.in_err-check.ensures)

pub returns-in_err-put : goal.returns-in_err-put
returns-in_err-put g c =
    let a = c.args in
    let s = g.S.Standing.state a.s.now in
    let none = c.in_err-put.ensures.ok_part in
    rw (exit_none c.from_residual-in_err-put.result _ _ _ c.from_residual-in_err-put.ensures.1 c.in_err-put.ensures.value none)
    (end_full version_marker s a.buf.now (misplaced Top s) marker_bytes s.waiting refl refl refl c.in_ok-check.ensures c.copy.new.buf
    (rw (none, c.used.ensures) at c.copy.ensures))

pub overflow_add-result : goal.overflow_add-result
overflow_add-result g c =
    let a = c.args in
    omega (arith, c.used.ensures, c.used-2.ensures, end_fits a.buf.now c.used.result marker_bytes c.copy.new.buf c.in_ok-put.put (rw c.in_ok-put.ensures.ok_part at c.copy.ensures))

pub returns : goal.returns
returns g c =
    let a = c.args in
    let s = g.S.Standing.state a.s.now in
    rw (c.used-2.ensures, c.depth.ensures, c.waits.ensures)
    (end_put version_marker s a.buf.now (misplaced Top s) marker_bytes s.waiting refl refl refl c.in_ok-check.ensures c.copy.new.buf c.in_ok-put.put
    (rw (c.in_ok-put.ensures.ok_part, c.used.ensures) at c.copy.ensures))
