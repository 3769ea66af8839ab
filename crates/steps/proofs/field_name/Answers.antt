-- `steps::field_name` meets its contract: refused by place or for room, or put at the end of the used bytes.
-- Assumes nothing.
use Rattle.std.proofs.Common.{true, refl, arith}
use Rattle.encoding.specs.Fields.{var_uint_bytes}
use Rattle.machine.specs.Call.{name}
use Rattle.place.specs.declared.CallKind.TheVariants.{Name}
use Rattle.place.specs.Misplaced.{misplaced}
use Rattle.steps.proofs.Run.{room_line}
use Rattle.steps.proofs.Ends.{barred, end_full, end_put, end_fits}
use Rattle.steps.proofs.Exits.{exit_err, exit_none}
use Rattle.steps.proofs.field_name.Goals as goal

pub returns-in_err-check : goal.returns-in_err-check
returns-in_err-check g c =
    let a = c.args in
    let s = g.S.Standing.state a.s.now in
    rw (exit_err c.from_residual.result c.in_err-check.field-0.0 c.from_residual.ensures.1)
    (barred (name a.sid) s a.buf.now (misplaced Name s) (room_line (name a.sid) s a.buf.now) refl c.in_err-check.field-0.0 c.in_err-check.ensures)

pub returns-in_err-put : goal.returns-in_err-put
returns-in_err-put g c =
    let a = c.args in
    let s = g.S.Standing.state a.s.now in
    let none = c.in_err-put.ensures.ok_part in
    rw (exit_none c.from_residual-in_err-put.result _ _ _ c.from_residual-in_err-put.ensures.1 c.in_err-put.ensures.value none)
    (end_full (name a.sid) s a.buf.now (misplaced Name s) (var_uint_bytes a.sid) true refl refl refl c.in_ok-check.ensures c.write.new.buf
    (rw (none, c.used.ensures) at c.write.ensures))

pub overflow_add-result : goal.overflow_add-result
overflow_add-result g c =
    let a = c.args in
    omega (arith, c.used.ensures, c.used-2.ensures, end_fits a.buf.now c.used.result (var_uint_bytes a.sid) c.write.new.buf c.in_ok-put.put (rw c.in_ok-put.ensures.ok_part at c.write.ensures))

pub returns : goal.returns
returns g c =
    let a = c.args in
    let s = g.S.Standing.state a.s.now in
    rw (c.used-2.ensures, c.depth.ensures)
    (end_put (name a.sid) s a.buf.now (misplaced Name s) (var_uint_bytes a.sid) true refl refl refl c.in_ok-check.ensures c.write.new.buf c.in_ok-put.put
    (rw (c.in_ok-put.ensures.ok_part, c.used.ensures) at c.write.ensures))
