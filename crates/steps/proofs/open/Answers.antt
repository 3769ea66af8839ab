-- `steps::open` meets its contract: refused by place, by depth or for room, or put at the end of the used bytes.
-- Assumes nothing.
use Rattle.std.proofs.Common.{refl, arith}
use Rattle.annotations.specs.Sids.{sids_of}
use Rattle.machine.specs.Call.{opening}
use Rattle.place.specs.declared.CallKind.TheVariants.{Value}
use Rattle.place.specs.Misplaced.{misplaced}
use Rattle.steps.specs.Kinds.{kind_of}
use Rattle.steps.proofs.Run.{past-place}
use Rattle.steps.proofs.Containers.{opening_lines, opening_refused, opening_head, opening_deep, opening_fits}
use Rattle.steps.proofs.Ends.{barred}
use Rattle.steps.proofs.Exits.{exit_err, exit_none}
use Rattle.steps.proofs.open.Goals as goal

pub returns-in_err-check-clause-call : goal.returns-in_err-check-clause-call
returns-in_err-check-clause-call g c =
    let a = c.args in
    let s = g.S.Standing.state a.s.now in
    let an = sids_of a.annotations.now in
    rw (exit_err c.from_residual.result c.in_err-check.field-0.0 c.from_residual.ensures.1)
    (barred (opening an (kind_of a.kind)) s a.buf.now (misplaced Value s) (opening_lines an s a.buf.now) refl c.in_err-check.field-0.0 c.in_err-check.ensures)

pub returns-then-depth-ge-MOST_OPEN-clause-call : goal.returns-then-depth-ge-MOST_OPEN-clause-call
returns-then-depth-ge-MOST_OPEN-clause-call g c =
    let a = c.args in
    let s = g.S.Standing.state a.s.now in
    let an = sids_of a.annotations.now in
    opening_deep an (kind_of a.kind) s a.buf.now
    (past-place (opening an (kind_of a.kind)) s a.buf.now (misplaced Value s) (opening_lines an s a.buf.now) refl c.in_ok-check.ensures)
    (rw c.depth-depth.ensures at c.if-depth-ge-MOST_OPEN.true)

pub returns-in_err-put-clause-call : goal.returns-in_err-put-clause-call
returns-in_err-put-clause-call g c =
    let a = c.args in
    let s = g.S.Standing.state a.s.now in
    let an = sids_of a.annotations.now in
    let none = c.in_err-put.ensures.ok_part in
    rw (exit_none c.from_residual-in_err-put.result _ _ _ c.from_residual-in_err-put.ensures.1 c.in_err-put.ensures.value none)
    (opening_refused an (kind_of a.kind) s a.buf.now c.open.new.buf
    (past-place (opening an (kind_of a.kind)) s a.buf.now (misplaced Value s) (opening_lines an s a.buf.now) refl c.in_ok-check.ensures)
    (rw c.depth-depth.ensures at c.if-depth-ge-MOST_OPEN.false) (rw (none, c.used-used.ensures) at c.open.ensures))

pub overflow_add-result : goal.overflow_add-result
overflow_add-result g c =
    let a = c.args in
    omega (
      arith,
      (opening_fits (sids_of a.annotations.now) a.buf.now c.used-used.result c.open.new.buf c.in_ok-put.put
          (rw c.in_ok-put.ensures.ok_part at c.open.ensures)).1,
    )

pub overflow_sub-result : goal.overflow_sub-result
overflow_sub-result g c =
    let a = c.args in
    (opening_fits (sids_of a.annotations.now) a.buf.now c.used-used.result c.open.new.buf c.in_ok-put.put (rw c.in_ok-put.ensures.ok_part at c.open.ensures)).0

pub returns-clause-call : goal.returns-clause-call
returns-clause-call g c =
    let a = c.args in
    let s = g.S.Standing.state a.s.now in
    let an = sids_of a.annotations.now in
    rw (c.used-used.ensures, c.depth-depth.ensures, c.into.ensures)
    (opening_head an (kind_of a.kind) s a.buf.now c.open.new.buf
    (past-place (opening an (kind_of a.kind)) s a.buf.now (misplaced Value s) (opening_lines an s a.buf.now) refl c.in_ok-check.ensures)
    (rw c.depth-depth.ensures at c.if-depth-ge-MOST_OPEN.false) c.in_ok-put.put (rw (c.in_ok-put.ensures.ok_part, c.used-used.ensures) at c.open.ensures))

pub overflow_add-result-3 : goal.overflow_add-result-3
overflow_add-result-3 g c =
    let a = c.args in
    omega (
      arith,
      (opening_fits (sids_of a.annotations.now) a.buf.now c.used-used.result c.open.new.buf c.in_ok-put.put
          (rw c.in_ok-put.ensures.ok_part at c.open.ensures)).1,
    )
