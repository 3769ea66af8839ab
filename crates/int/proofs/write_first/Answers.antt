-- `int::write_first` meets its contract: a byte, and a run behind it.
-- By the law of two placed runs. Assumes nothing.
use mathlib.Core.Path.{sym}
use mathlib.Core.List.{[], ◌∷◌}
use native.Mathlib.Omega.{arith}
use Rattle.buffer.proofs.Laid.{placed_full, placed-some, placed-room, placed_then, placed_then_none, no_room, room}
use Rattle.int.proofs.write_first.Goals as goal

pub returns-then-not-has_room : goal.returns-then-not-has_room
returns-then-not-has_room c = let a = c.args in
    let h = no_room c.has_room.result a.buf.now _ c.has_room.ensures c.if-not-has_room.true in
    sym (placed_full a.buf.now a.at (a.first ∷ a.rest.now) (omega arith))

pub returns-in_err-one : goal.returns-in_err-one
returns-in_err-one c = let a = c.args in
    let h = room c.has_room.result a.buf.now _ c.has_room.ensures c.if-not-has_room.false in
    absurd (placed-room a.buf.now a.at (a.first ∷ []) _ (omega arith) c.in_err-one.ensures)

pub overflow_add-at : goal.overflow_add-at
overflow_add-at c = let a = c.args in
    let p = placed-some a.buf.now a.at (a.first ∷ []) _ _ c.in_ok-one.ensures in
    omega arith

pub returns-in_err-more : goal.returns-in_err-more
returns-in_err-more c = let a = c.args in
    let h = room c.has_room.result a.buf.now _ c.has_room.ensures c.if-not-has_room.false in
    let k = placed_then_none a.buf.now a.at (a.first ∷ []) _ _ c.in_ok-one.ensures a.rest.now _ c.in_err-more.ensures in
    absurd (omega arith)

pub overflow_add-result : goal.overflow_add-result
overflow_add-result c = let a = c.args in
    let h = room c.has_room.result a.buf.now _ c.has_room.ensures c.if-not-has_room.false in
    let p = placed-some a.buf.now a.at (a.first ∷ []) _ _ c.in_ok-one.ensures in
    let q = placed-some _ _ a.rest.now _ _ c.in_ok-more.ensures in
    omega arith

pub returns : goal.returns
returns c = let a = c.args in
    placed_then a.buf.now a.at (a.first ∷ []) _ _ c.in_ok-one.ensures a.rest.now _ _ c.in_ok-more.ensures
