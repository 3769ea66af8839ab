-- `Utc::put_body` meets its contract: its parts side by side, each put behind the one before.
-- Assumes nothing.
use Rattle.std.proofs.Common.{arith}
use Rattle.timestamp.proofs.Body.{no_offset, fields_room, no_fields, fraction_room, no_fraction_put, body_put}
use Rattle.timestamp.proofs.Utc.put_body.Goals as goal

pub returns-in_err-one : goal.returns-in_err-one
returns-in_err-one c =
    let a = c.args in
    absurd (no_offset a.buf.now a.at a.self.t c.requires _ (rw c.offset_parts-negative.ensures at c.in_err-one.ensures))

pub overflow_add-at : goal.overflow_add-at
overflow_add-at c =
    let a = c.args in
    omega (arith, fields_room a.buf.now a.at a.self.t c.requires _ _ (rw c.offset_parts-negative.ensures at c.in_ok-one.ensures))

pub put_fields-requires : goal.put_fields-requires
put_fields-requires c =
    let a = c.args in
    (fields_room a.buf.now a.at a.self.t c.requires _ _ (rw c.offset_parts-negative.ensures at c.in_ok-one.ensures)).0

pub returns-in_err-two : goal.returns-in_err-two
returns-in_err-two c =
    let a = c.args in
    let one = rw c.offset_parts-negative.ensures at c.in_ok-one.ensures in
    absurd (no_fields a.buf.now a.at a.self.t c.requires _ _ one _ c.in_err-two.ensures)

pub overflow_add-at-2 : goal.overflow_add-at-2
overflow_add-at-2 c =
    let a = c.args in
    let one = rw c.offset_parts-negative.ensures at c.in_ok-one.ensures in
    omega (arith, fraction_room a.buf.now a.at a.self.t c.requires _ _ one _ _ c.in_ok-two.ensures)

pub overflow_add-at-3 : goal.overflow_add-at-3
overflow_add-at-3 c =
    let a = c.args in
    let one = rw c.offset_parts-negative.ensures at c.in_ok-one.ensures in
    omega (arith, fraction_room a.buf.now a.at a.self.t c.requires _ _ one _ _ c.in_ok-two.ensures)

pub put_fraction-requires : goal.put_fraction-requires
put_fraction-requires c =
    let a = c.args in
    let one = rw c.offset_parts-negative.ensures at c.in_ok-one.ensures in
    omega (arith, fraction_room a.buf.now a.at a.self.t c.requires _ _ one _ _ c.in_ok-two.ensures)

pub returns-in_err-three : goal.returns-in_err-three
returns-in_err-three c =
    let a = c.args in
    let one = rw c.offset_parts-negative.ensures at c.in_ok-one.ensures in
    absurd (no_fraction_put a.buf.now a.at a.self.t c.requires _ _ one _ _ c.in_ok-two.ensures _ (omega arith) _ c.in_err-three.ensures)

pub overflow_add-result : goal.overflow_add-result
overflow_add-result c =
    let a = c.args in
    let one = rw c.offset_parts-negative.ensures at c.in_ok-one.ensures in
    omega (arith, (body_put a.buf.now a.at a.self.t c.requires _ _ one _ _ c.in_ok-two.ensures _ (omega arith) _ _ c.in_ok-three.ensures).1)

pub overflow_add-result-2 : goal.overflow_add-result-2
overflow_add-result-2 c =
    let a = c.args in
    let one = rw c.offset_parts-negative.ensures at c.in_ok-one.ensures in
    omega (arith, (body_put a.buf.now a.at a.self.t c.requires _ _ one _ _ c.in_ok-two.ensures _ (omega arith) _ _ c.in_ok-three.ensures).1)

pub returns : goal.returns
returns c =
    let a = c.args in
    let one = rw c.offset_parts-negative.ensures at c.in_ok-one.ensures in
    (body_put a.buf.now a.at a.self.t c.requires _ _ one _ _ c.in_ok-two.ensures _ (omega arith) _ _ c.in_ok-three.ensures).0
