-- Nothing where check 8 refuses or the room is short, else header and body side by side. Assumes nothing.
use native.Mathlib.Omega.{arith}
use Rattle.buffer.proofs.Laid.{no_room, room}
use Rattle.decimal.proofs.Decimals.{refused, value_fits, full, header_put, behind, body_is_put, whole, whole_count}
use Rattle.decimal.proofs.Decimal.write.Goals as goal

pub returns-then-body-gt-MAX_BODY : goal.returns-then-body-gt-MAX_BODY
returns-then-body-gt-MAX_BODY c = let a = c.args in rw (refused a.self.coefficient.negative a.self.coefficient.magnitude.now a.self.exponent c.body_size-body.result c.body_size-body.ensures c.if-body-gt-MAX_BODY.true)

pub overflow_add-size : goal.overflow_add-size
overflow_add-size c = let a = c.args in value_fits a.self.coefficient.negative a.self.coefficient.magnitude.now a.self.exponent _ c.body_size-body.ensures (omega arith) _ c.encoded_size_of.ensures

pub returns-then-not-has_room : goal.returns-then-not-has_room
returns-then-not-has_room c = let a = c.args in
    full a.self.coefficient.negative a.self.coefficient.magnitude.now a.self.exponent a.buf.now a.at _ _ c.body_size-body.ensures (omega arith) c.encoded_size_of.ensures (no_room _ a.buf.now _ c.has_room.ensures c.if-not-has_room.true)

pub returns-in_err-header : goal.returns-in_err-header
returns-in_err-header c = let a = c.args in
    absurd (header_put a.self.coefficient.negative a.self.coefficient.magnitude.now a.self.exponent a.buf.now a.at _ _ c.body_size-body.ensures (omega arith) c.encoded_size_of.ensures (room _ a.buf.now _ c.has_room.ensures c.if-not-has_room.false) _ c.in_err-header.ensures)

pub overflow_add-at : goal.overflow_add-at
overflow_add-at c = let a = c.args in
    omega (arith, behind a.self.coefficient.negative a.self.coefficient.magnitude.now a.self.exponent a.buf.now a.at _ _ c.body_size-body.ensures (omega arith) c.encoded_size_of.ensures (room _ a.buf.now _ c.has_room.ensures c.if-not-has_room.false) _ _ c.in_ok-header.ensures)

pub put_body-requires : goal.put_body-requires
put_body-requires c = let a = c.args in
    (c.body_size-body.ensures, behind a.self.coefficient.negative a.self.coefficient.magnitude.now a.self.exponent a.buf.now a.at _ _ c.body_size-body.ensures (omega arith) c.encoded_size_of.ensures (room _ a.buf.now _ c.has_room.ensures c.if-not-has_room.false) _ _ c.in_ok-header.ensures)

pub returns-in_err-rest : goal.returns-in_err-rest
returns-in_err-rest c = let a = c.args in
    absurd (body_is_put a.self.coefficient.negative a.self.coefficient.magnitude.now a.self.exponent a.buf.now a.at _ _ c.body_size-body.ensures (omega arith) c.encoded_size_of.ensures (room _ a.buf.now _ c.has_room.ensures c.if-not-has_room.false) _ _ c.in_ok-header.ensures _ c.in_err-rest.ensures)

pub overflow_add-result : goal.overflow_add-result
overflow_add-result c = let a = c.args in
    let fits = (room _ a.buf.now _ c.has_room.ensures c.if-not-has_room.false) in
    omega (arith, whole_count a.self.coefficient.negative a.self.coefficient.magnitude.now a.self.exponent a.buf.now a.at _ _ c.body_size-body.ensures (omega arith) c.encoded_size_of.ensures fits _ _ c.in_ok-header.ensures _ _ c.in_ok-rest.ensures)

pub returns : goal.returns
returns c = let a = c.args in
    whole a.self.coefficient.negative a.self.coefficient.magnitude.now a.self.exponent a.buf.now a.at _ _ c.body_size-body.ensures (omega arith) c.encoded_size_of.ensures (room _ a.buf.now _ c.has_room.ensures c.if-not-has_room.false) _ _ c.in_ok-header.ensures _ _ c.in_ok-rest.ensures
