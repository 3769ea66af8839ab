-- `Utc::put` meets its contract: nothing where the room is short, else header and body side by side.
-- Assumes nothing.
use Rattle.std.proofs.Common.{◌+◌, sym, arith}
use Rattle.ion.specs.Value.{timestamp_code}
use Rattle.encoding.specs.Headers.{type_byte}
use Rattle.buffer.proofs.Laid.{placed_full, no_room, room}
use Rattle.timestamp.specs.Small.{body_of, value_of}
use Rattle.timestamp.proofs.Values.{value_length, value_fits, no_header, bytes_room, no_bytes, framed_put}
use Rattle.timestamp.proofs.Utc.put.Goals as goal

pub overflow_add-size : goal.overflow_add-size
overflow_add-size c = let u = c.args.self in value_fits u.t u.small _ c.body_size-body.ensures _ c.encoded_size_of.ensures

pub returns-then-not-has_room : goal.returns-then-not-has_room
returns-then-not-has_room c =
    let a = c.args in
    let short = no_room _ a.buf.now _ c.has_room.ensures c.if-not-has_room.true in
    let e = value_length a.self.t a.self.small _ c.body_size-body.ensures _ c.encoded_size_of.ensures in
    sym (placed_full a.buf.now a.at (value_of a.self.t) (rw e at short))

pub returns-in_err-header : goal.returns-in_err-header
returns-in_err-header c =
    let a = c.args in
    let fits = room _ a.buf.now _ c.has_room.ensures c.if-not-has_room.false in
    absurd (no_header a.buf.now a.at (type_byte timestamp_code) (body_of a.self.t) _ _ c.body_size-body.ensures c.encoded_size_of.ensures fits _ c.in_err-header.ensures)

pub overflow_add-at : goal.overflow_add-at
overflow_add-at c =
    let a = c.args in
    let fits = room _ a.buf.now _ c.has_room.ensures c.if-not-has_room.false in
    omega (
      arith,
      bytes_room a.buf.now a.at (type_byte timestamp_code) (body_of a.self.t) _ _ c.body_size-body.ensures c.encoded_size_of.ensures fits
          _ _ c.in_ok-header.ensures,
    )

pub put_body-requires : goal.put_body-requires
put_body-requires c =
    let a = c.args in
    let fits = room _ a.buf.now _ c.has_room.ensures c.if-not-has_room.false in
    (bytes_room a.buf.now a.at (type_byte timestamp_code) (body_of a.self.t) _ _ c.body_size-body.ensures c.encoded_size_of.ensures fits
    _ _ c.in_ok-header.ensures).0

pub returns-in_err-rest : goal.returns-in_err-rest
returns-in_err-rest c =
    let a = c.args in
    let fits = room _ a.buf.now _ c.has_room.ensures c.if-not-has_room.false in
    absurd (no_bytes a.buf.now a.at (type_byte timestamp_code) (body_of a.self.t) _ _ c.body_size-body.ensures c.encoded_size_of.ensures fits
    _ _ c.in_ok-header.ensures _ c.in_err-rest.ensures)

pub overflow_add-result : goal.overflow_add-result
overflow_add-result c =
    let a = c.args in
    let fits = room _ a.buf.now (a.at + (c.encoded_size_of.result + c.body_size-body.result)) c.has_room.ensures c.if-not-has_room.false in
    let put =
    framed_put a.buf.now a.at (type_byte timestamp_code) (body_of a.self.t) _ _ c.body_size-body.ensures c.encoded_size_of.ensures fits
    _ _ c.in_ok-header.ensures _ _ c.in_ok-rest.ensures in
    omega (arith, fits, put.1)

pub returns : goal.returns
unfolding value_of
returns c =
    let a = c.args in
    let fits = room _ a.buf.now _ c.has_room.ensures c.if-not-has_room.false in
    (framed_put a.buf.now a.at (type_byte timestamp_code) (body_of a.self.t) _ _ c.body_size-body.ensures c.encoded_size_of.ensures fits
    _ _ c.in_ok-header.ensures _ _ c.in_ok-rest.ensures).0
