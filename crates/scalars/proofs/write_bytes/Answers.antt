-- A header, and the bytes behind it. Assumes nothing.
use native.Mathlib.Omega.{arith}
use Prim.Native.Nat.{ℕ, ◌+◌, ◌*◌, ◌/◌, ◌≤◌}
use mathlib.Core.Path.{◌≡◌, refl, sym, ◌∙◌}
use mathlib.Core.Bool.{Bool, true}
use mathlib.Core.List.{List}
use lib.Dec.{leb}
use lib.ListN.{length}
use Rattle.encoding.specs.Headers.{framed_bytes, header_bytes}
use Rattle.encoding.proofs.Headers.{length-framed}
use Rattle.buffer.proofs.Laid.{no_room, placed_full, room}
use Rattle.decimal.proofs.Values.{header_count, no_body, no_header, placed-framed, value_count}
use Rattle.scalars.proofs.Puts.{written_framed}
use Rattle.scalars.proofs.write_bytes.Goals as goal

-- the test of the room passed: header and body fit
fits : (r : Bool) (b : List ℕ) (at size : ℕ) → r ≡ leb (at + size) (length b) → r ≡ true → (bytes : List ℕ)
    → ((t : ℕ) (l : List ℕ) → length l ≡ length bytes → size ≡ length (framed_bytes t l)) → at + (length (header_bytes 0 (length bytes)) + length bytes) ≤ length b
fits r b at size e h bytes s = omega (arith, room r b (at + size) e h, s 0 bytes refl, length-framed 0 bytes)

pub returns-then-not-has_room : goal.returns-then-not-has_room
returns-then-not-has_room c = let a = c.args in
    let t = a.code / 16 * 16 in
    let h = no_room _ a.buf.now _ c.has_room.ensures c.if-not-has_room.true in
    sym (written_framed a.buf.now a.at t a.bytes.now ∙ placed_full a.buf.now a.at (framed_bytes t a.bytes.now) (omega (arith, c.framed_size.ensures t a.bytes.now refl)))

pub returns-in_err-header : goal.returns-in_err-header
returns-in_err-header c = let a = c.args in
    absurd (no_header a.buf.now a.at (a.code / 16 * 16) a.bytes.now _ (fits _ a.buf.now a.at _ c.has_room.ensures c.if-not-has_room.false a.bytes.now c.framed_size.ensures) c.in_err-header.ensures)

pub overflow_add-at : goal.overflow_add-at
overflow_add-at c = let a = c.args in
    omega (
      arith,
      fits _ a.buf.now a.at _ c.has_room.ensures c.if-not-has_room.false a.bytes.now c.framed_size.ensures,
      header_count a.buf.now a.at (a.code / 16 * 16) a.bytes.now _ _ c.in_ok-header.ensures,
    )

pub returns-in_err-body : goal.returns-in_err-body
returns-in_err-body c = let a = c.args in
    absurd (no_body a.buf.now a.at (a.code / 16 * 16) a.bytes.now _ _ c.in_ok-header.ensures (fits _ a.buf.now a.at _ c.has_room.ensures c.if-not-has_room.false a.bytes.now c.framed_size.ensures) _ c.in_err-body.ensures)

pub overflow_add-result : goal.overflow_add-result
overflow_add-result c = let a = c.args in
    omega (
      arith,
      fits _ a.buf.now a.at _ c.has_room.ensures c.if-not-has_room.false a.bytes.now c.framed_size.ensures,
      value_count a.buf.now a.at (a.code / 16 * 16) a.bytes.now _ _ c.in_ok-header.ensures _ _ c.in_ok-body.ensures,
    )

pub returns : goal.returns
returns c = let a = c.args in
    let t = a.code / 16 * 16 in
    placed-framed a.buf.now a.at t a.bytes.now _ _ c.in_ok-header.ensures _ _ c.in_ok-body.ensures ∙ sym (written_framed a.buf.now a.at t a.bytes.now)
