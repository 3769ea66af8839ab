-- `header::write` meets its contract: one byte, or one and a VarUInt behind it.
-- By the law of two placed runs. Assumes nothing.
use mathlib.Core.Path.{◌≡◌, sym, ◌∙◌, ap}
use mathlib.Core.List.{[], ◌∷◌}
use mathlib.Core.List.{List}
use mathlib.Core.Bool.{Bool, true}
use Prim.Native.Nat.{ℕ, ◌+◌, ◌*◌, ◌/◌, ◌≤◌}
use native.Mathlib.Omega.{arith}
use lib.Dec.{leb}
use lib.ListN.{length}
use Rattle.encoding.specs.Fields.{var_uint_bytes}
use Rattle.encoding.specs.Headers.{header_bytes}
use Rattle.buffer.specs.Laid.{placed}
use Rattle.buffer.proofs.Laid.{placed-some, placed-room, placed_then, placed_then_none, room}
use Rattle.encoding.proofs.Sizes.{var_uint-most}
use Rattle.encoding.proofs.Headers.{header_short, header_long}
use borrow.Author.Rules.{rules}
use Rattle.header.proofs.write.Goals as goal

-- the bytes fit that the size counts
fits : (b : List ℕ) (at body : ℕ) (r : Bool) (size : ℕ) → 14 ≤ body → size ≡ length (header_bytes 0 body) → r ≡ leb (at + size) (length b) → r ≡ true
    → at + (1 + length (var_uint_bytes body)) ≤ length b
fits b at body r size h s e f = let k = room r b _ e f in omega (arith, ap length (header_long 0 body h))

pub returns-then-body-lt-LONG : goal.returns-then-body-lt-LONG
returns-then-body-lt-LONG c = let a = c.args in
    c.put.ensures ∙ ap (placed a.buf.now a.at) (sym (header_short (a.code / 16 * 16) a.body (omega arith)))

pub returns-in_err-one : goal.returns-in_err-one
returns-in_err-one c = let a = c.args in
    let h = fits a.buf.now a.at a.body _ _ (omega arith) c.encoded_size_of-size.ensures c.has_room.ensures c.if-not-has_room.false in
    absurd (placed-room a.buf.now a.at ((a.code / 16 * 16 + 14) ∷ []) _ (omega arith) c.in_err-one.ensures)

pub overflow_add-at : goal.overflow_add-at
overflow_add-at c = let a = c.args in
    let p = placed-some a.buf.now a.at ((a.code / 16 * 16 + 14) ∷ []) _ _ c.in_ok-one.ensures in
    omega arith

pub returns-in_err-more : goal.returns-in_err-more
returns-in_err-more c = let a = c.args in
    let h = fits a.buf.now a.at a.body _ _ (omega arith) c.encoded_size_of-size.ensures c.has_room.ensures c.if-not-has_room.false in
    let k = placed_then_none a.buf.now a.at ((a.code / 16 * 16 + 14) ∷ []) _ _ c.in_ok-one.ensures (var_uint_bytes a.body) _ c.in_err-more.ensures in
    absurd (omega arith)

pub overflow_add-result : goal.overflow_add-result
overflow_add-result c = let a = c.args in
    let p = placed-some a.buf.now a.at ((a.code / 16 * 16 + 14) ∷ []) _ _ c.in_ok-one.ensures in
    let q = placed-some _ _ (var_uint_bytes a.body) _ _ c.in_ok-more.ensures in
    omega (arith, var_uint-most a.body (search rules))

pub returns : goal.returns
returns c = let a = c.args in
    let t = a.code / 16 * 16 in
    placed_then a.buf.now a.at ((t + 14) ∷ []) _ _ c.in_ok-one.ensures (var_uint_bytes a.body) _ _ c.in_ok-more.ensures
    ∙ ap (placed a.buf.now a.at) (sym (header_long t a.body (omega arith)))
