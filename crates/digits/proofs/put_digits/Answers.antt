-- Each turn lays one digit more before those that are laid. Assumes nothing.
use mathlib.Core.Path.{◌≡◌, sym, ◌∙◌, ap}
use mathlib.Core.List.{[], ◌∷◌, append-nil}
use Prim.Native.Nat.{suc, ◌+◌, ◌-◌, ◌%◌}
use native.Mathlib.Omega.{arith}
use native.Mathlib.Nat.{add-zero}
use Rattle.encoding.specs.Digits.{low_digits}
use Rattle.encoding.proofs.Digits.{length-low_digits, low_digits-next, low_digits-none}
use Rattle.buffer.specs.Laid.{laid}
use Rattle.buffer.proofs.Laid.{laid_nil, laid_cons, no_room, placed_by, placed_full, room}
use Rattle.digits.proofs.put_digits.Goals as goal

pub returns-then-not-has_room : goal.returns-then-not-has_room
returns-then-not-has_room c = let a = c.args in
    let h = no_room _ a.buf.now _ c.has_room.ensures c.if-not-has_room.true in
    sym (placed_full a.buf.now a.at (low_digits (a.greatest + 1) a.count a.value)
    (omega (arith, length-low_digits (a.greatest + 1) a.count a.value)))

pub loop-i-init : goal.loop-i-init
loop-i-init c = let a = c.args in
    (room _ a.buf.now _ c.has_room.ensures c.if-not-has_room.false, [], omega arith, sym (laid_nil a.buf.now (a.at + a.count)), append-nil _)

pub loop-i-preserved : goal.loop-i-preserved
loop-i-preserved c = let a = c.args in
    let l = c.loop-i in
    let b = a.greatest + 1 in
    let d = l.invariant.1 in
    let j : l.i ≡ suc (l.i - 1) = omega arith in
    let f : a.at + l.i ≡ a.at + (l.i - 1) + 1 = omega arith in
    rw c.from-base.ensures (
      omega arith,
      l.rest % b ∷ d,
      omega arith,
      rw (l.invariant.3, f) (laid_cons a.buf.now (a.at + (l.i - 1)) d (l.rest % b) (omega arith)),
      sym (low_digits-next b (l.i - 1) l.rest d) ∙ rw (← j) l.invariant.4,
    )

pub returns : goal.returns
returns c = let a = c.args in
    let l = c.loop-i in
    let b = a.greatest + 1 in
    let n = length-low_digits b a.count a.value in
    let z : l.i ≡ 0 = omega arith in
    placed_by a.buf.now a.at (low_digits b a.count a.value) a.count l.buf (omega (arith, n)) (sym n)
    (l.invariant.3 ∙ rw (z, add-zero) (ap (laid a.buf.now a.at) (sym (low_digits-none b l.rest l.invariant.1) ∙ rw z at l.invariant.4)))
