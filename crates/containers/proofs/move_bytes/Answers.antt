-- A part is copied, and where nothing moves it is laid where it lies. Assumes nothing.
use mathlib.Core.Path.{◌≡◌, refl, ◌∙◌, ap}
use native.Mathlib.Omega.{arith}
use Prim.Native.Nat.{ℕ}
use Rattle.buffer.specs.Laid.{laid}
use Rattle.containers.proofs.Moves.{part, pasted, moved_away, moved_nowhere, laid_same}
use Rattle.containers.proofs.move_bytes.Goals as goal

pub returns-then-from-to : goal.returns-then-from-to
returns-then-from-to c = let a = c.args in
    let all : c.len-moved.result ≡ a.count = omega (arith, c.len-moved.ensures) in (
      all ∙ moved_away a.from a.to a.count c.if-from-to.true,
      c.copy_within.ensures.after ∙ pasted a.buf.now a.from a.to _ a.count refl (omega arith),
    )

pub returns : goal.returns
returns c = let a = c.args in
    let e : a.to ≡ a.from = omega arith in (
      moved_nowhere a.from a.to a.count c.if-from-to.false,
      laid_same a.buf.now a.to a.count (omega arith) ∙ ap (λ (n : ℕ). laid a.buf.now a.to (part a.buf.now n a.count)) e,
    )
