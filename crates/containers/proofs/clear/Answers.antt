-- A part is filled with zeros, or nothing is. Assumes nothing.
use mathlib.Core.Path.{◌≡◌, sym, ◌∙◌, ap}
use Prim.Native.Nat.{ℕ, ◌-◌}
use native.Mathlib.Omega.{arith}
use borrow.Author.Rules.{rules}
use lib.ListN.{replicate, length-replicate}
use Rattle.buffer.proofs.Laid.{laid_nil, laid_part}
use Rattle.containers.proofs.Moves.{length_part}
use Rattle.containers.proofs.clear.Goals as goal

pub returns-then-from-to : goal.returns-then-from-to
returns-then-from-to c = let a = c.args in
    let n = a.to - a.from in
    let filled = c.fill.ensures.after (λ y h. search rules) ∙ ap (λ (k : ℕ). replicate k 0) (length_part a.buf.now a.from n (omega arith)) in
    laid_part a.buf.now a.from a.to (replicate n 0) _ filled (omega (arith, length-replicate {A = ℕ} n 0))

pub returns-else-from-to : goal.returns-else-from-to
returns-else-from-to c = let a = c.args in
    let z : a.to - a.from ≡ 0 = omega arith in
    rw z (sym (laid_nil a.buf.now a.from))
