-- Zeros are laid from the start on. By the law of a splice of nothing. Assumes nothing.
use mathlib.Core.Path.{◌≡◌, sym, ◌∙◌, ap}
use mathlib.Core.Bool.{true, ◌&&◌, and-eq-true_iff}
use mathlib.Core.List.{List}
use Prim.Native.Nat.{ℕ, ◌≤◌}
use native.Mathlib.Omega.{arith}
use lib.Dec.{leb}
use lib.ListN.{length}
use borrow.Author.Tests.{leb-true}
use Rattle.containers.proofs.Closed.{abandoned_on-fits, abandoned_on_not}
use Rattle.containers.proofs.Splice.{splice_nil}
use Rattle.containers.proofs.abandon.Goals as goal

in_order : (start used n : ℕ) → (leb start used && leb used n) ≡ true → (start ≤ used) × (used ≤ n)
in_order start used n e = let k = (and-eq-true_iff (leb start used) (leb used n)).0 e in (leb-true start used k.0, leb-true used n k.1)

pub returns-then-not-start-used : goal.returns-then-not-start-used
returns-then-not-start-used c = let a = c.args in sym (abandoned_on_not a.used a.start a.buf.now c.if-not-start-used.true)

pub returns : goal.returns
returns c = let a = c.args in
    let k = in_order a.start a.used (length a.buf.now) c.if-not-start-used.false in
    rw c.clear.ensures (sym (abandoned_on-fits a.used a.start a.buf.now c.if-not-start-used.false
    ∙ ap (λ (l : List ℕ). (true, l)) (splice_nil a.used a.start a.buf.now (omega (arith, k)))))
