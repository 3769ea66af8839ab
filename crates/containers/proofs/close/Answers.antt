-- The plain close and the annotated one put the bytes of the definition. Assumes nothing.
use mathlib.Core.Path.{sym}
use mathlib.Core.Bool.{and-eq-true_iff}
use mathlib.Core.Logic.{⊎_elim}
use native.Mathlib.Omega.{arith}
use lib.Dec.{leb}
use lib.ListN.{length}
use borrow.Author.Tests.{leb-true}
use Rattle.machine.specs.Machine.{container_fits}
use Rattle.machine.proofs.Fit.{fit}
use Rattle.containers.proofs.Closed.{closed_on_not}
use Rattle.containers.proofs.close.Goals as goal

pub returns-then-not-container_fits-used : goal.returns-then-not-container_fits-used
returns-then-not-container_fits-used c = let a = c.args in
    sym (closed_on_not a.c a.used a.buf.now (rw c.container_fits.ensures at c.if-not-container_fits-used.true))

pub close_annotated-requires : goal.close_annotated-requires
close_annotated-requires c = let a = c.args in
    let k = (and-eq-true_iff (container_fits a.used a.c) (leb a.used (length a.buf.now))).0 (rw c.container_fits.ensures at c.if-not-container_fits-used.false) in
    (⊎_elim (λ e. absurd (c.if-c.false e)) (λ h. omega arith) (fit a.c a.used k.0).apart, leb-true a.used (length a.buf.now) k.1)
