-- `place::containers_fit` meets its contract. The loop's invariant: the containers fit exactly if the first i do, before the limit.
-- Assumes nothing.
use Rattle.std.proofs.Common.{refl, sym, ◌∙◌, arith}
use Rattle.place.proofs.Laws.{chain_step, chain_none}
use Rattle.place.proofs.containers_fit.Goals as goal

pub returns-then-not-container_fits : goal.returns-then-not-container_fits
returns-then-not-container_fits g c =
    let cs = (g.S.Standing.state c.args.s.now).containers in
    sym (c.loop-i.invariant ∙ (chain_step cs c.loop-i.i c.loop-i.limit c.loop-i-test.true
    ∙ rw (← c.container-c.ensures, ← c.container_fits.ensures, c.if-not-container_fits.true) refl))

pub loop-i-preserved : goal.loop-i-preserved
loop-i-preserved g c =
    let cs = (g.S.Standing.state c.args.s.now).containers in
    c.loop-i.invariant ∙ (chain_step cs c.loop-i.i c.loop-i.limit c.loop-i-test.true
    ∙ rw (← c.container-c.ensures, ← c.container_fits.ensures, c.if-not-container_fits.false) refl)

pub returns : goal.returns
returns g c =
    let cs = (g.S.Standing.state c.args.s.now).containers in
    sym (c.loop-i.invariant ∙ chain_none cs c.loop-i.i c.loop-i.limit (omega arith))
