-- `state_bytes::containers_fit` meets its contract: container by container, from the innermost outwards.
-- Assumes nothing.
use Rattle.std.proofs.Common.{◌-◌, refl, sym, ◌∙◌}
use native.Mathlib.Omega.{arith}
use Rattle.place.proofs.Laws.{chain_none}
use Rattle.state_bytes.specs.StateBytes.{place_of, container_at, state_of}
use Rattle.state_bytes.proofs.Laws.{chain_unfit, chain_fit}
use Rattle.state_bytes.proofs.containers_fit.Goals as goal

pub returns-then-not-container_fits : goal.returns-then-not-container_fits
returns-then-not-container_fits c = let a = c.args in
    sym (c.loop-i.invariant.1
    ∙ chain_unfit a.st.now c.loop-i.i c.loop-i.limit (container_at a.st.now (place_of (c.loop-i.i - 1))) c.told-st c.loop-i-test.true
    c.loop-i.invariant.0 refl (sym c.container_fits.ensures ∙ c.if-not-container_fits.true))

pub loop-i-preserved : goal.loop-i-preserved
loop-i-preserved c = let a = c.args in (
  omega arith,
  c.loop-i.invariant.1
      ∙ chain_fit a.st.now c.loop-i.i c.loop-i.limit (container_at a.st.now (place_of (c.loop-i.i - 1))) c.told-st c.loop-i-test.true
      c.loop-i.invariant.0 refl (sym c.container_fits.ensures ∙ c.if-not-container_fits.false)
      ∙ rw c.get_four-limit.ensures,
)

pub returns : goal.returns
returns c = let a = c.args in
    sym (c.loop-i.invariant.1 ∙ chain_none (state_of a.st.now).containers c.loop-i.i c.loop-i.limit (omega arith))
