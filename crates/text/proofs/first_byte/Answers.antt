-- The answers for a first byte are the rest of the alternative that it begins: each test passes one more of those, which ascend.
-- Assumes nothing.
use mathlib.Core.Path.{sym, ◌∙◌}
use native.Mathlib.Omega.{arith}
use Rattle.ion.specs.Text.{characters}
use Rattle.text.proofs.Begun.{begun_above, begun-below, begun_in}
use Rattle.text.proofs.first_byte.Goals as goal

pub returns-then-b-lt128 : goal.returns-then-b-lt128
returns-then-b-lt128 c = rw c.tails.ensures (sym (begun_in _ _ _ _ (omega arith) (omega arith)))

pub returns-then-b-lt194 : goal.returns-then-b-lt194
returns-then-b-lt194 c = sym (begun_above 1 characters _ (omega arith) ∙ begun-below _ _ (omega arith))

pub returns-then-b-lt224 : goal.returns-then-b-lt224
returns-then-b-lt224 c = rw c.tails-then-b-lt224.ensures (sym (begun_above 1 characters _ (omega arith) ∙ begun_in _ _ _ _ (omega arith) (omega arith)))

pub returns-then-b-eq224 : goal.returns-then-b-eq224
returns-then-b-eq224 c = sym (begun_above 2 characters _ (omega arith) ∙ begun_in _ _ _ _ (omega arith) (omega arith))

pub returns-then-b-lt237 : goal.returns-then-b-lt237
returns-then-b-lt237 c = rw c.tails-then-b-lt237.ensures (sym (begun_above 3 characters _ (omega arith) ∙ begun_in _ _ _ _ (omega arith) (omega arith)))

pub returns-then-b-eq237 : goal.returns-then-b-eq237
returns-then-b-eq237 c = sym (begun_above 4 characters _ (omega arith) ∙ begun_in _ _ _ _ (omega arith) (omega arith))

pub returns-then-b-lt240 : goal.returns-then-b-lt240
returns-then-b-lt240 c = rw c.tails-then-b-lt240.ensures (sym (begun_above 5 characters _ (omega arith) ∙ begun_in _ _ _ _ (omega arith) (omega arith)))

pub returns-then-b-eq240 : goal.returns-then-b-eq240
returns-then-b-eq240 c = sym (begun_above 6 characters _ (omega arith) ∙ begun_in _ _ _ _ (omega arith) (omega arith))

pub returns-then-b-lt244 : goal.returns-then-b-lt244
returns-then-b-lt244 c = rw c.tails-then-b-lt244.ensures (sym (begun_above 7 characters _ (omega arith) ∙ begun_in _ _ _ _ (omega arith) (omega arith)))

pub returns-then-b-eq244 : goal.returns-then-b-eq244
returns-then-b-eq244 c = sym (begun_above 8 characters _ (omega arith) ∙ begun_in _ _ _ _ (omega arith) (omega arith))

pub returns : goal.returns
returns c = sym (begun_above 9 characters _ (omega arith) ∙ begun-below _ _ tt)
