-- `read_bodies::is_zero` meets its contract: the number is zero where all bytes are.
-- Assumes nothing.
use Rattle.std.proofs.Common.{◌∙◌, eqb, rules, tests}
use Rattle.std.proofs.lemmas.Iterator.{YieldsList-from_slice}
use Rattle.std.proofs.lemmas.Iterator.Search.{all_from_yields_List}
use Rattle.read_bodies.proofs.Digits.{all_zero}
use Rattle.read_bodies.proofs.is_zero.Goals as goal

pub returns : goal.returns
returns c = let s = c.args.body.now in
    all_from_yields_List (λ b. eqb b 0) _ _ _ c.all.ensures.ran (YieldsList-from_slice s cc) (λ x b q k. search (rules, tests)) ∙ all_zero s
