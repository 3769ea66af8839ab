-- `small_values::next` meets its contract: the first number whose string passes.
-- Assumes nothing.
use Rattle.std.proofs.Common.{rules, tests, ◌≡◌, true, false, arith}
use Rattle.std.proofs.lemmas.Iterator.{first_from_Range, serves_from_Range}
use Rattle.encoding.specs.Digits.{low_digits}
use Rattle.unpadded.specs.Rule.{is_one_value}
use Rattle.small_values.proofs.Steps.{asked, found}
use Rattle.small_values.proofs.next.Goals as goal

pub find-requires-clause-callable : goal.find-requires-clause-callable
find-requires-clause-callable c = serves_from_Range (λ x q k. search (rules, tests)) (λ x low high. let small = asked c.args.size x (omega (arith, c.limit.ensures)) in search rules)

pub returns : goal.returns
returns c =
    let n = c.args.size in
    found n c.args.from c.limit.result c.limit.ensures c.find.result
    (first_from_Range _ _ _ _ (λ i. is_one_value (low_digits 256 n i) ≡ true) (λ i. is_one_value (low_digits 256 n i) ≡ false) c.find.ensures.ran
    (λ x q k. search (rules, tests))
    (λ x q k. (search rules, search (rules, tests))))
