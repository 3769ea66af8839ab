-- There are no more names than bytes of their text and one, and so there is room for their sids. Assumes nothing.
use Rattle.std.proofs.Common.{rules, tests, arith, ◌==◌, ℕ}
use Rattle.std.proofs.lemmas.Iterator.Splits.{YieldsList-from_slice_split}
use Rattle.std.proofs.lemmas.Iterator.Consumers.{YieldsList-turn, YieldsList-at}
use Rattle.std.proofs.lemmas.List.Splits.{length-slice_split}
use Rattle.std.proofs.lemmas.List.Sums.{count_by-le-length}
use Rattle.trial.proofs.run.Writer.annotate.Goals as goal

pub put_sid-requires : goal.put_sid-requires
put_sid-requires c =
    let text = c.args.names.text.now in
    let split = c.split-word-items.ensures in
    let turn = YieldsList-turn
    (YieldsList-at c.into_iter-word-iterator.ensures.into_iter_gives
    (YieldsList-from_slice_split _ (λ (b : ℕ). b == 32) text split.rest split.done split.closure (λ x b q k. search (rules, tests))))
    c.loop-word.yielded _ c.loop-word.yielded_by _ _ c.in-Some.word c.in-Some.is c.next.ensures.steps in
    omega (
      arith,
      turn.0,
      length-slice_split (λ (b : ℕ). b == 32) text,
      count_by-le-length (λ (b : ℕ). b == 32) text,
      c.args.names.short,
      c.loop-word.invariant,
    )
