-- `read_bodies::small_from` meets its contract: each turn takes one digit of the bytes that are left.
-- Assumes nothing.
use Rattle.std.proofs.Common.{refl, sym, ◌∙◌, arith}
use lib.ListN.{drop}
use Rattle.std.proofs.lemmas.Iterator.{YieldsList-from_slice}
use Rattle.std.proofs.lemmas.Iterator.Consumers.{YieldsList-at}
use Rattle.std.proofs.lemmas.Iterator.Adapters.{YieldsList-from_skip}
use Rattle.read_bodies.specs.Places.{small_from}
use Rattle.read_bodies.proofs.Digits.{digit_next, digit_none, digit_past, digits_out, digit_more}
use Rattle.read_bodies.proofs.small_from.Goals as goal

pub loop-byte-init : goal.loop-byte-init
unfolding small_from
loop-byte-init c =
    let s = c.args.b.now in (
      c.ranges.acc.fits,
      (
        drop c.args.at s,
        YieldsList-at c.into_iter-byte-iterator.ensures.into_iter_gives
            (YieldsList-from_skip c.args.at (YieldsList-at c.skip-byte-items.ensures.source (YieldsList-from_slice s c.iter.ensures.rest)) c.skip-byte-items.ensures.count),
        refl,
      ),
    )

pub returns-in_err-value : goal.returns-in_err-value
returns-in_err-value c =
    let at = c.loop-byte.invariant in
    let next = digit_next at.1.0 at.1.1 c.in-Some.byte c.next.new.self c.in-Some.ensures.steps in
    c.from_residual.ensures ∙ sym (at.1.2 ∙ digit_past c.loop-byte.value c.in-Some.byte.now next.0 next.1 (omega (arith, c.in_err-value.ensures)))

pub loop-byte-preserved : goal.loop-byte-preserved
loop-byte-preserved c =
    let at = c.loop-byte.invariant in
    let next = digit_next at.1.0 at.1.1 c.in-Some.byte c.next.new.self c.in-Some.ensures.steps in
    let here = c.in_ok-value.ensures in (
      omega (arith, c.from.ensures, here.0, here.1),
      (next.0, next.2, at.1.2 ∙ digit_more c.loop-byte.value c.in-Some.byte.now next.0 next.1 _ (omega (arith, c.from.ensures, here.1))),
    )

pub returns : goal.returns
returns c =
    let at = c.loop-byte.invariant in
    sym (at.1.2 ∙ digits_out c.loop-byte.value at.1.0 (digit_none at.1.0 at.1.1 c.next.new.self c.in-None.ensures.steps) at.0)
