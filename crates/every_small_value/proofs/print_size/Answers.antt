-- The next value's number is no less than the one that it is asked from, and below the limit.
use Rattle.std.proofs.Common.{◌∙◌, sym, arith}
use Rattle.small_values.proofs.Yields.{value_within, limit_fits}
use Rattle.every_small_value.proofs.print_size.Goals as goal

pub overflow_add-from : goal.overflow_add-from
overflow_add-from g c =
    let n = c.args.size.bytes in
    omega (arith, (value_within n c.loop-number.from c.in-Some.number (sym c.next.ensures ∙ c.in-Some.is)).1, limit_fits n)

pub loop-number-smaller : goal.loop-number-smaller
loop-number-smaller g c =
    omega (arith, value_within c.args.size.bytes c.loop-number.from c.in-Some.number (sym c.next.ensures ∙ c.in-Some.is))
