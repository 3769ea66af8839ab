-- `read_mark::is_marked` meets its contract: with a time, by the local minute.
-- Assumes nothing.
use native.Mathlib.Omega.{arith}
use mathlib.Core.Path.{sym, ◌∙◌}
use Rattle.ion.specs.Value.{signed}
use Rattle.read_mark.proofs.Marked.{marked_time, time_is}
use Rattle.read_mark.proofs.is_marked.Goals as goal

pub overflow_cast-fields-2 : goal.overflow_cast-fields-2
overflow_cast-fields-2 c = omega (arith, (time_is c.args.fields c.requires c.if-fields-lt-TIMED.false).month)

pub overflow_cast-fields-3 : goal.overflow_cast-fields-3
overflow_cast-fields-3 c = omega (arith, (time_is c.args.fields c.requires c.if-fields-lt-TIMED.false).day)

pub overflow_cast-fields-4 : goal.overflow_cast-fields-4
overflow_cast-fields-4 c = omega (arith, (time_is c.args.fields c.requires c.if-fields-lt-TIMED.false).hour)

pub overflow_cast-fields-5 : goal.overflow_cast-fields-5
overflow_cast-fields-5 c = omega (arith, (time_is c.args.fields c.requires c.if-fields-lt-TIMED.false).minute)

pub returns : goal.returns
returns c = let f = c.args.fields in
    let o = signed c.in-Some.offset.negative c.in-Some.offset.minutes in
    c.is_local_outside.ensures
    ∙ rw (c.in-Some.is, c.minute_number-number.ensures)
    (sym (marked_time f.year f.month f.day f.hour f.minute f.second o f.count c.if-fields.false c.if-fields-lt-TIMED.false))
