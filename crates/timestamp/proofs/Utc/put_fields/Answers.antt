-- `Utc::put_fields` meets its contract: each field is put behind those before it, for all of which there is room.
-- Assumes nothing.
use Rattle.std.proofs.Common.{◌-◌, ◌<◌, [], arith}
use Rattle.timestamp.proofs.Fields.{at_most_five, year_put, put_room, no_year, no_next, next_put}
use Rattle.timestamp.proofs.Utc.put_fields.Goals as goal
use Rattle.timestamp.proofs.Utc.put_fields.Goals.{else-loop-i-test, then-loop-i-test+then-i-count}

pub returns-in_err-year : goal.returns-in_err-year
returns-in_err-year c =
    let a = c.args in
    absurd (no_year a.buf.now a.at a.self.t c.field_count.result c.field_count.ensures a.self.small.1 c.requires _ (rw c.year.ensures at c.in_err-year.ensures))

pub loop-i-init : goal.loop-i-init
loop-i-init c =
    let a = c.args in
    record {
      within = omega arith;
      put =
          year_put a.buf.now a.at a.self.t.year [] c.in_ok-year.year _ c.write.new.buf (omega arith) (rw c.year.ensures at c.in_ok-year.ensures);
    }

pub overflow_add-at : goal.overflow_add-at
overflow_add-at c =
    let a = c.args in
    let l = c.loop-i in
    omega (arith, put_room a.buf.now a.at a.self.t _ c.field_count.ensures a.self.small.1 c.requires l.i _ l.buf l.invariant.within l.invariant.put)

pub overflow_add-at-in-loop-i : goal.overflow_add-at-in-loop-i
overflow_add-at-in-loop-i c =
    let a = c.args in
    let l = c.loop-i in
    omega (arith, put_room a.buf.now a.at a.self.t _ c.field_count.ensures a.self.small.1 c.requires l.i _ l.buf l.invariant.within l.invariant.put)

pub returns-in_err-put_small : goal.returns-in_err-put_small
returns-in_err-put_small c =
    let a = c.args in
    let l = c.loop-i in
    let more : l.i < c.field_count.result - 1 = omega (arith, l.invariant.within, c.if-i-count.false) in
    absurd (no_next a.buf.now a.at a.self.t _ c.field_count.ensures a.self.small.1 c.requires l.i _ l.buf more l.invariant.put
    _ (omega arith) _ c.in_err-put_small.ensures)

pub loop-i-preserved : goal.loop-i-preserved
loop-i-preserved c =
    let a = c.args in
    let l = c.loop-i in
    let more : l.i < c.field_count.result - 1 = omega (arith, l.invariant.within, c.if-i-count.false) in
    record {
      within = omega (arith, more);
      put =
          next_put a.buf.now a.at a.self.t _ c.field_count.ensures a.self.small.1 c.requires l.i _ l.buf more l.invariant.put
          _ (omega arith) _ _ c.put_small.new.buf (omega arith) c.in_ok-put_small.ensures;
    }

-- the loop ends with the last field that counts
pub overflow_add-result : goal.overflow_add-result
overflow_add-result c =
    let a = c.args in
    let l = c.loop-i in
    let five = at_most_five a.buf.now a.at a.self.t _ c.field_count.ensures in
    let room = put_room a.buf.now a.at a.self.t _ c.field_count.ensures a.self.small.1 c.requires l.i _ l.buf l.invariant.within l.invariant.put in
    elim c.loop-i-test.branch [
      | else-loop-i-test w ↦ omega (arith, five, room, l.invariant.within, w.loop-i-test.false)
      | then-loop-i-test+then-i-count w ↦ omega (arith, five, room, w.if-i-count.true)
    ]
