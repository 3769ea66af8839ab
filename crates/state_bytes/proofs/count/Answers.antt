-- `state_bytes::count` meets its contract: the count is the last number of the record.
-- Assumes nothing.
use Rattle.std.proofs.Common.{◌∙◌}
use native.Mathlib.Omega.{arith}
use Rattle.machine.specs.Machine.{counted}
use Rattle.state_bytes.specs.StateBytes.{state_of}
use Rattle.state_bytes.proofs.Laws.{uncounted_short, uncounted, some-counted, stored-count}
use Rattle.state_bytes.proofs.count.Goals as goal

pub returns-in_default : goal.returns-in_default
returns-in_default c = let a = c.args in uncounted_short a.st.now (counted (state_of a.st.now).containers a.depth) a.depth c.in_default.ensures.cases

pub returns-then-depth : goal.returns-then-depth
returns-then-depth c =
    let a = c.args in
    c.in-Some.ensures.cases.same ∙ uncounted a.st.now (counted (state_of a.st.now).containers a.depth) a.depth c.if-depth.true

pub overflow_sub-at : goal.overflow_sub-at
overflow_sub-at c = omega (arith, some-counted c.args.depth c.if-depth.false)

pub overflow_mul-at : goal.overflow_mul-at
overflow_mul-at c = omega (arith, some-counted c.args.depth c.if-depth.false)

pub overflow_add-at : goal.overflow_add-at
overflow_add-at c = omega (arith, some-counted c.args.depth c.if-depth.false)

pub overflow_add-at-2 : goal.overflow_add-at-2
overflow_add-at-2 c = omega (arith, some-counted c.args.depth c.if-depth.false)

pub get_four-members-requires : goal.get_four-members-requires
get_four-members-requires c = omega (arith, some-counted c.args.depth c.if-depth.false)

pub put_four-requires : goal.put_four-requires
put_four-requires c = omega (arith, some-counted c.args.depth c.if-depth.false)

pub returns : goal.returns
returns c =
    let a = c.args in
    stored-count a.st.now c.put_four.new.st a.depth c.get_four-members.result c.in-Some.ensures.cases.long (some-counted a.depth c.if-depth.false)
    (rw c.in-Some.ensures.cases.same at c.get_four-members.ensures) (rw c.in-Some.ensures.cases.same at c.put_four.ensures)
