-- `state_bytes::store_container` meets its contract: a container is laid in four parts, side by side.
-- Assumes nothing.
use Rattle.std.proofs.Common.{◌∙◌}
use Rattle.state_bytes.proofs.Laws.{stored-container, unstored_short, unstored_past}
use Rattle.state_bytes.proofs.store_container.Goals as goal

pub returns-in_default : goal.returns-in_default
returns-in_default c = let a = c.args in unstored_short a.st.now a.i a.c c.in_default.ensures.cases

pub returns-then-i-ge-MOST_OPEN : goal.returns-then-i-ge-MOST_OPEN
returns-then-i-ge-MOST_OPEN c =
    let a = c.args in
    c.in-Some.ensures.cases.same ∙ unstored_past a.st.now a.i a.c c.in-Some.ensures.cases.long c.if-i-ge-MOST_OPEN.true

pub returns : goal.returns
returns c =
    let a = c.args in
    stored-container a.st.now c.put_four.new.st c.put_four-2.new.st c.put_four-3.new.st a.i a.c c.in-Some.ensures.cases.long c.if-i-ge-MOST_OPEN.false
    (rw c.in-Some.ensures.cases.same at c.put_four.ensures) c.put_four-2.ensures c.put_four-3.ensures
