-- `state_bytes::store` meets its contract: the head is laid in three parts, side by side.
-- Assumes nothing.
use Rattle.std.proofs.Common.{◌∙◌}
use Rattle.state_bytes.proofs.Laws.{stored-head, unstored_head, flag_is}
use Rattle.state_bytes.proofs.store.Goals as goal

pub returns-in_default : goal.returns-in_default
returns-in_default c = let a = c.args in unstored_head a.st.now a.used a.depth a.waiting c.in_default.ensures.cases

pub returns : goal.returns
returns c =
    let a = c.args in
    stored-head a.st.now c.put_four.new.st a.used a.depth c.from.result a.waiting c.in-Some.ensures.cases.long (rw c.in-Some.ensures.cases.same at c.put_four.ensures)
    (c.from.ensures ∙ flag_is a.waiting)
