-- `container` of lent bytes meets its contract: within the array it is what the bytes spell, past its end one of zeros.
-- Assumes nothing.
use Rattle.std.proofs.Common.{sym, ◌∙◌}
use Rattle.state_bytes.proofs.Laws.{state_is, state_none, container_is, container_past, container_unfit}
use Rattle.state_bytes.proofs.StateBytesStanding.container.Goals as goal

pub returns-in_default : goal.returns-in_default
returns-in_default c = rw (state_none c.args.self.now.0.now c.in_default.ensures.cases) (container_unfit c.args.i)

pub returns-then-i-ge-MOST_OPEN : goal.returns-then-i-ge-MOST_OPEN
returns-then-i-ge-MOST_OPEN c =
    let b = c.args.self.now.0.now in
    rw (state_is b c.in-Some.ensures.cases.long) (container_past b c.args.i c.if-i-ge-MOST_OPEN.true)

pub returns : goal.returns
returns c =
    let b = c.args.self.now.0.now in
    c.get_container.ensures ∙ rw (c.in-Some.ensures.cases.same, state_is b c.in-Some.ensures.cases.long) (sym (container_is b c.args.i c.if-i-ge-MOST_OPEN.false))
