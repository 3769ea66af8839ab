-- `waits` of lent bytes meets its contract: of as many bytes as a state has it is what they spell, of others that of the state that does not fit.
-- Assumes nothing.
use Rattle.state_bytes.proofs.Laws.{state_is, state_none}
use Rattle.state_bytes.proofs.StateBytesStanding.waits.Goals as goal

pub returns-in-Some : goal.returns-in-Some
returns-in-Some c = rw (c.in-Some.ensures.cases.same, state_is c.args.self.now.0.now c.in-Some.ensures.cases.long)

pub returns-in-None : goal.returns-in-None
returns-in-None c = rw (state_none c.args.self.now.0.now c.in-None.ensures.cases)
