-- Eight bytes as one number. Assumes nothing.
use Rattle.annotations.proofs.Sids.{least_first_whole}
use Rattle.annotations.proofs.sid.Goals as goal

pub returns-in-Some : goal.returns-in-Some
returns-in-Some c = least_first_whole c.args.bytes.now c.in-Some.whole.now _ c.in-Some.ensures.cases.same c.from_le_bytes.ensures
