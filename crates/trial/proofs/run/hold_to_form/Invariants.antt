-- The walk ends, since each part takes some of what is left.
use Rattle.std.proofs.Common.{length}
use Rattle.trial.proofs.run.hold_to_form.Given as goal

abbrev pub decreases-loop-part : goal.decreases-loop-part
decreases-loop-part l = length l.walk.rest.now
