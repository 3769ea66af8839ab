-- Each name that is passed has put eight bytes. Assumes nothing.
use Rattle.std.proofs.Common.{◌≡◌, ◌*◌, length}
use Rattle.trial.proofs.run.Writer.annotate.Given as goal

abbrev pub invariant-loop-word : goal.invariant-loop-word
invariant-loop-word l = length l.self.annotations ≡ 8 * length l.yielded
