-- `read_answers::lay` meets its contract: what is left of the numbers is still to be laid from here on.
-- Assumes nothing.
use mathlib.Core.Path.{◌≡◌}
use lib.ListN.{drop}
use Rattle.read_answers.specs.Answers.{laid}
use Rattle.read_answers.proofs.lay.Given as goal

abbrev pub invariant-loop-i : goal.invariant-loop-i
invariant-loop-i g l = laid 0 l.n-items l.initial.lent ≡ laid l.i (drop l.i l.n-items) l.lent
