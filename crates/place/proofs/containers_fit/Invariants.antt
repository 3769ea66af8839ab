-- The loop's invariant: the containers fit exactly if the first i do, before the limit.
-- Assumes nothing.
use Rattle.std.proofs.Common.{◌≡◌}
use Rattle.machine.specs.Machine.{innermost_first, containers_fit}
use Rattle.place.proofs.containers_fit.Given as goal

abbrev pub invariant-loop-i : goal.invariant-loop-i
invariant-loop-i g l =
    let cs = (g.S.Standing.state l.s).containers in
    containers_fit l.used (innermost_first cs l.depth) ≡ containers_fit l.limit (innermost_first cs l.i)
