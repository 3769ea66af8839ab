-- The loop's invariant: the containers fit exactly if the first i do, before the limit.
-- Assumes nothing.
use Rattle.std.proofs.Common.{◌≡◌, ◌≤◌}
use Rattle.machine.specs.Machine.{most_open, innermost_first, containers_fit}
use Rattle.state_bytes.specs.StateBytes.{state_of}
use Rattle.state_bytes.proofs.containers_fit.Given as goal

abbrev pub invariant-loop-i : goal.invariant-loop-i
invariant-loop-i l =
    (l.i ≤ most_open)
    × (containers_fit l.used (innermost_first (state_of l.st).containers l.depth) ≡ containers_fit l.limit (innermost_first (state_of l.st).containers l.i))
