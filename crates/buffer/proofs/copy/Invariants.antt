-- The loop's invariant: the first `i` bytes of `src` are laid at `at`. Assumes nothing.
use mathlib.Core.Path.{◌≡◌}
use Prim.Native.Nat.{◌+◌, ◌≤◌}
use lib.ListN.{length, take}
use Rattle.buffer.specs.Laid.{laid}
use Rattle.buffer.proofs.copy.Given as goal

abbrev pub invariant-loop-i : goal.invariant-loop-i
invariant-loop-i l = (l.at + length l.src ≤ length l.initial.buf) × (l.buf ≡ laid l.initial.buf l.at (take l.i l.src))
