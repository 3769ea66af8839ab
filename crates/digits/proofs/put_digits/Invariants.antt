-- The loop's invariant: the digits d are laid from `at + i` on, and the lowest `i` digits of `rest` before d are the whole. Assumes nothing.
use mathlib.Core.Path.{◌≡◌}
use mathlib.Core.List.{List, ◌++◌}
use Prim.Native.Nat.{ℕ, ◌+◌, ◌≤◌}
use lib.ListN.{length}
use Rattle.encoding.specs.Digits.{low_digits}
use Rattle.buffer.specs.Laid.{laid}
use Rattle.digits.proofs.put_digits.Given as goal

abbrev pub invariant-loop-i : goal.invariant-loop-i
invariant-loop-i l =
    (l.at + l.count ≤ length l.initial.buf)
    × (d : List ℕ) × (length d + l.i ≡ l.count) × (l.buf ≡ laid l.initial.buf (l.at + l.i) d) × (low_digits (l.greatest + 1) l.i l.rest ++ d ≡ low_digits (l.greatest + 1) l.count l.value)
