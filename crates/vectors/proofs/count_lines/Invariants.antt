-- A line has a byte at least, so there are no more than bytes, and no more vectors. Assumes nothing.
use Rattle.std.proofs.Common.{◌+◌, ◌≤◌, length}
use Rattle.std.specs.Slice.Iter.{split_inclusive_rest}
use Rattle.vectors.proofs.count_lines.Given as goal

abbrev pub invariant-loop-line : goal.invariant-loop-line
invariant-loop-line l =
    let left = length (split_inclusive_rest l.line-iterator) in (l.counts.vectors + left ≤ length l.text) × (l.counts.right + left ≤ length l.text)
