-- The loop's invariant: `sid` is the number of the bytes from where the rest ends on. Assumes nothing.
use mathlib.Core.Path.{◌≡◌}
use Prim.Native.Nat.{◌-◌, ◌≤◌}
use lib.ListN.{length, take}
use Rattle.annotations.specs.Sids.{least_first}
use Rattle.annotations.proofs.short_sid.Given as goal

abbrev pub invariant-loop-byte : goal.invariant-loop-byte
invariant-loop-byte l =
    let rest = l.byte-iterator.iter.rest.now in
    (rest ≡ take (length rest) l.bytes) × (length rest ≤ length l.bytes) × (l.sid ≡ least_first l.bytes (length rest) (8 - length rest))
