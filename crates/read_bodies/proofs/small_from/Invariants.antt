-- `read_bodies::small_from` meets its contract: the answer from the start is what the bytes that are left make of the digits so far.
-- Assumes nothing.
use Prim.Native.Nat.{ℕ, ◌^◌, ◌<◌}
use mathlib.Core.Path.{◌≡◌}
use mathlib.Core.List.{List}
use Rattle.std.specs.Iterator.Adapters.{skip_steps}
use Rattle.std.proofs.lemmas.Fn.{fronts}
use Rattle.std.proofs.lemmas.Iterator.{YieldsList}
use Rattle.ion.specs.Fields.{big_endian}
use Rattle.read_bodies.specs.Places.{small, small_from}
use Rattle.read_bodies.proofs.small_from.Given as goal

abbrev pub invariant-loop-byte : goal.invariant-loop-byte
invariant-loop-byte l =
    (l.value < 2 ^ 64)
    × ((left : List ℕ) × YieldsList (skip_steps fronts) (λ b. b.now) l.byte-iterator left × (small_from l.b l.at l.acc ≡ small (big_endian l.value left)))
