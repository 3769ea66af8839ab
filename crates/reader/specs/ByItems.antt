-- The walk is made of what the reader answers at each place: the statement. The proof is in proofs/Steps.antt.
-- Assumes nothing.
use Rattle.std.specs.Prelude.{ℕ, ◌≡◌, List, length, take}
use Rattle.reading.specs.Walk.{step_walk, walk_in}
use Rattle.reader.specs.Values.{next_in}

-- From any place of any stream: the item that is answered there is shown, a container by the walk over its body, and the walk goes on behind it.
abbrev pub WalkByItems : Type 0
WalkByItems = (s : List ℕ) (end parent least depth at : ℕ) →
    walk_in s end parent least depth at
    ≡ step_walk (λ t p l d i. walk_in s (length t) p l d i) (take end s) parent least depth at (next_in s end parent least depth at)
