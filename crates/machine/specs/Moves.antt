-- The sum of the bytes that closings say they moved, over every list of calls (document 02, Item 10): the statement. The proof is in proofs/Moves.antt.
-- Assumes nothing.
use Rattle.std.specs.Prelude.{ℕ, ◌+◌, ◌*◌, ◌≤◌, ◌≡◌, Bool, true, false, not, ◌&&◌, List, [], ◌∷◌, length}
use Rattle.machine.specs.Call.{Call, write, name, opening, closing, abandonment, version_marker, taking, emptying}
use Rattle.machine.specs.Machine.{Config, verdict, is_accepted, after, run, started}
use Rattle.machine.specs.Demands.{joined, Run}

-- the sum of what the closings of a list answer; a refused one answers 0, as does any other call
unfoldable pub moved_sum : List Call → Config → ℕ
moved_sum [] w = 0
moved_sum (c ∷ cs) w = (run c w).figures.moved + moved_sum cs (after c w)

abbrev pub is_closing : Call → Bool
is_closing (write an a) = false
is_closing (name k) = false
is_closing (opening an k) = false
is_closing closing = true
is_closing abandonment = false
is_closing version_marker = false
is_closing taking = false
is_closing emptying = false

abbrev pub is_abandonment : Call → Bool
is_abandonment (write an a) = false
is_abandonment (name k) = false
is_abandonment (opening an k) = false
is_abandonment closing = false
is_abandonment abandonment = true
is_abandonment version_marker = false
is_abandonment taking = false
is_abandonment emptying = false

-- an abandonment that is refused abandons nothing
unfoldable pub nothing_abandoned : List Call → Config → Bool
nothing_abandoned [] w = true
nothing_abandoned (c ∷ cs) w = not (is_abandonment c && is_accepted (verdict c w)) && nothing_abandoned cs (after c w)

-- Over a list in which nothing is abandoned, and which leaves no container open, the closings move at most 32 times the bytes of the stream.
abbrev pub MovedAtMost : Type 0
MovedAtMost =
    (cs : List Call) (buffer : List ℕ) → Run cs buffer → nothing_abandoned cs (started buffer) ≡ true →
    moved_sum cs (started buffer) ≤ 32 * length (joined cs (started buffer))
