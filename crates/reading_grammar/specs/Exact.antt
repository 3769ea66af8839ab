-- What the walk has to do with the grammar (document 02, Item 1): the statements. The proofs are in proofs/{Walked,Read}.antt.
-- Assumes nothing.
use Rattle.std.specs.Prelude.{ℕ, ◌≤◌, ◌≡◌, List, length, drop, Ok}
use Rattle.ion.specs.Value.{Scalar, Item}
use Rattle.ion.specs.Grammar.{Reads}
use Rattle.reading.specs.Items.{most_open}
use Rattle.reading.specs.Walk.{stream_events, stream_depth, shows, walk}

-- A reading of the bytes from a position on, with at most 32 containers open at once, is what the walk shows, to its end.
abbrev pub ReadingIsWalked : Type 0
ReadingIsWalked =
    (s : List ℕ) (at : ℕ) (is : List (Item Scalar)) → at ≤ length s
    → Reads (drop at s) is → stream_depth is ≤ most_open → walk s at ≡ shows (stream_events is)

-- A walk that comes to its end shows a reading, with at most 32 containers open at once.
abbrev pub WalkIsReading : Type 0
WalkIsReading = (s : List ℕ) (at : ℕ) → (walk s at).1 ≡ Ok tt
    → (at ≤ length s) × ((is : List (Item Scalar)) × (Reads (drop at s) is × ((stream_depth is ≤ most_open) × ((walk s at).0 ≡ stream_events is))))
