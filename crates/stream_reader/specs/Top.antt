-- A stream at top level: nothing is open, and names have no order.
-- Assumes nothing.
use Rattle.std.specs.Prelude.{ℕ, List}
use Rattle.reading.specs.Items.{Found, item_at}
use Rattle.reading.specs.Walk.{Ending, walk}

abbrev pub top_item : List ℕ → ℕ → Found
top_item s at = item_at s 0 0 0 at

abbrev pub top_reading : List ℕ → ℕ → Ending
top_reading s at = (walk s at).1
