-- The small values (document 02, Item 12).
-- Assumes nothing.
use Rattle.std.specs.Prelude.{ℕ, ◌≤◌, List, length}
use Rattle.encoding.specs.Fields.{AllBelow}
use Rattle.unpadded_grammar.specs.Exact.{OneValue}

-- A byte string of at most three bytes that reads as exactly one value and contains no NOP pad. An out-of-calendar timestamp is not listed.
pub record SmallValue (b : List ℕ) : Type 0 where
  pub size : length b ≤ 3
  pub bytes : AllBelow 256 b
  pub value : OneValue b
