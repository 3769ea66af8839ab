-- One value without pad and without mark, by the grammar, and what the rule of the crate unpadded has to do with it: the statements.
-- The proofs are in proofs/Exact.antt.
-- Assumes nothing.
use Rattle.std.specs.Prelude.{ℕ, ◌≤◌, ◌≡◌, true, List, [], ◌∷◌}
use Rattle.ion.specs.Value.{Scalar, Value, Item, value, leaves}
use Rattle.ion.specs.Grammar.{Reads}
use Rattle.mark.specs.OutOfCalendar.{none_marked}
use Rattle.reading.specs.Items.{most_open}
use Rattle.reading.specs.Walk.{tree_depth}
use Rattle.unpadded.specs.Rule.{is_one_value}
use Rattle.unpadded_grammar.specs.Pads.{has_no_pad}

-- The bytes read as exactly one value, no NOP pad stands at top level or inside it, and no timestamp in it is out of the calendar.
pub record OneValue (b : List ℕ) : Type 0 where
  pub one : Value
  pub reading : Reads b (value one ∷ [])
  pub no_pad : has_no_pad reading ≡ true
  pub no_mark : none_marked (leaves (value one ∷ [])) ≡ true

-- The rule finds such values.
abbrev pub FoundIsOne : Type 0
FoundIsOne = (b : List ℕ) → is_one_value b ≡ true → OneValue b

-- It finds all with at most 32 containers open at once.
abbrev pub OneIsFound : Type 0
OneIsFound = (b : List ℕ) (w : OneValue b) → tree_depth w.one ≤ most_open → is_one_value b ≡ true

-- Whether a reading has a pad does not depend on the derivation.
abbrev pub SamePads : Type 0
SamePads = (b : List ℕ) (is js : List (Item Scalar)) (p : Reads b is) (q : Reads b js) → has_no_pad p ≡ has_no_pad q
