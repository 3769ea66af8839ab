-- What the walk along a line keeps. Assumes nothing.
use Rattle.std.specs.Prelude.{ℕ, ◌<◌, List, length, Result, IfOk}

-- A step that is not refused takes some of what was left of the line. It speaks of a result and of two moments, so no value holds it.
abbrev pub GoesOn : {A E : Type 0} → Result A E → List ℕ → List ℕ → Type 0
GoesOn step before behind = IfOk step (λ _. length behind < length before)
