-- The length of a body, and where the body starts.
-- Assumes nothing.
use Rattle.std.specs.Prelude.{ℕ, ◌/◌, ◌%◌, cond, List, Result, Ok}
use Rattle.reading.specs.declared.Refusal.{Refusal}
use Rattle.reading.specs.declared.Number.{Number}
use Rattle.reading.specs.Headers.{var_uint_at, measured}

-- the type byte b says it by its low four bits, or it is a field at the place behind
abbrev pub length_at : Refusal → List ℕ → ℕ → ℕ → Result Number Refusal
length_at out s b at = cond (measured (b / 16) (b % 16)) (var_uint_at out s at) (Ok (record { value = b % 16; next = at }))
