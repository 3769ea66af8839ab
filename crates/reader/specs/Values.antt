-- One item and all that it holds, as a step of the walk; and one item in a part of the bytes.
-- Assumes nothing.
use Rattle.std.specs.Prelude.{ℕ, ◌+◌, cond, List, leb, length, take, Result, Ok, Err, Option, Some, None}
use Rattle.reading.specs.declared.Refusal.TheVariants.{PastTheEnd}
use Rattle.reading.specs.declared.Stopped.{Stopped}
use Rattle.reading.specs.declared.Passed.{Passed}
use Rattle.reading.specs.Items.{opens, raised, Found, item_at}
use Rattle.reading.specs.Walk.{Ending, walk_from}

-- what the walk makes of an item: it passes it, or there is none, or it stops
abbrev pub Value : Type 0
Value = Result (Option Passed) Stopped

-- past a container whose inside came to its end
abbrev pub past : Ending → Passed → Value
past (Ok u) p = Ok (Some p)
past (Err e) p = Err e

-- what the walk makes of the item at a place; f bounds the items inside
abbrev pub value_from : ℕ → List ℕ → ℕ → ℕ → ℕ → Found → Value
value_from f s least depth at (Ok None) = Ok None
value_from f s least depth at (Err r) = Err (record { refusal = r; place = at })
value_from f s least depth at (Ok (Some i)) =
    let h = i.held.header in
    let p : Passed = record { next = h.stop; least = raised least h.kind i.name } in
    cond (opens h.kind) (past (walk_from f (take h.stop s) h.kind 0 (depth + 1) h.start).1 p) (Ok (Some p))

unfoldable pub value_at : ℕ → List ℕ → ℕ → ℕ → ℕ → ℕ → Value
value_at f s parent least depth at = value_from f s least depth at (item_at s parent least depth at)

-- The item at a place of the bytes before `end`.
unfoldable pub next_in : List ℕ → ℕ → ℕ → ℕ → ℕ → ℕ → Found
next_in s end parent least depth at = cond (leb end (length s)) (item_at (take end s) parent least depth at) (Err PastTheEnd)
