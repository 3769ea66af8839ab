-- Whether an item may stand where it does: its name, its body, and the containers that are open, in this order.
-- Assumes nothing.
use Rattle.std.specs.Prelude.{ℕ, cond, ◌&&◌, ◌||◌, not, List, leb, Result, Ok, Err, Option}
use Rattle.reading.specs.declared.Refusal.{Refusal}
use Rattle.reading.specs.declared.Refusal.TheVariants.{TooDeep, NotIon}
use Rattle.reading.specs.Items.{opens, reads, falls, most_open}

abbrev pub stands : ℕ → ℕ → ℕ → Option ℕ → ℕ → List ℕ → Result (Unit {0}) Refusal
stands parent least depth name kind body =
    cond (falls parent least kind name || not (reads kind body)) (Err NotIon)
    (cond (opens kind && leb most_open depth) (Err TooDeep) (Ok tt))
