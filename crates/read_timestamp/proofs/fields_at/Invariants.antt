-- `read_timestamp::fields_at` meets its contract: the fields so far are in the array; each turn adds one.
-- Assumes nothing.
use mathlib.Core.Path.{◌≡◌}
use Rattle.read_timestamp.proofs.Gathered.{Gathered}
use Rattle.read_timestamp.proofs.fields_at.Given as goal

abbrev pub invariant-loop-field : goal.invariant-loop-field
invariant-loop-field l = (l.count ≡ l.field-index) × Gathered l.body l.at l.field-items l.count l.next
