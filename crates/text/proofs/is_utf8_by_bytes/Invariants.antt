-- The loop's invariant: the whole is UTF-8 where the bytes left end the character under way and are whole characters from there on.
-- Assumes nothing.
use mathlib.Core.Path.{◌≡◌}
use lib.ListN.{drop}
use Rattle.ion.specs.Text.{utf8, utf8_from}
use Rattle.text.specs.Due.{due}
use Rattle.text.proofs.is_utf8_by_bytes.Given as goal

abbrev pub invariant-loop-b : goal.invariant-loop-b
invariant-loop-b l = (utf8 l.s ≡ utf8_from (due l.d) (drop l.b-index l.s))
