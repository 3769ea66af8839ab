-- What the writer puts is never marked (document 02, Item 2): no timestamp in what a list of calls spells is out of the calendar, nor in any
-- reading of its bytes. The statements, over the machine and over the entry points; the proofs are in proofs/.
-- Assumes nothing.
use Rattle.std.specs.Prelude.{ℕ, ◌≡◌, true, List}
use Rattle.ion.specs.Value.{Scalar, Item, leaves}
use Rattle.mark.specs.OutOfCalendar.{none_marked}
use Rattle.ion.specs.Grammar.{Reads}
use Rattle.machine.specs.Call.{Call, AllTyped}
use Rattle.machine.specs.Machine.{started}
use Rattle.machine.specs.Demands.{joined, spelled, Run}
use Rattle.entry_numbers.specs.EntryCall.{HostCall}
use Rattle.entry_lists.specs.Demands.{lent_started, lent_joined, LentRun}

-- Whatever the buffer and whatever is left open, refused calls included.
abbrev pub SpelledUnmarked : Type 0
SpelledUnmarked = (cs : List Call) (buffer : List ℕ) → none_marked (leaves (spelled cs buffer)) ≡ true

-- Of calls with arguments of their types, in every reading of the joined bytes.
abbrev pub ReadUnmarked : Type 0
ReadUnmarked =
    (cs : List Call) (buffer : List ℕ) → Run cs buffer → AllTyped cs →
    (is : List (Item Scalar)) → Reads (joined cs (started buffer)) is → none_marked (leaves is) ≡ true

-- The same of what a host calls.
abbrev pub HostReadUnmarked : Type 0
HostReadUnmarked =
    (hs : List HostCall) (st b : List ℕ) → LentRun hs st b →
    (is : List (Item Scalar)) → Reads (lent_joined hs (lent_started st b)) is → none_marked (leaves is) ≡ true
