-- What a list of calls spells comes back when its bytes are read (document 02, Item 1): the statements, over the machine and over the
-- entry points. The proofs are in proofs/.
-- Assumes nothing.
use Rattle.std.specs.Prelude.{ℕ, ◌≤◌, ◌≡◌, List}
use Rattle.machine.specs.Call.{Call, AllTyped}
use Rattle.machine.specs.Machine.{started}
use Rattle.machine.specs.Demands.{joined, spelled, Run}
use Rattle.entry_numbers.specs.EntryCall.{HostCall}
use Rattle.entry_lists.specs.Demands.{lent_started, lent_joined, lent_spelling, LentRun}
use Rattle.reading.specs.Items.{most_open}
use Rattle.reading.specs.Walk.{stream_events, stream_depth, shows, walk}

-- What the machine spells has at most 32 containers open at once, whatever the buffer and whatever is left open.
abbrev pub SpelledDepth : Type 0
SpelledDepth = (cs : List Call) (buffer : List ℕ) → stream_depth (spelled cs buffer) ≤ most_open

-- Of calls with arguments of their types, the joined bytes are walked to their end and show what was spelled.
abbrev pub ReadBack : Type 0
ReadBack = (cs : List Call) (buffer : List ℕ) → Run cs buffer → AllTyped cs → walk (joined cs (started buffer)) 0 ≡ shows (stream_events (spelled cs buffer))

-- The same of what a host calls: of every list through the entry points, over the bytes that it lends.
abbrev pub HostReadBack : Type 0
HostReadBack =
    (hs : List HostCall) (st b : List ℕ) → LentRun hs st b
    → walk (lent_joined hs (lent_started st b)) 0 ≡ shows (stream_events (lent_spelling hs st b).items)
