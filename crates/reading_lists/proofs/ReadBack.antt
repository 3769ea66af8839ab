-- The joined bytes of every list of calls, a host's too, come back from the walk:
-- they read as what was spelled (demand 3), which is no deeper than 32, and such a reading is what the walk shows.
-- Assumes nothing.
use Prim.Native.Nat.{ℕ, ◌≤◌}
use native.Mathlib.Omega.{arith}
use mathlib.Core.Path.{ap}
use mathlib.Core.List.{List}
use Rattle.ion.specs.Value.{Scalar}
use Rattle.machine.specs.Machine.{started}
use Rattle.machine.specs.Demands.{joined, spelled}
use Rattle.machine.specs.Model.{Model}
use Rattle.machine.proofs.Demands.{demand3}
use Rattle.entry_numbers.specs.EntryCall.{HostCall}
use Rattle.entry_lists.specs.Demands.{lent_started, lent_joined, lent_spelling, LentRun}
use Rattle.entry_lists.proofs.Demands.{calls, spelling_is, entry_demand3}
use Rattle.reading.specs.Items.{most_open}
use Rattle.reading.specs.Walk.{stream_depth}
use Rattle.reading_grammar.proofs.Walked.{reading_is_walked}
use Rattle.reading_lists.specs.ReadBack.{ReadBack, HostReadBack}
use Rattle.reading_lists.proofs.Depth.{spelled_depth}

pub read_back : ReadBack
read_back cs b r t = reading_is_walked (joined cs (started b)) 0 (spelled cs b) (omega arith) (demand3 cs b r t).reading (spelled_depth cs b)

-- what a host's list spells is what its calls spell on the machine
host_depth : (hs : List HostCall) (st b : List ℕ) → LentRun hs st b → stream_depth (lent_spelling hs st b).items ≤ most_open
host_depth hs st b r = rw (ap (λ (x : Model Scalar). x.items) (spelling_is hs st b r)) (spelled_depth (calls hs) b)

pub host_read_back : HostReadBack
host_read_back hs st b r =
    reading_is_walked (lent_joined hs (lent_started st b)) 0 (lent_spelling hs st b).items (omega arith) (entry_demand3 hs st b r).reading (host_depth hs st b r)
