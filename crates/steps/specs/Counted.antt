-- A member more in a state of 64-bit numbers.
-- Assumes nothing.
use Rattle.std.specs.Prelude.{ℕ, zero, suc, ◌+◌, ◌%◌, ◌^◌, List, slice_index_or, slice_set}
use Rattle.machine.specs.declared.Container.{Container}
use Rattle.machine.specs.Machine.{no_container}

abbrev pub member_cut : Container → Container
member_cut c = record { start = c.start; header = c.header; code = c.code; members = (c.members + 1) % 2 ^ 64 }

-- the machine's `counted`, cut to 64 bits, which alters no count of a state that fits
abbrev pub counted_cut : List Container → ℕ → List Container
counted_cut l zero = l
counted_cut l (suc n) = slice_set l n (member_cut (slice_index_or l n no_container))
