-- `are_sids` decides whether whole VarUInts fill the bytes: what the running state says of the bytes that are left is what the grammar says of all.
-- Assumes nothing.
use Rattle.std.proofs.Common.{◌≡◌, drop}
use Rattle.reading.specs.Scalars.{is_some, sids_of}
use Rattle.read_items.specs.Sids.{sids_from}
use Rattle.read_items.proofs.are_sids.Given as goal

abbrev pub invariant-loop-b : goal.invariant-loop-b
invariant-loop-b l = is_some (sids_of l.part) ≡ sids_from l.whole l.groups (drop l.b-index l.part)
