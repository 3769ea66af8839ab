-- The bytes that closings move over two lists of calls, computed: one that the bound is about, and one in which a container is abandoned, where it fails.
-- Assumes nothing.
use Prim.Native.Nat.{ℕ, ◌+◌, ◌*◌, ◌≤◌}
use native.Mathlib.Omega.{arith}
use mathlib.Core.Path.{◌≡◌, refl, ap, subst₂}
use mathlib.Core.Bool.{true}
use mathlib.Core.List.{List, [], ◌∷◌}
use lib.ListN.{length, replicate}
use Rattle.ion.specs.Value.{list}
use Rattle.encoding.specs.Argument.{write_bool, write_int, write_blob}
use Rattle.machine.specs.Call.{sequence_type, struct_type, Call, write, name, opening, closing, abandonment, emptying}
use Rattle.machine.specs.Machine.{started}
use Rattle.machine.specs.Demands.{joined, Run}
use Rattle.machine.specs.Moves.{moved_sum, nothing_abandoned}
use Rattle.machine.proofs.Whole.{machine_whole}
use Rattle.machine.proofs.Moves.{moved_at_most}

abbrev pub nines : List ℕ
nines = replicate 150 9

-- Lists in one another, the inner one with an annotation; refused calls among them, a closing and an abandonment too. Emptied, then a struct,
-- a closing of which is refused while a name waits.
abbrev pub nested : List Call
nested =
    opening [] (sequence_type list)
    ∷ opening (10 ∷ []) (sequence_type list)
    ∷ name 4
    ∷ write [] (write_bool true)
    ∷ closing
    ∷ write [] (write_int true [])
    ∷ closing
    ∷ closing
    ∷ abandonment
    ∷ emptying
    ∷ opening [] struct_type
    ∷ name 4
    ∷ closing
    ∷ write [] (write_blob (replicate 10 0))
    ∷ closing
    ∷ []

nested_run : Run nested nines
unfolding machine_whole
nested_run = record { starts = refl; ends = refl }

nested_kept : nothing_abandoned nested (started nines) ≡ true
unfolding nothing_abandoned machine_whole
nested_kept = refl

pub nested-joined : joined nested (started nines)
    ≡ 0xE0 ∷ 0x01 ∷ 0x00 ∷ 0xEA ∷ 0xB5 ∷ 0xE4 ∷ 0x81 ∷ 0x8A ∷ 0xB1 ∷ 0x11 ∷ 0xDC ∷ 0x84 ∷ 0xAA ∷ replicate 10 0
unfolding machine_whole
nested-joined = refl

-- a bool and two bytes of annotations, then the five bytes of that list, then the struct's twelve
pub nested-moved : moved_sum nested (started nines) ≡ 1 + 2 + 5 + 12
unfolding moved_sum machine_whole
nested-moved = refl

pub nested-most : 20 ≤ 32 * 23
nested-most = subst₂ ◌≤◌ nested-moved (ap (λ (l : List ℕ). 32 * length l) nested-joined) (moved_at_most nested nines nested_run nested_kept)

-- ---- a list with 129 bytes in one that is abandoned

abbrev abandoned : List Call
abandoned = opening [] (sequence_type list) ∷ opening [] (sequence_type list) ∷ write [] (write_blob (replicate 127 0)) ∷ closing ∷ abandonment ∷ []

abandoned_run : Run abandoned nines
unfolding machine_whole
abandoned_run = record { starts = refl; ends = refl }

-- the stream is the marker alone, and more than 32 times its bytes have moved
abandoned-moved : (moved_sum abandoned (started nines) ≡ 129) × (joined abandoned (started nines) ≡ 0xE0 ∷ 0x01 ∷ 0x00 ∷ 0xEA ∷ [])
unfolding moved_sum machine_whole
abandoned-moved = (refl, refl)

abandoned_more : moved_sum abandoned (started nines) ≤ 32 * length (joined abandoned (started nines)) → ⊥
abandoned_more h = let k : ◌≤◌ 129 128 = subst₂ ◌≤◌ abandoned-moved.0 (ap (λ (l : List ℕ). 32 * length l) abandoned-moved.1) h in omega arith
