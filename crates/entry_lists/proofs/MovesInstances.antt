-- The bytes that closings move over one list of calls through the entry points, computed: the calls of the machine's instance as a host makes them,
-- on slices and a buffer that hold something else. Assumes nothing.
use Prim.Native.Nat.{ℕ, ◌+◌, ◌*◌, ◌≤◌}
use native.Mathlib.Omega.{arith}
use mathlib.Core.Path.{◌≡◌, refl, ap, subst₂}
use mathlib.Core.Bool.{true}
use mathlib.Core.List.{List, [], ◌∷◌}
use lib.ListN.{length, replicate}
use Rattle.buffer.specs.Laid.{laid, placed}
use Rattle.annotations.specs.Sids.{least_first, sid_at, sids_up_to, sids_of}
use Rattle.machine.proofs.Whole.{machine_whole}
use Rattle.machine.proofs.MovesInstances.{nines}
use Rattle.state_bytes.specs.StateBytes.{state_size, state_of, containers_from, stored_head, stored_container, stored_members, entered, numbers_laid, answered}
use Rattle.entry_numbers.specs.EntryCall.{gm_write_bool, gm_write_int, gm_write_blob, gm_field_name, gm_open_list, gm_open_struct, gm_close, gm_abandon, gm_empty, HostCall}
use Rattle.entry_steps.specs.Entries.{start_entered}
use Rattle.entry_lists.specs.Demands.{lent_started, lent_joined, lent_model_after, LentRun, lent_moved_sum, lent_nothing_abandoned}
use Rattle.entry_lists.proofs.Moves.{entry_moved_at_most}

abbrev host_nested : List HostCall
host_nested =
    record { entry = gm_open_list []; typed = omega arith }
    ∷ record { entry = gm_open_list (10 ∷ 0 ∷ 0 ∷ 0 ∷ 0 ∷ 0 ∷ 0 ∷ 0 ∷ []); typed = omega arith }
    ∷ record { entry = gm_field_name 4; typed = omega arith }
    ∷ record { entry = gm_write_bool [] 1; typed = omega arith }
    ∷ record { entry = gm_close; typed = omega arith }
    ∷ record { entry = gm_write_int [] 1 []; typed = omega arith }
    ∷ record { entry = gm_close; typed = omega arith }
    ∷ record { entry = gm_close; typed = omega arith }
    ∷ record { entry = gm_abandon; typed = omega arith }
    ∷ record { entry = gm_empty; typed = omega arith }
    ∷ record { entry = gm_open_struct []; typed = omega arith }
    ∷ record { entry = gm_field_name 4; typed = omega arith }
    ∷ record { entry = gm_close; typed = omega arith }
    ∷ record { entry = gm_write_blob [] (0 ∷ 0 ∷ 0 ∷ 0 ∷ 0 ∷ 0 ∷ 0 ∷ 0 ∷ 0 ∷ 0 ∷ []); typed = omega arith }
    ∷ record { entry = gm_close; typed = omega arith }
    ∷ []

abbrev sevens : List ℕ
sevens = replicate state_size 7

-- what is lent for the answers
abbrev eights : List ℕ
eights = replicate 13 8

record Nested : Type 0 where
  run : LentRun host_nested sevens nines
  kept : lent_nothing_abandoned host_nested (lent_started sevens nines) ≡ true
  joined : lent_joined host_nested (lent_started sevens nines)
      ≡ 0xE0 ∷ 0x01 ∷ 0x00 ∷ 0xEA ∷ 0xB5 ∷ 0xE4 ∷ 0x81 ∷ 0x8A ∷ 0xB1 ∷ 0x11 ∷ 0xDC ∷ 0x84 ∷ 0xAA ∷ replicate 10 0
  moved : lent_moved_sum (λ w. eights) host_nested (lent_started sevens nines) ≡ 1 + 2 + 5 + 12

host-nested : Nested
unfolding lent_joined lent_model_after lent_moved_sum lent_nothing_abandoned answered numbers_laid placed start_entered entered state_of
    containers_from stored_head stored_container stored_members laid sids_of sids_up_to sid_at least_first machine_whole
host-nested = record { run = record { starts = refl; ends = refl }; kept = refl; joined = refl; moved = refl }

entry_instance_moved : 20 ≤ 32 * 23
entry_instance_moved =
    subst₂ ◌≤◌ host-nested.moved (ap (λ (l : List ℕ). 32 * length l) host-nested.joined)
    (entry_moved_at_most (λ w. eights) (λ w. omega arith) host_nested sevens nines host-nested.run host-nested.kept)
