-- Document 01's wrong programs, "Conditions of acceptance" 3: what the contracts of the entry points say of two bools written one after the other
-- into eight bytes of nines, computed, and that it differs from what each such program answers or leaves. Then the same of programs that count
-- members at another call than document 02, Item 3, or moved bytes otherwise than Item 10.
-- Assumes nothing.
use Prim.Native.Nat.{ℕ, zero, suc, ◌+◌, ◌*◌}
use native.Mathlib.Omega.{arith}
use mathlib.Core.Path.{◌≡◌, refl, sym, ◌∙◌, ap}
use mathlib.Core.List.{List, [], ◌∷◌, ◌++◌}
use lib.ListN.{replicate, get_or}
use Rattle.buffer.specs.Laid.{laid, placed}
use Rattle.annotations.specs.Sids.{least_first, sid_at, sids_up_to, sids_of}
use Rattle.machine.proofs.Whole.{machine_whole}
use Rattle.state_bytes.specs.StateBytes.{state_size, four, place_of, state_of, containers_from, stored_head, stored_container, stored_members, entered}
use Rattle.state_bytes.specs.StateBytes.{numbers_laid, answered}
use Rattle.entry_numbers.specs.EntryCall.{gm_write_bool, gm_write_blob, gm_field_name, gm_open_list, gm_open_struct, gm_close, gm_abandon}
use Rattle.entry_steps.specs.Entries.{start_entered}
use Rattle.entry_lists.specs.Demands.{Lent, answer, lent_after, lent_started, moved_laid}

abbrev started : Lent
started = lent_started (replicate state_size 7) (replicate 8 9)

abbrev once : Lent
once = lent_after (gm_write_bool [] 1) started

abbrev twice : Lent
twice = lent_after (gm_write_bool [] 0) once

-- what the contracts say of them
record Said : Type 0 where
  answers : answer (gm_write_bool [] 1) started ∷ answer (gm_write_bool [] 0) once ∷ [] ≡ 0 ∷ 0 ∷ []
  begun : started.buffer ≡ 0xE0 ∷ 0x01 ∷ 0x00 ∷ 0xEA ∷ 9 ∷ 9 ∷ 9 ∷ 9 ∷ []
  one : once.buffer ≡ 0xE0 ∷ 0x01 ∷ 0x00 ∷ 0xEA ∷ 0x11 ∷ 9 ∷ 9 ∷ 9 ∷ []
  two : twice.buffer ≡ 0xE0 ∷ 0x01 ∷ 0x00 ∷ 0xEA ∷ 0x11 ∷ 0x10 ∷ 9 ∷ 9 ∷ []
  used : four once.state 0 ∷ four twice.state 0 ∷ [] ≡ 5 ∷ 6 ∷ []

said : Said
unfolding start_entered entered state_of containers_from stored_head laid sids_of sids_up_to machine_whole
said = record { answers = refl; begun = refl; one = refl; two = refl; used = refl }

-- ---- the programs

-- keeps the first value and only advances its state afterwards
first_value_kept : twice.buffer ≡ once.buffer → ⊥
first_value_kept e = let z : ◌≡◌ {A = ℕ} 0x10 9 = ap (λ (b : List ℕ). get_or b 5 0) (sym said.two ∙ e ∙ said.one) in omega arith

-- its used length is invented
used_invented : (n : ℕ) → four twice.state 0 ≡ 7 + n → ⊥
used_invented n e = let z : ◌≡◌ {A = ℕ} 6 (7 + n) = sym (ap (λ (b : List ℕ). get_or b 1 0) said.used) ∙ e in omega arith

-- says 10 while bytes remain, or refuses each call
ten_with_room : answer (gm_write_bool [] 0) once ≡ 10 → ⊥
ten_with_room e = let z : ◌≡◌ {A = ℕ} 0 10 = sym (ap (λ (b : List ℕ). get_or b 1 0) said.answers) ∙ e in omega arith

each_refused : (n : ℕ) → answer (gm_write_bool [] 1) started ≡ 1 + n → ⊥
each_refused n e = let z : ◌≡◌ {A = ℕ} 0 (1 + n) = sym (ap (λ (b : List ℕ). get_or b 0 0) said.answers) ∙ e in omega arith

-- emits null for each value
null_for_each : once.buffer ≡ 0xE0 ∷ 0x01 ∷ 0x00 ∷ 0xEA ∷ 0x0F ∷ 9 ∷ 9 ∷ 9 ∷ [] → ⊥
null_for_each e = let z : ◌≡◌ {A = ℕ} 0x11 0x0F = ap (λ (b : List ℕ). get_or b 4 0) (sym said.one ∙ e) in omega arith

-- leaves the buffer untouched
untouched : once.buffer ≡ started.buffer → ⊥
untouched e = let z : ◌≡◌ {A = ℕ} 0x11 9 = ap (λ (b : List ℕ). get_or b 4 0) (sym said.one ∙ e ∙ said.begun) in omega arith

-- ---- members: a list in a struct, abandoned, opened again and closed; then a pair of name and bool

abbrev opened : Lent
opened = lent_after (gm_open_struct []) (lent_started (replicate state_size 7) (replicate 16 9))

abbrev named : Lent
named = lent_after (gm_field_name 4) opened

abbrev inside : Lent
inside = lent_after (gm_open_list []) named

abbrev abandoned : Lent
abandoned = lent_after gm_abandon inside

abbrev closed : Lent
closed = lent_after gm_close (lent_after (gm_open_list []) abandoned)

abbrev paired : Lent
paired = lent_after (gm_write_bool [] 1) (lent_after (gm_field_name 5) closed)

abbrev struct_members : Lent → ℕ
struct_members w = four w.state (place_of 0 + 9)

-- the struct's members behind each of them
members_said : struct_members opened ∷ struct_members named ∷ struct_members inside ∷ struct_members abandoned ∷ struct_members closed ∷ struct_members paired ∷ []
    ≡ 0 ∷ 0 ∷ 0 ∷ 0 ∷ 1 ∷ 2 ∷ []
unfolding start_entered entered state_of containers_from stored_head stored_container stored_members laid sids_of sids_up_to machine_whole
members_said = refl

-- counts a field name, a container at its opening, or one that is abandoned
name_counted : struct_members named ≡ 1 → ⊥
name_counted e = let z : ◌≡◌ {A = ℕ} 0 1 = sym (ap (λ (b : List ℕ). get_or b 1 0) members_said) ∙ e in omega arith

opening_counted : struct_members inside ≡ 1 → ⊥
opening_counted e = let z : ◌≡◌ {A = ℕ} 0 1 = sym (ap (λ (b : List ℕ). get_or b 2 0) members_said) ∙ e in omega arith

abandonment_counted : struct_members abandoned ≡ 1 → ⊥
abandonment_counted e = let z : ◌≡◌ {A = ℕ} 0 1 = sym (ap (λ (b : List ℕ). get_or b 3 0) members_said) ∙ e in omega arith

-- counts no container that is closed, or no scalar
closing_not_counted : struct_members closed ≡ 0 → ⊥
closing_not_counted e = let z : ◌≡◌ {A = ℕ} 1 0 = sym (ap (λ (b : List ℕ). get_or b 4 0) members_said) ∙ e in omega arith

scalar_not_counted : struct_members paired ≡ struct_members closed → ⊥
scalar_not_counted e =
    let z : ◌≡◌ {A = ℕ} 2 1 = sym (ap (λ (b : List ℕ). get_or b 5 0) members_said) ∙ (e ∙ ap (λ (b : List ℕ). get_or b 4 0) members_said) in
    omega arith

-- ---- moved bytes: a list with sids of ten bytes and of one, and a blob of twelve bytes, closed

-- so often the sid 10
abbrev tens : ℕ → List ℕ
tens zero = []
tens (suc n) = 10 ∷ 0 ∷ 0 ∷ 0 ∷ 0 ∷ 0 ∷ 0 ∷ 0 ∷ tens n

-- with n of the greatest sid, of ten bytes, and m of one byte
abbrev listed : ℕ → ℕ → Lent
listed n m =
    lent_after (gm_write_blob [] (replicate 12 5))
    (lent_after (gm_open_list (replicate (8 * n) 0xFF ++ tens m)) (lent_started (replicate state_size 7) (replicate 150 9)))

abbrev moved_of : ℕ → ℕ → ℕ
moved_of n m = moved_laid (replicate 12 8) (listed n m)

-- Annotation parts of 2, 113 and 114 bytes, and 13 in each body: wrappers' headers of two, two and three bytes. In the last the list's header is
-- a byte shorter and the wrapper's a byte longer than its reserve, so that the body stays.
moved_said : moved_of 0 1 ∷ moved_of 11 2 ∷ moved_of 11 3 ∷ [] ≡ 13 ∷ 13 ∷ 114 ∷ []
unfolding answered numbers_laid placed start_entered entered state_of containers_from stored_head stored_container stored_members laid sids_of
    sids_up_to sid_at least_first machine_whole
moved_said = refl

-- counts the wrapper's header as moved, or the body where only the annotations move
wrapper-counted : moved_of 11 3 ≡ 114 + 3 → ⊥
wrapper-counted e = let z : ◌≡◌ {A = ℕ} 114 117 = sym (ap (λ (b : List ℕ). get_or b 2 0) moved_said) ∙ e in omega arith

body-counted : moved_of 11 3 ≡ 114 + 13 → ⊥
body-counted e = let z : ◌≡◌ {A = ℕ} 114 127 = sym (ap (λ (b : List ℕ). get_or b 2 0) moved_said) ∙ e in omega arith

-- measures before the list's header has its final size: its reserve of two would make the wrapper's length 128, and the annotations would move
measured_early : (n : ℕ) → moved_of 11 2 ≡ 113 + n → ⊥
measured_early n e = let z : ◌≡◌ {A = ℕ} 13 (113 + n) = sym (ap (λ (b : List ℕ). get_or b 1 0) moved_said) ∙ e in omega arith

-- counts no body
none-counted : moved_of 0 1 ≡ 0 → ⊥
none-counted e = let z : ◌≡◌ {A = ℕ} 13 0 = sym (ap (λ (b : List ℕ). get_or b 0 0) moved_said) ∙ e in omega arith
