-- What the entry points answer and leave beside `entered`: a start, and a call before its answer is a number.
-- Assumes nothing.
use Rattle.std.specs.Prelude.{ℕ, true, false, List, Result, Ok, Err, eqb, ltb, length, replicate}
use Rattle.machine.specs.declared.Refusal.{Refusal}
use Rattle.machine.specs.Machine.{counted, longest_buffer, start_verdict, started}
use Rattle.machine.specs.Numbers.{number, verdict_of}
use Rattle.steps.specs.declared.Head.{Head}
use Rattle.state_bytes.specs.StateBytes.{state_size, state_of, stored_head, stored_count, number_of, Entered}

abbrev pub entered_as : ℕ → List ℕ → List ℕ → Entered
entered_as n st b = record { number = n; state = st; buffer = b }

-- the same of a call whose answer is not a number yet
abbrev pub answered_as : Result (Unit {0}) Refusal → List ℕ → List ℕ → Entered
answered_as r st b = entered_as (number_of (verdict_of r)) st b

-- of a call that stores the head alone, by what it says
abbrev pub stepped_as : Result Head Refusal → List ℕ → List ℕ → Entered
stepped_as (Ok h) st b = entered_as 0 (stored_head h.used h.depth h.waiting st) b
stepped_as (Err why) st b = entered_as (number why) st b

-- of a scalar, which the innermost container has as a member more
abbrev pub written_as : Result Head Refusal → List ℕ → List ℕ → Entered
written_as (Ok h) st b =
    entered_as 0 (stored_head h.used h.depth h.waiting (stored_count h.depth (counted (state_of st).containers h.depth) st)) b
written_as (Err why) st b = entered_as (number why) st b

-- the bytes of a state with no container and no name
abbrev pub empty_bytes : ℕ → List ℕ
empty_bytes used = stored_head used 0 false (replicate state_size 0)

-- A start knows the lines 1 and 10, and 2 between them for a slice of another length, which comes back as it was.
-- A refused one leaves the empty state with used length 0.
unfoldable pub start_entered : List ℕ → List ℕ → Entered
start_entered st b =
    elim (eqb (length st) state_size) [
      | true ↦ entered_as (number_of (start_verdict b)) (empty_bytes (started b).state.used) (started b).buffer
      | false ↦ elim (ltb longest_buffer (length b)) [ true ↦ entered_as 1 st b | false ↦ entered_as 2 st b ]
    ]
