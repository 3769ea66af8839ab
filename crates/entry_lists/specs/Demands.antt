-- What is promised of what a host calls: demands 1, 2 and 3 over the entry points, and what closings answer of members and of moved bytes, on one page.
-- The proofs are in proofs/Demands.antt, proofs/Counts.antt and proofs/Moves.antt.
-- Each entry point is lent the state's bytes and the buffer. Its contract says that it answers and leaves what `entered` does; `gm_start`'s names
-- `start_entered`, and `gm_finished` answers `finished_length`.
-- Assumes nothing.
use Rattle.std.specs.Prelude.{ℕ, ◌+◌, ◌*◌, ◌≤◌, ◌≡◌, Bool, true, false, not, ◌&&◌, List, [], ◌∷◌, ◌++◌, eqb, length, take}
use Rattle.ion.specs.Value.{Scalar, Item}
use Rattle.encoding.specs.Argument.{Argument, meaning, any_holds}
use Rattle.encoding.specs.Stream.{stream_bytes}
use Rattle.ion.specs.Grammar.{Reads}
use Rattle.machine.specs.Machine.{Config, config, fits, rule_of, checks, first_failing, finished_length}
use Rattle.machine.specs.Model.{Model, model_step, started_model}
use Rattle.machine.specs.Demands.{part_of, ReadsOnlyAs}
use Rattle.machine.specs.Counts.{counts, Answers, no_answers, answers_step}
use Rattle.machine.specs.Moves.{is_closing, is_abandonment}
use Rattle.state_bytes.specs.StateBytes.{four, state_of, number_of, Entered, entered, answered}
use Rattle.entry_numbers.specs.EntryCall.{EntryCall, call_of, HostCall}
use Rattle.entry_steps.specs.Entries.{start_entered}

-- what is lent
pub record Lent : Type 0 where
  pub state : List ℕ
  pub buffer : List ℕ

-- the state that the slice spells, with the buffer
abbrev pub config_of : Lent → Config
config_of w = config (state_of w.state) w.buffer

-- ---- one call

abbrev pub entered_on : EntryCall → Lent → Entered
entered_on e w = entered (call_of e) w.state w.buffer

abbrev pub answer : EntryCall → Lent → ℕ
answer e w = (entered_on e w).number

abbrev pub is_entered : EntryCall → Lent → Bool
is_entered e w = eqb (answer e w) 0

abbrev pub lent_after : EntryCall → Lent → Lent
lent_after e w = record { state = (entered_on e w).state; buffer = (entered_on e w).buffer }

-- The lines of document 01's table for this call, in their order: each test that refuses, with its number.
abbrev pub table_of : EntryCall → Lent → List (Bool × ℕ)
table_of e w = checks (call_of e) (config_of w)

-- Demand 1, of any entry point with any arguments on any bytes: the first failing line answers its number; a refusal leaves every byte
-- of the state slice and of the buffer; and exactly a call that no line refuses is accepted, with 0.
pub record Demand1Of (e : EntryCall) (w : Lent) : Type 0 where
  pub table : answer e w ≡ number_of (first_failing (table_of e w))
  pub keeps : (answer e w ≡ 0 → ⊥) → lent_after e w ≡ w
  pub accepts : is_entered e w ≡ not (any_holds (table_of e w))

abbrev pub EntryDemand1 : Type 0
EntryDemand1 = (e : EntryCall) (w : Lent) → Demand1Of e w

-- ---- lists of calls: each is lent what the last one left

abbrev pub lent_started : List ℕ → List ℕ → Lent
lent_started st b = record { state = (start_entered st b).state; buffer = (start_entered st b).buffer }

-- as many bytes from the buffer's front as `gm_finished` answers
abbrev pub lent_taken : Lent → List ℕ
lent_taken w = take (finished_length (state_of w.state) (length w.buffer)) w.buffer

-- The finished bytes just before each accepted emptying and at the end, joined.
unfoldable pub lent_joined : List HostCall → Lent → List ℕ
lent_joined [] w = lent_taken w
lent_joined (h ∷ hs) w = part_of (is_entered h.entry w) (rule_of (call_of h.entry) (config_of w)).flushes ++ lent_joined hs (lent_after h.entry w)

-- The model is fed each call, its arguments and whether it was accepted.
unfoldable pub lent_model_after : {S : Type 0} → (Argument → S) → List HostCall → Lent → Model S → Model S
lent_model_after f [] w x = x
lent_model_after f (h ∷ hs) w x = lent_model_after f hs (lent_after h.entry w) (model_step f (call_of h.entry) (is_entered h.entry w) x)

-- what the list spells, with the containers that its accepted calls leave open
abbrev pub lent_spelling : List HostCall → List ℕ → List ℕ → Model Scalar
lent_spelling hs st b = lent_model_after meaning hs (lent_started st b) started_model

-- the same items with the arguments of the calls for leaves
abbrev pub lent_written : List HostCall → List ℕ → List ℕ → List (Item Argument)
lent_written hs st b = (lent_model_after (λ a. a) hs (lent_started st b) started_model).items

-- An accepted start, whatever was lent, and accepted calls that leave no container open.
pub record LentRun (hs : List HostCall) (st b : List ℕ) : Type 0 where
  pub starts : (start_entered st b).number ≡ 0
  pub ends : (lent_spelling hs st b).stack ≡ []

-- Demand 2: the joined bytes are the encoding of what was written.
abbrev pub EntryDemand2 : Type 0
EntryDemand2 = (hs : List HostCall) (st b : List ℕ) → LentRun hs st b → lent_joined hs (lent_started st b) ≡ stream_bytes (lent_written hs st b)

-- Demand 3: the joined bytes have a reading, it is what was spelled, and every reading equals it.
abbrev pub EntryDemand3 : Type 0
EntryDemand3 = (hs : List HostCall) (st b : List ℕ) → LentRun hs st b → ReadsOnlyAs (lent_joined hs (lent_started st b)) (lent_spelling hs st b).items

-- ---- how many members closed containers have (document 02, Item 3)

-- the second of the numbers that `gm_close` leaves in the slice that is lent for its answer
abbrev pub members_laid : List ℕ → Lent → ℕ
members_laid closed w = four (answered w.state w.buffer closed) 4

-- what the closings of a list answer, `closed` being the slice that each is lent
unfoldable pub lent_answers_after : (Lent → List ℕ) → List HostCall → Lent → Answers → Answers
lent_answers_after closed [] w x = x
lent_answers_after closed (h ∷ hs) w x =
    lent_answers_after closed hs (lent_after h.entry w)
    (answers_step (call_of h.entry) (is_entered h.entry w) (state_of w.state) (members_laid (closed w) w) x)

-- Whatever slices of eight or more bytes are lent for the answers: what the closings answer, without those in a container that is abandoned later,
-- is how many members the containers at their places have in every reading of the joined bytes; and these are all the containers that it has.
abbrev pub EntryMembersAnswered : Type 0
EntryMembersAnswered =
    (closed : Lent → List ℕ) → ((w : Lent) → 8 ≤ length (closed w)) →
    (hs : List HostCall) (st b : List ℕ) → LentRun hs st b →
    (x : List (Item Scalar)) → Reads (lent_joined hs (lent_started st b)) x → (lent_answers_after closed hs (lent_started st b) no_answers).outside ≡ counts x

-- what a list of calls leaves
unfoldable pub lent_after_all : List HostCall → Lent → Lent
lent_after_all [] w = w
lent_after_all (h ∷ hs) w = lent_after_all hs (lent_after h.entry w)

-- The number 2 refuses no state that the entry points have left, from an accepted start on.
abbrev pub EntryOwnStatesFit : Type 0
EntryOwnStatesFit =
    (hs : List HostCall) (st b : List ℕ) → (start_entered st b).number ≡ 0 →
    let w = lent_after_all hs (lent_started st b) in fits (state_of w.state) (length w.buffer) ≡ true

-- ---- how many bytes closings move (document 02, Item 10)

-- the third of the numbers that `gm_close` leaves in the slice that is lent for its answer
abbrev pub moved_laid : List ℕ → Lent → ℕ
moved_laid closed w = four (answered w.state w.buffer closed) 8

-- of an accepted closing; a refused one leaves no number, and no other call has one
abbrev pub moved_if : Bool → ℕ → ℕ
moved_if true n = n
moved_if false n = 0

-- the sum of what the closings of a list answer, `closed` being the slice that each is lent
unfoldable pub lent_moved_sum : (Lent → List ℕ) → List HostCall → Lent → ℕ
lent_moved_sum closed [] w = 0
lent_moved_sum closed (h ∷ hs) w =
    moved_if (is_closing (call_of h.entry) && is_entered h.entry w) (moved_laid (closed w) w) + lent_moved_sum closed hs (lent_after h.entry w)

-- an abandonment that is refused abandons nothing
unfoldable pub lent_nothing_abandoned : List HostCall → Lent → Bool
lent_nothing_abandoned [] w = true
lent_nothing_abandoned (h ∷ hs) w = not (is_abandonment (call_of h.entry) && is_entered h.entry w) && lent_nothing_abandoned hs (lent_after h.entry w)

-- Whatever slices of twelve or more bytes are lent for the answers: over a list in which nothing is abandoned, and which leaves no container open,
-- the closings move at most 32 times the bytes of the stream.
abbrev pub EntryMovedAtMost : Type 0
EntryMovedAtMost =
    (closed : Lent → List ℕ) → ((w : Lent) → 12 ≤ length (closed w)) →
    (hs : List HostCall) (st b : List ℕ) → LentRun hs st b → lent_nothing_abandoned hs (lent_started st b) ≡ true →
    lent_moved_sum closed hs (lent_started st b) ≤ 32 * length (lent_joined hs (lent_started st b))
