-- The answers of the code, as document 01's table "Checks by place" numbers them.
-- Assumes nothing.
use Rattle.std.specs.Prelude.{ℕ, ◌≡◌, Bool, List, [], ◌∷◌, Result, Ok, Err}
use Rattle.machine.specs.declared.Refusal.{Refusal}
use Rattle.machine.specs.declared.Refusal.TheVariants.{BufferTooLong, StateUnfit, Misplaced, TooDeep, NegativeZero}
use Rattle.machine.specs.declared.Refusal.TheVariants.{NotUtf8, BadTimestamp, DecimalTooLong, NoRoom}
use Rattle.machine.specs.declared.State.{State}
use Rattle.machine.specs.declared.Refused.{Refused}
use Rattle.machine.specs.declared.Closed.{Closed}
use Rattle.machine.specs.Call.{Call}
use Rattle.machine.specs.Machine.{checks, Verdict, accepted, refused, verdict, start_lines, Outcome, Config, config, no_figures}

abbrev pub number : Refusal → ℕ
number BufferTooLong = 1
number StateUnfit = 2
number Misplaced = 3
number TooDeep = 4
number NegativeZero = 5
number NotUtf8 = 6
number BadTimestamp = 7
number DecimalTooLong = 8
number NoRoom = 10

-- the first line that fails, or none
abbrev pub verdict_of : Result (Unit {0}) Refusal → Verdict
verdict_of (Ok x) = accepted
verdict_of (Err why) = refused (number why)

abbrev pub refused_outcome : Refused → List ℕ → Outcome
refused_outcome r b = record { verdict = refused (number r.why); config = config r.state b; figures = no_figures }

-- What the code returns, with the buffer that it leaves, as the machine's outcome. Only a closing answers figures.
abbrev pub outcome_of : Result State Refused → List ℕ → Outcome
outcome_of (Ok s) b = record { verdict = accepted; config = config s b; figures = no_figures }
outcome_of (Err r) b = refused_outcome r b

abbrev pub closed_outcome : Result Closed Refused → List ℕ → Outcome
closed_outcome (Ok r) b =
    record {
      verdict = accepted;
      config = config r.state b;
      figures = record { size = r.size; members = r.members; moved = r.moved };
    }
closed_outcome (Err r) b = refused_outcome r b

-- ---- the numbers of the table are those of the code's refusals: proofs/Table.antt

-- each line has the number of a refusal
abbrev pub AllNumbered : List (Bool × ℕ) → Type 0
AllNumbered [] = Unit {0}
AllNumbered (x ∷ xs) = ((why : Refusal) × (number why ≡ x.1)) × AllNumbered xs

-- Every line of every call, and of a start, has the number of a refusal, whether it can fail or not.
abbrev pub EachNumbered : Type 0
EachNumbered = ((c : Call) (w : Config) → AllNumbered (checks c w)) × ((b : List ℕ) → AllNumbered (start_lines b))

-- Each refusal is met by a call (document 02, Item 9: none is on the card that nobody can meet).
abbrev pub EachMet : Type 0
EachMet = (why : Refusal) → (c : Call) × (w : Config) × (verdict c w ≡ refused (number why))
