-- What the machine answers and leaves, by how far a call gets: refused by place, refused by its own lines, or accepted.
-- Assumes nothing.
use Rattle.std.proofs.Common.{◌≡◌, ℕ, ◌+◌, ◌<◌, Bool, true, false, ltb, List, [], ◌∷◌, ◌++◌, length, Option, Some, None, sym, refl, ap, ◌∙◌, ap₂, le-ltb, lt-ltb}
use mathlib.Core.Bool.{false≢true}
use Rattle.ion.proofs.Tests.{by_cases}
use Rattle.encoding.specs.Argument.{Argument, argument_checks, any_holds}
use Rattle.buffer.specs.Laid.{placed}
use Rattle.buffer.proofs.Laid.{placed-some, placed-none}
use Rattle.containers.proofs.Splice.{splice_end}
use Rattle.machine.specs.declared.State.{State}
use Rattle.machine.specs.declared.Container.{Container}
use Rattle.machine.specs.Call.{Call}
use Rattle.machine.specs.Machine.{Config, config, put, Figures, no_figures, rule_of, effect, place_lines, checks, Verdict, accepted, refused}
use Rattle.machine.specs.Machine.{first_failing, place_verdict, is_accepted, verdict, Outcome, run}
use Rattle.scalars.specs.Refused.{own_refusal}

-- ---- the first failing line of two lists

first_of_left : (l r : List (Bool × ℕ)) (n : ℕ) → first_failing l ≡ refused n → first_failing (l ++ r) ≡ refused n
first_of_left [] r n e = absurd (false≢true (sym (ap is_accepted e)))
first_of_left (x ∷ xs) r n e = by_cases x.0 (λ p. rw p (rw p at e)) (λ p. rw p (first_of_left xs r n (rw p at e)))

pub first_of_right : (l r : List (Bool × ℕ)) → first_failing l ≡ accepted → first_failing (l ++ r) ≡ first_failing r
first_of_right [] r e = refl
first_of_right (x ∷ xs) r e = by_cases x.0 (λ p. absurd (false≢true (ap is_accepted (rw p at e)))) (λ p. rw p (first_of_right xs r (rw p at e)))

-- ---- a call by its verdict

abbrev pub outcome : Verdict → State → List ℕ → Outcome
outcome v s b = record { verdict = v; config = config s b; figures = no_figures }

-- an accepted call that leaves w and answers f
abbrev pub accepted_with : Config → Figures → Outcome
accepted_with w f = record { verdict = accepted; config = w; figures = f }

pub run_refused : (c : Call) (s : State) (b : List ℕ) (n : ℕ) → first_failing (checks c (config s b)) ≡ refused n → run c (config s b) ≡ outcome (refused n) s b
unfolding run verdict
run_refused c s b n e = rw e

pub run_accepted : (c : Call) (s : State) (b : List ℕ) → first_failing (checks c (config s b)) ≡ accepted
    → run c (config s b) ≡ accepted_with (effect c (config s b)) (rule_of c (config s b)).figures
unfolding run verdict
run_accepted c s b e = rw e

-- ---- refused by place

-- the line 10, for a call that has no other behind its place
abbrev pub room_line : Call → State → List ℕ → List (Bool × ℕ)
room_line c s b = (ltb (length b) (effect c (config s b)).state.used, 10) ∷ []

pub run_misplaced : (c : Call) (s : State) (b : List ℕ) (m : Bool) (rest : List (Bool × ℕ)) (n : ℕ)
    → checks c (config s b) ≡ place_lines s (length b) m ++ rest → place_verdict s (length b) m ≡ refused n
    → run c (config s b) ≡ outcome (refused n) s b
unfolding place_verdict
run_misplaced c s b m rest n q e = run_refused c s b n (rw q (first_of_left (place_lines s (length b) m) rest n e))

pub past-place : (c : Call) (s : State) (b : List ℕ) (m : Bool) (rest : List (Bool × ℕ))
    → checks c (config s b) ≡ place_lines s (length b) m ++ rest → accepted ≡ place_verdict s (length b) m
    → first_failing (checks c (config s b)) ≡ first_failing rest
unfolding place_verdict
past-place c s b m rest q e = rw q (first_of_right (place_lines s (length b) m) rest (sym e))

-- ---- a scalar's own lines

no_check : (l : List (Bool × ℕ)) → any_holds l ≡ false → first_failing l ≡ accepted
no_check [] e = refl
no_check (x ∷ xs) e = by_cases x.0 (λ p. absurd (false≢true (sym (rw p at e)))) (λ p. rw p (no_check xs (rw p at e)))

some-check : (l r t : List (Bool × ℕ)) → any_holds l ≡ true → first_failing (l ++ r) ≡ first_failing (l ++ t)
some-check [] r t e = absurd (false≢true e)
some-check (x ∷ xs) r t e = by_cases x.0 (λ p. rw p) (λ p. rw p (some-check xs r t (rw p at e)))

-- where a check fails, or there is no room
pub own-refusal : (a : Argument) (used room : ℕ) → (any_holds (argument_checks a) ≡ false → room < used)
    → first_failing (argument_checks a ++ ((ltb room used, 10) ∷ [])) ≡ own_refusal a
unfolding own_refusal
own-refusal a used room h =
    by_cases (any_holds (argument_checks a))
    (λ p. some-check (argument_checks a) ((ltb room used, 10) ∷ []) ((true, 10) ∷ []) p)
    (λ p. rw (lt-ltb room used (h p)))

-- where none fails, what follows decides
pub own_only : (a : Argument) (rest : List (Bool × ℕ)) → any_holds (argument_checks a) ≡ false → first_failing (argument_checks a ++ rest) ≡ first_failing rest
own_only a rest p = first_of_right (argument_checks a) rest (no_check (argument_checks a) p)

-- ---- a call that puts bytes at the end of the used ones

-- bytes at the end of the used ones, which are put or not
module _ (c : Call) (s : State) (b out : List ℕ) (l : List ℕ)
    (past : first_failing (checks c (config s b)) ≡ first_failing ((ltb (length b) (s.used + length out), 10) ∷ [])) where
  pub end_refused : ◌≡◌ {A = Option ℕ × List ℕ} (None, l) (placed b s.used out) → outcome (refused 10) s l ≡ run c (config s b)
  end_refused e =
      let w = placed-none b s.used out l e in
      ap (λ (x : List ℕ). outcome (refused 10) s x) w.1 ∙ sym (run_refused c s b 10 (past ∙ rw (lt-ltb (length b) (s.used + length out) w.0)))

  pub end_accepted : (d : ℕ) (waits : Bool) (cs : List Container)
      → effect c (config s b) ≡ put (config s b) (record { place = s.used; out = out; depth = d; waiting = waits; containers = cs })
      → (rule_of c (config s b)).figures ≡ no_figures → (n : ℕ) → ◌≡◌ {A = Option ℕ × List ℕ} (Some n, l) (placed b s.used out)
      → outcome accepted (record { used = s.used + n; depth = d; waiting = waits; containers = cs }) l ≡ run c (config s b)
  end_accepted d waits cs f g n e =
      let w = placed-some b s.used out n l e in
      rw (w.1, w.2, ← (splice_end s.used out b))
      (sym (run_accepted c s b (past ∙ rw (le-ltb (length b) (s.used + length out) w.0)) ∙ ap₂ accepted_with f g))
