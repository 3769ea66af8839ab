-- Bytes put at the end of the used ones by a call that has no line but 10 behind its place, and a call whose place is refused.
-- Assumes nothing.
use Rattle.std.proofs.Common.{◌≡◌, ℕ, ◌+◌, ◌≤◌, Bool, ltb, List, [], ◌∷◌, ◌++◌, length, Option, Some, None, sym, arith}
use Rattle.buffer.specs.Laid.{placed}
use Rattle.buffer.proofs.Laid.{placed-some}
use Rattle.machine.specs.declared.State.{State}
use Rattle.machine.specs.declared.Refusal.{Refusal}
use Rattle.machine.specs.declared.Refusal.TheVariants.{NoRoom}
use Rattle.machine.specs.Call.{Call}
use Rattle.machine.specs.Machine.{config, put, at_end, effect, no_figures, rule_of, place_lines, checks, accepted, refused, first_failing, place_verdict, run}
use Rattle.machine.specs.Numbers.{number}
use Rattle.steps.specs.Heads.{headed, accepted_at, refused_at}
use Rattle.steps.proofs.Run.{run_misplaced, past-place, end_refused, end_accepted}

-- a place that does not pass
pub barred : (c : Call) (s : State) (b : List ℕ) (m : Bool) (rest : List (Bool × ℕ)) → checks c (config s b) ≡ place_lines s (length b) m ++ rest
    → (why : Refusal) → refused (number why) ≡ place_verdict s (length b) m → refused_at why s b ≡ run c (config s b)
barred c s b m rest q why e = sym (run_misplaced c s b m rest (number why) q (sym e))

module _ (c : Call) (s : State) (b : List ℕ) (m : Bool) (out : List ℕ) (waits : Bool)
    (lines : checks c (config s b) ≡ place_lines s (length b) m ++ ((ltb (length b) (s.used + length out), 10) ∷ []))
    (does : effect c (config s b) ≡ put (config s b) (at_end s out waits s.containers))
    (only : (rule_of c (config s b)).figures ≡ no_figures)
    (p : accepted ≡ place_verdict s (length b) m) (l : List ℕ) where
  room_left : first_failing (checks c (config s b)) ≡ first_failing ((ltb (length b) (s.used + length out), 10) ∷ [])
  room_left = past-place c s b m ((ltb (length b) (s.used + length out), 10) ∷ []) lines p

  pub end_full : ◌≡◌ {A = Option ℕ × List ℕ} (None, l) (placed b s.used out) → refused_at NoRoom s l ≡ run c (config s b)
  end_full e = end_refused c s b out l room_left e

  pub end_put : (n : ℕ) → ◌≡◌ {A = Option ℕ × List ℕ} (Some n, l) (placed b s.used out)
      → accepted_at (headed (record { used = s.used + n; depth = s.depth; waiting = waits }) s.containers) no_figures l ≡ run c (config s b)
  end_put n e = end_accepted c s b out l room_left s.depth waits s.containers does only n e

-- no sum of the used length and what was put wraps
pub end_fits : (b : List ℕ) (used : ℕ) (out l : List ℕ) (n : ℕ) → ◌≡◌ {A = Option ℕ × List ℕ} (Some n, l) (placed b used out) → used + n ≤ length b
end_fits b used out l n e = let w = placed-some b used out n l e in omega (arith, w.0, w.1)
