-- A scalar call by how far it gets, past its place: refused by one of its own checks or for room, or put at the end of the used bytes.
-- Assumes nothing.
use Rattle.std.proofs.Common.{◌≡◌, ℕ, ◌+◌, ◌<◌, ◌≤◌, Bool, true, false, ltb, List, [], ◌∷◌, ◌++◌, length, Option, Some, None, refl, sym, ap, ◌∙◌, arith}
use Rattle.ion.proofs.Tests.{by_cases}
use Rattle.encoding.specs.Argument.{Argument, argument_bytes, argument_checks, any_holds}
use Rattle.encoding.specs.Headers.{annotated_bytes}
use Rattle.encoding.proofs.Headers.{annotated_longer}
use Rattle.encoding.proofs.Least.{argument_some}
use Rattle.values.specs.Values.{annotated_checked}
use Rattle.values.proofs.Checked.{annotated_refused, annotated_accepted}
use Rattle.scalars.specs.Refused.{own_refusal}
use Rattle.buffer.specs.Laid.{placed, written}
use Rattle.buffer.proofs.Laid.{written-some, placed-none, placed-some}
use Rattle.machine.specs.declared.State.{State}
use Rattle.machine.specs.declared.Refusal.{Refusal}
use Rattle.machine.specs.Call.{write}
use Rattle.machine.specs.Machine.{config, counted, checks, accepted, refused, first_failing, run}
use Rattle.machine.specs.Numbers.{number}
use Rattle.steps.proofs.Run.{outcome, run_refused, own-refusal, own_only, end_accepted}

-- the lines behind the place
abbrev pub scalar_lines : List ℕ → Argument → State → List ℕ → List (Bool × ℕ)
scalar_lines an a s b = argument_checks a ++ ((ltb (length b) (s.used + length (annotated_bytes an (argument_bytes a))), 10) ∷ [])

module _ (an : List ℕ) (a : Argument) (s : State) (b : List ℕ) (l : List ℕ)
    (past : first_failing (checks (write an a) (config s b)) ≡ first_failing (scalar_lines an a s b)) where
  abbrev out : List ℕ
  out = annotated_bytes an (argument_bytes a)

  some_bytes : 0 < length out
  some_bytes = omega (arith, annotated_longer an (argument_bytes a), argument_some a)

  all_put : (r : Option ℕ) → ◌≡◌ {A = Option ℕ × List ℕ} (r, l) (written b s.used (annotated_checked an a)) → any_holds (argument_checks a) ≡ false
      → ◌≡◌ {A = Option ℕ × List ℕ} (r, l) (placed b s.used out)
  all_put r e t = e ∙ ap (written b s.used) (annotated_accepted an a t) ∙ written-some b s.used out some_bytes

  nothing_put : (r : Option ℕ) → ◌≡◌ {A = Option ℕ × List ℕ} (r, l) (written b s.used (annotated_checked an a)) → any_holds (argument_checks a) ≡ true
      → ◌≡◌ {A = Option ℕ × List ℕ} (r, l) (None, b)
  nothing_put r e t = e ∙ ap (written b s.used) (annotated_refused an a t)

  pub scalar_none : ◌≡◌ {A = Option ℕ × List ℕ} (None, l) (written b s.used (annotated_checked an a))
      → (why : Refusal) → refused (number why) ≡ own_refusal a → outcome (refused (number why)) s l ≡ run (write an a) (config s b)
  scalar_none e why r =
      by_cases (any_holds (argument_checks a))
      (λ t. as_it_was (ap (λ (x : Option ℕ × List ℕ). x.1) (nothing_put None e t)) (λ f. absurd (contrary t f)))
      (λ t. let w = placed-none b s.used out l (all_put None e t) in as_it_was w.1 (λ f. w.0))
    where
      contrary : {x : Bool} → x ≡ true → x ≡ false → ⊥
      contrary p q = cc

      as_it_was : l ≡ b → (any_holds (argument_checks a) ≡ false → length b < s.used + length out) → outcome (refused (number why)) s l ≡ run (write an a) (config s b)
      as_it_was q h =
          ap (outcome (refused (number why)) s) q
          ∙ sym (run_refused (write an a) s b (number why) (past ∙ own-refusal a (s.used + length out) (length b) h ∙ sym r))

  module _ (n : ℕ) (e : ◌≡◌ {A = Option ℕ × List ℕ} (Some n, l) (written b s.used (annotated_checked an a))) where
    passing : any_holds (argument_checks a) ≡ false
    passing = by_cases (any_holds (argument_checks a)) (λ t. refused_none (ap (λ (x : Option ℕ × List ℕ). x.0) (nothing_put (Some n) e t))) (λ t. t)
      where
        refused_none : ◌≡◌ {A = Option ℕ} (Some n) None → any_holds (argument_checks a) ≡ false
        refused_none q = cc

    -- no sum of the used length and what was put wraps
    pub scalar_fits : s.used + n ≤ length b
    scalar_fits = let w = placed-some b s.used out n l (all_put (Some n) e passing) in omega (arith, w.0, w.1)

    -- a scalar that is put counts in the innermost container
    pub scalar_some : outcome accepted (record { used = s.used + n; depth = s.depth; waiting = false; containers = counted s.containers s.depth }) l
        ≡ run (write an a) (config s b)
    scalar_some =
        let room = past ∙ own_only a ((ltb (length b) (s.used + length out), 10) ∷ []) passing in
        end_accepted (write an a) s b out l room s.depth false (counted s.containers s.depth) refl refl n (all_put (Some n) e passing)
