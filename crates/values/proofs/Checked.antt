-- An annotated scalar by its checks: its bytes, and that it is its checked bytes where there are no annotations.
-- By the test of the checks. Assumes nothing.
use mathlib.Core.Path.{◌≡◌, refl, sym, ◌∙◌, ap}
use mathlib.Core.List.{List, []}
use mathlib.Core.Bool.{true, false}
use Prim.Native.Nat.{ℕ}
use lib.ListN.{length}
use Rattle.encoding.specs.Headers.{annotated_bytes}
use Rattle.encoding.specs.Argument.{Argument, argument_bytes, argument_checks, any_holds, checked_bytes}
use Rattle.std.specs.Prelude.{Option}
use Rattle.buffer.specs.Laid.{written}
use Rattle.annotations.specs.Sids.{sids_of}
use Rattle.annotations.proofs.Sids.{sids_none}
use Rattle.values.specs.Values.{annotated_checked}

module _ (an : List ℕ) (a : Argument) where
  pub annotated_refused : any_holds (argument_checks a) ≡ true → annotated_checked an a ≡ []
  unfolding annotated_checked
  annotated_refused e = rw (e, annotated_checked)

  pub annotated_accepted : any_holds (argument_checks a) ≡ false → annotated_checked an a ≡ annotated_bytes an (argument_bytes a)
  unfolding annotated_checked
  annotated_accepted e = rw (e, annotated_checked)

pub annotated-plain : (a : Argument) → annotated_checked [] a ≡ checked_bytes a
unfolding annotated_checked checked_bytes annotated_bytes
annotated-plain a = refl

pub annotated_bytes-none : (an v : List ℕ) → an ≡ [] → annotated_bytes an v ≡ v
unfolding annotated_bytes
annotated_bytes-none an v e = rw e refl

-- what a call without annotations left
pub unannotated : (b : List ℕ) (at : ℕ) (notes : List ℕ) (a : Argument) → length notes ≡ 0 → (r : Option ℕ) (l : List ℕ)
    → ◌≡◌ {A = Option ℕ × List ℕ} (r, l) (written b at (checked_bytes a)) → ◌≡◌ {A = Option ℕ × List ℕ} (r, l) (written b at (annotated_checked (sids_of notes) a))
unannotated b at notes a z r l e = e ∙ ap (written b at) (sym (annotated-plain a) ∙ ap (λ (an : List ℕ). annotated_checked an a) (sym (sids_none notes z)))
