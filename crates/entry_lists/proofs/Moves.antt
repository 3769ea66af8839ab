-- What closings move through the entry points: the machine's sum, since every list of calls over lent bytes runs as the machine does,
-- and four bytes hold a number that is at most the buffer's length.
-- Assumes nothing.
use Prim.Native.Nat.{ℕ, ◌+◌, ◌^◌, ◌<◌, ◌≤◌}
use native.Mathlib.Omega.{arith}
use mathlib.Core.Path.{◌≡◌, refl, sym, ◌∙◌, ap, ap₂}
use mathlib.Core.Bool.{Bool, not, ◌&&◌, and-false}
use mathlib.Core.List.{List, [], ◌∷◌}
use lib.Dec.{eqb}
use lib.ListN.{length}
use Rattle.machine.specs.Call.{Call, write, name, opening, closing, abandonment, version_marker, taking, emptying}
use Rattle.machine.specs.Machine.{Config, checks, rule_of, Verdict, accepted, refused, verdict, is_accepted, after, figures_if, Outcome, run, started}
use Rattle.machine.specs.Moves.{moved_sum, is_closing, is_abandonment, nothing_abandoned}
use Rattle.machine.proofs.Steps.{none_failing}
use Rattle.machine.proofs.Moves.{moved_room, moved_at_most}
use Rattle.state_bytes.specs.StateBytes.{four, state_of, entered}
use Rattle.steps.proofs.Run.{run_accepted}
use Rattle.entry_numbers.specs.EntryCall.{call_of, HostCall}
use Rattle.entry_lists.specs.Demands.{Lent, config_of, lent_started, moved_laid, moved_if, lent_moved_sum, lent_nothing_abandoned, EntryMovedAtMost}
use Rattle.entry_lists.proofs.Bytes.{number-laid}
use Rattle.entry_lists.proofs.Steps.{Sound, Spells, answer_is, lent_by}
use Rattle.entry_lists.proofs.Demands.{calls, joined_is, step, spells, run_of}
use Rattle.entry_lists.proofs.Counts.{closing-laid}

-- ---- one call

module _ (w : Lent) (s : Sound w) (closed : List ℕ) (long : 12 ≤ length closed) where
  moved-laid : verdict closing (config_of w) ≡ accepted → moved_laid closed w ≡ (run closing (config_of w)).figures.moved
  unfolding verdict
  moved-laid e =
      let r = run_accepted closing (state_of w.state) w.buffer e in
      let g = (run closing (config_of w)).figures in
      let few : g.moved < 2 ^ 32 =
      omega (arith, ap (λ (o : Outcome). o.figures.moved) r, moved_room (config_of w) (none_failing (checks closing (config_of w)) e), s.short) in
      ap (λ (l : List ℕ). four l 8) (closing-laid w closed e) ∙ number-laid (g.size ∷ g.members ∷ []) g.moved [] 0 8 closed (omega arith) (omega arith) few

  -- only an accepted closing answers
  moved_same : (c : Call) → moved_if (is_closing c && is_accepted (verdict c (config_of w))) (moved_laid closed w) ≡ (run c (config_of w)).figures.moved
  unfolding run
  moved_same c = by_verdict c (verdict c (config_of w)) refl
    where
      by_verdict : (k : Call) (v : Verdict) → verdict k (config_of w) ≡ v
          → moved_if (is_closing k && is_accepted v) (moved_laid closed w) ≡ (figures_if v (rule_of k (config_of w)).figures).moved
      by_verdict k (refused n) e = ap (λ (t : Bool). moved_if t (moved_laid closed w)) (and-false (is_closing k))
      by_verdict (write an a) accepted e = refl
      by_verdict (name n) accepted e = refl
      by_verdict (opening an t) accepted e = refl
      by_verdict closing accepted e = moved-laid e ∙ ap (λ (v : Verdict). (figures_if v (rule_of closing (config_of w)).figures).moved) e
      by_verdict abandonment accepted e = refl
      by_verdict version_marker accepted e = refl
      by_verdict taking accepted e = refl
      by_verdict emptying accepted e = refl

-- ---- a list of calls

module _ (closed : Lent → List ℕ) (long : (w : Lent) → 12 ≤ length (closed w)) where
  step_moved : (w : Lent) (m : Config) → Spells w m → (c : Call)
      → moved_if (is_closing c && eqb (entered c w.state w.buffer).number 0) (moved_laid (closed w) w) ≡ (run c m).figures.moved
  step_moved w m s c =
      ap (λ (t : Bool). moved_if (is_closing c && t) (moved_laid (closed w) w)) (answer_is c w)
      ∙ (moved_same w s.sound (closed w) (long w) c ∙ ap (λ (y : Config). (run c y).figures.moved) s.config)

  moved_are : (hs : List HostCall) (w : Lent) (m : Config) → Spells w m → lent_moved_sum closed hs w ≡ moved_sum (calls hs) m
  unfolding lent_moved_sum moved_sum
  moved_are [] w m s = refl
  moved_are (h ∷ hs) w m s = let c = call_of h.entry in ap₂ ◌+◌ (step_moved w m s c) (moved_are hs (lent_by c w) (after c m) (step w m s c))

abandoned_are : (hs : List HostCall) (w : Lent) (m : Config) → Spells w m → lent_nothing_abandoned hs w ≡ nothing_abandoned (calls hs) m
unfolding lent_nothing_abandoned nothing_abandoned
abandoned_are [] w m s = refl
abandoned_are (h ∷ hs) w m s =
    let c = call_of h.entry in
    let e : eqb (entered c w.state w.buffer).number 0 ≡ is_accepted (verdict c m) =
    answer_is c w ∙ ap (λ (y : Config). is_accepted (verdict c y)) s.config in
    ap₂ (λ (t r : Bool). not (is_abandonment c && t) && r) e (abandoned_are hs (lent_by c w) (after c m) (step w m s c))

pub entry_moved_at_most : EntryMovedAtMost
entry_moved_at_most closed long hs st b r n =
    let s = spells hs st b r in
    rw (moved_are closed long hs (lent_started st b) (started b) s, joined_is hs (lent_started st b) (started b) s)
    (moved_at_most (calls hs) b (run_of hs st b r) (sym (abandoned_are hs (lent_started st b) (started b) s) ∙ n))
