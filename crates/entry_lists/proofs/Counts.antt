-- How many members closings answer through the entry points, and that the states fit that they leave: the machine's, since every list of calls over lent bytes
-- runs as the machine does, and four bytes hold the count of a container that fits.
-- Assumes nothing.
use Prim.Native.Nat.{ℕ, zero, suc, ◌+◌, ◌^◌, ◌<◌, ◌≤◌}
use native.Mathlib.Omega.{arith}
use mathlib.Core.Path.{◌≡◌, refl, sym, ◌∙◌, ap, subst}
use mathlib.Core.Bool.{Bool}
use mathlib.Core.List.{List, [], ◌∷◌}
use lib.Dec.{eqb}
use lib.ListN.{length, get_or}
use Rattle.ion.specs.Grammar.{Reads}
use Rattle.machine.specs.declared.Container.{Container}
use Rattle.machine.specs.Call.{Call, write, name, opening, closing, abandonment, version_marker, taking, emptying}
use Rattle.machine.specs.Machine.{Config, no_container, innermost_first, innermost_members, fits, checks, Verdict, accepted}
use Rattle.machine.specs.Machine.{refused, verdict, is_accepted, after, Outcome, run, started}
use Rattle.machine.specs.Counts.{Answers, no_answers, answers_accepted, answers_step, answers_after, after_all}
use Rattle.machine.proofs.Steps.{none_failing}
use Rattle.machine.proofs.Counts.{members-answered}
use Rattle.machine.proofs.Fitting.{own_states_fit}
use Rattle.steps.proofs.Run.{run_accepted}
use Rattle.steps.proofs.Members.{members_few}
use Rattle.state_bytes.specs.StateBytes.{four, state_of, entered, numbers, numbers_laid, answered_by, answered}
use Rattle.entry_numbers.specs.EntryCall.{call_of, HostCall}
use Rattle.entry_lists.specs.Demands.{Lent, config_of, lent_started, members_laid, lent_answers_after, EntryMembersAnswered, lent_after_all, EntryOwnStatesFit}
use Rattle.entry_lists.proofs.Bytes.{number-laid}
use Rattle.entry_lists.proofs.Steps.{Sound, Spells, fits_line, answer_is, lent_by}
use Rattle.entry_lists.proofs.Demands.{calls, all_typed, joined_is, step, start_accepted, started_spells, spells, run_of}

-- ---- one closing

innermost_few : (cs : List Container) (d most : ℕ) → ((j : ℕ) → j < d → (get_or cs j no_container).members + 2 ≤ most)
    → innermost_members (innermost_first cs d) ≤ most
innermost_few cs zero most few = omega arith
innermost_few cs (suc i) most few = omega (arith, few i (omega arith))

-- an accepted one: its numbers are laid, one behind the other
pub closing-laid : (w : Lent) (closed : List ℕ) → verdict closing (config_of w) ≡ accepted
    → answered w.state w.buffer closed ≡ numbers_laid 0 (numbers (run closing (config_of w)).figures) closed
unfolding answered verdict
closing-laid w closed e =
    let r = run_accepted closing (state_of w.state) w.buffer e in
    ap (λ (o : Outcome). answered_by o closed) r ∙ ap (λ (o : Outcome). numbers_laid 0 (numbers o.figures) closed) (sym r)

module _ (w : Lent) (s : Sound w) (closed : List ℕ) (long : 8 ≤ length closed) where
  members-laid : verdict closing (config_of w) ≡ accepted → members_laid closed w ≡ (run closing (config_of w)).figures.members
  unfolding verdict
  members-laid e =
      let r = run_accepted closing (state_of w.state) w.buffer e in
      let f = fits_line (config_of w) _ [] _ (none_failing (checks closing (config_of w)) e) in
      let g = (run closing (config_of w)).figures in
      let few : g.members < 2 ^ 32 =
      omega (
        arith,
        ap (λ (o : Outcome). o.figures.members) r,
        innermost_few (state_of w.state).containers (state_of w.state).depth (length w.buffer)
            (members_few (state_of w.state) (length w.buffer) f),
        s.short,
      ) in
      ap (λ (l : List ℕ). four l 4) (closing-laid w closed e)
      ∙ number-laid (g.size ∷ []) g.members (g.moved ∷ []) 0 4 closed (omega arith) (omega arith) few

  -- only an accepted closing's number is told
  answers_same : (c : Call) (x : Answers)
      → answers_step c (is_accepted (verdict c (config_of w))) (state_of w.state) (members_laid closed w) x
      ≡ answers_step c (is_accepted (verdict c (config_of w))) (state_of w.state) (run c (config_of w)).figures.members x
  answers_same c x = by_verdict c (verdict c (config_of w)) refl
    where
      by_verdict : (k : Call) (v : Verdict) → verdict k (config_of w) ≡ v
          → answers_step k (is_accepted v) (state_of w.state) (members_laid closed w) x
          ≡ answers_step k (is_accepted v) (state_of w.state) (run k (config_of w)).figures.members x
      by_verdict k (refused n) e = refl
      by_verdict (write an a) accepted e = refl
      by_verdict (name n) accepted e = refl
      by_verdict (opening an t) accepted e = refl
      by_verdict closing accepted e = ap (λ (n : ℕ). answers_accepted closing (state_of w.state) n x) (members-laid e)
      by_verdict abandonment accepted e = refl
      by_verdict version_marker accepted e = refl
      by_verdict taking accepted e = refl
      by_verdict emptying accepted e = refl

-- ---- a list of calls

module _ (closed : Lent → List ℕ) (long : (w : Lent) → 8 ≤ length (closed w)) where
  step_answers : (w : Lent) (m : Config) → Spells w m → (c : Call) (x : Answers)
      → answers_step c (eqb (entered c w.state w.buffer).number 0) (state_of w.state) (members_laid (closed w) w) x
      ≡ answers_step c (is_accepted (verdict c m)) m.state (run c m).figures.members x
  step_answers w m s c x =
      ap (λ (t : Bool). answers_step c t (state_of w.state) (members_laid (closed w) w) x) (answer_is c w)
      ∙ (answers_same w s.sound (closed w) (long w) c x
      ∙ ap (λ (y : Config). answers_step c (is_accepted (verdict c y)) y.state (run c y).figures.members x) s.config)

  answers_are : (hs : List HostCall) (w : Lent) (m : Config) (x : Answers) → Spells w m → lent_answers_after closed hs w x ≡ answers_after (calls hs) m x
  unfolding lent_answers_after answers_after
  answers_are [] w m x s = refl
  answers_are (h ∷ hs) w m x s =
      let c = call_of h.entry in
      ap (lent_answers_after closed hs (lent_by c w)) (step_answers w m s c x)
      ∙ answers_are hs (lent_by c w) (after c m) (answers_step c (is_accepted (verdict c m)) m.state (run c m).figures.members x) (step w m s c)

pub entry_members-answered : EntryMembersAnswered
entry_members-answered closed long hs st b r x reading =
    let s = spells hs st b r in
    ap (λ (a : Answers). a.outside) (answers_are closed long hs (lent_started st b) (started b) no_answers s)
    ∙ members-answered (calls hs) b (run_of hs st b r) (all_typed hs) x
    (subst (λ (l : List ℕ). Reads l x) (joined_is hs (lent_started st b) (started b) s) reading)

-- ---- the states that are left

all_spells : (hs : List HostCall) (w : Lent) (m : Config) → Spells w m → Spells (lent_after_all hs w) (after_all (calls hs) m)
unfolding lent_after_all after_all
all_spells [] w m s = s
all_spells (h ∷ hs) w m s = let c = call_of h.entry in all_spells hs (lent_by c w) (after c m) (step w m s c)

pub entry_own_states_fit : EntryOwnStatesFit
entry_own_states_fit hs st b e =
    ap (λ (m : Config). fits m.state (length m.buffer)) (all_spells hs (lent_started st b) (started b) (started_spells st b e)).config
    ∙ own_states_fit (calls hs) b (start_accepted st b e).1
