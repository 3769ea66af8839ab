-- Demands 1, 2 and 3 over the entry points: 1 from the definition of `entered`; 2 and 3 are the machine's, since every list of calls over lent bytes
-- runs as the machine does.
-- Assumes nothing.
use Prim.Native.Nat.{ℕ, suc, ◌≤◌}
use native.Mathlib.Omega.{arith}
use mathlib.Core.Path.{◌≡◌, refl, sym, ◌∙◌, ap, ap₂, subst₂}
use mathlib.Core.Bool.{Bool, true, not}
use mathlib.Core.List.{List, [], ◌∷◌, ◌++◌}
use lib.Dec.{eqb, ltb}
use lib.ListN.{length}
use borrow.Author.Tests.{eq-eqb, eqb-true, ltb-false}
use Rattle.ion.proofs.Tests.{by_cases}
use Rattle.buffer.specs.Laid.{laid}
use Rattle.ion.specs.Value.{Scalar}
use Rattle.encoding.specs.Headers.{marker_bytes}
use Rattle.encoding.specs.Argument.{Argument, meaning, any_holds}
use Rattle.encoding.specs.Stream.{stream_bytes}
use Rattle.machine.specs.declared.State.{State}
use Rattle.machine.specs.Call.{Call, AllTyped}
use Rattle.machine.specs.Machine.{Config, longest_buffer, empty_state, splice, effect, Verdict, accepted, refused, first_failing, verdict, is_accepted, if_accepted}
use Rattle.machine.specs.Machine.{rule_of, after, start_lines, start_verdict, started, taken, run}
use Rattle.machine.specs.Model.{Model, model_step, started_model}
use Rattle.machine.specs.Demands.{part_of, joined, model_after, spelling, spelled, Run, ReadsOnlyAs}
use Rattle.machine.proofs.Splice.{length-splice}
use Rattle.machine.proofs.Steps.{none_failing}
use Rattle.machine.proofs.Demands.{demand2, demand3}
use Rattle.state_bytes.specs.StateBytes.{state_size, state_of, containers_from, stored_head, number_of, stored_if, entered}
use Rattle.entry_numbers.specs.EntryCall.{call_of, HostCall}
use Rattle.entry_numbers.proofs.Typed.{entry_typed}
use Rattle.entry_steps.specs.Entries.{empty_bytes, start_entered}
use Rattle.entry_lists.specs.Demands.{Lent, config_of, table_of, EntryDemand1, lent_started, lent_joined, lent_model_after, lent_spelling, LentRun}
use Rattle.entry_lists.specs.Demands.{EntryDemand2, EntryDemand3}
use Rattle.entry_lists.proofs.Steps.{Spells, number-accepts, answer_is, lent_by, call_spells}

-- ---- demand 1

-- no line fails exactly if none holds
none_fails : (l : List (Bool × ℕ)) → is_accepted (first_failing l) ≡ not (any_holds l)
none_fails [] = refl
none_fails (x ∷ xs) = by_cases x.0 (λ p. rw p) (λ p. rw p (none_fails xs))

kept : (c : Call) (w : Lent) (v : Verdict) → (number_of v ≡ 0 → ⊥)
    → record {
      state = stored_if v c (if_accepted v (effect c (config_of w)) (config_of w)).state w.state;
      buffer = (if_accepted v (effect c (config_of w)) (config_of w)).buffer;
    }
    ≡ w
kept c w accepted h = absurd (h refl)
kept c w (refused n) h = refl

pub entry_demand1 : EntryDemand1
unfolding entered run verdict
entry_demand1 e w = record {
  table = refl;
  keeps = λ h. kept (call_of e) w (first_failing (table_of e w)) h;
  accepts = answer_is (call_of e) w ∙ none_fails (table_of e w);
}

-- ---- one call of a list

module _ (w : Lent) (m : Config) (s : Spells w m) (c : Call) where
  pub step : Spells (lent_by c w) (after c m)
  step = rw s.config at (call_spells w s.sound c)

  accepts : eqb (entered c w.state w.buffer).number 0 ≡ is_accepted (verdict c m)
  accepts = answer_is c w ∙ ap (λ (x : Config). is_accepted (verdict c x)) s.config

-- ---- a list of calls

-- the machine's calls
abbrev pub calls : List HostCall → List Call
calls [] = []
calls (h ∷ hs) = call_of h.entry ∷ calls hs

pub all_typed : (hs : List HostCall) → AllTyped (calls hs)
all_typed [] = tt
all_typed (h ∷ hs) = (entry_typed h.entry h.typed, all_typed hs)

pub joined_is : (hs : List HostCall) (w : Lent) (m : Config) → Spells w m → lent_joined hs w ≡ joined (calls hs) m
unfolding lent_joined joined
joined_is [] w m s = ap taken s.config
joined_is (h ∷ hs) w m s =
    let c = call_of h.entry in
    ap₂ (λ (x y : List ℕ). x ++ y)
    (ap₂ (λ (t : Bool) (x : Config). part_of t (rule_of c x).flushes) (accepts w m s c) s.config)
    (joined_is hs (lent_by c w) (after c m) (step w m s c))

model_is : {S : Type 0} (f : Argument → S) (hs : List HostCall) (w : Lent) (m : Config) (x : Model S) → Spells w m
    → lent_model_after f hs w x ≡ model_after f (calls hs) m x
unfolding lent_model_after model_after
model_is f [] w m x s = refl
model_is f (h ∷ hs) w m x s =
    let c = call_of h.entry in
    ap (λ (t : Bool). lent_model_after f hs (lent_by c w) (model_step f c t x)) (accepts w m s c)
    ∙ model_is f hs (lent_by c w) (after c m) (model_step f c (is_accepted (verdict c m)) x) (step w m s c)

-- ---- the start

-- the bytes of the empty state spell it
empty_spelled : state_of (empty_bytes 4) ≡ empty_state 4
unfolding state_of containers_from stored_head laid
empty_spelled = refl

empty_size : length (empty_bytes 4) ≡ state_size
unfolding stored_head laid
empty_size = refl

accepted_is : (v : Verdict) → is_accepted v ≡ true → v ≡ accepted
accepted_is accepted e = refl
accepted_is (refused n) e = cc

-- a start whose number is 0 was lent a slice of the right length, and is accepted
pub start_accepted : (st b : List ℕ) → (start_entered st b).number ≡ 0 → (length st ≡ state_size) × (start_verdict b ≡ accepted)
unfolding start_entered start_verdict
start_accepted st b e =
    by_cases (eqb (length st) state_size)
    (λ p.
    let n : number_of (start_verdict b) ≡ 0 = rw (p, start_entered) at e in
    let v : is_accepted (start_verdict b) ≡ true = sym (number-accepts (start_lines b) (omega arith)) ∙ eq-eqb (number_of (start_verdict b)) 0 n in
    (eqb-true (length st) state_size p, accepted_is (start_verdict b) v))
    (λ p.
    by_cases (ltb longest_buffer (length b))
    (λ q. let n : 1 ≡ 0 = rw (p, start_entered, q) at e in absurd (none 0 n))
    (λ q. let n : 2 ≡ 0 = rw (p, start_entered, q) at e in absurd (none 1 n)))
  where
    none : (k : ℕ) → suc k ≡ 0 → ⊥
    none k z = omega arith

lent-started : (st b : List ℕ) → length st ≡ state_size → start_verdict b ≡ accepted
    → lent_started st b ≡ record { state = empty_bytes 4; buffer = splice 0 0 marker_bytes b }
unfolding start_entered
lent-started st b h v = rw (eq-eqb (length st) state_size h, start_entered, v)

pub started_spells : (st b : List ℕ) → (start_entered st b).number ≡ 0 → Spells (lent_started st b) (started b)
started_spells st b e =
    let a = start_accepted st b e in
    let h = none_failing (start_lines b) (unfold start_verdict in a.1) in
    let short : length b ≤ longest_buffer = ltb-false longest_buffer (length b) h.0 in
    let room : 4 ≤ length b = ltb-false (length b) 4 h.1.0 in
    let l : length (splice 0 0 marker_bytes b) ≡ length b = length-splice 0 0 marker_bytes b (omega arith) (omega arith) (omega arith) in
    rw (lent-started st b a.0 a.1, a.1) (record {
      sound = record { size = empty_size; short = omega arith; fit = rw empty_spelled (omega arith); depth = rw empty_spelled (omega arith) };
      config = ap (λ (x : State). record { state = x; buffer = splice 0 0 marker_bytes b }) empty_spelled;
    })

-- ---- demands 2 and 3

module _ (hs : List HostCall) (st b : List ℕ) (r : LentRun hs st b) where
  pub spells : Spells (lent_started st b) (started b)
  spells = started_spells st b r.starts

  pub spelling_is : lent_spelling hs st b ≡ spelling (calls hs) b
  spelling_is = model_is meaning hs (lent_started st b) (started b) started_model spells

  pub run_of : Run (calls hs) b
  run_of = record { starts = (start_accepted st b r.starts).1; ends = sym (ap (λ (x : Model Scalar). x.stack) spelling_is) ∙ r.ends }

pub entry_demand2 : EntryDemand2
entry_demand2 hs st b r =
    let s = spells hs st b r in
    joined_is hs (lent_started st b) (started b) s
    ∙ demand2 (calls hs) b (run_of hs st b r)
    ∙ sym (ap (λ (x : Model Argument). stream_bytes x.items) (model_is (λ a. a) hs (lent_started st b) (started b) started_model s))

pub entry_demand3 : EntryDemand3
entry_demand3 hs st b r =
    let j : lent_joined hs (lent_started st b) ≡ joined (calls hs) (started b) = joined_is hs (lent_started st b) (started b) (spells hs st b r) in
    let e : (lent_spelling hs st b).items ≡ spelled (calls hs) b = ap (λ (x : Model Scalar). x.items) (spelling_is hs st b r) in
    subst₂ ReadsOnlyAs (sym j) (sym e) (demand3 (calls hs) b (run_of hs st b r) (all_typed hs))
