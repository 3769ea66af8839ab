-- Demands 2 and 3: by induction over the list of calls, the invariant and the writable model go through every call, refused ones included.
-- Assumes nothing.
use Prim.Native.Nat.{ℕ, ◌≤◌}
use native.Mathlib.Omega.{arith}
use mathlib.Core.Path.{◌≡◌, refl, ◌∙◌, ap}
use mathlib.Core.Bool.{false}
use mathlib.Core.List.{List, [], ◌∷◌, ◌++◌, append_assoc, append-nil}
use lib.ListN.{length}
use borrow.Author.Tests.{ltb-false}
use Rattle.ion.specs.Grammar.{Reads}
use Rattle.ion.proofs.Unique.{reads_unique}
use Rattle.encoding.specs.Headers.{marker_bytes}
use Rattle.encoding.specs.Argument.{Argument}
use Rattle.encoding.specs.Stream.{stream_bytes}
use Rattle.encoding.proofs.Writable.{WritableItems}
use Rattle.encoding.proofs.Stream.{stream_bytes-reads}
use Rattle.machine.specs.Call.{Call, TypedCall, AllTyped}
use Rattle.machine.specs.Machine.{Config, open_containers, is_open, rule_of, effect, longest_buffer, checks, Verdict, accepted, refused, verdict}
use Rattle.machine.specs.Machine.{is_accepted, if_accepted, after, start_lines, start_verdict, started, splice}
use Rattle.machine.specs.Model.{Open, Model, model_step, started_model}
use Rattle.machine.specs.Demands.{part_of, flushed, joined, model_after, spelled, written, Demand2, Demand3}
use Rattle.machine.proofs.Invariant.{containers_of, WritableOf}
use Rattle.machine.proofs.Splice.{take-splice, length-splice}
use Rattle.machine.proofs.Steps.{none_failing, Invariant, taken-whole, accepted_keeps, accepted_writable}
use Rattle.machine.proofs.Meaning.{spelled_is, stack_is}

abbrev pub step_arguments : Call → Config → Model Argument → Model Argument
step_arguments c w x = model_step (λ a. a) c (is_accepted (verdict c w)) x

-- ---- one call, accepted or refused

pub call_keeps : (done : List ℕ) (w : Config) (x : Model Argument) (c : Call) → Invariant done w x
    → Invariant (done ++ flushed c w) (after c w) (step_arguments c w x)
call_keeps done w x c inv = by_verdict (verdict c w) refl
  where
    by_verdict : (a : Verdict) → verdict c w ≡ a
        → Invariant (done ++ part_of (is_accepted a) (rule_of c w).flushes) (if_accepted a (effect c w) w)
        (model_step (λ a. a) c (is_accepted a) x)
    by_verdict accepted e = accepted_keeps done w x c inv (none_failing (checks c w) (unfold verdict in e))
    by_verdict (refused n) e = rw append-nil inv

call_writable : (done : List ℕ) (w : Config) (x : Model Argument) (c : Call) → Invariant done w x → TypedCall c → WritableOf x
    → WritableOf (step_arguments c w x)
call_writable done w x c inv t o = by_verdict (verdict c w) refl
  where
    by_verdict : (a : Verdict) → verdict c w ≡ a → WritableOf (model_step (λ a. a) c (is_accepted a) x)
    by_verdict accepted e = accepted_writable done w x c inv (none_failing (checks c w) (unfold verdict in e)) t o
    by_verdict (refused n) e = o

-- ---- a list of calls

-- with no container open by the model none is open by the state
pub none_left : (done : List ℕ) (w : Config) (x : Model Argument) → Invariant done w x → x.stack ≡ [] → is_open (open_containers w.state) ≡ false
none_left done w x inv e = ap is_open inv.layout.placed ∙ ap (λ (st : List (Open Argument)). is_open (containers_of inv.layout.base st)) e

joined_is : (cs : List Call) (done : List ℕ) (w : Config) (x : Model Argument) → Invariant done w x → (model_after (λ a. a) cs w x).stack ≡ []
    → done ++ joined cs w ≡ stream_bytes (model_after (λ a. a) cs w x).items
unfolding joined model_after
joined_is [] done w x inv e = taken-whole done w x inv (none_left done w x inv e)
joined_is (c ∷ cs) done w x inv e =
    rw (← (append_assoc done (flushed c w) (joined cs (after c w))))
    (joined_is cs (done ++ flushed c w) (after c w) (step_arguments c w x) (call_keeps done w x c inv) e)

all_writable : (cs : List Call) (done : List ℕ) (w : Config) (x : Model Argument) → Invariant done w x → AllTyped cs → WritableOf x
    → WritableItems (model_after (λ a. a) cs w x).items
unfolding model_after
all_writable [] done w x inv t o = o.items
all_writable (c ∷ cs) done w x inv t o =
    all_writable cs (done ++ flushed c w) (after c w) (step_arguments c w x) (call_keeps done w x c inv) t.1
    (call_writable done w x c inv t.0 o)

-- ---- the start

pub start_keeps : (b : List ℕ) → start_verdict b ≡ accepted → Invariant [] (started b) started_model
unfolding stream_bytes
start_keeps b e =
    let h = none_failing (start_lines b) (unfold start_verdict in e) in
    let short : length b ≤ longest_buffer = ltb-false longest_buffer (length b) h.0 in
    let room : 4 ≤ length b = ltb-false (length b) 4 h.1.0 in
    let l : length (splice 0 0 marker_bytes b) ≡ length b = length-splice 0 0 marker_bytes b (omega arith) (omega arith) (omega arith) in
    rw e (record {
      fit = omega arith;
      short = omega arith;
      depth = omega arith;
      flag = refl;
      records = refl;
      layout = record {
        base = marker_bytes;
        whole = refl;
        shown = take-splice 0 0 marker_bytes b (omega arith);
        placed = refl;
        aside = tt;
        waits = refl;
      };
    })

-- ---- the demands

pub demand2 : Demand2
demand2 cs b r = joined_is cs [] (started b) started_model (start_keeps b r.starts) (stack_is cs b r.ends)

pub demand3 : Demand3
demand3 cs b r t =
    let inv = start_keeps b r.starts in
    let ok : WritableItems (written cs b) = all_writable cs [] (started b) started_model inv t (record { items = (tt, tt); stack = tt; name = tt }) in
    let reads : Reads (joined cs (started b)) (spelled cs b) = rw (spelled_is cs b, demand2 cs b r) (stream_bytes-reads (written cs b) ok) in
    record { reading = reads; only = λ y p. reads_unique (joined cs (started b)) y (spelled cs b) p reads }
