-- Demands 2 and 3, over every list of calls: the statements. The proofs are in proofs/Demands.antt.
-- Assumes nothing.
use Rattle.std.specs.Prelude.{ℕ, ◌≡◌, Bool, true, false, List, [], ◌∷◌, ◌++◌}
use Rattle.ion.specs.Value.{Scalar, Item}
use Rattle.ion.specs.Grammar.{Reads}
use Rattle.encoding.specs.Argument.{Argument, meaning}
use Rattle.encoding.specs.Stream.{stream_bytes}
use Rattle.machine.specs.Call.{Call, AllTyped}
use Rattle.machine.specs.Machine.{Config, rule_of, accepted, verdict, is_accepted, after, start_verdict, started, taken}
use Rattle.machine.specs.Model.{Model, model_step, started_model}

-- ---- the joined finished bytes

abbrev pub part_of : Bool → List ℕ → List ℕ
part_of true x = x
part_of false x = []

-- what a taking would hand back just before the call, if the call is an accepted emptying
abbrev pub flushed : Call → Config → List ℕ
flushed c w = part_of (is_accepted (verdict c w)) (rule_of c w).flushes

-- The bytes that a taking would hand back just before each accepted emptying and at the end, joined.
unfoldable pub joined : List Call → Config → List ℕ
joined [] w = taken w
joined (c ∷ cs) w = flushed c w ++ joined cs (after c w)

-- ---- what was spelled

-- the model after a list of calls, each given the state and the buffer as the last one left them
unfoldable pub model_after : {S : Type 0} → (Argument → S) → List Call → Config → Model S → Model S
model_after f [] w x = x
model_after f (c ∷ cs) w x = model_after f cs (after c w) (model_step f c (is_accepted (verdict c w)) x)

-- what the list spells, with the containers that its accepted calls leave open
abbrev pub spelling : List Call → List ℕ → Model Scalar
spelling cs buffer = model_after meaning cs (started buffer) started_model

-- the items as values: what the list spells
abbrev pub spelled : List Call → List ℕ → List (Item Scalar)
spelled cs buffer = (spelling cs buffer).items

-- the same items with the arguments of the calls for leaves
abbrev pub written : List Call → List ℕ → List (Item Argument)
written cs buffer = (model_after (λ a. a) cs (started buffer) started_model).items

-- ---- the demands

-- An accepted start, and accepted calls that leave no container open.
pub record Run (cs : List Call) (buffer : List ℕ) : Type 0 where
  pub starts : start_verdict buffer ≡ accepted
  pub ends : (spelling cs buffer).stack ≡ []

-- The joined bytes are those of what was written.
abbrev pub Demand2 : Type 0
Demand2 = (cs : List Call) (buffer : List ℕ) → Run cs buffer → joined cs (started buffer) ≡ stream_bytes (written cs buffer)

-- The bytes have a reading, it is these items, and every reading equals it.
pub record ReadsOnlyAs (bytes : List ℕ) (is : List (Item Scalar)) : Type 0 where
  pub reading : Reads bytes is
  pub only : (x : List (Item Scalar)) → Reads bytes x → x ≡ is

-- Of calls with arguments of their types, the joined bytes read as what was spelled, and as nothing else.
abbrev pub Demand3 : Type 0
Demand3 = (cs : List Call) (buffer : List ℕ) → Run cs buffer → AllTyped cs → ReadsOnlyAs (joined cs (started buffer)) (spelled cs buffer)
