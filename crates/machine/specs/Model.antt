-- What a list of calls spells, by an abstract writer, which document 01 calls the slate. It is fed each call, its arguments and whether it was accepted.
-- Its leaves are what `f` makes of a scalar call's arguments: the value that they name (demand 3), or the arguments themselves (demand 2).
-- Assumes nothing.
use Rattle.std.specs.Prelude.{ℕ, Bool, true, false, List, [], ◌∷◌, ◌++◌}
use Rattle.std.proofs.Math.Option.{Option, none, some}
use Rattle.ion.specs.Value.{SequenceType, Tree, scalar, sequence, struct, Members, no_members, member, Fields, no_fields, field, Item, marker, value}
use Rattle.encoding.specs.Argument.{Argument}
use Rattle.machine.specs.Call.{ContainerType, sequence_type, struct_type}
use Rattle.machine.specs.Call.{Call, write, name, opening, closing, abandonment, version_marker, taking, emptying}

-- an open container: its annotations, the name set aside with it, and its members so far
pub data Open (S : Type 0) : Type 0 where
  open_sequence : List ℕ → Option ℕ → SequenceType → Members S → Open S
  open_struct : List ℕ → Option ℕ → Fields S → Open S

-- Document 01's slate: the items, the open containers, innermost first, and at most one waiting name.
pub record Model (S : Type 0) : Type 0 where
  pub items : List (Item S)
  pub stack : List (Open S)
  pub waiting : Option ℕ

abbrev pub opened : {S : Type 0} → List ℕ → Option ℕ → ContainerType → Open S
opened an aside (sequence_type k) = open_sequence an aside k no_members
opened an aside struct_type = open_struct an aside no_fields

abbrev pub set_aside : {S : Type 0} → Open S → Option ℕ
set_aside (open_sequence an aside k vs) = aside
set_aside (open_struct an aside fs) = aside

abbrev pub closed : {S : Type 0} → Open S → Tree S
closed (open_sequence an aside k vs) = sequence an k vs
closed (open_struct an aside fs) = struct an fs

abbrev pub add_member : {S : Type 0} → Members S → Tree S → Members S
add_member no_members v = member v no_members
add_member (member x xs) v = member x (add_member xs v)

abbrev pub add_field : {S : Type 0} → Fields S → ℕ → Tree S → Fields S
add_field no_fields k v = field k v no_fields
add_field (field j x xs) k v = field j x (add_field xs k v)

-- A value goes to the end of the innermost container, in a struct under the waiting name, which then waits no more; with none open, to the end of the items.
-- (No accepted call brings a value into a struct with no name waiting.)
abbrev pub add : {S : Type 0} → List (Item S) → List (Open S) → Option ℕ → Tree S → Model S
add is [] nm v = record { items = is ++ (value v ∷ []); stack = []; waiting = nm }
add is (open_sequence an aside k vs ∷ st) nm v = record { items = is; stack = open_sequence an aside k (add_member vs v) ∷ st; waiting = nm }
add is (open_struct an aside fs ∷ st) (some n) v = record { items = is; stack = open_struct an aside (add_field fs n v) ∷ st; waiting = none }
add is (open_struct an aside fs ∷ st) none v = record { items = is; stack = open_struct an aside fs ∷ st; waiting = none }

-- the innermost leaves the stack, the name set aside with it waits again, and it goes where a value goes
abbrev pub close : {S : Type 0} → List (Item S) → List (Open S) → Option ℕ → Model S
close is [] nm = record { items = is; stack = []; waiting = nm }
close is (o ∷ st) nm = add is st (set_aside o) (closed o)

-- the innermost is dropped, with any name waiting in it; the name set aside waits again
abbrev pub abandon : {S : Type 0} → List (Item S) → List (Open S) → Option ℕ → Model S
abandon is [] nm = record { items = is; stack = []; waiting = nm }
abandon is (o ∷ st) nm = record { items = is; stack = st; waiting = set_aside o }

-- an accepted call
abbrev pub spell : {S : Type 0} → (Argument → S) → Call → Model S → Model S
spell f (write an a) x = add x.items x.stack x.waiting (scalar an (f a))
spell f (name n) x = record { items = x.items; stack = x.stack; waiting = some n }
spell f (opening an k) x = record { items = x.items; stack = opened an x.waiting k ∷ x.stack; waiting = none }
spell f closing x = close x.items x.stack x.waiting
spell f abandonment x = abandon x.items x.stack x.waiting
spell f version_marker x = record { items = x.items ++ (marker ∷ []); stack = x.stack; waiting = x.waiting }
spell f taking x = x
spell f emptying x = x

-- a call, and whether it was accepted: a refused one changes nothing
abbrev pub model_step : {S : Type 0} → (Argument → S) → Call → Bool → Model S → Model S
model_step f c true x = spell f c x
model_step f c false x = x

-- after the start: one marker, no container, no name
abbrev pub started_model : {S : Type 0} → Model S
started_model = record { items = marker ∷ []; stack = []; waiting = none }
