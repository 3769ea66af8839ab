-- The model over values is the model over arguments, each argument replaced by the value that it names.
-- Assumes nothing.
use Prim.Native.Nat.{ℕ}
use mathlib.Core.Path.{◌≡◌, refl, sym, ◌∙◌, ap}
use mathlib.Core.Bool.{Bool, true, false}
use mathlib.Core.List.{List, [], ◌∷◌, ◌++◌, cons≢nil}
use mathlib.Core.Option.{Option, none, some}
use Rattle.ion.specs.Value.{Tree, scalar, Members, no_members, member, Fields, no_fields, field, Item, marker, value}
use Rattle.ion.proofs.Maps.{map_tree, map_members, map_fields, map_items}
use Rattle.encoding.specs.Argument.{Argument, meaning}
use Rattle.machine.specs.Call.{sequence_type, struct_type, Call, write, name, opening, closing, abandonment, version_marker, taking, emptying}
use Rattle.machine.specs.Machine.{Config, verdict, is_accepted, after, started}
use Rattle.machine.specs.Model.{Open, open_sequence, open_struct, Model, closed, add_member, add_field, add, close, abandon, spell, model_step, started_model}
use Rattle.machine.specs.Demands.{model_after, spelling, spelled, written}

module _ {S T : Type 0} (f : S → T) where
  abbrev map_open : Open S → Open T
  map_open (open_sequence an aside k vs) = open_sequence an aside k (map_members f vs)
  map_open (open_struct an aside fs) = open_struct an aside (map_fields f fs)

  abbrev map_stack : List (Open S) → List (Open T)
  map_stack [] = []
  map_stack (o ∷ st) = map_open o ∷ map_stack st

  none_mapped : (st : List (Open S)) → map_stack st ≡ [] → st ≡ []
  none_mapped [] e = refl
  none_mapped (o ∷ st) e = absurd (cons≢nil e)

  abbrev map_model : Model S → Model T
  map_model x = record { items = map_items f x.items; stack = map_stack x.stack; waiting = x.waiting }

  map_add_member : (vs : Members S) (t : Tree S) → map_members f (add_member vs t) ≡ add_member (map_members f vs) (map_tree f t)
  unfolding map_tree
  map_add_member no_members t = refl
  map_add_member (member x xs) t = rw (map_add_member xs t)

  map_add_field : (fs : Fields S) (k : ℕ) (t : Tree S) → map_fields f (add_field fs k t) ≡ add_field (map_fields f fs) k (map_tree f t)
  unfolding map_tree
  map_add_field no_fields k t = refl
  map_add_field (field j x xs) k t = rw (map_add_field xs k t)

  map_add_value : (is : List (Item S)) (t : Tree S) → map_items f (is ++ (value t ∷ [])) ≡ map_items f is ++ (value (map_tree f t) ∷ [])
  unfolding map_items
  map_add_value [] t = refl
  map_add_value (marker ∷ is) t = rw (map_add_value is t)
  map_add_value (value x ∷ is) t = rw (map_add_value is t)

  map_add_marker : (is : List (Item S)) → map_items f (is ++ (marker ∷ [])) ≡ map_items f is ++ (marker ∷ [])
  unfolding map_items
  map_add_marker [] = refl
  map_add_marker (marker ∷ is) = rw (map_add_marker is)
  map_add_marker (value x ∷ is) = rw (map_add_marker is)

  map_add : (is : List (Item S)) (st : List (Open S)) (nm : Option ℕ) (t : Tree S)
      → add (map_items f is) (map_stack st) nm (map_tree f t) ≡ map_model (add is st nm t)
  map_add is [] nm t = rw (map_add_value is t)
  map_add is (open_sequence an aside k vs ∷ st) nm t = rw (map_add_member vs t)
  map_add is (open_struct an aside fs ∷ st) (some n) t = rw (map_add_field fs n t)
  map_add is (open_struct an aside fs ∷ st) none t = refl

  map_close : (is : List (Item S)) (st : List (Open S)) (nm : Option ℕ) → close (map_items f is) (map_stack st) nm ≡ map_model (close is st nm)
  map_close is [] nm = refl
  map_close is (open_sequence an aside k vs ∷ st) nm = unfold map_tree in map_add is st aside (closed (open_sequence an aside k vs))
  map_close is (open_struct an aside fs ∷ st) nm = unfold map_tree in map_add is st aside (closed (open_struct an aside fs))

  map_abandon : (is : List (Item S)) (st : List (Open S)) (nm : Option ℕ) → abandon (map_items f is) (map_stack st) nm ≡ map_model (abandon is st nm)
  map_abandon is [] nm = refl
  map_abandon is (open_sequence an aside k vs ∷ st) nm = refl
  map_abandon is (open_struct an aside fs ∷ st) nm = refl

module _ {S T : Type 0} (f : S → T) (g : Argument → S) where
  map_spell : (c : Call) (x : Model S) → spell (λ a. f (g a)) c (map_model f x) ≡ map_model f (spell g c x)
  unfolding map_tree
  map_spell (write an a) x = map_add f x.items x.stack x.waiting (scalar an (g a))
  map_spell (name n) x = refl
  map_spell (opening an (sequence_type k)) x = refl
  map_spell (opening an struct_type) x = refl
  map_spell closing x = map_close f x.items x.stack x.waiting
  map_spell abandonment x = map_abandon f x.items x.stack x.waiting
  map_spell version_marker x = rw (map_add_marker f x.items)
  map_spell taking x = refl
  map_spell emptying x = refl

  map_step : (c : Call) (b : Bool) (x : Model S) → model_step (λ a. f (g a)) c b (map_model f x) ≡ map_model f (model_step g c b x)
  map_step c true x = map_spell c x
  map_step c false x = refl

  map_after : (cs : List Call) (w : Config) (x : Model S) → model_after (λ a. f (g a)) cs w (map_model f x) ≡ map_model f (model_after g cs w x)
  unfolding model_after
  map_after [] w x = refl
  map_after (c ∷ cs) w x = rw (map_step c (is_accepted (verdict c w)) x) (map_after cs (after c w) (model_step g c (is_accepted (verdict c w)) x))

module _ (cs : List Call) (b : List ℕ) where
  spelling_is : spelling cs b ≡ map_model meaning (model_after (λ a. a) cs (started b) started_model)
  unfolding map_items
  spelling_is = map_after meaning (λ a. a) cs (started b) started_model

  -- what a list spells is the meaning of what it has written
  pub spelled_is : spelled cs b ≡ map_items meaning (written cs b)
  spelled_is = ap (λ x. x.items) spelling_is

  -- and the same containers are open
  pub stack_is : (spelling cs b).stack ≡ [] → (model_after (λ a. a) cs (started b) started_model).stack ≡ []
  stack_is e = none_mapped meaning (model_after (λ a. a) cs (started b) started_model).stack (sym (ap (λ x. x.stack) spelling_is) ∙ e)
