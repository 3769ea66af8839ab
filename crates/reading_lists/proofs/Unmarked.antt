-- No timestamp in what is spelled is marked: an accepted write has passed check 7, and the other calls only move leaves or drop them. By induction over
-- the list of calls. Every reading of the joined bytes is what was spelled (demand 3), so none has a marked timestamp either.
-- Assumes nothing.
use Prim.Native.Nat.{ℕ}
use mathlib.Core.Path.{◌≡◌, refl, ap}
use mathlib.Core.Bool.{Bool, true, false, not}
use mathlib.Core.List.{List, [], ◌∷◌, ◌++◌, append_assoc, append-nil}
use mathlib.Core.Option.{Option, none, some}
use borrow.Author.Tests.{not-false}
use Rattle.ion.specs.Value.{Scalar, Tree, scalar, Members, no_members, member, Fields, no_fields, field, Item, marker, value, tree_leaves, members_leaves}
use Rattle.ion.specs.Value.{fields_leaves, leaves}
use Rattle.mark.specs.OutOfCalendar.{is_marked, none_marked}
use Rattle.ion.proofs.Tests.{both}
use Rattle.encoding.specs.Timestamp.{is_timestamp}
use Rattle.encoding.specs.Argument.{Argument, write_null, write_bool, write_i64, write_int, write_f32, write_f64, write_decimal, write_timestamp, write_symbol}
use Rattle.encoding.specs.Argument.{write_string, write_clob, write_blob, meaning, argument_checks}
use Rattle.encoding.proofs.Writable.{NoneHolds}
use Rattle.encoding.proofs.OutOfCalendar.{never-marked}
use Rattle.machine.specs.Call.{ContainerType, sequence_type, struct_type, Call, write, name, opening, closing, abandonment, version_marker, taking, emptying}
use Rattle.machine.specs.Machine.{Config, checks, started}
use Rattle.machine.specs.Model.{Open, open_sequence, open_struct, Model, opened, set_aside, closed, add_member, add_field, add, close, abandon, spell, started_model}
use Rattle.machine.proofs.Demands.{demand3}
use Rattle.entry_lists.proofs.Demands.{calls, spelling_is, entry_demand3}
use Rattle.reading_lists.specs.Unmarked.{SpelledUnmarked, ReadUnmarked, HostReadUnmarked}
use Rattle.reading_lists.proofs.Invariant.{list_keeps}

-- ---- the leaves, with one value more

module _ {S : Type 0} where
  leaves-add_member : (vs : Members S) (t : Tree S) → members_leaves (add_member vs t) ≡ members_leaves vs ++ tree_leaves t
  unfolding tree_leaves
  leaves-add_member no_members t = append-nil (tree_leaves t)
  leaves-add_member (member x xs) t = rw (leaves-add_member xs t, append_assoc)

  leaves-add_field : (fs : Fields S) (n : ℕ) (t : Tree S) → fields_leaves (add_field fs n t) ≡ fields_leaves fs ++ tree_leaves t
  unfolding tree_leaves
  leaves-add_field no_fields n t = append-nil (tree_leaves t)
  leaves-add_field (field j x xs) n t = rw (leaves-add_field xs n t, append_assoc)

  leaves_append : (is js : List (Item S)) → leaves (is ++ js) ≡ leaves is ++ leaves js
  unfolding leaves
  leaves_append [] js = refl
  leaves_append (marker ∷ is) js = leaves_append is js
  leaves_append (value t ∷ is) js = rw (leaves_append is js, append_assoc)

unmarked_append : (xs ys : List Scalar) → none_marked xs ≡ true → none_marked ys ≡ true → none_marked (xs ++ ys) ≡ true
unmarked_append [] ys p q = q
unmarked_append (x ∷ xs) ys p q = let s = both {a = not (is_marked x)} {b = none_marked xs} p in rw s.0 (unmarked_append xs ys s.1 q)

-- ---- the invariant: no leaf of the items is marked, nor of what the open containers hold

abbrev UnmarkedTree : Tree Scalar → Type 0
UnmarkedTree t = none_marked (tree_leaves t) ≡ true

abbrev UnmarkedStack : List (Open Scalar) → Type 0
UnmarkedStack [] = Unit {0}
UnmarkedStack (o ∷ st) = UnmarkedTree (closed o) × UnmarkedStack st

record UnmarkedIn (is : List (Item Scalar)) (st : List (Open Scalar)) : Type 0 where
  items : none_marked (leaves is) ≡ true
  stack : UnmarkedStack st

abbrev UnmarkedOf : Model Scalar → Type 0
UnmarkedOf x = UnmarkedIn x.items x.stack

-- an item more: a value whose leaves are unmarked, or a marker
item_unmarked : (is js : List (Item Scalar)) → none_marked (leaves is) ≡ true → none_marked (leaves js) ≡ true → none_marked (leaves (is ++ js)) ≡ true
item_unmarked is js p q = rw (leaves_append is js) (unmarked_append (leaves is) (leaves js) p q)

add_unmarked : (is : List (Item Scalar)) (st : List (Open Scalar)) (nm : Option ℕ) (t : Tree Scalar) → UnmarkedIn is st → UnmarkedTree t
    → UnmarkedOf (add is st nm t)
unfolding tree_leaves leaves
add_unmarked is [] nm t h u = record { items = item_unmarked is (value t ∷ []) h.items (rw (append-nil (tree_leaves t)) u); stack = tt }
add_unmarked is (open_sequence an aside k vs ∷ st) nm t h u = record {
  items = h.items;
  stack = (rw (leaves-add_member vs t) (unmarked_append (members_leaves vs) (tree_leaves t) h.stack.0 u), h.stack.1);
}
add_unmarked is (open_struct an aside fs ∷ st) none t h u = h
add_unmarked is (open_struct an aside fs ∷ st) (some n) t h u = record {
  items = h.items;
  stack = (rw (leaves-add_field fs n t) (unmarked_append (fields_leaves fs) (tree_leaves t) h.stack.0 u), h.stack.1);
}

opened_unmarked : (an : List ℕ) (nm : Option ℕ) (k : ContainerType) → UnmarkedTree (closed (opened an nm k))
unfolding tree_leaves
opened_unmarked an nm (sequence_type k) = refl
opened_unmarked an nm struct_type = refl

close_unmarked : (is : List (Item Scalar)) (st : List (Open Scalar)) (nm : Option ℕ) → UnmarkedIn is st → UnmarkedOf (close is st nm)
close_unmarked is [] nm h = h
close_unmarked is (o ∷ st) nm h = add_unmarked is st (set_aside o) (closed o) (record { items = h.items; stack = h.stack.1 }) h.stack.0

abandon_unmarked : (is : List (Item Scalar)) (st : List (Open Scalar)) (nm : Option ℕ) → UnmarkedIn is st → UnmarkedOf (abandon is st nm)
abandon_unmarked is [] nm h = h
abandon_unmarked is (o ∷ st) nm h = record { items = h.items; stack = h.stack.1 }

-- ---- the calls

-- a scalar whose own checks pass, with the other lines of the call behind them
meaning_unmarked : (a : Argument) (rest : List (Bool × ℕ)) → NoneHolds (argument_checks a ++ rest) → is_marked (meaning a) ≡ false
unfolding meaning
meaning_unmarked (write_null t) rest h = refl
meaning_unmarked (write_bool x) rest h = refl
meaning_unmarked (write_i64 z) rest h = refl
meaning_unmarked (write_int s m) rest h = refl
meaning_unmarked (write_f32 b) rest h = refl
meaning_unmarked (write_f64 b) rest h = refl
meaning_unmarked (write_decimal s m e) rest h = refl
meaning_unmarked (write_timestamp o fs x) rest h = never-marked o fs x (not-false (is_timestamp o fs x) h.0)
meaning_unmarked (write_symbol n) rest h = refl
meaning_unmarked (write_string b) rest h = refl
meaning_unmarked (write_clob b) rest h = refl
meaning_unmarked (write_blob b) rest h = refl

accepted_unmarked : (w : Config) (x : Model Scalar) (c : Call) → UnmarkedOf x → NoneHolds (checks c w) → UnmarkedOf (spell meaning c x)
unfolding tree_leaves leaves
accepted_unmarked w x (write an a) h n =
    add_unmarked x.items x.stack x.waiting (scalar an (meaning a)) h (rw (meaning_unmarked a _ n.1.1.1))
accepted_unmarked w x (name n) h k = h
accepted_unmarked w x (opening an k) h n = record { items = h.items; stack = (opened_unmarked an x.waiting k, h.stack) }
accepted_unmarked w x closing h n = close_unmarked x.items x.stack x.waiting h
accepted_unmarked w x abandonment h n = abandon_unmarked x.items x.stack x.waiting h
accepted_unmarked w x version_marker h n = record { items = item_unmarked x.items (marker ∷ []) h.items refl; stack = h.stack }
accepted_unmarked w x taking h n = h
accepted_unmarked w x emptying h n = h

pub spelled_unmarked : SpelledUnmarked
unfolding leaves
spelled_unmarked cs b = (list_keeps meaning (λ w x. UnmarkedOf x) accepted_unmarked cs (started b) started_model (record { items = refl; stack = tt })).1.items

pub read_unmarked : ReadUnmarked
read_unmarked cs b r t is reading = rw ((demand3 cs b r t).only is reading) (spelled_unmarked cs b)

-- what a host's list spells is what its calls spell on the machine
pub host_read_unmarked : HostReadUnmarked
host_read_unmarked hs st b r is reading =
    rw ((entry_demand3 hs st b r).only is reading, ap (λ (x : Model Scalar). x.items) (spelling_is hs st b r)) (spelled_unmarked (calls hs) b)
