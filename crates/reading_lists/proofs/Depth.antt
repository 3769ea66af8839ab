-- What the machine spells has at most 32 containers open at once: each open container holds no more than the 32 leave under it, since an opening with
-- 32 open is refused. By induction over the list of calls, refused ones included.
-- Assumes nothing.
use Prim.Native.Nat.{ℕ, suc, ◌+◌, ◌-◌, ◌<◌, ◌≤◌}
use native.Mathlib.Omega.{arith}
use mathlib.Core.Path.{◌≡◌, refl}
use mathlib.Core.List.{List, [], ◌∷◌, ◌++◌}
use mathlib.Core.Option.{Option, none, some}
use lib.Dec.{leb}
use lib.ListN.{length}
use borrow.Author.Tests.{leb-false, leb-true}
use Rattle.ion.specs.Value.{Scalar, Tree, scalar, Members, no_members, member, Fields, no_fields, field, Item, marker, value}
use Rattle.ion.proofs.Tests.{by_cases}
use Rattle.encoding.specs.Headers.{marker_bytes}
use Rattle.encoding.specs.Argument.{Argument, meaning}
use Rattle.encoding.proofs.Writable.{NoneHolds}
use Rattle.machine.specs.Call.{ContainerType, sequence_type, struct_type, Call, write, name, opening, closing, abandonment, version_marker, taking, emptying}
use Rattle.machine.specs.Machine.{Config, effect, checks, Verdict, accepted, refused, if_accepted, empty_state, splice, start_verdict, started}
use Rattle.machine.specs.Model.{Open, open_sequence, open_struct, Model, opened, set_aside, closed, add_member, add_field, add, close, abandon, spell, started_model}
use Rattle.reading.specs.Items.{most_open}
use Rattle.reading.specs.Walk.{higher, tree_depth, members_depth, fields_depth, stream_depth}
use Rattle.reading_grammar.proofs.Walked.{higher_within}
use Rattle.reading_lists.specs.ReadBack.{SpelledDepth}
use Rattle.reading_lists.proofs.Invariant.{list_keeps}

-- ---- the higher of two

first-most : (m n k : ℕ) → higher m n ≤ k → m ≤ k
first-most m n k h =
    by_cases (leb m n)
    (λ e. let a : m ≤ n = leb-true m n e in let b : n ≤ k = rw e at h in omega arith)
    (λ e. rw e at h)

second_most : (m n k : ℕ) → higher m n ≤ k → n ≤ k
second_most m n k h =
    by_cases (leb m n)
    (λ e. rw e at h)
    (λ e. let a : n < m = leb-false m n e in let b : m ≤ k = rw e at h in omega arith)

-- ---- one value more

module _ {S : Type 0} where
  add_member_depth : (vs : Members S) (t : Tree S) (k : ℕ) → members_depth vs ≤ k → tree_depth t ≤ k → members_depth (add_member vs t) ≤ k
  unfolding tree_depth
  add_member_depth no_members t k p q = higher_within (tree_depth t) 0 k q p
  add_member_depth (member x xs) t k p q =
      let a = first-most (tree_depth x) (members_depth xs) k p in
      let b = second_most (tree_depth x) (members_depth xs) k p in
      higher_within (tree_depth x) (members_depth (add_member xs t)) k a (add_member_depth xs t k b q)

  add_field_depth : (fs : Fields S) (n : ℕ) (t : Tree S) (k : ℕ) → fields_depth fs ≤ k → tree_depth t ≤ k → fields_depth (add_field fs n t) ≤ k
  unfolding tree_depth
  add_field_depth no_fields n t k p q = higher_within (tree_depth t) 0 k q p
  add_field_depth (field j x xs) n t k p q =
      let a = first-most (tree_depth x) (fields_depth xs) k p in
      let b = second_most (tree_depth x) (fields_depth xs) k p in
      higher_within (tree_depth x) (fields_depth (add_field xs n t)) k a (add_field_depth xs n t k b q)

  add_value_depth : (is : List (Item S)) (t : Tree S) (k : ℕ) → stream_depth is ≤ k → tree_depth t ≤ k → stream_depth (is ++ (value t ∷ [])) ≤ k
  unfolding stream_depth
  add_value_depth [] t k p q = higher_within (tree_depth t) 0 k q p
  add_value_depth (marker ∷ is) t k p q = add_value_depth is t k p q
  add_value_depth (value x ∷ is) t k p q =
      let a = first-most (tree_depth x) (stream_depth is) k p in
      let b = second_most (tree_depth x) (stream_depth is) k p in
      higher_within (tree_depth x) (stream_depth (is ++ (value t ∷ []))) k a (add_value_depth is t k b q)

  add_marker_depth : (is : List (Item S)) → stream_depth (is ++ (marker ∷ [])) ≡ stream_depth is
  unfolding stream_depth
  add_marker_depth [] = refl
  add_marker_depth (marker ∷ is) = add_marker_depth is
  add_marker_depth (value x ∷ is) = rw (add_marker_depth is)

  -- ---- the invariant

  -- how many containers are open at once in what an open container holds so far
  abbrev held_depth : Open S → ℕ
  held_depth (open_sequence an aside k vs) = members_depth vs
  held_depth (open_struct an aside fs) = fields_depth fs

  abbrev Shallow : List (Open S) → Type 0
  Shallow [] = Unit {0}
  Shallow (o ∷ st) = (held_depth o + length (o ∷ st) ≤ most_open) × Shallow st

  -- the state has `count` containers open
  record ShallowAt (count : ℕ) (is : List (Item S)) (st : List (Open S)) : Type 0 where
    items : stream_depth is ≤ most_open
    stack : Shallow st
    counted : length st ≡ count

  abbrev ShallowOf : Config → Model S → Type 0
  ShallowOf w x = ShallowAt w.state.depth x.items x.stack

  stack_most : (st : List (Open S)) → Shallow st → length st ≤ most_open
  stack_most [] h = omega arith
  stack_most (o ∷ st) h = omega (arith, h.0)

  -- a value that what is open leaves room for
  add_shallow : (count : ℕ) (is : List (Item S)) (st : List (Open S)) (nm : Option ℕ) (t : Tree S)
      → ShallowAt count is st → tree_depth t + length st ≤ most_open → ShallowAt count (add is st nm t).items (add is st nm t).stack
  add_shallow count is [] nm t h d = record { items = add_value_depth is t most_open h.items (omega arith); stack = tt; counted = h.counted }
  add_shallow count is (open_sequence an aside k vs ∷ st) nm t h d = record {
    items = h.items;
    stack = (let a = add_member_depth vs t (most_open - suc (length st)) (omega (arith, h.stack.0)) (omega arith) in omega (arith, d), h.stack.1);
    counted = h.counted;
  }
  add_shallow count is (open_struct an aside fs ∷ st) none t h d = h
  add_shallow count is (open_struct an aside fs ∷ st) (some n) t h d = record {
    items = h.items;
    stack = (let a = add_field_depth fs n t (most_open - suc (length st)) (omega (arith, h.stack.0)) (omega arith) in omega (arith, d), h.stack.1);
    counted = h.counted;
  }

  closed_depth : (o : Open S) → tree_depth (closed o) ≡ 1 + held_depth o
  unfolding tree_depth
  closed_depth (open_sequence an aside k vs) = refl
  closed_depth (open_struct an aside fs) = refl

  -- with fewer than 32 open there is room for one more
  opening_shallow : (count : ℕ) (is : List (Item S)) (st : List (Open S)) (nm : Option ℕ) (an : List ℕ) (k : ContainerType)
      → ShallowAt count is st → count < most_open → ShallowAt (count + 1) is (opened an nm k ∷ st)
  unfolding tree_depth
  opening_shallow count is st nm an (sequence_type k) h d =
      record { items = h.items; stack = (omega (arith, h.counted), h.stack); counted = omega (arith, h.counted) }
  opening_shallow count is st nm an struct_type h d =
      record { items = h.items; stack = (omega (arith, h.counted), h.stack); counted = omega (arith, h.counted) }

  -- without the innermost, one container fewer is open
  under_shallow : (count : ℕ) (is : List (Item S)) (o : Open S) (st : List (Open S)) → ShallowAt count is (o ∷ st) → ShallowAt (count - 1) is st
  under_shallow count is o st h = record { items = h.items; stack = h.stack.1; counted = omega (arith, h.counted) }

  close_shallow : (count : ℕ) (is : List (Item S)) (st : List (Open S)) (nm : Option ℕ)
      → ShallowAt count is st → ShallowAt (count - 1) (close is st nm).items (close is st nm).stack
  close_shallow count is [] nm h = record { items = h.items; stack = tt; counted = omega (arith, h.counted) }
  close_shallow count is (o ∷ st) nm h =
      add_shallow (count - 1) is st (set_aside o) (closed o) (under_shallow count is o st h) (omega (arith, closed_depth o, h.stack.0))

  abandon_shallow : (count : ℕ) (is : List (Item S)) (st : List (Open S)) (nm : Option ℕ)
      → ShallowAt count is st → ShallowAt (count - 1) (abandon is st nm).items (abandon is st nm).stack
  abandon_shallow count is [] nm h = record { items = h.items; stack = tt; counted = omega (arith, h.counted) }
  abandon_shallow count is (o ∷ st) nm h = under_shallow count is o st h

-- ---- the calls, with `f` for the leaves

module _ {S : Type 0} (f : Argument → S) where
  accepted_shallow : (w : Config) (x : Model S) (c : Call) → ShallowOf w x → NoneHolds (checks c w) → ShallowOf (effect c w) (spell f c x)
  unfolding tree_depth
  accepted_shallow w x (write an a) h n =
      add_shallow w.state.depth x.items x.stack x.waiting (scalar an (f a)) h (omega (arith, stack_most x.stack h.stack))
  accepted_shallow w x (name n) h k = h
  accepted_shallow w x (opening an k) h n =
      opening_shallow w.state.depth x.items x.stack x.waiting an k h (leb-false most_open w.state.depth n.1.1.1.0)
  accepted_shallow w x closing h n = close_shallow w.state.depth x.items x.stack x.waiting h
  accepted_shallow w x abandonment h n = abandon_shallow w.state.depth x.items x.stack x.waiting h
  accepted_shallow w x version_marker h n = record { items = rw (add_marker_depth x.items) h.items; stack = h.stack; counted = h.counted }
  accepted_shallow w x taking h n = h
  accepted_shallow w x emptying h n = h

-- a refused start opens nothing either
start_shallow : (b : List ℕ) → ShallowAt (started b).state.depth (started_model {S = Scalar}).items []
unfolding stream_depth
start_shallow b = record { items = omega arith; stack = tt; counted = none_open (start_verdict b) }
  where
    none_open : (v : Verdict)
        → 0
        ≡ (if_accepted v (record { state = empty_state 4; buffer = splice 0 0 marker_bytes b })
        (record { state = empty_state 0; buffer = b })).state.depth
    none_open accepted = refl
    none_open (refused n) = refl

pub spelled_depth : SpelledDepth
spelled_depth cs b = (list_keeps meaning ShallowOf (accepted_shallow meaning) cs (started b) started_model (start_shallow b)).1.items
