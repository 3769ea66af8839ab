-- The numbers that closings answer are how many members the containers have in what is read: each open container's count is how many members the model's
-- has, by the invariant. By induction over the list of calls, refused ones included.
-- Assumes nothing.
use Prim.Native.Nat.{ℕ, suc, ◌+◌}
use native.Mathlib.Omega.{arith}
use native.Mathlib.Nat.{add-zero, zero-add}
use mathlib.Core.Path.{◌≡◌, refl, sym, ◌∙◌, ap}
use mathlib.Core.Bool.{false≢true}
use mathlib.Core.List.{List, [], ◌∷◌, ◌++◌, append_assoc, append-nil}
use mathlib.Core.Option.{Option, none, some}
use lib.ListN.{length, length-append}
use Rattle.ion.specs.Value.{Tree, scalar, sequence, struct, Members, no_members, member, Fields, no_fields, field, Item, marker, value}
use Rattle.ion.proofs.Maps.{map_tree, map_members, map_fields, map_items}
use Rattle.encoding.specs.Argument.{Argument, argument_checks, meaning}
use Rattle.encoding.proofs.Writable.{NoneHolds}
use Rattle.machine.specs.Call.{ContainerType, sequence_type, struct_type, Call, write, name, opening, closing, abandonment, version_marker, taking, emptying}
use Rattle.machine.specs.Machine.{Config, open_containers, is_open, outer, live, lacks_name, innermost_members, rule_of, checks, effect, Verdict}
use Rattle.machine.specs.Machine.{accepted, refused, verdict, is_accepted, figures_if, after, run, started}
use Rattle.machine.specs.Model.{Open, open_sequence, open_struct, Model, opened, set_aside, closed, add_member, add_field, add, close, abandon}
use Rattle.machine.specs.Model.{spell, model_step, started_model}
use Rattle.machine.specs.Demands.{flushed, model_after, written}
use Rattle.machine.specs.Counts.{how_many, how_many_pairs, Counted, tree_counts, members_counts, fields_counts, counts_from, counts, Answers}
use Rattle.machine.specs.Counts.{next_place, answers_with, answers_closed, answers_abandoned, answers_accepted, answers_step, answers_after}
use Rattle.machine.specs.Counts.{MembersAnswered}
use Rattle.machine.proofs.Invariant.{is_some, inside_struct, NamesAside, members_of, containers_of, outside}
use Rattle.machine.proofs.Steps.{none_failing, passed, Invariant, can}
use Rattle.machine.proofs.Meaning.{spelled_is}
use Rattle.machine.proofs.Demands.{step_arguments, call_keeps, start_keeps, demand3}

one_on : (i n : ℕ) → i + 1 + n ≡ i + suc n
one_on i n = omega arith

-- ---- the counts do not depend on the leaves

module _ {S T : Type 0} (f : S → T) where
  how_many_map : (vs : Members S) → how_many (map_members f vs) ≡ how_many vs
  unfolding map_tree
  how_many_map no_members = refl
  how_many_map (member v vs) = rw (how_many_map vs)

  how_many_pairs_map : (fs : Fields S) → how_many_pairs (map_fields f fs) ≡ how_many_pairs fs
  unfolding map_tree
  how_many_pairs_map no_fields = refl
  how_many_pairs_map (field n v fs) = rw (how_many_pairs_map fs)

  mutual
    unfolding map_tree tree_counts

    tree_counts_map : (p : List ℕ) (t : Tree S) → tree_counts p (map_tree f t) ≡ tree_counts p t
    tree_counts_map p (scalar an s) = refl
    tree_counts_map p (sequence an k vs) = rw (members_counts_map p 0 vs, how_many_map vs)
    tree_counts_map p (struct an fs) = rw (fields_counts_map p 0 fs, how_many_pairs_map fs)

    members_counts_map : (p : List ℕ) (i : ℕ) (vs : Members S) → members_counts p i (map_members f vs) ≡ members_counts p i vs
    members_counts_map p i no_members = refl
    members_counts_map p i (member v vs) = rw (tree_counts_map (p ++ (i ∷ [])) v, members_counts_map p (i + 1) vs)

    fields_counts_map : (p : List ℕ) (i : ℕ) (fs : Fields S) → fields_counts p i (map_fields f fs) ≡ fields_counts p i fs
    fields_counts_map p i no_fields = refl
    fields_counts_map p i (field n v fs) = rw (tree_counts_map (p ++ (i ∷ [])) v, fields_counts_map p (i + 1) fs)

  counts_map : (i : ℕ) (is : List (Item S)) → counts_from i (map_items f is) ≡ counts_from i is
  unfolding map_items counts_from
  counts_map i [] = refl
  counts_map i (marker ∷ is) = counts_map (i + 1) is
  counts_map i (value t ∷ is) = rw (tree_counts_map (i ∷ []) t, counts_map (i + 1) is)

-- ---- with one value more

module _ {S : Type 0} (p : List ℕ) where
  counts-add_member : (i : ℕ) (vs : Members S) (t : Tree S)
      → members_counts p i (add_member vs t) ≡ members_counts p i vs ++ tree_counts (p ++ ((i + how_many vs) ∷ [])) t
  unfolding tree_counts
  counts-add_member i no_members t = rw (add-zero i, append-nil)
  counts-add_member i (member x xs) t = rw (counts-add_member (i + 1) xs t, one_on i (how_many xs), append_assoc)

  counts-add_field : (i : ℕ) (fs : Fields S) (n : ℕ) (t : Tree S)
      → fields_counts p i (add_field fs n t) ≡ fields_counts p i fs ++ tree_counts (p ++ ((i + how_many_pairs fs) ∷ [])) t
  unfolding tree_counts
  counts-add_field i no_fields n t = rw (add-zero i, append-nil)
  counts-add_field i (field j x xs) n t = rw (counts-add_field (i + 1) xs n t, one_on i (how_many_pairs xs), append_assoc)

counts_append : {S : Type 0} (i : ℕ) (is js : List (Item S)) → counts_from i (is ++ js) ≡ counts_from i is ++ counts_from (i + length is) js
unfolding counts_from
counts_append i [] js = rw (add-zero i)
counts_append i (marker ∷ is) js = rw (counts_append (i + 1) is js, one_on i (length is))
counts_append i (value t ∷ is) js = rw (counts_append (i + 1) is js, one_on i (length is), append_assoc)

-- ---- the answers that the model tells

-- the place of a value that comes next, i items behind the stream's begin
abbrev place_in : ℕ → List (Open Argument) → List ℕ
place_in i [] = i ∷ []
place_in i (o ∷ st) = place_in i st ++ (members_of o ∷ [])

-- p is the place of the open container
abbrev held_counts : List ℕ → Open Argument → List Counted
held_counts p (open_sequence an aside k vs) = members_counts p 0 vs
held_counts p (open_struct an aside fs) = fields_counts p 0 fs

abbrev stack_counts : ℕ → List (Open Argument) → List (List Counted)
stack_counts i [] = []
stack_counts i (o ∷ st) = held_counts (place_in i st) o ∷ stack_counts i st

abbrev answers_in : List (Item Argument) → List (Open Argument) → Answers
answers_in is st = record { items = length is; outside = counts is; inside = stack_counts (length is) st }

abbrev answers_of : Model Argument → Answers
answers_of x = answers_in x.items x.stack

add_answers : (is : List (Item Argument)) (st : List (Open Argument)) (nm : Option ℕ) (t : Tree Argument) → is_some nm ≡ inside_struct st
    → answers_with (length is) (counts is) (stack_counts (length is) st) (tree_counts (place_in (length is) st) t) ≡ answers_of (add is st nm t)
unfolding counts_from
add_answers is [] nm t e = rw (counts_append 0 is (value t ∷ []), zero-add (length is), length-append is (value t ∷ []), append-nil)
add_answers is (open_sequence an aside k vs ∷ st) nm t e = rw (counts-add_member (place_in (length is) st) 0 vs t, zero-add (how_many vs))
add_answers is (open_struct an aside fs ∷ st) (some n) t e = rw (counts-add_field (place_in (length is) st) 0 fs n t, zero-add (how_many_pairs fs))
add_answers is (open_struct an aside fs ∷ st) none t e = absurd (false≢true e)

closed-counts : (p : List ℕ) (o : Open Argument) → tree_counts p (closed o) ≡ held_counts p o ++ ((p, members_of o) ∷ [])
unfolding tree_counts
closed-counts p (open_sequence an aside k vs) = refl
closed-counts p (open_struct an aside fs) = refl

-- the records' counts are the model's
next_place-containers_of : (base : List ℕ) (i : ℕ) (st : List (Open Argument)) → next_place i (containers_of base st) ≡ place_in i st
next_place-containers_of base i [] = refl
next_place-containers_of base i (o ∷ st) = rw (next_place-containers_of base i st)

close_answers : (base : List ℕ) (is : List (Item Argument)) (st : List (Open Argument)) (nm : Option ℕ) → NamesAside st
    → answers_closed (length is) (counts is) (stack_counts (length is) st)
    (next_place (length is) (outer (containers_of base st)), innermost_members (containers_of base st))
    ≡ answers_of (close is st nm)
close_answers base is [] nm h = refl
close_answers base is (o ∷ st) nm h =
    rw (next_place-containers_of base (length is) st, ← (closed-counts (place_in (length is) st) o)) (add_answers is st (set_aside o) (closed o) h.0)

abandon_answers : (is : List (Item Argument)) (st : List (Open Argument)) (nm : Option ℕ)
    → answers_abandoned (length is) (counts is) (stack_counts (length is) st) ≡ answers_of (abandon is st nm)
abandon_answers is [] nm = refl
abandon_answers is (o ∷ st) nm = refl

opened_answers : (is : List (Item Argument)) (st : List (Open Argument)) (an : List ℕ) (nm : Option ℕ) (k : ContainerType)
    → record { items = length is; outside = counts is; inside = [] ∷ stack_counts (length is) st } ≡ answers_in is (opened an nm k ∷ st)
unfolding tree_counts
opened_answers is st an nm (sequence_type k) = refl
opened_answers is st an nm struct_type = refl

-- ---- one call, accepted or refused

module _ (done : List ℕ) (w : Config) (x : Model Argument) (inv : Invariant done w x) where
  accepted_answers : (c : Call) → NoneHolds (checks c w)
      → answers_accepted c w.state (rule_of c w).figures.members (answers_of x) ≡ answers_of (spell (λ a. a) c x)
  unfolding tree_counts
  accepted_answers (write an a) h =
      let k = passed w (lacks_name w.state) (argument_checks a) (effect (write an a) w).state.used h in
      add_answers x.items x.stack x.waiting (scalar an a) (can done w x inv k.place)
  accepted_answers (name n) h = refl
  accepted_answers (opening an k) h = opened_answers x.items x.stack an x.waiting k
  accepted_answers closing h =
      rw inv.layout.placed (close_answers inv.layout.base x.items x.stack x.waiting inv.layout.aside)
  accepted_answers abandonment h = abandon_answers x.items x.stack x.waiting
  accepted_answers version_marker h =
      let k = passed w (is_open (open_containers w.state)) [] (effect version_marker w).state.used h in
      let none = (outside done (live w) (open_containers w.state) x.items x.stack x.waiting inv.layout k.place).1 in
      rw (none, length-append x.items (marker ∷ []), counts_append 0 x.items (marker ∷ [])) (unfold counts_from in rw append-nil)
  accepted_answers taking h = refl
  accepted_answers emptying h = refl

  call_answers : (c : Call) → answers_step c (is_accepted (verdict c w)) w.state (run c w).figures.members (answers_of x) ≡ answers_of (step_arguments c w x)
  unfolding run
  call_answers c = by_verdict (verdict c w) refl
    where
      by_verdict : (v : Verdict) → verdict c w ≡ v
          → answers_step c (is_accepted v) w.state (figures_if v (rule_of c w).figures).members (answers_of x)
          ≡ answers_of (model_step (λ a. a) c (is_accepted v) x)
      by_verdict accepted e = accepted_answers c (none_failing (checks c w) (unfold verdict in e))
      by_verdict (refused n) e = refl

-- ---- a list of calls

list_answers : (cs : List Call) (done : List ℕ) (w : Config) (x : Model Argument) → Invariant done w x
    → answers_after cs w (answers_of x) ≡ answers_of (model_after (λ a. a) cs w x)
unfolding answers_after model_after
list_answers [] done w x inv = refl
list_answers (c ∷ cs) done w x inv =
    rw (call_answers done w x inv c) (list_answers cs (done ++ flushed c w) (after c w) (step_arguments c w x) (call_keeps done w x c inv))

pub members-answered : MembersAnswered
unfolding counts_from
members-answered cs b r t x reading =
    ap (λ (a : Answers). a.outside) (list_answers cs [] (started b) started_model (start_keeps b r.starts))
    ∙ (sym (counts_map meaning 0 (written cs b)) ∙ (ap counts (sym (spelled_is cs b)) ∙ ap counts (sym ((demand3 cs b r t).only x reading))))
