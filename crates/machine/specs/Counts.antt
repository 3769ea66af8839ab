-- The numbers of members that closings answer, over every list of calls (document 02, Item 3): the statements. The proofs are in proofs/Counts.antt
-- and proofs/Fitting.antt.
-- Assumes nothing.
use Rattle.std.specs.Prelude.{ℕ, suc, ◌+◌, ◌≡◌, Bool, true, false, List, [], ◌∷◌, ◌++◌, length}
use Rattle.ion.specs.Value.{Scalar, Tree, scalar, sequence, struct, Members, no_members, member, Fields, no_fields, field, Item, marker, value}
use Rattle.ion.specs.Grammar.{Reads}
use Rattle.machine.specs.declared.State.{State}
use Rattle.machine.specs.declared.Container.{Container}
use Rattle.machine.specs.Call.{Call, write, name, opening, closing, abandonment, version_marker, taking, emptying, AllTyped}
use Rattle.machine.specs.Machine.{Config, open_containers, outer, fits, accepted, verdict, is_accepted, after, run, start_verdict, started}
use Rattle.machine.specs.Demands.{joined, Run}

-- ---- of what a stream holds

abbrev pub how_many : {S : Type 0} → Members S → ℕ
how_many no_members = 0
how_many (member v vs) = suc (how_many vs)

-- name and value pairs
abbrev pub how_many_pairs : {S : Type 0} → Fields S → ℕ
how_many_pairs no_fields = 0
how_many_pairs (field n v fs) = suc (how_many_pairs fs)

-- What is said of a container: its place, outermost first, as which item of the stream, as which member of that, and so on, each counted from 0;
-- and how many direct members it has.
abbrev pub Counted : Type 0
Counted = List ℕ × ℕ

-- The containers in the value at place p, in the order in which they end.
unfoldable mutual
  pub tree_counts : {S : Type 0} → List ℕ → Tree S → List Counted
  tree_counts p (scalar an s) = []
  tree_counts p (sequence an k vs) = members_counts p 0 vs ++ ((p, how_many vs) ∷ [])
  tree_counts p (struct an fs) = fields_counts p 0 fs ++ ((p, how_many_pairs fs) ∷ [])

  -- those in the members of the container at place p, from its member i on
  pub members_counts : {S : Type 0} → List ℕ → ℕ → Members S → List Counted
  members_counts p i no_members = []
  members_counts p i (member v vs) = tree_counts (p ++ (i ∷ [])) v ++ members_counts p (i + 1) vs

  pub fields_counts : {S : Type 0} → List ℕ → ℕ → Fields S → List Counted
  fields_counts p i no_fields = []
  fields_counts p i (field n v fs) = tree_counts (p ++ (i ∷ [])) v ++ fields_counts p (i + 1) fs

-- those of a stream, from its item i on
unfoldable pub counts_from : {S : Type 0} → ℕ → List (Item S) → List Counted
counts_from i [] = []
counts_from i (marker ∷ is) = counts_from (i + 1) is
counts_from i (value v ∷ is) = tree_counts (i ∷ []) v ++ counts_from (i + 1) is

abbrev pub counts : {S : Type 0} → List (Item S) → List Counted
counts is = counts_from 0 is

-- ---- of what the closings answer

-- How many items the stream has so far; and what closings have answered, in their order, of the containers that lie in no open one,
-- and for each open container, innermost first, of those in it.
pub record Answers : Type 0 where
  pub items : ℕ
  pub outside : List Counted
  pub inside : List (List Counted)

-- behind the start's marker
abbrev pub no_answers : Answers
no_answers = record { items = 1; outside = []; inside = [] }

-- where a value that comes next stands, cs being the open containers, innermost first: behind the items, and in each container behind its members
abbrev pub next_place : ℕ → List Container → List ℕ
next_place items [] = items ∷ []
next_place items (c ∷ cs) = next_place items cs ++ (c.members ∷ [])

-- a value more, ns being answered of the containers in it
abbrev pub answers_with : ℕ → List Counted → List (List Counted) → List Counted → Answers
answers_with items outside [] ns = record { items = items + 1; outside = outside ++ ns; inside = [] }
answers_with items outside (l ∷ ls) ns = record { items = items; outside = outside; inside = (l ++ ns) ∷ ls }

-- a closing, c being what it answers: that stands behind what was answered of the containers in it
abbrev pub answers_closed : ℕ → List Counted → List (List Counted) → Counted → Answers
answers_closed items outside [] c = record { items = items; outside = outside; inside = [] }
answers_closed items outside (l ∷ ls) c = answers_with items outside ls (l ++ (c ∷ []))

-- an abandonment: what was answered of the containers in it is dropped with it
abbrev pub answers_abandoned : ℕ → List Counted → List (List Counted) → Answers
answers_abandoned items outside [] = record { items = items; outside = outside; inside = [] }
answers_abandoned items outside (l ∷ ls) = record { items = items; outside = outside; inside = ls }

-- an accepted call in the state s that answers n of a container
abbrev pub answers_accepted : Call → State → ℕ → Answers → Answers
answers_accepted (write an a) s n x = answers_with x.items x.outside x.inside []
answers_accepted (name k) s n x = x
answers_accepted (opening an k) s n x = record { items = x.items; outside = x.outside; inside = [] ∷ x.inside }
answers_accepted closing s n x = answers_closed x.items x.outside x.inside (next_place x.items (outer (open_containers s)), n)
answers_accepted abandonment s n x = answers_abandoned x.items x.outside x.inside
answers_accepted version_marker s n x = record { items = x.items + 1; outside = x.outside; inside = x.inside }
answers_accepted taking s n x = x
answers_accepted emptying s n x = x

-- a call, and whether it was accepted
abbrev pub answers_step : Call → Bool → State → ℕ → Answers → Answers
answers_step c true s n x = answers_accepted c s n x
answers_step c false s n x = x

unfoldable pub answers_after : List Call → Config → Answers → Answers
answers_after [] w x = x
answers_after (c ∷ cs) w x = answers_after cs (after c w) (answers_step c (is_accepted (verdict c w)) w.state (run c w).figures.members x)

-- ---- the statements

-- What the closings of a list of calls answer, without those in a container that is abandoned later, is how many members the containers at their places
-- have in every reading of the joined bytes; and these are all the containers that it has.
abbrev pub MembersAnswered : Type 0
MembersAnswered =
    (cs : List Call) (buffer : List ℕ) → Run cs buffer → AllTyped cs →
    (x : List (Item Scalar)) → Reads (joined cs (started buffer)) x → (answers_after cs (started buffer) no_answers).outside ≡ counts x

-- what a list of calls leaves
unfoldable pub after_all : List Call → Config → Config
after_all [] w = w
after_all (c ∷ cs) w = after_all cs (after c w)

-- Line 2 refuses no state that calls have left, from an accepted start on.
abbrev pub OwnStatesFit : Type 0
OwnStatesFit =
    (cs : List Call) (buffer : List ℕ) → start_verdict buffer ≡ accepted →
    let w = after_all cs (started buffer) in fits w.state (length w.buffer) ≡ true
