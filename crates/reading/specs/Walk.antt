-- The walk (document 02, Item 1): the items from a place to the end of the bytes, containers entered, up to the first header that does not read;
-- and what a reading is as a list of such events.
-- Assumes nothing.
use Rattle.std.specs.Prelude as Std
use Rattle.std.specs.Prelude.{ℕ, zero, suc, ◌+◌, cond, List, [], ◌∷◌, ◌++◌, ltb, leb, length, take, Result, Ok, Err, Some, None}
use Rattle.std.proofs.Math.Option.{Option, none, some}
use Rattle.std.proofs.Math.Seq.{slice}
use Rattle.ion.specs.Value as Ion
use Rattle.ion.specs.Value.{Scalar, IonType, ion_list, ion_sexp, ion_struct, SequenceType, list, sexp, Tree, scalar, sequence, struct, Members}
use Rattle.ion.specs.Value.{no_members, member, Fields, no_fields, field}
use Rattle.reading.specs.declared.Refusal.{Refusal}
use Rattle.reading.specs.declared.Refusal.TheVariants.{PastTheEnd}
use Rattle.reading.specs.declared.Item.{Item}
use Rattle.reading.specs.declared.Stopped.{Stopped}
use Rattle.reading.specs.Scalars.{scalar_in, sids_of}
use Rattle.reading.specs.Items.{is_marker, opens, raised, Found, item_at}

-- ---- events: what a walk shows, in the order of the stream

-- A value with its name, in a struct, and its annotations; a container is shown where it begins and where it ends.
pub data Event : Type 0 where
  marker : Event
  leaf : Option ℕ → List ℕ → Scalar → Event
  begins : Option ℕ → List ℕ → IonType → Event
  ends : Event

-- The events of a reading.
unfoldable mutual
  pub tree_events : Option ℕ → Tree Scalar → List Event
  tree_events name (scalar an s) = leaf name an s ∷ []
  tree_events name (sequence an list vs) = begins name an ion_list ∷ (member_events vs ++ (ends ∷ []))
  tree_events name (sequence an sexp vs) = begins name an ion_sexp ∷ (member_events vs ++ (ends ∷ []))
  tree_events name (struct an fs) = begins name an ion_struct ∷ (field_events fs ++ (ends ∷ []))

  pub member_events : Members Scalar → List Event
  member_events no_members = []
  member_events (member v vs) = tree_events none v ++ member_events vs

  pub field_events : Fields Scalar → List Event
  field_events no_fields = []
  field_events (field k v fs) = tree_events (some k) v ++ field_events fs

unfoldable pub stream_events : List (Ion.Item Scalar) → List Event
stream_events [] = []
stream_events (Ion.marker ∷ is) = marker ∷ stream_events is
stream_events (Ion.value v ∷ is) = tree_events none v ++ stream_events is

-- ---- how many containers are open at once

abbrev pub higher : ℕ → ℕ → ℕ
higher m n = cond (leb m n) n m

unfoldable mutual
  pub tree_depth : {S : Type 0} → Tree S → ℕ
  tree_depth (scalar an s) = 0
  tree_depth (sequence an k vs) = 1 + members_depth vs
  tree_depth (struct an fs) = 1 + fields_depth fs

  pub members_depth : {S : Type 0} → Members S → ℕ
  members_depth no_members = 0
  members_depth (member v vs) = higher (tree_depth v) (members_depth vs)

  pub fields_depth : {S : Type 0} → Fields S → ℕ
  fields_depth no_fields = 0
  fields_depth (field k v fs) = higher (tree_depth v) (fields_depth fs)

unfoldable pub stream_depth : {S : Type 0} → List (Ion.Item S) → ℕ
stream_depth [] = 0
stream_depth (Ion.marker ∷ is) = stream_depth is
stream_depth (Ion.value v ∷ is) = higher (tree_depth v) (stream_depth is)

-- ---- the walk: what it shows, and how it ended

-- at the end of the bytes, or where it stopped
abbrev pub Ending : Type 0
Ending = Result (Unit {0}) Stopped

-- at the item at a place, which does not read
abbrev pub refused : Refusal → ℕ → Ending
refused r place = Err (record { refusal = r; place = place })

abbrev pub Walk : Type 0
Walk = List Event × Ending

abbrev pub before : List Event → Ending → Walk → Walk
before es (Ok u) w = (es ++ w.0, w.1)
before es (Err e) w = (es, Err e)

-- the second goes on where the first came to its end
infixl 20 ◌and_then◌
abbrev pub ◌and_then◌ : Walk → Walk → Walk
v and_then w = before v.0 v.1 w

abbrev pub shows : List Event → Walk
shows es = (es, Ok tt)

-- the name of an item, which only a struct's have
abbrev pub name_shown : Std.Option ℕ → Option ℕ
name_shown None = none
name_shown (Some name) = some name

-- the annotations that these sids are
abbrev pub annotations : Option (List ℕ) → List ℕ
annotations none = []
annotations (some an) = an

abbrev pub container_type : ℕ → IonType
container_type b = cond (ltb b 0xC0) ion_list (cond (ltb b 0xD0) ion_sexp ion_struct)

-- a scalar is shown; a pad is not
abbrev pub leaf_events : Option ℕ → List ℕ → Option Scalar → List Event
leaf_events name an none = []
leaf_events name an (some v) = leaf name an v ∷ []

abbrev pub leaf_walk : ℕ → Option ℕ → List ℕ → List ℕ → Walk
leaf_walk b name an body = shows (cond (is_marker b) (marker ∷ []) (leaf_events name an (scalar_in b body)))

abbrev pub container_walk : ℕ → Option ℕ → List ℕ → Walk → Walk
container_walk b name an inner = shows (begins name an (container_type b) ∷ []) and_then (inner and_then shows (ends ∷ []))

-- what an item shows: itself, or, given how to go on from a place, all that it holds
abbrev pub item_walk : (List ℕ → ℕ → ℕ → ℕ → ℕ → Walk) → List ℕ → ℕ → Item → Walk
item_walk go s depth i =
    let w = i.held in
    let h = w.header in
    cond (opens h.kind)
    (container_walk h.kind (name_shown i.name) (annotations (sids_of (slice w.sids w.sids_end s))) (go (take h.stop s) h.kind 0 (depth + 1) h.start))
    (leaf_walk h.kind (name_shown i.name) (annotations (sids_of (slice w.sids w.sids_end s))) (slice h.start h.stop s))

abbrev pub step_walk : (List ℕ → ℕ → ℕ → ℕ → ℕ → Walk) → List ℕ → ℕ → ℕ → ℕ → ℕ → Found → Walk
step_walk go s parent least depth at (Ok None) = shows []
step_walk go s parent least depth at (Err r) = ([], refused r at)
step_walk go s parent least depth at (Ok (Some i)) =
    item_walk go s depth i and_then go s parent (raised least i.held.header.kind i.name) depth i.held.header.stop

-- from a place, with the parent, the least name and the open containers as `item_at` has them; f bounds the items
unfoldable pub walk_from : ℕ → List ℕ → ℕ → ℕ → ℕ → ℕ → Walk
walk_from zero s parent least depth at = shows []
walk_from (suc f) s parent least depth at =
    step_walk (λ t p l d i. walk_from f t p l d i) s parent least depth at (item_at s parent least depth at)

-- The walk over the bytes before `end`.
unfoldable pub walk_in : List ℕ → ℕ → ℕ → ℕ → ℕ → ℕ → Walk
walk_in s end parent least depth at =
    cond (leb end (length s)) (walk_from (suc (length s)) (take end s) parent least depth at) ([], refused PastTheEnd at)

-- The walk over a stream from a position: nothing is open, and no container's type byte is 0.
abbrev pub walk : List ℕ → ℕ → Walk
walk s at = walk_in s (length s) 0 0 0 at
