-- The invariant between the machine and the model: the live bytes and the open containers are functions of the model; and what each call does to it.
-- Assumes nothing.
use Prim.Native.Nat.{ℕ, ◌+◌, ◌^◌, ◌<◌, ◌≤◌}
use native.Mathlib.Omega.{arith}
use native.Mathlib.Numerals.{add-one}
use mathlib.Core.Path.{◌≡◌, refl, sym, ◌∙◌, ap}
use mathlib.Core.Bool.{Bool, true, false, true≢false, false≢true, ◌&&◌, ◌||◌, not}
use mathlib.Core.List.{List, [], ◌∷◌, ◌++◌, append_assoc, append-nil}
use mathlib.Core.Option.{Option, none, some}
use lib.ListN.{length, take, drop, length-append}
use lib.Seq.{slice, take_at, drop_at, take-append_seam, drop-append-add}
use borrow.Author.Tests.{eq-eqb, ne_eqb}
use Rattle.ion.specs.Value.{list, sexp, Tree, Item, marker, value}
use Rattle.encoding.specs.Fields.{var_uint_bytes, AllU64}
use Rattle.encoding.specs.Headers.{framed_bytes, annotation_bytes, annotated_bytes, marker_bytes}
use Rattle.encoding.specs.Argument.{Argument}
use Rattle.encoding.specs.Stream.{tree_bytes, members_bytes, fields_bytes, stream_bytes}
use Rattle.encoding.proofs.Writable.{Writable, WritableMembers, WritableFields, WritableItems}
use Rattle.machine.specs.declared.Container.{Container}
use Rattle.machine.specs.Call.{ContainerType, sequence_type, struct_type}
use Rattle.machine.specs.Machine.{is_open, in_struct, outer, container_code, reserve, header_place, closed_bytes, closed_innermost, innermost_start}
use Rattle.machine.specs.Model.{Open, open_sequence, open_struct, Model, opened, set_aside, closed, add, close, abandon}
use Rattle.machine.specs.Counts.{how_many, how_many_pairs}
use Rattle.machine.proofs.Splice.{counted_first}
use Rattle.machine.proofs.Growth.{members_bytes_add, fields_bytes_add, stream_bytes_add, how_many_add, how_many_pairs_add, writable_add_member}
use Rattle.machine.proofs.Growth.{writable_add_field, writable_add_item}

-- ---- the live bytes as the model has them

abbrev pub is_some : Option ℕ → Bool
is_some none = false
is_some (some n) = true

abbrev pub name_bytes : Option ℕ → List ℕ
name_bytes none = []
name_bytes (some n) = var_uint_bytes n

abbrev pub annotations_of : Open Argument → List ℕ
annotations_of (open_sequence an aside k vs) = an
annotations_of (open_struct an aside fs) = an

abbrev pub type_of : Open Argument → ContainerType
type_of (open_sequence an aside k vs) = sequence_type k
type_of (open_struct an aside fs) = struct_type

abbrev pub body_of : Open Argument → List ℕ
body_of (open_sequence an aside k vs) = members_bytes vs
body_of (open_struct an aside fs) = fields_bytes fs

-- the bytes of the items, then for each open container the name set aside, the reserve and the members
abbrev pub bytes_to : List ℕ → List (Open Argument) → List ℕ
bytes_to base [] = base
bytes_to base (o ∷ st) = (bytes_to base st ++ name_bytes (set_aside o)) ++ (reserve (annotations_of o) ++ body_of o)

abbrev pub members_of : {S : Type 0} → Open S → ℕ
members_of (open_sequence an aside k vs) = how_many vs
members_of (open_struct an aside fs) = how_many_pairs fs

abbrev pub container_at : ℕ → List ℕ → ContainerType → ℕ → Container
container_at p an k n = record { start = p; header = header_place p an; code = container_code k; members = n }

abbrev pub containers_of : List ℕ → List (Open Argument) → List Container
containers_of base [] = []
containers_of base (o ∷ st) = container_at (length (bytes_to base st ++ name_bytes (set_aside o))) (annotations_of o) (type_of o) (members_of o) ∷ containers_of base st

abbrev pub inside_struct : List (Open Argument) → Bool
inside_struct [] = false
inside_struct (open_sequence an aside k vs ∷ st) = false
inside_struct (open_struct an aside fs ∷ st) = true

-- a name is set aside with a container exactly if that lies in a struct
abbrev pub NamesAside : List (Open Argument) → Type 0
NamesAside [] = Unit {0}
NamesAside (o ∷ st) = (is_some (set_aside o) ≡ inside_struct st) × NamesAside st

-- `done` are the bytes that emptyings took away, bs the live bytes, cs the open containers, innermost first
pub record Layout (done bs : List ℕ) (cs : List Container) (is : List (Item Argument)) (st : List (Open Argument)) (nm : Option ℕ) : Type 0 where
  pub base : List ℕ
  pub whole : done ++ base ≡ stream_bytes is
  pub shown : bs ≡ bytes_to base st ++ name_bytes nm
  pub placed : cs ≡ containers_of base st
  pub aside : NamesAside st
  pub waits : (is_some nm && not (inside_struct st)) ≡ false

abbrev pub LayoutOf : List ℕ → List ℕ → List Container → Model Argument → Type 0
LayoutOf done bs cs x = Layout done bs cs x.items x.stack x.waiting

-- ---- what accepted calls with arguments of their types can have left

abbrev pub WritableName : Option ℕ → Type 0
WritableName none = Unit {0}
WritableName (some n) = n < 2 ^ 64

abbrev pub WritableOpen : Open Argument → Type 0
WritableOpen (open_sequence an aside k vs) = AllU64 an × WritableName aside × WritableMembers vs
WritableOpen (open_struct an aside fs) = AllU64 an × WritableName aside × WritableFields fs

abbrev pub WritableStack : List (Open Argument) → Type 0
WritableStack [] = Unit {0}
WritableStack (o ∷ st) = WritableOpen o × WritableStack st

pub record WritableModel (is : List (Item Argument)) (st : List (Open Argument)) (nm : Option ℕ) : Type 0 where
  pub items : WritableItems is
  pub stack : WritableStack st
  pub name : WritableName nm

abbrev pub WritableOf : Model Argument → Type 0
WritableOf x = WritableModel x.items x.stack x.waiting

-- ---- a value at the end

pub add_layout : (done bs : List ℕ) (cs : List Container) (is : List (Item Argument)) (st : List (Open Argument)) (nm : Option ℕ) (t : Tree Argument)
    → Layout done bs cs is st nm → is_some nm ≡ inside_struct st → LayoutOf done (bs ++ tree_bytes t) (counted_first cs) (add is st nm t)
add_layout done bs cs is [] none t h e = record {
  base = h.base ++ tree_bytes t;
  whole = rw (stream_bytes_add is (value t), ← (append_assoc done h.base (tree_bytes t)), h.whole);
  shown = rw h.shown (simp (append_assoc, append-nil));
  placed = ap counted_first h.placed;
  aside = tt;
  waits = refl;
}
add_layout done bs cs is [] (some n) t h e = absurd (true≢false e)
add_layout done bs cs is (open_sequence an aside k vs ∷ st) none t h e = record {
  base = h.base;
  whole = h.whole;
  shown = rw (h.shown, members_bytes_add) (simp (append_assoc, append-nil));
  placed = ap counted_first h.placed ∙ rw (how_many_add vs t, add-one (how_many vs));
  aside = h.aside;
  waits = refl;
}
add_layout done bs cs is (open_sequence an aside k vs ∷ st) (some n) t h e = absurd (true≢false e)
add_layout done bs cs is (open_struct an aside fs ∷ st) none t h e = absurd (false≢true e)
add_layout done bs cs is (open_struct an aside fs ∷ st) (some n) t h e = record {
  base = h.base;
  whole = h.whole;
  shown = rw (h.shown, fields_bytes_add) (simp (append_assoc, append-nil));
  placed = ap counted_first h.placed ∙ rw (how_many_pairs_add fs n t, add-one (how_many_pairs fs));
  aside = h.aside;
  waits = refl;
}

-- after a value no name waits
pub add_quiet : (is : List (Item Argument)) (st : List (Open Argument)) (nm : Option ℕ) (t : Tree Argument) → is_some nm ≡ inside_struct st
    → is_some (add is st nm t).waiting ≡ false
add_quiet is [] nm t e = e
add_quiet is (open_sequence an aside k vs ∷ st) nm t e = e
add_quiet is (open_struct an aside fs ∷ st) none t e = refl
add_quiet is (open_struct an aside fs ∷ st) (some n) t e = refl

pub add_writable : (is : List (Item Argument)) (st : List (Open Argument)) (nm : Option ℕ) (t : Tree Argument) → WritableModel is st nm
    → Writable t → length (tree_bytes t) < 2 ^ 64 → WritableOf (add is st nm t)
add_writable is [] nm t h ok lt = record { items = writable_add_item is (value t) h.items (ok, lt); stack = tt; name = h.name }
add_writable is (open_sequence an aside k vs ∷ st) nm t h ok lt =
    record {
      items = h.items;
      stack = ((h.stack.0.0, h.stack.0.1, writable_add_member vs t h.stack.0.2 ok), h.stack.1);
      name = h.name;
    }
add_writable is (open_struct an aside fs ∷ st) none t h ok lt = record { items = h.items; stack = h.stack; name = tt }
add_writable is (open_struct an aside fs ∷ st) (some n) t h ok lt =
    record {
      items = h.items;
      stack = ((h.stack.0.0, h.stack.0.1, writable_add_field fs n t h.stack.0.2 h.name ok), h.stack.1);
      name = tt;
    }

-- ---- what the containers tell

in_struct_is : (base : List ℕ) (st : List (Open Argument)) → in_struct (containers_of base st) ≡ inside_struct st
in_struct_is base [] = refl
in_struct_is base (open_sequence an aside list vs ∷ st) = refl
in_struct_is base (open_sequence an aside sexp vs ∷ st) = refl
in_struct_is base (open_struct an aside fs ∷ st) = refl

no_name : (x : Option ℕ) → is_some x ≡ false → name_bytes x ≡ []
no_name none q = refl
no_name (some m) q = absurd (true≢false q)

same_of : (a b : Bool) → (a && not b) ≡ false → (b && not a) ≡ false → b ≡ a
same_of true true p q = refl
same_of true false p q = absurd (true≢false p)
same_of false true p q = absurd (true≢false q)
same_of false false p q = refl

neither : (a b : Bool) → a ≡ b → (a && not b) ≡ false
neither true true e = refl
neither true false e = e
neither false b e = refl

pub or_false : (a b : Bool) → (not a || b) ≡ false → (a ≡ true) × (b ≡ false)
or_false true b e = (refl, e)
or_false false b e = absurd (true≢false e)

module _ (done bs : List ℕ) (cs : List Container) (is : List (Item Argument)) (st : List (Open Argument)) (nm : Option ℕ) (h : Layout done bs cs is st nm) where
  pub in_struct_layout : in_struct cs ≡ inside_struct st
  in_struct_layout = ap in_struct h.placed ∙ in_struct_is h.base st

  -- line 3 of a value has passed
  pub ready : (in_struct cs && not (is_some nm)) ≡ false → is_some nm ≡ inside_struct st
  ready e = same_of (inside_struct st) (is_some nm) (rw in_struct_layout at e) h.waits

  -- ---- a name, and an opening

  pub name_layout : (n : ℕ) → (not (in_struct cs) || is_some nm) ≡ false → Layout done (bs ++ var_uint_bytes n) cs is st (some n)
  name_layout n e =
      let b = or_false (in_struct cs) (is_some nm) e in
      let q : bs ≡ bytes_to h.base st = h.shown ∙ ap (λ (x : List ℕ). bytes_to h.base st ++ x) (no_name nm b.1) ∙ append-nil (bytes_to h.base st) in
      record {
        base = h.base;
        whole = h.whole;
        shown = ap (λ (x : List ℕ). x ++ var_uint_bytes n) q;
        placed = h.placed;
        aside = h.aside;
        waits = rw (sym in_struct_layout ∙ b.0);
      }

  pub opening_layout : (an : List ℕ) (k : ContainerType) → is_some nm ≡ inside_struct st
      → Layout done (bs ++ reserve an) (container_at (length bs) an k 0 ∷ cs) is (opened an nm k ∷ st) none
  unfolding tree_bytes
  opening_layout an (sequence_type k) e =
      record {
        base = h.base;
        whole = h.whole;
        shown = rw h.shown (simp append-nil);
        placed = rw (h.shown, h.placed);
        aside = (e, h.aside);
        waits = refl;
      }
  opening_layout an struct_type e =
      record {
        base = h.base;
        whole = h.whole;
        shown = rw h.shown (simp append-nil);
        placed = rw (h.shown, h.placed);
        aside = (e, h.aside);
        waits = refl;
      }

pub opening_writable : (an : List ℕ) (k : ContainerType) (is : List (Item Argument)) (st : List (Open Argument)) (nm : Option ℕ)
    → WritableModel is st nm → AllU64 an → WritableModel is (opened an nm k ∷ st) none
unfolding Writable
opening_writable an (sequence_type k) is st nm h s = record { items = h.items; stack = ((s, h.name, tt), h.stack); name = tt }
opening_writable an struct_type is st nm h s = record { items = h.items; stack = ((s, h.name, tt), h.stack); name = tt }

-- ---- the innermost container

-- what lies under it, with the name that was set aside waiting again
under_layout : (done bs : List ℕ) (cs : List Container) (is : List (Item Argument)) (o : Open Argument) (st : List (Open Argument))
    (nm : Option ℕ) (h : Layout done bs cs is (o ∷ st) nm)
    → Layout done (bytes_to h.base st ++ name_bytes (set_aside o)) (outer cs) is st (set_aside o)
under_layout done bs cs is o st nm h = record {
  base = h.base;
  whole = h.whole;
  shown = refl;
  placed = ap outer h.placed;
  aside = h.aside.1;
  waits = neither (is_some (set_aside o)) (inside_struct st) h.aside.0;
}

aside_writable : (o : Open Argument) → WritableOpen o → WritableName (set_aside o)
aside_writable (open_sequence an aside k vs) q = q.1
aside_writable (open_struct an aside fs) q = q.1

pub under_writable : (is : List (Item Argument)) (o : Open Argument) (st : List (Open Argument)) (nm : Option ℕ)
    → WritableModel is (o ∷ st) nm → WritableModel is st (set_aside o)
under_writable is o st nm h = record { items = h.items; stack = h.stack.1; name = aside_writable o h.stack.0 }

closed_writable : (o : Open Argument) → WritableOpen o → Writable (closed o)
unfolding Writable
closed_writable (open_sequence an aside k vs) q = (q.0, q.2)
closed_writable (open_struct an aside fs) q = (q.0, q.2)

-- the part a between p and r; and r behind both
middle : (p a r : List ℕ) (n m : ℕ) → length p ≡ n → length p + length a ≡ m → slice n m (p ++ (a ++ r)) ≡ a
middle p a r n m e q = rw (← (append_assoc p a r), take_at (p ++ a) r m (length-append p a ∙ q)) (drop_at p a n e)

behind : (p a r : List ℕ) (n : ℕ) → length p + length a ≡ n → drop n (p ++ (a ++ r)) ≡ r
behind p a r n q = rw (← (append_assoc p a r)) (drop_at (p ++ a) r n (length-append p a ∙ q))

-- the machine's closing of a container is the encoding of its body and annotations
closing_is : (pre an body : List ℕ) (k : ContainerType)
    → closed_bytes (length pre) (header_place (length pre) an) (container_code k) (pre ++ (reserve an ++ body))
    ≡ annotated_bytes an (framed_bytes (container_code k) body)
unfolding closed_bytes annotated_bytes
closing_is pre [] body k = rw (eq-eqb (length pre) (length pre) refl, closed_bytes, drop-append-add pre (0 ∷ 0 ∷ body) 2)
closing_is pre (a ∷ an) body k =
    let A = annotation_bytes (a ∷ an) in
    let P : List ℕ = pre ++ (0 ∷ 0 ∷ []) in
    let R : List ℕ = 0 ∷ 0 ∷ body in
    let t : pre ++ (reserve (a ∷ an) ++ body) ≡ P ++ (A ++ R) = simp append_assoc in
    let lp : length P ≡ length pre + 2 = length-append pre (0 ∷ 0 ∷ []) in
    let m : slice (length pre + 2) (length pre + 2 + length A) (P ++ (A ++ R)) ≡ A =
    middle P A R (length pre + 2) (length pre + 2 + length A) lp (ap (λ (x : ℕ). x + length A) lp) in
    let d : drop (length pre + 2 + length A + 2) (P ++ (A ++ R)) ≡ body =
    rw (← (append_assoc A (0 ∷ 0 ∷ []) body))
    (behind P (A ++ (0 ∷ 0 ∷ [])) body (length pre + 2 + length A + 2) (omega (arith, lp, length-append A (0 ∷ 0 ∷ [])))) in
    rw (ne_eqb (length pre + 2 + length A) (length pre) (λ e. omega arith), closed_bytes, t, m, d)

tree_bytes_closed : (o : Open Argument) → tree_bytes (closed o) ≡ annotated_bytes (annotations_of o) (framed_bytes (container_code (type_of o)) (body_of o))
unfolding tree_bytes
tree_bytes_closed (open_sequence an aside list vs) = refl
tree_bytes_closed (open_sequence an aside sexp vs) = refl
tree_bytes_closed (open_struct an aside fs) = refl

-- a container is open: the bytes in front of it, and what abandoning and closing it leave
pub record Innermost (done bs : List ℕ) (cs : List Container) (is : List (Item Argument)) (st : List (Open Argument)) (nm : Option ℕ) : Type 0 where
  pub pre : List ℕ
  pub starts : (u : ℕ) → innermost_start cs u ≡ length pre
  pub front : take (length pre) bs ≡ pre
  pub within : length pre ≤ length bs
  pub abandoned : LayoutOf done pre (outer cs) (abandon is st nm)
  pub again : in_struct (outer cs) ≡ is_some (abandon is st nm).waiting
  pub closes : is_some nm ≡ false → LayoutOf done (pre ++ closed_innermost cs bs) (counted_first (outer cs)) (close is st nm)
  pub quiet : is_some (close is st nm).waiting ≡ false
  pub writable : WritableModel is st nm → is_some nm ≡ false → length (closed_innermost cs bs) < 2 ^ 64 → WritableOf (close is st nm)

pub innermost : (done bs : List ℕ) (cs : List Container) (is : List (Item Argument)) (st : List (Open Argument)) (nm : Option ℕ)
    → Layout done bs cs is st nm → is_open cs ≡ true → Innermost done bs cs is st nm
innermost done bs cs is [] nm h e = absurd (false≢true (rw h.placed at e))
innermost done bs cs is (o ∷ st) nm h e =
    let pre = bytes_to h.base st ++ name_bytes (set_aside o) in
    let u = under_layout done bs cs is o st nm h in
    let s : bs ≡ pre ++ ((reserve (annotations_of o) ++ body_of o) ++ name_bytes nm) =
    h.shown ∙ append_assoc pre (reserve (annotations_of o) ++ body_of o) (name_bytes nm) in
    record {
      pre = pre;
      starts = λ n. rw h.placed;
      front = rw s (take-append_seam pre ((reserve (annotations_of o) ++ body_of o) ++ name_bytes nm));
      within = rw s (simp length-append (omega arith));
      abandoned = u;
      again = in_struct_layout done pre (outer cs) is st (set_aside o) u ∙ sym h.aside.0;
      closes = λ q. rw (encoded q) (add_layout done pre (outer cs) is st (set_aside o) (closed o) u h.aside.0);
      quiet = add_quiet is st (set_aside o) (closed o) h.aside.0;
      writable = λ w q l. add_writable is st (set_aside o) (closed o) (under_writable is o st nm w) (closed_writable o w.stack.0) (rw (encoded q) at l);
    }
  where
    encoded : is_some nm ≡ false → closed_innermost cs bs ≡ tree_bytes (closed o)
    encoded q =
        rw (h.placed, h.shown, no_name nm q, append-nil)
        (closing_is (bytes_to h.base st ++ name_bytes (set_aside o)) (annotations_of o) (body_of o) (type_of o) ∙ sym (tree_bytes_closed o))

-- ---- with no container open

pub outside : (done bs : List ℕ) (cs : List Container) (is : List (Item Argument)) (st : List (Open Argument)) (nm : Option ℕ)
    → Layout done bs cs is st nm → is_open cs ≡ false
    → (cs ≡ []) × (st ≡ []) × (nm ≡ none) × (done ++ bs ≡ stream_bytes is)
outside done bs cs is [] none h e = (h.placed, refl, refl, rw (h.shown, append-nil) h.whole)
outside done bs cs is [] (some n) h e = absurd (true≢false h.waits)
outside done bs cs is (o ∷ st) nm h e = absurd (true≢false (rw h.placed at e))

pub marker_layout : (done bs : List ℕ) (cs : List Container) (is : List (Item Argument)) (st : List (Open Argument)) (nm : Option ℕ)
    → Layout done bs cs is st nm → is_open cs ≡ false → Layout done (bs ++ marker_bytes) cs (is ++ (marker ∷ [])) st nm
marker_layout done bs cs is [] none h e = record {
  base = h.base ++ marker_bytes;
  whole = rw (stream_bytes_add is marker, ← (append_assoc done h.base marker_bytes), h.whole);
  shown = rw h.shown (simp (append_assoc, append-nil));
  placed = h.placed;
  aside = tt;
  waits = refl;
}
marker_layout done bs cs is [] (some n) h e = absurd (true≢false h.waits)
marker_layout done bs cs is (o ∷ st) nm h e = absurd (true≢false (rw h.placed at e))

-- the live bytes are taken away
pub emptying_layout : (done bs : List ℕ) (cs : List Container) (is : List (Item Argument)) (st : List (Open Argument)) (nm : Option ℕ)
    → Layout done bs cs is st nm → is_open cs ≡ false → Layout (done ++ bs) [] cs is st nm
emptying_layout done bs cs is [] none h e = record {
  base = [];
  whole = rw append-nil (outside done bs cs is [] none h e).3;
  shown = refl;
  placed = h.placed;
  aside = tt;
  waits = refl;
}
emptying_layout done bs cs is [] (some n) h e = absurd (true≢false h.waits)
emptying_layout done bs cs is (o ∷ st) nm h e = absurd (true≢false (rw h.placed at e))
