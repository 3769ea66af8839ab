-- What a rule answers of the bytes of a derivation is whether it has no pad and no leaf has the rule's mark: recursion over the grammar's productions.
-- Assumes nothing.
use Prim.Native.Nat.{ℕ, zero, suc, ◌+◌, ◌≤◌, ◌<◌}
use native.Mathlib.Omega.{arith}
use mathlib.Core.Path.{◌≡◌, refl, sym, ◌∙◌, ap}
use mathlib.Core.Logic.{◌≢◌}
use mathlib.Core.Bool.{Bool, true, false, cond, not, ◌&&◌, and-true}
use mathlib.Core.List.{List, [], ◌∷◌, ◌++◌}
use mathlib.Core.Option.{Option, none, some}
use lib.Dec.{ltb, leb}
use lib.ListN.{length, take, get_or, length-append}
use borrow.Author.Tests.{lt-ltb, le-leb, lt-leb, ne_eqb}
use Rattle.ion.specs.Value.{SequenceType, list, sexp, sequence_code, struct_code, annotation_code}
use Rattle.ion.specs.Value.{Scalar, Value, scalar, sequence, struct, tree_leaves, members_leaves, fields_leaves, leaves}
use Rattle.ion.specs.Value.{Members, no_members, member, Fields, no_fields, field, Item, marker, value}
use Rattle.ion.specs.Fields.{VarUInt}
use Rattle.ion.specs.Grammar.{Header, sorted, Phrase, padding, sids, bare, one, members, fields, stream, ◌⟶◌}
use Rattle.ion.specs.Grammar.{pad, is-null, is_false, is_true, is_zero, is_float32, is_float64, is_scalar}
use Rattle.ion.specs.Grammar.{is-sequence, is_struct, is_sorted, is_bare, is_annotated, sids_end, sids_next}
use Rattle.ion.specs.Grammar.{members_end, members_pad, members-next, fields_end, fields_pad, fields-next, stream_end, stream_pad, stream_marker, stream_next}
use Rattle.ion.proofs.Tests.{by_cases, both}
use Rattle.reading.specs.declared.Item.{Item as Found}
use Rattle.std.specs.Prelude as Std
use Rattle.std.specs.Prelude.{Ok, Some, None, unwrap_or}
use Rattle.reading.specs.Scalars.{code_from, body_of, scalar_in, sids_of}
use Rattle.reading.specs.Items.{opens, has_names, is_sorted_struct, is_below, name_at}
use Rattle.reading.specs.Walk.{Walk, shows, leaf, leaf_events, tree_events, tree_depth, members_depth, fields_depth, stream_depth}
use Rattle.reading_grammar.proofs.Tests.{contrary}
use Rattle.reading_grammar.proofs.Places.{Rest, rest-length, rest-next, rest_within}
use Rattle.reading_grammar.proofs.TypeBytes as K
use Rattle.reading_grammar.proofs.Headed.{first}
use Rattle.reading_grammar.proofs.Numbers.{sids_found}
use Rattle.reading_grammar.proofs.Bare.{BareFound, MembersFound, FieldsFound}
use Rattle.reading_grammar.proofs.Bare.{found_null, found-false, found-true, found-zero, found_float32, found_float64, found_scalar}
use Rattle.reading_grammar.proofs.Bare.{found_container, found_list, found_sexp, struct_found, found_struct, found-sorted}
use Rattle.reading_grammar.proofs.One.{OneFound, one_bare, one_wrapped, PadFound, pad_found}
use Rattle.reading_grammar.proofs.Steps.{body_here, body-slice, item_placed, pad_item, marker_item}
use Rattle.reading_grammar.proofs.Walked.{one_length, no_name, name_found, rises, found}
use Rattle.unpadded_grammar.specs.Pads.{has_no_pad}
use Rattle.unpadded_grammar.proofs.Tests.{and_swap, marked_by, none_by, none_by_append}
use Rattle.unpadded_grammar.proofs.Asked.{Asked}

-- ---- what is answered of each phrase, where p says that it has no pad

abbrev pub ContentRule : Asked → ℕ → List ℕ → Value → Bool → Type 0
ContentRule a kind body v p =
    (t : List ℕ) (start f depth : ℕ) → Rest t start body → length body < f → a.Fits depth (tree_depth v)
    → cond (opens kind) (a.rule f t kind 0 (a.inner depth) start) (not (marked_by a.mark (scalar_in kind body))) ≡ (p && none_by a.mark (tree_leaves v))

pub record BareRule (a : Asked) (b an : List ℕ) (v : Value) (p : Bool) : Type 0 where
  pub place : BareFound b an v
  pub content : ContentRule a place.kind place.body v p

pub record OneRule (a : Asked) (b : List ℕ) (v : Value) (p : Bool) : Type 0 where
  pub place : OneFound b v
  pub content : ContentRule a place.kind place.body v p

abbrev pub MembersRule : Asked → List ℕ → Members Scalar → Bool → Type 0
MembersRule a b vs p =
    (f : ℕ) (s : List ℕ) (parent least depth at : ℕ) → has_names parent ≡ false → is_sorted_struct parent ≡ false
    → Rest s at b → length b < f → a.Fits depth (members_depth vs) → a.rule f s parent least depth at ≡ (p && none_by a.mark (members_leaves vs))

abbrev pub FieldsRule : Asked → List ℕ → Fields Scalar → Bool → Type 0
FieldsRule a b fs p =
    (f : ℕ) (s : List ℕ) (parent least depth at : ℕ) → has_names parent ≡ true → (is_sorted_struct parent ≡ true → sorted least fs ≡ true)
    → Rest s at b → length b < f → a.Fits depth (fields_depth fs) → a.rule f s parent least depth at ≡ (p && none_by a.mark (fields_leaves fs))

abbrev pub StreamRule : Asked → List ℕ → List (Item Scalar) → Bool → Type 0
StreamRule a b is p =
    (f : ℕ) (s : List ℕ) (least at : ℕ) → Rest s at b → length b < f → a.Fits 0 (stream_depth is)
    → a.rule f s 0 least 0 at ≡ (p && none_by a.mark (leaves is))

abbrev pub Ruled : Asked → List ℕ → Phrase → Bool → Type 0
Ruled a b padding p = PadFound b × (p ≡ false)
Ruled a b (sids an) p = Unit {0}
Ruled a b (bare an v) p = BareRule a b an v p
Ruled a b (one v) p = OneRule a b v p
Ruled a b (members vs) p = MembersRule a b vs p
Ruled a b (fields fs) p = FieldsRule a b fs p
Ruled a b (stream is) p = StreamRule a b is p

-- ---- scalars

leaf_same : (an : List ℕ) (x y : Scalar) → leaf_events none an (some y) ≡ leaf none an x ∷ [] → y ≡ x
leaf_same an x y e = cc

leaf_mark : (mark : Scalar → Bool) (an : List ℕ) (x : Scalar) (o : Option Scalar) → leaf_events none an o ≡ leaf none an x ∷ [] → marked_by mark o ≡ mark x
leaf_mark mark an x none e = absurd (let z : ◌≡◌ {A = ℕ} 0 1 = cc in omega arith)
leaf_mark mark an x (some y) e = ap mark (leaf_same an x y e)

module _ (a : Asked) (b an : List ℕ) (x : Scalar) (w : BareFound b an (scalar an x)) where
  scalar_shut : opens w.kind ≡ false
  unfolding tree_depth
  scalar_shut = by_cases (opens w.kind) (λ p. absurd (omega (arith, w.deep p))) (λ p. p)

  scalar_shown : shows (leaf_events none an (scalar_in w.kind w.body)) ≡ shows (leaf none an x ∷ [])
  unfolding tree_depth tree_events
  scalar_shown =
      rw w.marker at
      (rw scalar_shut at (w.walks w.body 0 (suc (length w.body)) 0 none (record { within = omega arith; is = refl }) (omega arith) (omega arith)))

  scalar_rule : BareRule a b an (scalar an x) true
  unfolding tree_leaves none_by
  scalar_rule = record {
    place = w;
    content = λ t start f depth r lt fit.
        rw (scalar_shut, leaf_mark a.mark an x (scalar_in w.kind w.body) (ap (λ (y : Walk). y.0) scalar_shown)) (sym (and-true (not (a.mark x))));
  }

-- ---- containers

-- the content of a list or an s-expression by its type byte
sequence_content : (a : Asked) (an : List ℕ) (c : SequenceType) (kind : ℕ) (body : List ℕ) (vs : Members Scalar) (p : Bool) → 0xB0 ≤ kind → kind < 0xCF
    → kind ≢ 0xBF → MembersRule a body vs p → ContentRule a kind body (sequence an c vs) p
unfolding tree_leaves tree_depth
sequence_content a an c kind body vs p lo hi ne r t start f depth x lt fit =
    let k = K.container kind lo (omega arith) ne (λ e. omega arith) in
    let unnamed : has_names kind ≡ false = rw (lt-leb 0xD0 kind (omega arith)) in
    let unsorted : is_sorted_struct kind ≡ false = ne_eqb kind 0xD1 (λ e. omega arith) in
    rw k.begun (r f t kind 0 (a.inner depth) start unnamed unsorted x lt (a.enters depth (members_depth vs) fit))

sequence_rule : (a : Asked) (an h body : List ℕ) (p : Bool) (c : SequenceType) (vs : Members Scalar) → Header (sequence_code c) (length body) h
    → MembersFound body vs → MembersRule a body vs p → BareRule a (h ++ body) an (sequence an c vs) p
unfolding found_list found_sexp found_container
sequence_rule a an h body p list vs hd w r =
    let k = first hd in
    let lo : 0xB0 ≤ get_or h 0 0 = omega (arith, k.is) in
    let hi : get_or h 0 0 < 0xBF = omega (arith, k.is, k.small) in
    record { place = found_list an h body vs hd w; content = sequence_content a an list (get_or h 0 0) body vs p lo (omega arith) (λ e. omega arith) r }
sequence_rule a an h body p sexp vs hd w r =
    let k = first hd in
    let lo : 0xC0 ≤ get_or h 0 0 = omega (arith, k.is) in
    let hi : get_or h 0 0 < 0xCF = omega (arith, k.is, k.small) in
    record { place = found_sexp an h body vs hd w; content = sequence_content a an sexp (get_or h 0 0) body vs p (omega arith) hi (λ e. omega arith) r }

-- the content of a struct by its type byte
struct_content : (a : Asked) (an : List ℕ) (kind : ℕ) (body : List ℕ) (fs : Fields Scalar) (p : Bool) → 0xD0 ≤ kind → kind < 0xDF
    → (is_sorted_struct kind ≡ true → sorted 0 fs ≡ true) → FieldsRule a body fs p → ContentRule a kind body (struct an fs) p
unfolding tree_leaves tree_depth
struct_content a an kind body fs p lo hi up r t start f depth x lt fit =
    let c = K.container kind (omega arith) (omega arith) (λ e. omega arith) (λ e. omega arith) in
    rw c.begun (r f t kind 0 (a.inner depth) start (rw (le-leb 0xD0 kind lo, lt-ltb kind 0xDF hi)) up x lt (a.enters depth (fields_depth fs) fit))

struct_rule : (a : Asked) (an h body : List ℕ) (fs : Fields Scalar) (p : Bool) → Header struct_code (length body) h → length body ≢ 1 → FieldsFound body fs
    → FieldsRule a body fs p → BareRule a (h ++ body) an (struct an fs) p
unfolding found_struct struct_found found_container
struct_rule a an h body fs p hd ne w r =
    let k = first hd in
    let no : get_or h 0 0 ≢ 0xD1 = λ e. k.not_one ne (omega (arith, k.is)) in
    let lo : 0xD0 ≤ get_or h 0 0 = omega (arith, k.is) in
    let hi : get_or h 0 0 < 0xDF = omega (arith, k.is, k.small) in
    record {
      place = found_struct an h body fs hd ne w;
      content = struct_content a an (get_or h 0 0) body fs p lo hi (λ e. contrary (ne_eqb (get_or h 0 0) 0xD1 no) e) r;
    }

sorted_rule : (a : Asked) (an l body : List ℕ) (fs : Fields Scalar) (p : Bool) → VarUInt l (length body) → 0 < length body → length body ≢ 1
    → sorted 0 fs ≡ true → FieldsFound body fs → FieldsRule a body fs p → BareRule a (0xD1 ∷ (l ++ body)) an (struct an fs) p
unfolding found-sorted struct_found found_container
sorted_rule a an l body fs p v pos ne up w r = record {
  place = found-sorted an l body fs v pos ne up w;
  content = struct_content a an 0xD1 body fs p (omega arith) (omega arith) (λ e. up) r;
}

-- ---- with and without a wrapper

bare_rule : (a : Asked) (b : List ℕ) (v : Value) (p : Bool) → BareRule a b [] v p → OneRule a b v p
unfolding one_bare
bare_rule a b v p r = record { place = one_bare b v r.place; content = r.content }

wrapped_rule : (a : Asked) (h l n b an : List ℕ) (k : ℕ) (v : Value) (p : Bool) → Header annotation_code (length (l ++ (n ++ b))) h
    → VarUInt l (length n) → sids_of n ≡ some (k ∷ an) → BareRule a b (k ∷ an) v p → OneRule a (h ++ (l ++ (n ++ b))) v p
unfolding one_wrapped
wrapped_rule a h l n b an k v p hd e s r = record { place = one_wrapped h l n b an k v hd e s r.place; content = r.content }

-- ---- one item

fits_open : (a : Asked) (kind depth d : ℕ) → (opens kind ≡ true → 0 < d) → a.Fits depth d → (opens kind && leb 32 depth) ≡ false
fits_open a kind depth d g fit = by_cases (opens kind) (λ p. rw (p, a.room depth d (g p) fit)) (λ p. rw p)

pub one_size : {b : List ℕ} {v : Value} (w : OneFound b v) → length b ≡ length w.x + (length w.names + (length w.y + length w.body))
one_size w =
    let inner : length (w.names ++ (w.y ++ w.body)) ≡ length w.names + (length w.y + length w.body) =
    omega (arith, length-append w.names (w.y ++ w.body), length-append w.y w.body) in
    omega (arith, ap length w.joins, length-append w.x (w.names ++ (w.y ++ w.body)), inner)

-- a value behind its name, and all that follows
value_rule : (a : Asked) (f : ℕ) (s : List ℕ) (parent least depth at : ℕ) (name : Std.Option ℕ) (next : ℕ) (b r : List ℕ) (v : Value) (p rest : Bool) → OneRule a b v p
    → at < length s → name_at s parent at ≡ Ok (record { value = name; next = next }) → Rest s next (b ++ r) → (is_sorted_struct parent && is_below least name) ≡ false → a.Fits depth (tree_depth v)
    → length b ≤ f → (Rest s (next + length b) r → a.rule f s parent (unwrap_or name 0) depth (next + length b) ≡ rest)
    → a.rule (suc f) s parent least depth at ≡ ((p && none_by a.mark (tree_leaves v)) && rest)
value_rule a f s parent least depth at name next b r v p rest w inside named x rises fit le go =
    let o = w.place in
    let from : ℕ = next + length o.x in
    let to : ℕ = next + length o.x + length o.names in
    let start : ℕ = next + length o.x + length o.names + length o.y in
    let stop : ℕ = next + length b in
    let j : stop ≡ start + length o.body = omega (arith, one_size o) in
    let i : Found = record { name = name; held = record { sids = from; sids_end = to; header = record { kind = o.kind; start = start; stop = stop } } } in
    let low : (opens o.kind && leb 32 depth) ≡ false = fits_open a o.kind depth (tree_depth v) o.deep fit in
    let here : Rest s start (o.body ++ r) = body_here s parent least depth at name next b v r o inside named x rises from to start stop refl refl refl j in
    rw (
      a.steps f s parent least depth at i inside
          (item_placed s parent least depth at name next b v r o inside named x rises from to start stop refl refl refl j low),
      o.pad,
      body-slice s parent least depth at name next b v r o inside named x rises from to start stop refl refl refl j,
      w.content (take stop s) start f depth (rest_within o.body r stop j here) (omega (arith, one_size o, o.pos)) fit,
      go (rest-next b r stop refl x),
    )

-- a pad behind its name
pad_rule : (a : Asked) (f : ℕ) (s : List ℕ) (parent least depth at : ℕ) (name : Std.Option ℕ) (next : ℕ) (b r : List ℕ) → PadFound b → at < length s
    → name_at s parent at ≡ Ok (record { value = name; next = next }) → Rest s next (b ++ r) → a.rule (suc f) s parent least depth at ≡ false
pad_rule a f s parent least depth at name next b r w inside named x =
    let i : Found =
    record {
      name = name;
      held = record { sids = next + w.size; sids_end = next + w.size; header = record { kind = w.kind; start = next + w.size; stop = next + length b } };
    } in
    rw (
      a.steps f s parent least depth at i inside
          (pad_item s parent least depth at name next b r w inside named x (next + length b) refl),
      w.is.pad,
    )

-- ---- members

members_pad_rule : (a : Asked) (p b : List ℕ) (vs : Members Scalar) (c d : Bool) → PadFound p → c ≡ false → MembersRule a (p ++ b) vs (c && d)
members_pad_rule a p b vs c d w e zero s parent least depth at n u x lt fit = absurd (omega arith)
members_pad_rule a p b vs c d w e (suc f) s parent least depth at n u x lt fit =
    rw e (pad_rule a f s parent least depth at None at p b w (omega (arith, rest-length x, length-append p b, w.pos)) (no_name s parent at n) x)

members-next_rule : (a : Asked) (p b : List ℕ) (v : Value) (vs : Members Scalar) (c d : Bool) → OneRule a p v c → MembersRule a b vs d
    → MembersRule a (p ++ b) (member v vs) (c && d)
unfolding members_leaves members_depth
members-next_rule a p b v vs c d w ih zero s parent least depth at n u x lt fit = absurd (omega arith)
members-next_rule a p b v vs c d w ih (suc f) s parent least depth at n u x lt fit =
    let pos : 0 < length p = one_length w.place in
    rw (none_by_append a.mark (tree_leaves v) (members_leaves vs))
    (value_rule a f s parent least depth at None at p b v c (d && none_by a.mark (members_leaves vs)) w
    (omega (arith, rest-length x, length-append p b)) (no_name s parent at n) x (rw u)
    (a.left (tree_depth v) (members_depth vs) depth fit) (omega (arith, length-append p b))
    (λ y. ih f s parent 0 depth (at + length p) n u y (omega (arith, length-append p b)) (a.right (tree_depth v) (members_depth vs) depth fit))
    ∙ and_swap c (none_by a.mark (tree_leaves v)) d (none_by a.mark (members_leaves vs)))

-- ---- fields

fields_pad_rule : (a : Asked) (l p b : List ℕ) (k : ℕ) (fs : Fields Scalar) (c d : Bool) → VarUInt l k → PadFound p → c ≡ false
    → FieldsRule a (l ++ (p ++ b)) fs (c && d)
fields_pad_rule a l p b k fs c d v w e zero s parent least depth at n u x lt fit = absurd (omega arith)
fields_pad_rule a l p b k fs c d v w e (suc f) s parent least depth at n u x lt fit =
    rw e
    (pad_rule a f s parent least depth at (Some k) (at + length l) p b w (omega (arith, rest-length x, length-append l (p ++ b), length-append p b, w.pos))
    (name_found s parent at k (at + length l) l (p ++ b) n v refl x) (rest-next l (p ++ b) (at + length l) refl x))

fields-next_rule : (a : Asked) (l p b : List ℕ) (k : ℕ) (v : Value) (fs : Fields Scalar) (c d : Bool) → VarUInt l k → OneRule a p v c
    → FieldsRule a b fs d → FieldsRule a (l ++ (p ++ b)) (field k v fs) (c && d)
unfolding fields_leaves fields_depth
fields-next_rule a l p b k v fs c d e w ih zero s parent least depth at n u x lt fit = absurd (omega arith)
fields-next_rule a l p b k v fs c d e w ih (suc f) s parent least depth at n u x lt fit =
    let pos : 0 < length p = one_length w.place in
    let size : length (l ++ (p ++ b)) ≡ length l + (length p + length b) = omega (arith, length-append l (p ++ b), length-append p b) in
    let up : is_sorted_struct parent ≡ true → sorted k fs ≡ true = λ q. (both {a = leb least k} (u q)).1 in
    rw (none_by_append a.mark (tree_leaves v) (fields_leaves fs))
    (value_rule a f s parent least depth at (Some k) (at + length l) p b v c (d && none_by a.mark (fields_leaves fs)) w (omega (arith, rest-length x))
    (name_found s parent at k (at + length l) l (p ++ b) n e refl x) (rest-next l (p ++ b) (at + length l) refl x) (rises parent least k fs v u)
    (a.left (tree_depth v) (fields_depth fs) depth fit) (omega arith)
    (λ y. ih f s parent k depth (at + length l + length p) n up y (omega arith) (a.right (tree_depth v) (fields_depth fs) depth fit))
    ∙ and_swap c (none_by a.mark (tree_leaves v)) d (none_by a.mark (fields_leaves fs)))

-- ---- streams

stream_pad_rule : (a : Asked) (p b : List ℕ) (is : List (Item Scalar)) (c d : Bool) → PadFound p → c ≡ false → StreamRule a (p ++ b) is (c && d)
stream_pad_rule a p b is c d w e zero s least at x lt fit = absurd (omega arith)
stream_pad_rule a p b is c d w e (suc f) s least at x lt fit =
    rw e (pad_rule a f s 0 least 0 at None at p b w (omega (arith, rest-length x, length-append p b, w.pos)) refl x)

stream_next_rule : (a : Asked) (p b : List ℕ) (v : Value) (is : List (Item Scalar)) (c d : Bool) → OneRule a p v c → StreamRule a b is d
    → StreamRule a (p ++ b) (value v ∷ is) (c && d)
unfolding leaves stream_depth
stream_next_rule a p b v is c d w ih zero s least at x lt fit = absurd (omega arith)
stream_next_rule a p b v is c d w ih (suc f) s least at x lt fit =
    let pos : 0 < length p = one_length w.place in
    rw (none_by_append a.mark (tree_leaves v) (leaves is))
    (value_rule a f s 0 least 0 at None at p b v c (d && none_by a.mark (leaves is)) w (omega (arith, rest-length x, length-append p b)) refl x refl
    (a.left (tree_depth v) (stream_depth is) 0 fit) (omega (arith, length-append p b))
    (λ y. ih f s 0 (at + length p) y (omega (arith, length-append p b)) (a.right (tree_depth v) (stream_depth is) 0 fit))
    ∙ and_swap c (none_by a.mark (tree_leaves v)) d (none_by a.mark (leaves is)))

-- a version marker is no pad and no scalar
stream_marker_rule : (a : Asked) (b : List ℕ) (is : List (Item Scalar)) (c : Bool) → StreamRule a b is c
    → StreamRule a (0xE0 ∷ 0x01 ∷ 0x00 ∷ 0xEA ∷ b) (marker ∷ is) c
unfolding leaves stream_depth scalar_in code_from body_of
stream_marker_rule a b is c ih zero s least at x lt fit = absurd (omega arith)
stream_marker_rule a b is c ih (suc f) s least at x lt fit =
    let next : ℕ = at + 1 + 1 + 1 + 1 in
    let i : Found = record { name = None; held = record { sids = next; sids_end = next; header = record { kind = 0xE0; start = next; stop = next } } } in
    a.steps f s 0 least 0 at i (omega (arith, rest-length x)) (marker_item least 0 b x)
    ∙ ih f s 0 next (rest-next (0xE0 ∷ 0x01 ∷ 0x00 ∷ 0xEA ∷ []) b next (omega arith) x) (omega arith) fit

-- ---- all productions

ends_rule : (a : Asked) (f : ℕ) (s : List ℕ) (parent least depth at : ℕ) → Rest s at [] → 0 < f → a.rule f s parent least depth at ≡ true
ends_rule a zero s parent least depth at x h = absurd (omega arith)
ends_rule a (suc f) s parent least depth at x h = a.ends f s parent least depth at (omega (arith, rest-length x))

members_end_rule : (a : Asked) → MembersRule a [] no_members true
unfolding members_leaves none_by
members_end_rule a f s parent least depth at n u x lt fit = ends_rule a f s parent least depth at x (omega arith)

fields_end_rule : (a : Asked) → FieldsRule a [] no_fields true
unfolding fields_leaves none_by
fields_end_rule a f s parent least depth at n u x lt fit = ends_rule a f s parent least depth at x (omega arith)

stream_end_rule : (a : Asked) → StreamRule a [] [] true
unfolding leaves none_by
stream_end_rule a f s least at x lt fit = ends_rule a f s 0 least 0 at x (omega arith)

pub ruled : (a : Asked) {b : List ℕ} {t : Phrase} (d : b ⟶ t) → Ruled a b t (has_no_pad d)
unfolding has_no_pad
ruled a (pad body hd) = (pad_found body hd, refl)
ruled a sids_end = tt
ruled a (sids_next l e r) = tt
ruled a (is-null {an} {t} c e) = scalar_rule a _ an _ (found_null an c t e)
ruled a (is_false {an}) = scalar_rule a _ an _ (found-false an)
ruled a (is_true {an}) = scalar_rule a _ an _ (found-true an)
ruled a (is_zero {an}) = scalar_rule a _ an _ (found-zero an)
ruled a (is_float32 {an} b e) = scalar_rule a _ an _ (found_float32 an b e)
ruled a (is_float64 {an} b e) = scalar_rule a _ an _ (found_float64 an b e)
ruled a (is_scalar {an} c {h} {s} body hd e) = scalar_rule a _ an s (found_scalar an h c s body hd e)
ruled a (is-sequence {an} k {h} {body} {vs} hd bs) = sequence_rule a an h body (has_no_pad bs) k vs hd (found bs) (ruled a bs)
ruled a (is_struct {an} {h} {body} {fs} hd bs) = let r = found bs in struct_rule a an h body fs (has_no_pad bs) hd r.0 r.1 (ruled a bs)
ruled a (is_sorted {an} {body} {fs} l e pos bs up) = let r = found bs in sorted_rule a an l body fs (has_no_pad bs) e pos r.0 up r.1 (ruled a bs)
ruled a (is_bare {b} {v} r) = bare_rule a b v (has_no_pad r) (ruled a r)
ruled a (is_annotated {h} {s} {b} {an} {a = k} {v} l hd e ss r) = wrapped_rule a h l s b an k v (has_no_pad r) hd e (sids_found ss) (ruled a r)
ruled a members_end = members_end_rule a
ruled a (members_pad {p} {b} {vs} pd r) = let w = ruled a pd in members_pad_rule a p b vs (has_no_pad pd) (has_no_pad r) w.0 w.1
ruled a (members-next {p} {b} {v} {vs} x r) = members-next_rule a p b v vs (has_no_pad x) (has_no_pad r) (ruled a x) (ruled a r)
ruled a fields_end = fields_end_rule a
ruled a (fields_pad {p} {b} {k} {fs} l e pd r) = let w = ruled a pd in fields_pad_rule a l p b k fs (has_no_pad pd) (has_no_pad r) e w.0 w.1
ruled a (fields-next {p} {b} {k} {v} {fs} l e x r) = fields-next_rule a l p b k v fs (has_no_pad x) (has_no_pad r) e (ruled a x) (ruled a r)
ruled a stream_end = stream_end_rule a
ruled a (stream_pad {p} {b} {is} pd r) = let w = ruled a pd in stream_pad_rule a p b is (has_no_pad pd) (has_no_pad r) w.0 w.1
ruled a (stream_marker {b} {is} r) = stream_marker_rule a b is (has_no_pad r) (ruled a r)
ruled a (stream_next {p} {b} {v} {is} x r) = stream_next_rule a p b v is (has_no_pad x) (has_no_pad r) (ruled a x) (ruled a r)
