-- One item of a walk that comes to its end: it is a pad, a value or a version marker of the grammar, and the walk shows its events.
-- Bodies are taken as read. Assumes nothing.
use Rattle.std.specs.Prelude.{Result, Ok, Err}
use Rattle.reading.specs.Walk.{Ending}
use Prim.Native.Nat.{ℕ, ◌+◌, ◌/◌, ◌%◌, ◌≤◌, ◌<◌}
use native.Mathlib.Omega.{arith}
use mathlib.Core.Path.{◌≡◌, refl, sym, ◌∙◌, ap}
use mathlib.Core.Bool.{true, false, ◌&&◌}
use mathlib.Core.List.{List, [], ◌∷◌, ◌++◌}
use mathlib.Core.Option.{Option, some}
use lib.Dec.{ltb, leb, eqb}
use lib.ListN.{length, take, drop, get_or, length-append}
use lib.Seq.{slice}
use borrow.Author.Tests.{ltb-true, ltb-false, le-ltb, lt-ltb, le-leb, lt-leb, leb-false, ne_eqb}
use Rattle.ion.specs.Value.{Scalar, IonType, ion_list, ion_sexp, ion_struct, list, sexp, Value, scalar, sequence, struct, Members}
use Rattle.ion.specs.Value.{Fields}
use Rattle.ion.specs.Grammar.{sorted, padding, bare, one, members, fields, ◌⟶◌}
use Rattle.ion.proofs.Tests.{by_cases, both}
use Rattle.reading.specs.declared.Refusal.{Refusal}
use Rattle.reading.specs.declared.Header.{Header as Head}
use Rattle.reading.specs.declared.Wrapped.{Wrapped}
use Rattle.reading.specs.declared.Item.{Item}
use Rattle.reading.specs.Headers.{impossible, header_at, marker_at, top_header_at}
use Rattle.reading.specs.Scalars.{scalar_in}
use Rattle.reading.specs.Items.{is_pad, is_marker, opens, is_stream, has_names, is_sorted_struct, reads, head_in, unwrapped}
use Rattle.reading.specs.Walk as Shown
use Rattle.reading.specs.Walk.{Event, leaf, begins, ends, tree_events, member_events, field_events, stream_events, tree_depth, members_depth, fields_depth}
use Rattle.reading.specs.Walk.{stream_depth, higher, Walk, before, ◌and_then◌, shows, name_shown, container_type, leaf_walk, container_walk, item_walk}
use Rattle.reading.specs.Walk.{step_walk, walk_from, walk_in, walk}
use Rattle.reading_grammar.proofs.Tests.{contrary, some_of}
use Rattle.reading_grammar.proofs.Places.{Rest, rest-length}
use Rattle.reading_grammar.proofs.TypeBytes as K
use Rattle.reading_grammar.proofs.Framing.{Framing}
use Rattle.reading_grammar.proofs.Derived.{pad_reading, scalar_reading, Opening, opening, list_reading, sexp_reading, struct_reading}
use Rattle.reading_grammar.proofs.Unwrapped.{Valued, found_value}
use Rattle.reading_grammar.proofs.Items.{Judged, marked-bytes}
use Rattle.reading_grammar.proofs.Steps.{out_in, pad_shows-none}

-- ---- two walks in a row that come to their end

before-whole : (es : List Event) (r : Ending) (w : Walk) → (before es r w).1 ≡ Ok tt → (r ≡ Ok tt) × (w.1 ≡ Ok tt) × ((before es r w).0 ≡ es ++ w.0)
before-whole es (Ok tt) w e = (refl, e, refl)
before-whole es (Err r) w e = cc

pub then_whole : (v w : Walk) → (v and_then w).1 ≡ Ok tt → (v.1 ≡ Ok tt) × (w.1 ≡ Ok tt) × ((v and_then w).0 ≡ v.0 ++ w.0)
then_whole v w e = before-whole v.0 v.1 w e

-- ---- what the walks over bodies show, given their fuel

pub record MembersRead (b : List ℕ) (depth : ℕ) (es : List Event) : Type 0 where
  pub vs : Members Scalar
  pub reading : b ⟶ members vs
  pub shallow : depth + members_depth vs ≤ 32
  pub shown : es ≡ member_events vs

pub record FieldsRead (b : List ℕ) (parent least depth : ℕ) (es : List Event) : Type 0 where
  pub fs : Fields Scalar
  pub reading : b ⟶ fields fs
  pub shallow : depth + fields_depth fs ≤ 32
  pub shown : es ≡ field_events fs
  pub rises : is_sorted_struct parent ≡ true → sorted least fs ≡ true

abbrev pub MembersSound : ℕ → Type 0
MembersSound f =
    (s : List ℕ) (parent least depth at : ℕ) (b : List ℕ) → has_names parent ≡ false → is_stream parent ≡ false → depth ≤ 32 → Rest s at b → length b < f
    → (walk_from f s parent least depth at).1 ≡ Ok tt → MembersRead b depth (walk_from f s parent least depth at).0

abbrev pub FieldsSound : ℕ → Type 0
FieldsSound f =
    (s : List ℕ) (parent least depth at : ℕ) (b : List ℕ) → has_names parent ≡ true → is_stream parent ≡ false → depth ≤ 32 → Rest s at b → length b < f
    → (walk_from f s parent least depth at).1 ≡ Ok tt → FieldsRead b parent least depth (walk_from f s parent least depth at).0

-- ---- one item

-- what the item from `next` to `stop` is, of which the walk shows the events es
pub data ItemRead (s : List ℕ) (parent depth next stop k : ℕ) (name : Option ℕ) (es : List Event) : Type 0 where
  a_pad : (p r : List ℕ) → Rest s next (p ++ r) → stop ≡ next + length p → 0 < length p → p ⟶ padding → is_pad k ≡ true → es ≡ []
      → ItemRead s parent depth next stop k name es
  a_value : (p r : List ℕ) (v : Value) → Rest s next (p ++ r) → stop ≡ next + length p → 0 < length p → p ⟶ one v → is_pad k ≡ false
      → depth + tree_depth v ≤ 32 → es ≡ tree_events name v
      → ItemRead s parent depth next stop k name es
  a_marker : (r : List ℕ) → Rest s next (0xE0 ∷ 0x01 ∷ 0x00 ∷ 0xEA ∷ r) → stop ≡ next + 4 → is_stream parent ≡ true → is_pad k ≡ false
      → es ≡ Shown.marker ∷ [] → ItemRead s parent depth next stop k name es

-- a value of the grammar with the events that the walk shows for it
record BareRead (q an : List ℕ) (depth : ℕ) (name : Option ℕ) (w : Walk) : Type 0 where
  v : Value
  reading : q ⟶ bare an v
  shallow : depth + tree_depth v ≤ 32
  shown : w.0 ≡ tree_events name v

container_whole : (k : ℕ) (name : Option ℕ) (an : List ℕ) (w : Walk) → (container_walk k name an w).1 ≡ Ok tt
    → (w.1 ≡ Ok tt) × ((container_walk k name an w).0 ≡ begins name an (container_type k) ∷ (w.0 ++ (ends ∷ [])))
container_whole k name an w e =
    let a = then_whole (shows (begins name an (container_type k) ∷ [])) (w and_then shows (ends ∷ [])) e in
    let b = then_whole w (shows (ends ∷ [])) a.1 in
    (b.0, ap (λ (es : List Event). begins name an (container_type k) ∷ es) b.2)

begun : (name : Option ℕ) (an : List ℕ) (t t' : IonType) (es es' : List Event) → t ≡ t' → es ≡ es'
    → begins name an t ∷ (es ++ (ends ∷ [])) ≡ begins name an t' ∷ (es' ++ (ends ∷ []))
begun name an t t' es es' p q = rw (p, q)

list_type : (k : ℕ) → k < 0xC0 → container_type k ≡ ion_list
list_type k h = rw (lt-ltb k 0xC0 h)

sexp_type : (k : ℕ) → 0xC0 ≤ k → k < 0xD0 → container_type k ≡ ion_sexp
sexp_type k l h = rw (le-ltb k 0xC0 l, lt-ltb k 0xD0 h)

struct_type : (k : ℕ) → 0xD0 ≤ k → container_type k ≡ ion_struct
struct_type k l = rw (le-ltb k 0xC0 (omega arith), le-ltb k 0xD0 l)

module _ (f : ℕ) (ihm : MembersSound f) (ihf : FieldsSound f) (an : List ℕ) (k : ℕ) (tail body : List ℕ) (fr : Framing k (length body) tail) (o : Opening k)
    (t : List ℕ) (start depth : ℕ) (name : Option ℕ) (x : Rest t start body) (lt : length body < f) (under : depth < 32)
    (whole : (container_walk k name an (walk_from f t k 0 (depth + 1) start)).1 ≡ Ok tt) where
  not_stream : is_stream k ≡ false
  not_stream = ne_eqb k 0 (λ e. omega (arith, o.least))

  list_read : k < 0xC0 → BareRead (k ∷ (tail ++ body)) an depth name (container_walk k name an (walk_from f t k 0 (depth + 1) start))
  unfolding tree_events tree_depth
  list_read h =
      let w = container_whole k name an (walk_from f t k 0 (depth + 1) start) whole in
      let m = ihm t k 0 (depth + 1) start body (rw (lt-leb 0xD0 k (omega arith))) not_stream (omega arith) x lt w.0 in
      record {
        v = sequence an list m.vs;
        reading = list_reading an k tail body fr o h m.vs m.reading;
        shallow = omega (arith, m.shallow);
        shown = w.1 ∙ begun name an _ ion_list _ _ (list_type k h) m.shown;
      }

  sexp_read : 0xC0 ≤ k → k < 0xD0 → BareRead (k ∷ (tail ++ body)) an depth name (container_walk k name an (walk_from f t k 0 (depth + 1) start))
  unfolding tree_events tree_depth
  sexp_read l h =
      let w = container_whole k name an (walk_from f t k 0 (depth + 1) start) whole in
      let m = ihm t k 0 (depth + 1) start body (rw (lt-leb 0xD0 k h)) not_stream (omega arith) x lt w.0 in
      record {
        v = sequence an sexp m.vs;
        reading = sexp_reading an k tail body fr o l h m.vs m.reading;
        shallow = omega (arith, m.shallow);
        shown = w.1 ∙ begun name an _ ion_sexp _ _ (sexp_type k l h) m.shown;
      }

  struct_read : 0xD0 ≤ k → BareRead (k ∷ (tail ++ body)) an depth name (container_walk k name an (walk_from f t k 0 (depth + 1) start))
  unfolding tree_events tree_depth
  struct_read l =
      let w = container_whole k name an (walk_from f t k 0 (depth + 1) start) whole in
      let m = ihf t k 0 (depth + 1) start body (rw (le-leb 0xD0 k l, lt-ltb k 0xDF o.most)) not_stream (omega arith) x lt w.0 in
      record {
        v = struct an m.fs;
        reading = struct_reading an k tail body fr o l m.fs m.reading m.rises;
        shallow = omega (arith, m.shallow);
        shown = w.1 ∙ begun name an _ ion_struct _ _ (struct_type k l) m.shown;
      }

  container_read : BareRead (k ∷ (tail ++ body)) an depth name (container_walk k name an (walk_from f t k 0 (depth + 1) start))
  container_read =
      by_cases (ltb k 0xC0)
      (λ p. list_read (ltb-true k 0xC0 p))
      (λ p. by_cases (ltb k 0xD0)
      (λ q. sexp_read (ltb-false k 0xC0 p) (ltb-true k 0xD0 q))
      (λ q. struct_read (ltb-false k 0xD0 q)))

leaf_shown : (k : ℕ) (name : Option ℕ) (an body : List ℕ) (x : Scalar) → is_marker k ≡ false → scalar_in k body ≡ some x
    → (leaf_walk k name an body).0 ≡ leaf name an x ∷ []
leaf_shown k name an body x m e = rw (m, e)

leaf_read : (an : List ℕ) (k : ℕ) (tail body : List ℕ) (depth : ℕ) (name : Option ℕ) → impossible (k / 16) (k % 16) ≡ false
    → Framing k (length body) tail → depth ≤ 32 → is_pad k ≡ false → is_marker k ≡ false → opens k ≡ false
    → reads k body ≡ true → BareRead (k ∷ (tail ++ body)) an depth name (leaf_walk k name an body)
unfolding tree_events tree_depth
leaf_read an k tail body depth name can fr le p m n good =
    let x = some_of (scalar_in k body) (rw n at (rw m at (rw p at good))) in
    record {
      v = scalar an x.0;
      reading = scalar_reading an k tail body x.0 can fr x.1;
      shallow = omega arith;
      shown = leaf_shown k name an body x.0 m x.1;
    }

not_marker : (k : ℕ) → impossible (k / 16) (k % 16) ≡ false → is_marker k ≡ false
not_marker k can = ne_eqb k 0xE0 (λ e. contrary can (rw e))

module _ (f : ℕ) (ihm : MembersSound f) (ihf : FieldsSound f) (s : List ℕ) (parent depth next : ℕ) (i : Item)
    (w : Valued s next i.held)
    (le : depth ≤ 32) (shallow : (opens i.held.header.kind && leb 32 depth) ≡ false) (good : reads i.held.header.kind (slice i.held.header.start i.held.header.stop s) ≡ true) (size : length w.p ≤ f) where
  value_read : is_pad i.held.header.kind ≡ false → (item_walk (λ t p l d m. walk_from f t p l d m) s depth i).1 ≡ Ok tt
      → BareRead (i.held.header.kind ∷ (w.tail ++ w.body)) w.an depth (name_shown i.name)
      (item_walk (λ t p l d m. walk_from f t p l d m) s depth i)
  value_read p e =
      by_cases (opens i.held.header.kind)
      (λ q.
      let u : depth < 32 = leb-false 32 depth (rw q at shallow) in
      let lt : length w.body < f = omega (arith, w.shorter) in
      rw (q, w.known)
      (container_read f ihm ihf w.an i.held.header.kind w.tail w.body w.framing (opening i.held.header.kind q) (take i.held.header.stop s) i.held.header.start depth (name_shown i.name)
      w.inner lt u (rw q at e)))
      (λ q. rw (q, w.known, w.held) (leaf_read w.an i.held.header.kind w.tail w.body depth (name_shown i.name) w.possible w.framing le p
      (not_marker i.held.header.kind w.possible) q (rw w.held at good)))

  value_item : (item_walk (λ t p l d m. walk_from f t p l d m) s depth i).1 ≡ Ok tt
      → ItemRead s parent depth next i.held.header.stop i.held.header.kind (name_shown i.name) (item_walk (λ t p l d m. walk_from f t p l d m) s depth i).0
  value_item e =
      by_cases (is_pad i.held.header.kind)
      (λ p.
      let c = K.padding i.held.header.kind (ltb-true i.held.header.kind 15 p) in
      a_pad w.p w.rest w.here w.ends (omega (arith, w.shorter))
      (rw (w.pad p) (pad_reading i.held.header.kind w.tail w.body w.framing p)) p
      (rw (c.shut, c.marker, pad_shows-none i.held.header.kind (slice i.held.header.start i.held.header.stop s) p)))
      (λ p.
      let b = value_read p e in
      a_value w.p w.rest b.v w.here w.ends (omega (arith, w.shorter)) (w.value b.v b.reading) p b.shallow b.shown)

-- ---- a version marker, or a header

record MarkerFound (s : List ℕ) (next k stop : ℕ) : Type 0 where
  rest : List ℕ
  bytes : drop next s ≡ 0xE0 ∷ 0x01 ∷ 0x00 ∷ 0xEA ∷ rest
  kind : k ≡ 0xE0
  ends : stop ≡ next + 4

marker-found : (s : List ℕ) (next : ℕ) (w : Wrapped) (o : Result Head Refusal) → marker_at s next ≡ o → unwrapped s o ≡ Ok w
    → MarkerFound s next w.header.kind w.header.stop
unfolding marker_at
marker-found s next w (Err r) q e = cc
marker-found s next w (Ok h) q e =
    let m = marked-bytes (0xE0 ∷ 0x01 ∷ 0x00 ∷ 0xEA ∷ []) next (drop next s) h q in
    let k : 0xE0 ≡ w.header.kind = cc (m.2) in
    let p : h.stop ≡ w.header.stop = cc (m.2) in
    record { rest = m.0; bytes = m.1; kind = sym k; ends = omega (arith, m.3) }

stream_marker_head : (s : List ℕ) (parent next : ℕ) → (is_stream parent && eqb (get_or s next 0) 0xE0) ≡ true → head_in s parent next ≡ marker_at s next
unfolding top_header_at
stream_marker_head s parent next e = let b = both {a = is_stream parent} e in rw (b.0, b.1)

other_head : (s : List ℕ) (parent next : ℕ) → (is_stream parent && eqb (get_or s next 0) 0xE0) ≡ false → head_in s parent next ≡ header_at (out_in parent) s next
unfolding top_header_at
other_head s parent next e = by_cases (is_stream parent) (λ p. rw (p, (rw p at e))) (λ p. rw p)

-- ---- one item of a walk that comes to its end

module _ (f : ℕ) (ihm : MembersSound f) (ihf : FieldsSound f) (s : List ℕ) (parent least depth at : ℕ) (i : Item) (j : Judged s parent least depth at i)
    (le : depth ≤ 32) (size : length s ≤ at + f) (after : at ≤ j.next) (within : j.next ≤ length s) where
  pub item_read : (item_walk (λ t p l d m. walk_from f t p l d m) s depth i).1 ≡ Ok tt
      → ItemRead s parent depth j.next i.held.header.stop i.held.header.kind (name_shown i.name) (item_walk (λ t p l d m. walk_from f t p l d m) s depth i).0
  item_read e =
      by_cases (is_stream parent && eqb (get_or s j.next 0) 0xE0)
      (λ p.
      let m = marker-found s j.next i.held (marker_at s j.next) refl (rw (stream_marker_head s parent j.next p) at j.unwraps) in
      a_marker m.rest (record { within = within; is = m.bytes }) m.ends (both {a = is_stream parent} p).0 (rw m.kind) (rw m.kind))
      (λ p.
      let w = found_value (out_in parent) s j.next i.held (rw (other_head s parent j.next p) at j.unwraps) in
      value_item f ihm ihf s parent depth j.next i w le j.shallow j.good
      (omega (arith, rest-length w.here, length-append w.p w.rest)) e)
