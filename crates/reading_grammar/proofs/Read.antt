-- A walk that comes to its end shows a reading: by recursion over the fuel.
-- Assumes nothing.
use Rattle.std.specs.Prelude.{Ok, Err, Option, Some, None}
use Rattle.reading.specs.Headers.{var_uint_at}
use Rattle.reading.specs.Items.{Found}
use Prim.Native.Nat.{ℕ, zero, suc, ◌+◌, ◌≤◌, ◌<◌}
use native.Mathlib.Omega.{arith}
use mathlib.Core.Path.{◌≡◌, refl, sym, ◌∙◌, ap, subst}
use mathlib.Core.Bool.{Bool, true, false, cond}
use mathlib.Core.List.{List, [], ◌∷◌, ◌++◌}
use mathlib.Core.Option as Math
use mathlib.Core.Option.{none, some}
use lib.Dec.{ltb, leb}
use lib.ListN.{length, drop, length-append, length-drop}
use lib.Seq.{take-length}
use borrow.Author.Tests.{ltb-false, le-leb}
use Rattle.ion.specs.Value.{Scalar, no_members, member}
use Rattle.ion.specs.Value.{no_fields, field, Item, marker, value}
use Rattle.ion.specs.Fields.{VarUInt}
use Rattle.ion.specs.Grammar.{sorted, members, fields, stream, ◌⟶◌, members_end, members_pad, members-next, fields_end}
use Rattle.ion.specs.Grammar.{fields_pad, fields-next, stream_end, stream_pad, stream_marker, stream_next}
use Rattle.ion.proofs.Tests.{by_cases, and-true}
use Rattle.reading.specs.declared.Refusal.TheVariants.{NotIon}
use Rattle.reading.specs.Items.{is_pad, is_stream, has_names, is_sorted_struct, falls, raised, item_at}
use Rattle.reading.specs.Walk as Shown
use Rattle.reading.specs.Walk.{Event, leaf, begins, ends, tree_events, member_events, field_events, stream_events, tree_depth, members_depth, fields_depth}
use Rattle.reading.specs.Walk.{stream_depth, higher, Walk, before, ◌and_then◌, shows, name_shown, container_type, leaf_walk, container_walk, item_walk}
use Rattle.reading.specs.Walk.{step_walk, walk_from, walk_in, walk}
use Rattle.reading_grammar.specs.Exact.{WalkIsReading}
use Rattle.reading_grammar.proofs.Tests.{contrary}
use Rattle.reading_grammar.proofs.Places.{Rest, rest-length, rest-next}
use Rattle.reading_grammar.proofs.Numbers.{found_number}
use Rattle.reading_grammar.proofs.Items.{item_judged, headed_here, unnamed, number_of, item_end}
use Rattle.reading_grammar.proofs.Values.{then_whole, MembersRead, FieldsRead, MembersSound, FieldsSound, ItemRead, a_pad}
use Rattle.reading_grammar.proofs.Values.{a_value, a_marker, item_read}

-- ---- bodies

pub rest_unique : {s : List ℕ} {at : ℕ} {b c : List ℕ} → Rest s at b → Rest s at c → b ≡ c
rest_unique x y = sym x.is ∙ y.is

higher-both : (m n k : ℕ) → k + m ≤ 32 → k + n ≤ 32 → k + higher m n ≤ 32
higher-both m n k p q = by_cases (leb m n) (λ e. rw e q) (λ e. rw e p)

pub nothing_left : {s : List ℕ} {at : ℕ} (b : List ℕ) → Rest s at b → at ≡ length s → b ≡ []
nothing_left [] x e = refl
nothing_left (a ∷ b) x e = absurd (omega (arith, rest-length x))

-- an item read with another name
with_name : {s : List ℕ} {parent depth next stop k : ℕ} {m n : Math.Option ℕ} {es : List Event} → m ≡ n
    → ItemRead s parent depth next stop k m es → ItemRead s parent depth next stop k n es
with_name {s} {parent} {depth} {next} {stop} {k} {m} {n} {es} e d = subst (λ (x : Math.Option ℕ). ItemRead s parent depth next stop k x es) e d

-- the members from an item on, given those behind it
members_item : (s : List ℕ) (parent depth at stop k : ℕ) (b : List ℕ) (es ws : List Event) → is_stream parent ≡ false → Rest s at b
    → ItemRead s parent depth at stop k none es
    → ((r : List ℕ) → Rest s stop r → length r < length b → MembersRead r depth ws) → MembersRead b depth (es ++ ws)
unfolding member_events members_depth
members_item s parent depth at stop k b es ws ns x (a_pad p r y e pos rd pd z) ih =
    let q : b ≡ p ++ r = rest_unique x y in
    let m = ih r (rest-next p r stop e y) (omega (arith, ap length q, length-append p r)) in
    record {
      vs = m.vs;
      reading = subst (λ (u : List ℕ). u ⟶ members m.vs) (sym q) (members_pad rd m.reading);
      shallow = m.shallow;
      shown = ap (λ (u : List Event). u ++ ws) z ∙ m.shown;
    }
members_item s parent depth at stop k b es ws ns x (a_value p r v y e pos rd pd sh z) ih =
    let q : b ≡ p ++ r = rest_unique x y in
    let m = ih r (rest-next p r stop e y) (omega (arith, ap length q, length-append p r)) in
    record {
      vs = member v m.vs;
      reading = subst (λ (u : List ℕ). u ⟶ members (member v m.vs)) (sym q) (members-next rd m.reading);
      shallow = higher-both (tree_depth v) (members_depth m.vs) depth sh m.shallow;
      shown = ap (λ (u : List Event). u ++ ws) z ∙ ap (λ (u : List Event). tree_events none v ++ u) m.shown;
    }
members_item s parent depth at stop k b es ws ns x (a_marker r y e st pd z) ih = contrary ns st

not_fallen : (parent least k name : ℕ) → falls parent least k (Some name) ≡ false → is_pad k ≡ false → is_sorted_struct parent ≡ true → leb least name ≡ true
not_fallen parent least k name up pd g = le-leb least name (ltb-false name least (rw (g, pd) at up))

-- the fields from an item on, behind its name l, given those behind it
fields_item : (s : List ℕ) (parent least depth next stop k name : ℕ) (l m : List ℕ) (es ws : List Event)
    → is_stream parent ≡ false → falls parent least k (Some name) ≡ false → VarUInt l name → Rest s next m
    → ItemRead s parent depth next stop k (some name) es
    → ((r : List ℕ) → Rest s stop r → length r < length m → FieldsRead r parent (raised least k (Some name)) depth ws)
    → FieldsRead (l ++ m) parent least depth (es ++ ws)
unfolding field_events fields_depth
fields_item s parent least depth next stop k name l m es ws ns up v x (a_pad p r y e pos rd pd z) ih =
    let q : m ≡ p ++ r = rest_unique x y in
    let d = ih r (rest-next p r stop e y) (omega (arith, ap length q, length-append p r)) in
    record {
      fs = d.fs;
      reading = subst (λ (u : List ℕ). (l ++ u) ⟶ fields d.fs) (sym q) (fields_pad l v rd d.reading);
      shallow = d.shallow;
      shown = ap (λ (u : List Event). u ++ ws) z ∙ d.shown;
      rises = λ g. ap (λ (u : Bool). sorted (cond u least name) d.fs) (sym pd) ∙ d.rises g;
    }
fields_item s parent least depth next stop k name l m es ws ns up v x (a_value p r w y e pos rd pd sh z) ih =
    let q : m ≡ p ++ r = rest_unique x y in
    let d = ih r (rest-next p r stop e y) (omega (arith, ap length q, length-append p r)) in
    record {
      fs = field name w d.fs;
      reading = subst (λ (u : List ℕ). (l ++ u) ⟶ fields (field name w d.fs)) (sym q) (fields-next l v rd d.reading);
      shallow = higher-both (tree_depth w) (fields_depth d.fs) depth sh d.shallow;
      shown = ap (λ (u : List Event). u ++ ws) z ∙ ap (λ (u : List Event). tree_events (some name) w ++ u) d.shown;
      rises = λ g. and-true (not_fallen parent least k name up pd g) (ap (λ (u : Bool). sorted (cond u least name) d.fs) (sym pd) ∙ d.rises g);
    }
fields_item s parent least depth next stop k name l m es ws ns up v x (a_marker r y e st pd z) ih = contrary ns st

module _ (f : ℕ) (ihm : MembersSound f) (ihf : FieldsSound f) where
  members_step : (s : List ℕ) (parent least depth at : ℕ) (b : List ℕ) → has_names parent ≡ false → is_stream parent ≡ false → depth ≤ 32
      → Rest s at b → length b < suc f
      → (i : Found) → item_at s parent least depth at ≡ i → (step_walk (λ t p l d m. walk_from f t p l d m) s parent least depth at i).1 ≡ Ok tt
      → MembersRead b depth (step_walk (λ t p l d m. walk_from f t p l d m) s parent least depth at i).0
  unfolding member_events members_depth
  members_step s parent least depth at b n ns le x size (Err r) q e = cc
  members_step s parent least depth at b n ns le x size (Ok None) q e =
      record { vs = no_members; reading = rw (nothing_left b x (item_end s parent least depth at q)) members_end; shallow = omega arith; shown = refl }
  members_step s parent least depth at b n ns le x size (Ok (Some i)) q e =
      let j = item_judged s parent least depth at i q in
      let t =
      then_whole (item_walk (λ t p l d m. walk_from f t p l d m) s depth i)
      (walk_from f s parent (raised least i.held.header.kind i.name) depth i.held.header.stop) e in
      let here : at ≡ j.next = headed_here j n in
      let d =
      item_read f ihm ihf s parent least depth at i j le (omega (arith, rest-length x)) (omega arith)
      (omega (arith, j.inside)) t.0 in
      subst (λ (es : List Event). MembersRead b depth es) (sym t.2)
      (members_item s parent depth j.next i.held.header.stop i.held.header.kind b
      (item_walk (λ t p l d m. walk_from f t p l d m) s depth i).0
      (walk_from f s parent (raised least i.held.header.kind i.name) depth i.held.header.stop).0 ns
      (subst (λ (m : ℕ). Rest s m b) here x) (with_name (ap name_shown (unnamed j n)) d)
      (λ r y lt. ihm s parent (raised least i.held.header.kind i.name) depth i.held.header.stop r n ns le y (omega arith) t.1))

  fields_step : (s : List ℕ) (parent least depth at : ℕ) (b : List ℕ) → has_names parent ≡ true → is_stream parent ≡ false → depth ≤ 32
      → Rest s at b → length b < suc f
      → (i : Found) → item_at s parent least depth at ≡ i → (step_walk (λ t p l d m. walk_from f t p l d m) s parent least depth at i).1 ≡ Ok tt
      → FieldsRead b parent least depth (step_walk (λ t p l d m. walk_from f t p l d m) s parent least depth at i).0
  unfolding field_events fields_depth
  fields_step s parent least depth at b n ns le x size (Err r) q e = cc
  fields_step s parent least depth at b n ns le x size (Ok None) q e =
      record {
        fs = no_fields;
        reading = rw (nothing_left b x (item_end s parent least depth at q)) fields_end;
        shallow = omega arith;
        shown = refl;
        rises = λ g. refl;
      }
  fields_step s parent least depth at b n ns le x size (Ok (Some i)) q e =
      let j = item_judged s parent least depth at i q in
      let t =
      then_whole (item_walk (λ t p l d m. walk_from f t p l d m) s depth i)
      (walk_from f s parent (raised least i.held.header.kind i.name) depth i.held.header.stop) e in
      let k = number_of (record { value = i.name; next = j.next }) (var_uint_at NotIon s at) (rw n at j.named) in
      let v = found_number NotIon s at (record { value = k.0; next = j.next }) k.2 in
      let x' : Rest s at (v.front ++ v.rest) = record { within = x.within; is = v.joins } in
      let y : Rest s j.next v.rest = rest-next v.front v.rest j.next v.ends x' in
      let c : b ≡ v.front ++ v.rest = rest_unique x x' in
      let d =
      item_read f ihm ihf s parent least depth at i j le (omega (arith, rest-length x)) (omega (arith, v.ends))
      y.within t.0 in
      subst (λ (es : List Event). FieldsRead b parent least depth es) (sym t.2)
      (subst (λ (u : List ℕ). FieldsRead u parent least depth ((item_walk (λ t p l d m. walk_from f t p l d m) s depth i).0
      ++ (walk_from f s parent (raised least i.held.header.kind i.name) depth i.held.header.stop).0)) (sym c)
      (fields_item s parent least depth j.next i.held.header.stop i.held.header.kind k.0 v.front v.rest
      (item_walk (λ t p l d m. walk_from f t p l d m) s depth i).0
      (walk_from f s parent (raised least i.held.header.kind i.name) depth i.held.header.stop).0
      ns (subst (λ (m : Option ℕ). falls parent least i.held.header.kind m ≡ false) k.1 j.rises) v.reads y (with_name (ap name_shown k.1) d)
      (λ r z lt. subst (λ (m : Option ℕ). FieldsRead r parent (raised least i.held.header.kind m) depth
      (walk_from f s parent (raised least i.held.header.kind i.name) depth i.held.header.stop).0) k.1
      (ihf s parent (raised least i.held.header.kind i.name) depth i.held.header.stop r n ns le z (omega (arith, ap length c, length-append v.front v.rest))
      t.1))))

-- with enough fuel, walks over bodies that come to their end show readings
pub bodies_sound : (f : ℕ) → MembersSound f × FieldsSound f
unfolding walk_from
bodies_sound zero = (λ s parent least depth at b n ns le x size e. absurd (omega arith), λ s parent least depth at b n ns le x size e. absurd (omega arith))
bodies_sound (suc f) =
    let ih = bodies_sound f in (
      λ s parent least depth at b n ns le x size e. members_step f ih.0 ih.1 s parent least depth at b n ns le x size
          (item_at s parent least depth at) refl e,
      λ s parent least depth at b n ns le x size e. fields_step f ih.0 ih.1 s parent least depth at b n ns le x size
          (item_at s parent least depth at) refl e,
    )

-- ---- streams

pub record StreamRead (b : List ℕ) (es : List Event) : Type 0 where
  pub is : List (Item Scalar)
  pub reading : b ⟶ stream is
  pub shallow : stream_depth is ≤ 32
  pub shown : es ≡ stream_events is

stream_item : (s : List ℕ) (at stop k : ℕ) (b : List ℕ) (es ws : List Event) → Rest s at b
    → ItemRead s 0 0 at stop k none es → ((r : List ℕ) → Rest s stop r → length r < length b → StreamRead r ws)
    → StreamRead b (es ++ ws)
unfolding stream_events stream_depth
stream_item s at stop k b es ws x (a_pad p r y e pos rd pd z) ih =
    let q : b ≡ p ++ r = rest_unique x y in
    let m = ih r (rest-next p r stop e y) (omega (arith, ap length q, length-append p r)) in
    record {
      is = m.is;
      reading = subst (λ (u : List ℕ). u ⟶ stream m.is) (sym q) (stream_pad rd m.reading);
      shallow = m.shallow;
      shown = ap (λ (u : List Event). u ++ ws) z ∙ m.shown;
    }
stream_item s at stop k b es ws x (a_value p r v y e pos rd pd sh z) ih =
    let q : b ≡ p ++ r = rest_unique x y in
    let m = ih r (rest-next p r stop e y) (omega (arith, ap length q, length-append p r)) in
    let h : 0 + higher (tree_depth v) (stream_depth m.is) ≤ 32 = higher-both (tree_depth v) (stream_depth m.is) 0 sh (omega (arith, m.shallow)) in
    record {
      is = value v ∷ m.is;
      reading = subst (λ (u : List ℕ). u ⟶ stream (value v ∷ m.is)) (sym q) (stream_next rd m.reading);
      shallow = omega (arith, h);
      shown = ap (λ (u : List Event). u ++ ws) z ∙ ap (λ (u : List Event). tree_events none v ++ u) m.shown;
    }
stream_item s at stop k b es ws x (a_marker r y e st pd z) ih =
    let q : b ≡ 0xE0 ∷ 0x01 ∷ 0x00 ∷ 0xEA ∷ r = rest_unique x y in
    let m = ih r (rest-next (0xE0 ∷ 0x01 ∷ 0x00 ∷ 0xEA ∷ []) r stop e y) (omega (arith, ap length q)) in
    record {
      is = marker ∷ m.is;
      reading = subst (λ (u : List ℕ). u ⟶ stream (marker ∷ m.is)) (sym q) (stream_marker m.reading);
      shallow = m.shallow;
      shown = ap (λ (u : List Event). u ++ ws) z ∙ ap (λ (u : List Event). Shown.marker ∷ u) m.shown;
    }

abbrev StreamSound : ℕ → Type 0
StreamSound f =
    (s : List ℕ) (least at : ℕ) (b : List ℕ) → Rest s at b → length b < f → (walk_from f s 0 least 0 at).1 ≡ Ok tt
    → StreamRead b (walk_from f s 0 least 0 at).0

stream_step : (f : ℕ) → StreamSound f → (s : List ℕ) (least at : ℕ) (b : List ℕ) → Rest s at b → length b < suc f
    → (i : Found) → item_at s 0 least 0 at ≡ i → (step_walk (λ t p l d m. walk_from f t p l d m) s 0 least 0 at i).1 ≡ Ok tt
    → StreamRead b (step_walk (λ t p l d m. walk_from f t p l d m) s 0 least 0 at i).0
unfolding stream_events stream_depth
stream_step f ih s least at b x size (Err r) q e = cc
stream_step f ih s least at b x size (Ok None) q e =
    record { is = []; reading = rw (nothing_left b x (item_end s 0 least 0 at q)) stream_end; shallow = omega arith; shown = refl }
stream_step f ih s least at b x size (Ok (Some i)) q e =
    let j = item_judged s 0 least 0 at i q in
    let t = then_whole (item_walk (λ t p l d m. walk_from f t p l d m) s 0 i) (walk_from f s 0 (raised least i.held.header.kind i.name) 0 i.held.header.stop) e in
    let here : at ≡ j.next = headed_here j refl in
    let d =
    item_read f (bodies_sound f).0 (bodies_sound f).1 s 0 least 0 at i j (omega arith)
    (omega (arith, rest-length x)) (omega arith) (omega (arith, j.inside)) t.0 in
    subst (λ (es : List Event). StreamRead b es) (sym t.2)
    (stream_item s j.next i.held.header.stop i.held.header.kind b (item_walk (λ t p l d m. walk_from f t p l d m) s 0 i).0
    (walk_from f s 0 (raised least i.held.header.kind i.name) 0 i.held.header.stop).0
    (subst (λ (m : ℕ). Rest s m b) here x) (with_name (ap name_shown (unnamed j refl)) d)
    (λ r y lt. ih s (raised least i.held.header.kind i.name) i.held.header.stop r y (omega arith) t.1))

stream_sound : (f : ℕ) → StreamSound f
unfolding walk_from
stream_sound zero s least at b x size e = absurd (omega arith)
stream_sound (suc f) s least at b x size e = stream_step f (stream_sound f) s least at b x size (item_at s 0 least 0 at) refl e

-- ---- the whole walk

walk_is : (s : List ℕ) (at : ℕ) → walk s at ≡ walk_from (suc (length s)) s 0 0 0 at
unfolding walk_in
walk_is s at = rw (le-leb (length s) (length s) (omega arith), take-length s)

starts_within : (f : ℕ) (s : List ℕ) (at : ℕ) → (walk_from (suc f) s 0 0 0 at).1 ≡ Ok tt → at ≤ length s
unfolding walk_from item_at
starts_within f s at e = by_cases (ltb (length s) at) (λ p. cc) (λ p. ltb-false (length s) at p)

-- A walk that comes to its end shows a reading, with at most 32 containers open at once.
pub walk_is_reading : WalkIsReading
walk_is_reading s at e =
    let w : (walk_from (suc (length s)) s 0 0 0 at).1 ≡ Ok tt = rw (walk_is s at) at e in
    let h : at ≤ length s = starts_within (length s) s at w in
    let m = stream_sound (suc (length s)) s 0 at (drop at s) (record { within = h; is = refl }) (omega (arith, length-drop at s)) w in
    (h, (m.is, (m.reading, (m.shallow, ap (λ (x : Walk). x.0) (walk_is s at) ∙ m.shown))))
