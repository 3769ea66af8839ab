-- The rule of the crate unpadded, held to the grammar.
-- Assumes nothing.
use Prim.Native.Nat.{ℕ, suc, ◌+◌, ◌≤◌}
use native.Mathlib.Omega.{arith}
use mathlib.Core.Path.{◌≡◌, refl, sym, ◌∙◌, ap, subst}
use mathlib.Core.Bool.{Bool, true, false, not, ◌&&◌, and-false}
use mathlib.Core.Bool.{and-true as and_one}
use mathlib.Core.Option.{Option}
use mathlib.Core.List.{List, [], ◌∷◌, ◌++◌, append-nil}
use lib.Dec.{eqb}
use lib.ListN.{length}
use borrow.Author.Tests.{eqb-true, eq-eqb, not-true}
use Rattle.ion.specs.Value.{Scalar, Value, Item, value, leaves}
use Rattle.ion.specs.Grammar.{padding, one, stream, ◌⟶◌, Reads, stream_end, stream_pad, stream_marker, stream_next}
use Rattle.ion.proofs.Tests.{both, and-true}
use Rattle.mark.specs.OutOfCalendar.{none_marked}
use Rattle.std.specs.Prelude.{Ok, Err, Some, None}
use Rattle.reading.specs.declared.Item.{Item as Placed}
use Rattle.reading.specs.Items.{is_pad, is_marker, opens, raised, Found, item_at}
use Rattle.reading.specs.Walk.{Event, tree_depth, stream_depth, item_walk, step_walk, walk_from}
use Rattle.unpadded.specs.Rule.{unpadded_from, is_whole, is_one_value}
use Rattle.reading_grammar.proofs.Tests.{contrary}
use Rattle.reading_grammar.proofs.Places.{Rest, rest-next}
use Rattle.reading_grammar.proofs.One.{OneFound}
use Rattle.reading_grammar.proofs.Steps.{item_placed, marker_item}
use Rattle.reading_grammar.proofs.Walked.{higher_within, one_length, found}
use Rattle.reading_grammar.proofs.Items.{item_judged, headed_here}
use Rattle.reading_grammar.proofs.Values.{then_whole, ItemRead, a_pad, a_value, a_marker, item_read}
use Rattle.reading_grammar.proofs.Read.{rest_unique, nothing_left, bodies_sound}
use Rattle.unpadded_grammar.specs.Pads.{has_no_pad}
use Rattle.unpadded_grammar.specs.Exact.{FoundIsOne, OneIsFound, SamePads}
use Rattle.unpadded_grammar.proofs.Tests.{none_by-marked, none_by-never}
use Rattle.unpadded_grammar.proofs.Asked.{unpadded_steps, unpadded, padless_from, padless}
use Rattle.unpadded_grammar.proofs.Pads.{one_size, ruled}
use Rattle.unpadded_grammar.proofs.Whole.{rule_ends}

from_first : (b : List ℕ) → Rest b 0 b
from_first b = record { within = omega arith; is = refl }

-- Of a reading with at most 32 containers open at once the rule says whether it has no pad and no mark.
pub rule_is : {b : List ℕ} {is : List (Item Scalar)} (d : Reads b is) → stream_depth is ≤ 32
    → unpadded_from (suc (length b)) b 0 0 0 0 ≡ (has_no_pad d && none_marked (leaves is))
unfolding unpadded
rule_is {b} {is} d h = rw (← none_by-marked (leaves is)) (ruled unpadded d (suc (length b)) b 0 0 (from_first b) (omega arith) (omega arith))

padless_is : {b : List ℕ} {is : List (Item Scalar)} (d : Reads b is) → padless_from (suc (length b)) b 0 0 0 0 ≡ has_no_pad d
unfolding padless
padless_is {b} {is} d =
    ruled padless d (suc (length b)) b 0 0 (from_first b) (omega arith) refl
    ∙ ap (λ (u : Bool). has_no_pad d && u) (none_by-never (leaves is)) ∙ and_one (has_no_pad d)

-- Whether a reading has a pad does not depend on the derivation.
pub same_pads : SamePads
same_pads b is js p q = sym (padless_is p) ∙ padless_is q

-- ---- what the rule finds

-- bytes that are a value, with at most 32 containers open at once
record Valued (b : List ℕ) : Type 0 where
  v : Value
  reading : Reads b (value v ∷ [])
  low : stream_depth (value v ∷ []) ≤ 32

kind_same : (j i : Placed) → ◌≡◌ {A = Found} (Ok (Some j)) (Ok (Some i)) → j.held.header.kind ≡ i.held.header.kind
kind_same j i q = let e : j ≡ i = cc in ap (λ (x : Placed). x.held.header.kind) e

module _ (b : List ℕ) (i : Placed) (q : item_at b 0 0 0 0 ≡ Ok (Some i))
    (end : i.held.header.stop ≡ length b) (content : is_pad i.held.header.kind ≡ false) (plain : is_marker i.held.header.kind ≡ false) where
  item_valued : {n : Option ℕ} {es : List Event} → ItemRead b 0 0 0 i.held.header.stop i.held.header.kind n es → Valued b
  unfolding stream_depth
  item_valued (a_pad p r y e pos rd pd z) = contrary content pd
  item_valued (a_value p r v y e pos rd pd sh z) =
      let rest : r ≡ [] = nothing_left r (rest-next p r i.held.header.stop e y) end in
      let tail : r ⟶ stream [] = rw rest stream_end in
      record {
        v = v;
        reading = subst (λ (u : List ℕ). u ⟶ stream (value v ∷ [])) (sym (rest_unique (from_first b) y)) (stream_next rd tail);
        low = higher_within (tree_depth v) 0 32 (omega arith) (omega arith);
      }
  item_valued (a_marker r y e st pd z) = contrary plain (eq-eqb i.held.header.kind 0xE0 (sym (kind_same _ i (sym (marker_item 0 0 r y) ∙ q))))

  walked_valued : (walk_from (suc (length b)) b 0 0 0 0).1 ≡ Ok tt → Valued b
  unfolding walk_from
  walked_valued e =
      let f : ℕ = length b in
      let j = item_judged b 0 0 0 0 i q in
      let w : (step_walk (λ t p l d m. walk_from f t p l d m) b 0 0 0 0 (Ok (Some i))).1 ≡ Ok tt = rw q at e in
      let t = then_whole (item_walk (λ t p l d m. walk_from f t p l d m) b 0 i) (walk_from f b 0 (raised 0 i.held.header.kind i.name) 0 i.held.header.stop) w in
      let here : 0 ≡ j.next = headed_here j refl in
      let ih = bodies_sound f in
      let r = item_read f ih.0 ih.1 b 0 0 0 0 i j (omega arith) (omega arith) (omega arith) (omega (arith, here)) t.0 in
      item_valued (rw (← here) at r)

-- an item that the rule passes is no pad
rule_content : (b : List ℕ) (i : Placed) → item_at b 0 0 0 0 ≡ Ok (Some i)
    → unpadded_from (suc (length b)) b 0 0 0 0 ≡ true → is_pad i.held.header.kind ≡ false
rule_content b i q e =
    let j = item_judged b 0 0 0 0 i q in
    not-true (is_pad i.held.header.kind) (both {a = not (is_pad i.held.header.kind)} (sym (unpadded_steps (length b) b 0 0 0 0 i j.inside q) ∙ e)).0

rule_valued : (b : List ℕ) (found : Found) → item_at b 0 0 0 0 ≡ found → is_whole b found ≡ true → unpadded_from (suc (length b)) b 0 0 0 0 ≡ true → Valued b
rule_valued b (Err x) q e r = contrary refl e
rule_valued b (Ok None) q e r = contrary refl e
rule_valued b (Ok (Some i)) q e r =
    let z = both {a = eqb i.held.header.stop (length b)} e in
    walked_valued b i q (eqb-true i.held.header.stop (length b) z.0) (rule_content b i q r) (not-true (is_marker i.held.header.kind) z.1)
    (rule_ends (suc (length b)) b 0 0 0 0 r)

-- The rule finds values without pad and mark.
pub found_is_one : FoundIsOne
unfolding is_one_value
found_is_one b e =
    let z = both {a = is_whole b (item_at b 0 0 0 0)} e in
    let w = rule_valued b (item_at b 0 0 0 0) refl z.0 z.1 in
    let p = both {a = has_no_pad w.reading} (sym (rule_is w.reading w.low) ∙ z.1) in
    record { one = w.v; reading = w.reading; no_pad = p.0; no_mark = p.1 }

-- ---- what is found

no_padding : {b : List ℕ} (d : b ⟶ padding) → has_no_pad d ≡ false
no_padding d = (ruled padless d).1

-- without pads, nothing but no bytes is a stream of no items
no_bytes : {b : List ℕ} {is : List (Item Scalar)} (d : b ⟶ stream is) → has_no_pad d ≡ true → is ≡ [] → b ≡ []
unfolding has_no_pad
no_bytes stream_end h e = refl
no_bytes (stream_pad pd r) h e = contrary (no_padding pd) (both {a = has_no_pad pd} h).0
no_bytes (stream_marker r) h e = absurd (let z : ◌≡◌ {A = ℕ} 0 1 = cc in omega arith)
no_bytes (stream_next x r) h e = absurd (let z : ◌≡◌ {A = ℕ} 0 1 = cc in omega arith)

item_same : {v w : Value} {is : List (Item Scalar)} → value w ∷ is ≡ value v ∷ [] → (w ≡ v) × (is ≡ [])
item_same e = (cc, cc)

-- without pads, a stream of one value is that value
only_value : {b : List ℕ} {is : List (Item Scalar)} (d : b ⟶ stream is) → has_no_pad d ≡ true → (v : Value) → is ≡ value v ∷ [] → b ⟶ one v
unfolding has_no_pad
only_value stream_end h v e = absurd (let z : ◌≡◌ {A = ℕ} 0 1 = cc in omega arith)
only_value (stream_pad pd r) h v e = contrary (no_padding pd) (both {a = has_no_pad pd} h).0
only_value (stream_marker r) h v e = absurd (let z : ◌≡◌ {A = ℕ} 0 1 = cc in omega arith)
only_value (stream_next {p} {b} {v = w} {is} x r) h v e =
    let q = item_same e in
    let y : p ⟶ one v = subst (λ (u : Value). p ⟶ one u) q.0 x in
    let none : b ≡ [] = no_bytes r (both {a = has_no_pad x} {b = has_no_pad r} h).1 q.1 in
    subst (λ (u : List ℕ). u ⟶ one v) (sym (append-nil p) ∙ ap (λ (u : List ℕ). p ++ u) (sym none)) y

-- the first item is all of a value
value_whole : (b : List ℕ) (v : Value) → b ⟶ one v → is_whole b (item_at b 0 0 0 0) ≡ true
value_whole b v d =
    let o : OneFound b v = found d in
    let from : ℕ = 0 + length o.x in
    let to : ℕ = from + length o.names in
    let start : ℕ = to + length o.y in
    let x : Rest b 0 (b ++ []) = rw (append-nil b) (from_first b) in
    rw (
      item_placed b 0 0 0 0 None 0 b v [] o (one_length o) refl x refl from to start (length b) refl refl refl (omega (arith, one_size o))
          (and-false (opens o.kind)),
      eq-eqb (length b) (length b) refl,
      o.marker,
    )

-- It finds all with at most 32 containers open at once.
pub one_is_found : OneIsFound
unfolding is_one_value stream_depth
one_is_found b w le =
    let d = only_value w.reading w.no_pad w.one refl in
    and-true (value_whole b w.one d)
    (rule_is w.reading (higher_within (tree_depth w.one) 0 32 le (omega arith)) ∙ and-true w.no_pad w.no_mark)
