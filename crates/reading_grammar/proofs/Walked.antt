-- Every reading is what the walk shows: recursion over the grammar's productions.
-- Assumes nothing.
use Rattle.std.specs.Prelude.{Ok, Option, Some, None, unwrap_or}
use Rattle.reading.specs.Walk.{Ending, refused}
use Prim.Native.Nat.{ℕ, zero, suc, ◌+◌, ◌≤◌, ◌<◌}
use native.Mathlib.Omega.{arith}
use mathlib.Core.Path.{◌≡◌, refl, sym, ◌∙◌, ap}
use mathlib.Core.Logic.{◌≢◌}
use mathlib.Core.Bool.{true, false, ◌&&◌}
use mathlib.Core.List.{List, [], ◌∷◌, ◌++◌}
use lib.Dec.{ltb, leb}
use lib.ListN.{length, drop, length-append, length-drop}
use lib.Seq.{take-length}
use borrow.Author.Tests.{le-ltb, le-leb, eq-eqb, leb-true, leb-false}
use Rattle.ion.specs.Value.{Scalar, Value, Members, no_members, member, Fields, no_fields, field, Item, marker, value}
use Rattle.ion.specs.Fields.{VarUInt}
use Rattle.ion.specs.Grammar.{sorted, Phrase, padding, sids, bare, one, members, fields, stream, ◌⟶◌, pad, sids_end, sids_next, is-null, is_false}
use Rattle.ion.specs.Grammar.{is_true, is_zero, is_float32, is_float64, is_scalar, is-sequence, is_struct, is_sorted, is_bare, is_annotated}
use Rattle.ion.specs.Grammar.{members_end, members_pad, members-next, fields_end, fields_pad, fields-next, stream_end, stream_pad, stream_marker}
use Rattle.ion.specs.Grammar.{stream_next, Reads}
use Rattle.ion.proofs.Tests.{by_cases, both}
use Rattle.ion.proofs.Fields.{var_uint_pos}
use Rattle.reading.specs.declared.Refusal.{Refusal}
use Rattle.reading.specs.declared.Refusal.TheVariants.{NotIon}
use Rattle.reading.specs.Items.{is_sorted_struct, has_names, is_below, name_at, item_at, most_open}
use Rattle.reading.specs.Walk.{Event, tree_events, member_events, field_events, stream_events, tree_depth, members_depth, fields_depth, stream_depth, higher}
use Rattle.reading.specs.Walk.{Walk, shows, name_shown, walk_from, walk_in, walk}
use Rattle.reading_grammar.specs.Exact.{ReadingIsWalked}
use Rattle.reading_grammar.proofs.Places.{Rest, rest-length, rest-next}
use Rattle.reading_grammar.proofs.Numbers.{number-found, sids_found}
use Rattle.reading_grammar.proofs.Bare.{BareFound, MembersFound, FieldsFound, found_null, found-false, found-true, found-zero, found_float32}
use Rattle.reading_grammar.proofs.Bare.{found_float64, found_scalar, found_sequence, found_struct, found-sorted}
use Rattle.reading_grammar.proofs.One.{OneFound, one_bare, one_wrapped, PadFound, pad_found}
use Rattle.reading_grammar.proofs.Steps.{step_value, step_pad, step_marker}

pub higher_within : (m n k : ℕ) → m ≤ k → n ≤ k → higher m n ≤ k
higher_within m n k p q = by_cases (leb m n) (λ e. rw e q) (λ e. rw e p)

pub higher_left : (m n k : ℕ) → k + higher m n ≤ 32 → k + m ≤ 32
higher_left m n k h = by_cases (leb m n) (λ p. let q : k + n ≤ 32 = rw p at h in omega (arith, leb-true m n p)) (λ p. rw p at h)

pub higher_right : (m n k : ℕ) → k + higher m n ≤ 32 → k + n ≤ 32
higher_right m n k h = by_cases (leb m n) (λ p. rw p at h) (λ p. let q : k + m ≤ 32 = rw p at h in omega (arith, leb-false m n p))

-- the bytes b, at top level, are found to be the items is
abbrev pub StreamFound : List ℕ → List (Item Scalar) → Type 0
StreamFound b is = (f : ℕ) (s : List ℕ) (least at : ℕ) → Rest s at b → length b < f → stream_depth is ≤ 32 → walk_from f s 0 least 0 at ≡ shows (stream_events is)

-- what is found of each phrase
abbrev pub Found : List ℕ → Phrase → Type 0
Found b padding = PadFound b
Found b (sids an) = b ⟶ sids an
Found b (bare an v) = BareFound b an v
Found b (one v) = OneFound b v
Found b (members vs) = MembersFound b vs
Found b (fields fs) = (length b ≢ 1) × FieldsFound b fs
Found b (stream is) = StreamFound b is

-- ---- the end of a body

walk_ends : (f : ℕ) (s : List ℕ) (parent least depth at : ℕ) → Rest s at [] → 0 < f → walk_from f s parent least depth at ≡ shows []
unfolding walk_from item_at
walk_ends zero s parent least depth at x h = absurd (omega arith)
walk_ends (suc f) s parent least depth at x h = rw (le-ltb (length s) at (omega (arith, rest-length x)), eq-eqb at (length s) (omega (arith, rest-length x)))

-- ---- one item

pub one_length : {b : List ℕ} {v : Value} → OneFound b v → 0 < length b
one_length {b} w = omega (arith, ap length w.joins, length-append w.x (w.names ++ (w.y ++ w.body)), w.pos)

-- a value behind its name, and all that follows
value_step : (f : ℕ) (s : List ℕ) (parent least depth at : ℕ) (name : Option ℕ) (next : ℕ) (p b : List ℕ) (v : Value) (es : List Event) → OneFound p v
    → at < length s → name_at s parent at ≡ Ok (record { value = name; next = next }) → Rest s next (p ++ b)
    → (is_sorted_struct parent && is_below least name) ≡ false → depth + tree_depth v ≤ 32 → length p ≤ f
    → (Rest s (next + length p) b → walk_from f s parent (unwrap_or name 0) depth (next + length p) ≡ shows es)
    → walk_from (suc f) s parent least depth at ≡ shows (tree_events (name_shown name) v ++ es)
value_step f s parent least depth at name next p b v es w inside named x rises shallow le rest =
    let size : length p ≡ length w.x + (length w.names + (length w.y + length w.body)) =
    omega (
      arith,
      ap length w.joins,
      length-append w.x (w.names ++ (w.y ++ w.body)),
      length-append w.names (w.y ++ w.body),
      length-append w.y w.body,
    ) in
    step_value s parent least depth at name next p v b w inside named x rises shallow
    (next + length w.x) (next + length w.x + length w.names) (next + length w.x + length w.names + length w.y) (next + length p)
    refl refl refl (omega arith) f es le (rest (rest-next p b (next + length p) refl x))

-- a pad behind its name, and all that follows
pad_step : (f : ℕ) (s : List ℕ) (parent least depth at : ℕ) (name : Option ℕ) (next : ℕ) (p b : List ℕ) (es : List Event) → PadFound p → at < length s
    → name_at s parent at ≡ Ok (record { value = name; next = next }) → Rest s next (p ++ b)
    → (Rest s (next + length p) b → walk_from f s parent least depth (next + length p) ≡ shows es) → walk_from (suc f) s parent least depth at ≡ shows es
pad_step f s parent least depth at name next p b es w inside named x rest =
    step_pad s parent least depth at name next p b w inside named x (next + length p) refl f es (rest (rest-next p b (next + length p) refl x))

-- ---- members

pub no_name : (s : List ℕ) (parent at : ℕ) → has_names parent ≡ false → name_at s parent at ≡ Ok (record { value = None; next = at })
no_name s parent at e = rw e

found-members_pad : (p b : List ℕ) (vs : Members Scalar) → PadFound p → MembersFound b vs → MembersFound (p ++ b) vs
found-members_pad p b vs w ih zero s parent least depth at n t u x lt le = absurd (omega arith)
found-members_pad p b vs w ih (suc f) s parent least depth at n t u x lt le =
    pad_step f s parent least depth at None at p b (member_events vs) w (omega (arith, rest-length x, length-append p b, w.pos)) (no_name s parent at n) x
    (λ y. ih f s parent least depth (at + length p) n t u y (omega (arith, length-append p b, w.pos)) le)

found-members-next : (p b : List ℕ) (v : Value) (vs : Members Scalar) → OneFound p v → MembersFound b vs → MembersFound (p ++ b) (member v vs)
unfolding member_events members_depth
found-members-next p b v vs w ih zero s parent least depth at n t u x lt le = absurd (omega arith)
found-members-next p b v vs w ih (suc f) s parent least depth at n t u x lt le =
    let pos : 0 < length p = one_length w in
    value_step f s parent least depth at None at p b v (member_events vs) w (omega (arith, rest-length x, length-append p b))
    (no_name s parent at n) x (rw u) (higher_left (tree_depth v) (members_depth vs) depth le)
    (omega (arith, length-append p b)) (λ y. ih f s parent 0 depth (at + length p) n t u y (omega (arith, length-append p b))
    (higher_right (tree_depth v) (members_depth vs) depth le))

-- ---- fields

pub name_found : (s : List ℕ) (parent at k next : ℕ) (l r : List ℕ) → has_names parent ≡ true → VarUInt l k → next ≡ at + length l
    → Rest s at (l ++ r) → name_at s parent at ≡ Ok (record { value = Some k; next = next })
name_found s parent at k next l r n e p x = rw (n, number-found NotIon l r next e p x)

found-fields_pad : (l p b : List ℕ) (k : ℕ) (fs : Fields Scalar) → VarUInt l k → PadFound p → FieldsFound b fs → FieldsFound (l ++ (p ++ b)) fs
found-fields_pad l p b k fs e w ih zero s parent least depth at n t u x lt le = absurd (omega arith)
found-fields_pad l p b k fs e w ih (suc f) s parent least depth at n t u x lt le =
    let size : length (l ++ (p ++ b)) ≡ length l + (length p + length b) = omega (arith, length-append l (p ++ b), length-append p b) in
    pad_step f s parent least depth at (Some k) (at + length l) p b (field_events fs) w (omega (arith, rest-length x, w.pos))
    (name_found s parent at k (at + length l) l (p ++ b) n e refl x) (rest-next l (p ++ b) (at + length l) refl x)
    (λ y. ih f s parent least depth (at + length l + length p) n t u y (omega (arith, w.pos)) le)

pub rises : (parent least k : ℕ) (fs : Fields Scalar) (v : Value) → (is_sorted_struct parent ≡ true → sorted least (field k v fs) ≡ true)
    → (is_sorted_struct parent && ltb k least) ≡ false
rises parent least k fs v u =
    by_cases (is_sorted_struct parent)
    (λ p. let q = both {a = leb least k} (u p) in rw (p, le-ltb k least (leb-true least k q.0)))
    (λ p. rw p)

found-fields-next : (l p b : List ℕ) (k : ℕ) (v : Value) (fs : Fields Scalar) → VarUInt l k → OneFound p v → FieldsFound b fs
    → FieldsFound (l ++ (p ++ b)) (field k v fs)
unfolding field_events fields_depth
found-fields-next l p b k v fs e w ih zero s parent least depth at n t u x lt le = absurd (omega arith)
found-fields-next l p b k v fs e w ih (suc f) s parent least depth at n t u x lt le =
    let pos : 0 < length p = one_length w in
    let size : length (l ++ (p ++ b)) ≡ length l + (length p + length b) = omega (arith, length-append l (p ++ b), length-append p b) in
    value_step f s parent least depth at (Some k) (at + length l) p b v (field_events fs) w (omega (arith, rest-length x))
    (name_found s parent at k (at + length l) l (p ++ b) n e refl x) (rest-next l (p ++ b) (at + length l) refl x)
    (rises parent least k fs v u) (higher_left (tree_depth v) (fields_depth fs) depth le) (omega arith)
    (λ y. ih f s parent k depth (at + length l + length p) n t (λ q. (both {a = leb least k} (u q)).1) y (omega arith)
    (higher_right (tree_depth v) (fields_depth fs) depth le))

two_bytes : (l p b : List ℕ) {k : ℕ} → VarUInt l k → 0 < length p → length (l ++ (p ++ b)) ≢ 1
two_bytes l p b e h q = omega (arith, length-append l (p ++ b), length-append p b, var_uint_pos l e)

-- ---- streams

found_stream_pad : (p b : List ℕ) (is : List (Item Scalar)) → PadFound p → StreamFound b is → StreamFound (p ++ b) is
found_stream_pad p b is w ih zero s least at x lt le = absurd (omega arith)
found_stream_pad p b is w ih (suc f) s least at x lt le =
    pad_step f s 0 least 0 at None at p b (stream_events is) w (omega (arith, rest-length x, length-append p b, w.pos)) refl x
    (λ y. ih f s least (at + length p) y (omega (arith, length-append p b, w.pos)) le)

found_stream_next : (p b : List ℕ) (v : Value) (is : List (Item Scalar)) → OneFound p v → StreamFound b is → StreamFound (p ++ b) (value v ∷ is)
unfolding stream_events stream_depth
found_stream_next p b v is w ih zero s least at x lt le = absurd (omega arith)
found_stream_next p b v is w ih (suc f) s least at x lt le =
    let pos : 0 < length p = one_length w in
    let le' : 0 + higher (tree_depth v) (stream_depth is) ≤ 32 = omega arith in
    value_step f s 0 least 0 at None at p b v (stream_events is) w (omega (arith, rest-length x, length-append p b)) refl x refl
    (higher_left (tree_depth v) (stream_depth is) 0 le')
    (omega (arith, length-append p b)) (λ y. ih f s 0 (at + length p) y (omega (arith, length-append p b))
    (omega (arith, higher_right (tree_depth v) (stream_depth is) 0 le')))

found_stream_marker : (b : List ℕ) (is : List (Item Scalar)) → StreamFound b is → StreamFound (0xE0 ∷ 0x01 ∷ 0x00 ∷ 0xEA ∷ b) (marker ∷ is)
unfolding stream_events stream_depth
found_stream_marker b is ih zero s least at x lt le = absurd (omega arith)
found_stream_marker b is ih (suc f) s least at x lt le =
    step_marker least 0 f b (stream_events is) x
    (λ next e. ih f s 0 next (rest-next (0xE0 ∷ 0x01 ∷ 0x00 ∷ 0xEA ∷ []) b next e x) (omega arith) le)

-- ---- all productions

found-members_end : MembersFound [] no_members
unfolding member_events
found-members_end f s parent least depth at n t u x lt le = walk_ends f s parent least depth at x (omega arith)

found-fields_end : FieldsFound [] no_fields
unfolding field_events
found-fields_end f s parent least depth at n t u x lt le = walk_ends f s parent least depth at x (omega arith)

found_stream_end : StreamFound [] []
unfolding stream_events
found_stream_end f s least at x lt le = walk_ends f s 0 least 0 at x (omega arith)

pub found : {b : List ℕ} {t : Phrase} → b ⟶ t → Found b t
found (pad body hd) = pad_found body hd
found sids_end = sids_end
found (sids_next l e r) = sids_next l e r
found (is-null {an} {t} c e) = found_null an c t e
found (is_false {an}) = found-false an
found (is_true {an}) = found-true an
found (is_zero {an}) = found-zero an
found (is_float32 {an} b e) = found_float32 an b e
found (is_float64 {an} b e) = found_float64 an b e
found (is_scalar {an} c {h} {s} body hd e) = found_scalar an h c s body hd e
found (is-sequence {an} k {h} {body} {vs} hd bs) = found_sequence an h body k vs hd (found bs)
found (is_struct {an} {h} {body} {fs} hd bs) = let r = found bs in found_struct an h body fs hd r.0 r.1
found (is_sorted {an} {body} {fs} l e pos bs up) = let r = found bs in found-sorted an l body fs e pos r.0 up r.1
found (is_bare {b} {v} r) = one_bare b v (found r)
found (is_annotated {h} {s} {b} {an} {a} {v} l hd e ss r) = one_wrapped h l s b an a v hd e (sids_found ss) (found r)
found members_end = found-members_end
found (members_pad {p} {b} {vs} pd r) = found-members_pad p b vs (found pd) (found r)
found (members-next {p} {b} {v} {vs} x r) = found-members-next p b v vs (found x) (found r)
found fields_end = (λ q. omega arith, found-fields_end)
found (fields_pad {p} {b} {k} {fs} l e pd r) = let w = found pd in (two_bytes l p b e w.pos, found-fields_pad l p b k fs e w (found r).1)
found (fields-next {p} {b} {k} {v} {fs} l e x r) = let w = found x in (two_bytes l p b e (one_length w), found-fields-next l p b k v fs e w (found r).1)
found stream_end = found_stream_end
found (stream_pad {p} {b} {is} pd r) = found_stream_pad p b is (found pd) (found r)
found (stream_marker {b} {is} r) = found_stream_marker b is (found r)
found (stream_next {p} {b} {v} {is} x r) = found_stream_next p b v is (found x) (found r)

-- A reading of the bytes from a position on, with at most 32 containers open at once, is what the walk shows, to its end.
pub reading_is_walked : ReadingIsWalked
unfolding walk_in
reading_is_walked s at is h r le =
    rw (le-leb (length s) (length s) (omega arith), take-length s)
    (found r (suc (length s)) s 0 at (record { within = h; is = refl }) (omega (arith, length-drop at s)) le)

-- Where the walk is refused, no reading has at most 32 containers open.
pub refused_is_no_reading : (s : List ℕ) (at : ℕ) (is : List (Item Scalar)) (r : Refusal) (place : ℕ) → at ≤ length s
    → (walk s at).1 ≡ refused r place → Reads (drop at s) is → stream_depth is ≤ most_open → ⊥
refused_is_no_reading s at is r place h e x le =
    let w : ◌≡◌ {A = Ending} (Ok tt) (refused r place) = sym (ap (λ (y : Walk). y.1) (reading_is_walked s at is h x le)) ∙ e in
    absurd (cc)
