-- The other way: what the reader answers is a reading of the grammar. With `complete`, the reader accepts exactly the grammar.
-- Assumes nothing.
use Prim.Native.Nat.{ℕ, zero, suc, ◌+◌, ◌*◌, ◌/◌, ◌%◌, ◌<◌}
use native.Mathlib.Omega.{arith}
use native.Mathlib.Nat.{div-add-mod'}
use mathlib.Core.Path.{◌≡◌, refl, sym, ◌∙◌, ap, subst}
use mathlib.Core.Logic.{◌≢◌, ◌↔◌}
use mathlib.Core.Bool.{Bool, true, false, false≢true, ◌&&◌, not}
use mathlib.Core.List.{List, [], ◌∷◌, ◌++◌, append_assoc, append-nil}
use mathlib.Core.Option.{Option, none, some, some-injective, none-ne-some}
use lib.Dec.{ltb, leb, eqb}
use lib.ListN.{length, take, drop, take-append-drop}
use lib.Seq.{length-take-le}
use lib.Ieee.{binary32, binary64}
use Rattle.ion.specs.Value.{TypeCode, null_code, bool_code, positive_code, negative_code, float_code, decimal_code, timestamp_code, symbol_code}
use Rattle.ion.specs.Value.{string_code, clob_code, blob_code, list_code, sexp_code, struct_code, annotation_code, high_bits, null_type, sequence_code}
use Rattle.ion.specs.Value.{FloatValue, finite, Scalar, null, bool, float, list, sexp, Value, Members, scalar, sequence, struct, no_members}
use Rattle.ion.specs.Value.{member, Fields, no_fields, field, Item, marker, value}
use Rattle.ion.specs.Chain.{◌>>=◌, check}
use Rattle.ion.specs.Fields.{var_uint, VarUInt, uint}
use Rattle.ion.specs.Scalars.{float_of, scalar_of}
use Rattle.ion.specs.Grammar.{Header, short, long, sorted, padding, sids, bare, one, members, fields, stream, ◌⟶◌, pad, sids_end, sids_next}
use Rattle.ion.specs.Grammar.{is-null, is_false, is_true, is_zero, is_float32, is_float64, is_scalar, is-sequence, is_struct, is_sorted}
use Rattle.ion.specs.Grammar.{is_bare, is_annotated, members_end, members_pad, members-next, fields_end, fields_pad, fields-next, stream_end}
use Rattle.ion.specs.Grammar.{stream_pad, stream_marker, stream_next, Reads}
use Rattle.ion.proofs.Reader.{all_codes, find-code, Shape, pad_shape, scalar_shape, sequence_shape, struct_shape, wrapper_shape, code_of, cut}
use Rattle.ion.proofs.Reader.{length_of, framed, shape_of, plain, sorted_at, bool_at, bits_at, float_at, body_at, shape_at, shape, sids_of, is_nil}
use Rattle.ion.proofs.Reader.{bare_of, inner_of, wrapper_of, value_of, is_pad, next_member, next_field, next_item, or_else, after_marker, read_members}
use Rattle.ion.proofs.Reader.{read_fields, read_stream, reader}
use borrow.Author.Tests.{ltb-true, ltb-false, leb-true, eqb-true, eqb-false}
use Rattle.ion.proofs.Tests.{by_cases, both}
use Rattle.ion.proofs.Fields.{var_uint-split}
use Rattle.ion.proofs.Unique.{complete}

-- ---- answers through chains

-- an answer through a chain has an answer at each link
pub bind_some : {A B : Type 0} (m : Option A) (k : A → Option B) (y : B) → (m >>= k) ≡ some y → (a : A) × (m ≡ some a) × (k a ≡ some y)
bind_some none k y e = absurd (none-ne-some y e)
bind_some (some a) k y e = (a, refl, e)

check-some : {A : Type 0} (b : Bool) (m : Option A) (y : A) → check b m ≡ some y → (b ≡ true) × (m ≡ some y)
check-some true m y e = (refl, e)
check-some false m y e = absurd (none-ne-some y e)

-- ---- VarUInt and bodies

cut_split : (n : ℕ) (b x r : List ℕ) → cut n b ≡ some (x, r) → (b ≡ x ++ r) × (length x ≡ n)
unfolding cut
cut_split n b x r e =
    by_cases (leb n (length b))
    (λ p.
    let g : (take n b, drop n b) ≡ (x, r) = some-injective _ _ (rw (p, cut) at e) in (
      sym (take-append-drop n b) ∙ ap (λ (y : List ℕ × List ℕ). y.0 ++ y.1) g,
      sym (ap (λ (y : List ℕ × List ℕ). length y.0) g) ∙ length-take-le n b (leb-true _ _ p),
    ))
    (λ p. absurd (none-ne-some (x, r) (rw (p, cut) at e)))

-- ---- one header

-- the bytes that have a shape
abbrev pub Shaped : List ℕ → Shape → Type 0
Shaped p pad_shape = p ⟶ padding
Shaped p (scalar_shape s) = (an : List ℕ) → p ⟶ bare an (scalar an s)
Shaped p (sequence_shape k body) = (h : List ℕ) × (p ≡ h ++ body) × Header (sequence_code k) (length body) h
Shaped p (struct_shape false body) = (h : List ℕ) × (p ≡ h ++ body) × Header struct_code (length body) h
Shaped p (struct_shape true body) = (l : List ℕ) × (p ≡ 0xD1 ∷ (l ++ body)) × VarUInt l (length body) × (0 < length body)
Shaped p (wrapper_shape body) = (h : List ℕ) × (p ≡ h ++ body) × Header annotation_code (length body) h

-- the bytes b are a shape and the rest r
pub record Split (b : List ℕ) (x : Shape × List ℕ) : Type 0 where
  pub front : List ℕ
  pub joins : b ≡ front ++ x.1
  pub shaped : Shaped front x.0

-- the body behind a header, and the header
record Behind (c : TypeCode) (l : ℕ) (bs body r : List ℕ) : Type 0 where
  tail : List ℕ
  joins : bs ≡ tail ++ (body ++ r)
  header : Header c (length body) ((high_bits c * 16 + l) ∷ tail)

framed-split : (c : TypeCode) (l : ℕ) (bs body r : List ℕ) → l < 15 → framed l bs ≡ some (body, r) → Behind c l bs body r
unfolding framed length_of
framed-split c l bs body r lt e =
    by_cases (ltb l 14)
    (λ p.
    let q = cut_split l bs body r (rw (p, length_of) at e) in
    record {
      tail = [];
      joins = q.0;
      header =
          subst (λ (k : ℕ). Header c (length body) ((high_bits c * 16 + k) ∷ [])) q.1
          (short (subst (λ (k : ℕ). k < 14) (sym q.1) (ltb-true _ _ p)));
    })
    (λ p.
    let m = bind_some (var_uint bs) (λ n. cut n.0 n.1) (body, r) (rw (p, length_of) at e) in
    let v = var_uint-split bs m.0.0 m.0.1 m.1 in
    let q = cut_split m.0.0 m.0.1 body r m.2 in
    let d : l ≡ 14 = fourteen l lt p in
    record {
      tail = v.0;
      joins = v.1 ∙ ap (λ (y : List ℕ). v.0 ++ y) q.0;
      header = subst (λ (k : ℕ). Header c (length body) ((high_bits c * 16 + k) ∷ v.0)) (sym d) (long (v.2 ∙ ap (λ (k : ℕ). some (k, [])) (sym q.1)));
    })
  where
    fourteen : (k : ℕ) → k < 15 → ltb k 14 ≡ false → k ≡ 14
    fourteen k h n = omega (arith, ltb-false k 14 n)

scalar_sound : (c : TypeCode) (h body : List ℕ) (sh : Shape) → Header c (length body) h
    → (scalar_of c body >>= λ s. some (scalar_shape s)) ≡ some sh → Shaped (h ++ body) sh
scalar_sound c h body sh hd e =
    let m = bind_some (scalar_of c body) (λ s. some (scalar_shape s)) sh e in
    subst (Shaped (h ++ body)) (some-injective (scalar_shape m.0) sh m.2) (λ an. is_scalar c body hd m.1)

-- what a body makes
shape_of_sound : (c : TypeCode) (h body : List ℕ) (sh : Shape) → Header c (length body) h → shape_of c body ≡ some sh → Shaped (h ++ body) sh
unfolding shape_of
shape_of_sound null_code h body sh hd e = subst (Shaped (h ++ body)) (some-injective pad_shape sh e) (pad body hd)
shape_of_sound bool_code h body sh hd e = absurd (none-ne-some sh e)
shape_of_sound positive_code h body sh hd e = scalar_sound positive_code h body sh hd e
shape_of_sound negative_code h body sh hd e = scalar_sound negative_code h body sh hd e
shape_of_sound float_code h body sh hd e = absurd (none-ne-some sh e)
shape_of_sound decimal_code h body sh hd e = scalar_sound decimal_code h body sh hd e
shape_of_sound timestamp_code h body sh hd e = scalar_sound timestamp_code h body sh hd e
shape_of_sound symbol_code h body sh hd e = scalar_sound symbol_code h body sh hd e
shape_of_sound string_code h body sh hd e = scalar_sound string_code h body sh hd e
shape_of_sound clob_code h body sh hd e = scalar_sound clob_code h body sh hd e
shape_of_sound blob_code h body sh hd e = scalar_sound blob_code h body sh hd e
shape_of_sound list_code h body sh hd e = subst (Shaped (h ++ body)) (some-injective (sequence_shape list body) sh e) (h, refl, hd)
shape_of_sound sexp_code h body sh hd e = subst (Shaped (h ++ body)) (some-injective (sequence_shape sexp body) sh e) (h, refl, hd)
shape_of_sound struct_code h body sh hd e = subst (Shaped (h ++ body)) (some-injective (struct_shape false body) sh e) (h, refl, hd)
shape_of_sound annotation_code h body sh hd e = subst (Shaped (h ++ body)) (some-injective (wrapper_shape body) sh e) (h, refl, hd)

plain_sound : (c : TypeCode) (l : ℕ) (bs : List ℕ) (x : Shape × List ℕ) → l < 15 → plain c l bs ≡ some x → Split ((high_bits c * 16 + l) ∷ bs) x
unfolding plain
plain_sound c l bs x lt e =
    let m = bind_some (framed l bs) (λ y. shape_of c y.0 >>= λ sh. some (sh, y.1)) x e in
    let n = bind_some (shape_of c m.0.0) (λ sh. some (sh, m.0.1)) x m.2 in
    let b = framed-split c l bs m.0.0 m.0.1 lt m.1 in
    subst (Split ((high_bits c * 16 + l) ∷ bs)) (some-injective _ x n.2)
    (record {
      front = ((high_bits c * 16 + l) ∷ b.tail) ++ m.0.0;
      joins = ap (λ (y : List ℕ). (high_bits c * 16 + l) ∷ y) (b.joins ∙ sym (append_assoc b.tail m.0.0 m.0.1));
      shaped = shape_of_sound c ((high_bits c * 16 + l) ∷ b.tail) m.0.0 n.0 b.header n.1;
    })

-- a fixed first byte with nothing behind it
alone : (b : ℕ) (s : Scalar) (bs : List ℕ) (x : Shape × List ℕ) → ((an : List ℕ) → (b ∷ []) ⟶ bare an (scalar an s))
    → ◌≡◌ {A = Option (Shape × List ℕ)} (some (scalar_shape s, bs)) (some x) → Split (b ∷ bs) x
alone b s bs x r e = subst (Split (b ∷ bs)) (some-injective (scalar_shape s, bs) x e) (record { front = b ∷ []; joins = refl; shaped = r })

bool_sound : (l : ℕ) (bs : List ℕ) (x : Shape × List ℕ) → bool_at l bs ≡ some x → Split ((high_bits bool_code * 16 + l) ∷ bs) x
unfolding bool_at
bool_sound l bs x e =
    by_cases (eqb l 0)
    (λ p. rw (eqb-true l 0 p) (alone 16 (bool false) bs x (λ an. is_false) (rw (p, bool_at) at e)))
    (λ p. by_cases (eqb l 1)
    (λ q. rw (eqb-true l 1 q) (alone 17 (bool true) bs x (λ an. is_true) (rw (p, q, bool_at) at e)))
    (λ q. absurd (none-ne-some x (rw (p, q, bool_at) at e))))

bits_sound : (b : ℕ) (f : List ℕ → FloatValue) (n : ℕ) (bs : List ℕ) (x : Shape × List ℕ)
    → ((body an : List ℕ) → length body ≡ n → (b ∷ body) ⟶ bare an (scalar an (float (f body)))) → bits_at f n bs ≡ some x → Split (b ∷ bs) x
unfolding bits_at
bits_sound b f n bs x r e =
    let m = bind_some (cut n bs) (λ y. some (scalar_shape (float (f y.0)), y.1)) x e in
    let q = cut_split n bs m.0.0 m.0.1 m.1 in
    subst (Split (b ∷ bs)) (some-injective _ x m.2)
    (record { front = b ∷ m.0.0; joins = ap (λ (y : List ℕ). b ∷ y) q.0; shaped = λ an. r m.0.0 an q.1 })

float_sound : (l : ℕ) (bs : List ℕ) (x : Shape × List ℕ) → float_at l bs ≡ some x → Split ((high_bits float_code * 16 + l) ∷ bs) x
unfolding float_at
float_sound l bs x e =
    by_cases (eqb l 0)
    (λ p. rw (eqb-true l 0 p) (alone 64 (float (finite false 0)) bs x (λ an. is_zero) (rw (p, float_at) at e)))
    (λ p. by_cases (eqb l 4)
    (λ q. rw (eqb-true l 4 q) (bits_sound 68 (λ b. float_of binary32 (uint b)) 4 bs x (λ body an h. is_float32 body h) (rw (p, q, float_at) at e)))
    (λ q. by_cases (eqb l 8)
    (λ s. rw (eqb-true l 8 s) (bits_sound 72 (λ b. float_of binary64 (uint b)) 8 bs x (λ body an h. is_float64 body h) (rw (p, q, s, float_at) at e)))
    (λ s. absurd (none-ne-some x (rw (p, q, s, float_at) at e)))))

sorted_sound : (bs : List ℕ) (x : Shape × List ℕ) → sorted_at bs ≡ some x → Split (0xD1 ∷ bs) x
unfolding sorted_at
sorted_sound bs x e =
    let m = bind_some (var_uint bs) (λ n. check (ltb 0 n.0) (cut n.0 n.1 >>= λ y. some (struct_shape true y.0, y.1))) x e in
    let c = check-some (ltb 0 m.0.0) (cut m.0.0 m.0.1 >>= λ y. some (struct_shape true y.0, y.1)) x m.2 in
    let k = bind_some (cut m.0.0 m.0.1) (λ y. some (struct_shape true y.0, y.1)) x c.1 in
    let v = var_uint-split bs m.0.0 m.0.1 m.1 in
    let q = cut_split m.0.0 m.0.1 k.0.0 k.0.1 k.1 in
    subst (Split (0xD1 ∷ bs)) (some-injective _ x k.2)
    (record {
      front = 0xD1 ∷ (v.0 ++ k.0.0);
      joins = ap (λ (y : List ℕ). 0xD1 ∷ y) (v.1 ∙ ap (λ (y : List ℕ). v.0 ++ y) q.0 ∙ sym (append_assoc v.0 k.0.0 k.0.1));
      shaped = (v.0, refl, v.2 ∙ ap (λ (n : ℕ). some (n, [])) (sym q.1), subst (λ (n : ℕ). 0 < n) (sym q.1) (ltb-true _ _ c.0));
    })

struct_sound : (l : ℕ) (bs : List ℕ) (x : Shape × List ℕ) → l < 15 → body_at struct_code l bs ≡ some x → Split ((high_bits struct_code * 16 + l) ∷ bs) x
unfolding body_at
struct_sound l bs x lt e =
    by_cases (eqb l 1)
    (λ p. rw (eqb-true l 1 p) (sorted_sound bs x (rw (p, body_at) at e)))
    (λ p. plain_sound struct_code l bs x lt (rw (p, body_at) at e))

body_sound : (c : TypeCode) (l : ℕ) (bs : List ℕ) (x : Shape × List ℕ) → l < 15 → body_at c l bs ≡ some x → Split ((high_bits c * 16 + l) ∷ bs) x
body_sound null_code l bs x lt e = plain_sound null_code l bs x lt (unfold body_at in e)
body_sound bool_code l bs x lt e = bool_sound l bs x (unfold body_at in e)
body_sound positive_code l bs x lt e = plain_sound positive_code l bs x lt (unfold body_at in e)
body_sound negative_code l bs x lt e = plain_sound negative_code l bs x lt (unfold body_at in e)
body_sound float_code l bs x lt e = float_sound l bs x (unfold body_at in e)
body_sound decimal_code l bs x lt e = plain_sound decimal_code l bs x lt (unfold body_at in e)
body_sound timestamp_code l bs x lt e = plain_sound timestamp_code l bs x lt (unfold body_at in e)
body_sound symbol_code l bs x lt e = plain_sound symbol_code l bs x lt (unfold body_at in e)
body_sound string_code l bs x lt e = plain_sound string_code l bs x lt (unfold body_at in e)
body_sound clob_code l bs x lt e = plain_sound clob_code l bs x lt (unfold body_at in e)
body_sound blob_code l bs x lt e = plain_sound blob_code l bs x lt (unfold body_at in e)
body_sound list_code l bs x lt e = plain_sound list_code l bs x lt (unfold body_at in e)
body_sound sexp_code l bs x lt e = plain_sound sexp_code l bs x lt (unfold body_at in e)
body_sound struct_code l bs x lt e = struct_sound l bs x lt e
body_sound annotation_code l bs x lt e = plain_sound annotation_code l bs x lt (unfold body_at in e)

at_sound : (c : TypeCode) (l : ℕ) (bs : List ℕ) (x : Shape × List ℕ) → l < 16 → shape_at c l bs ≡ some x → Split ((high_bits c * 16 + l) ∷ bs) x
unfolding shape_at
at_sound c l bs x lt e =
    by_cases (eqb l 15)
    (λ p.
    let m = bind_some (null_type c) (λ t. some (scalar_shape (null t), bs)) x (rw (p, shape_at) at e) in
    rw (eqb-true l 15 p) (alone (high_bits c * 16 + 15) (null m.0) bs x (λ an. is-null c m.1) m.2))
    (λ p. body_sound c l bs x (less l lt p) (rw (p, shape_at) at e))
  where
    less : (k : ℕ) → k < 16 → eqb k 15 ≡ false → k < 15
    less k h q = let n : k ≢ 15 = eqb-false k 15 q in omega arith

pub shape_sound : (b : List ℕ) (x : Shape × List ℕ) → shape b ≡ some x → Split b x
unfolding shape
shape_sound [] x e = absurd (none-ne-some x e)
shape_sound (b ∷ bs) x e =
    let m = bind_some (code_of (b / 16)) (λ c. shape_at c (b % 16) bs) x e in
    let q : high_bits m.0 * 16 + b % 16 ≡ b = ap (λ (k : ℕ). k * 16 + b % 16) (find-code (b / 16) all_codes m.0 m.1) ∙ div-add-mod' b 16 in
    subst (λ (k : ℕ). Split (k ∷ bs) x) q (at_sound m.0 (b % 16) bs x (omega arith) m.2)

-- ---- values

sids_sound : (f : ℕ) (b an : List ℕ) → sids_of f b ≡ some an → b ⟶ sids an
unfolding sids_of
sids_sound zero b an e = absurd (none-ne-some an e)
sids_sound (suc f) [] an e = subst (λ (x : List ℕ). [] ⟶ sids x) (some-injective [] an e) sids_end
sids_sound (suc f) (b ∷ bs) an e =
    let m = bind_some (var_uint (b ∷ bs)) (λ x. sids_of f x.1 >>= λ y. some (x.0 ∷ y)) an e in
    let n = bind_some (sids_of f m.0.1) (λ y. some (m.0.0 ∷ y)) an m.2 in
    let v = var_uint-split (b ∷ bs) m.0.0 m.0.1 m.1 in
    subst (λ (x : List ℕ). (b ∷ bs) ⟶ sids x) (some-injective _ an n.2)
    (subst (λ (x : List ℕ). x ⟶ sids (m.0.0 ∷ n.0)) (sym v.1) (sids_next v.0 v.2 (sids_sound f m.0.1 n.0 n.1)))

module _ (f : List ℕ → Option (Members Scalar)) (g : List ℕ → Option (Fields Scalar))
    (ihf : (b : List ℕ) (vs : Members Scalar) → f b ≡ some vs → b ⟶ members vs)
    (ihg : (b : List ℕ) (fs : Fields Scalar) → g b ≡ some fs → b ⟶ fields fs) where
  bare_sound : (an p : List ℕ) (sh : Shape) (v : Value) → Shaped p sh → bare_of f g an sh ≡ some v → p ⟶ bare an v
  unfolding bare_of
  bare_sound an p pad_shape v s e = absurd (none-ne-some v e)
  bare_sound an p (scalar_shape x) v s e = subst (λ (y : Value). p ⟶ bare an y) (some-injective (scalar an x) v e) (s an)
  bare_sound an p (sequence_shape k body) v s e =
      let m = bind_some (f body) (λ vs. some (sequence an k vs)) v e in
      subst (λ (y : Value). p ⟶ bare an y) (some-injective (sequence an k m.0) v m.2)
      (subst (λ (y : List ℕ). y ⟶ bare an (sequence an k m.0)) (sym s.1) (is-sequence k s.2 (ihf body m.0 m.1)))
  bare_sound an p (struct_shape false body) v s e =
      let m = bind_some (g body) (λ fs. check true (some (struct an fs))) v e in
      subst (λ (y : Value). p ⟶ bare an y) (some-injective (struct an m.0) v m.2)
      (subst (λ (y : List ℕ). y ⟶ bare an (struct an m.0)) (sym s.1) (is_struct s.2 (ihg body m.0 m.1)))
  bare_sound an p (struct_shape true body) v s e =
      let m = bind_some (g body) (λ fs. check (sorted 0 fs) (some (struct an fs))) v e in
      let c = check-some (sorted 0 m.0) (some (struct an m.0)) v m.2 in
      subst (λ (y : Value). p ⟶ bare an y) (some-injective (struct an m.0) v c.1)
      (subst (λ (y : List ℕ). y ⟶ bare an (struct an m.0)) (sym s.1) (is_sorted s.0 s.2 s.3 (ihg body m.0 m.1) c.0))
  bare_sound an p (wrapper_shape body) v s e = absurd (none-ne-some v e)

  nil_of : (r : List ℕ) → is_nil r ≡ true → r ≡ []
  nil_of [] e = refl
  nil_of (x ∷ xs) e = absurd (false≢true e)

  inner_sound : (an b : List ℕ) (v : Value) → inner_of f g an b ≡ some v → b ⟶ bare an v
  unfolding inner_of
  inner_sound an b v e =
      let m = bind_some (shape b) (λ x. check (is_nil x.1) (bare_of f g an x.0)) v e in
      let c = check-some (is_nil m.0.1) (bare_of f g an m.0.0) v m.2 in
      let s = shape_sound b m.0 m.1 in
      let q : b ≡ s.front = s.joins ∙ ap (λ (r : List ℕ). s.front ++ r) (nil_of m.0.1 c.0) ∙ append-nil s.front in
      subst (λ (y : List ℕ). y ⟶ bare an v) (sym q) (bare_sound an s.front m.0.0 v s.shaped c.1)

  -- the body of an annotation wrapper
  wrapped_sound : (h l s b an : List ℕ) (v : Value) → Header annotation_code (length (l ++ (s ++ b))) h → VarUInt l (length s) → s ⟶ sids an
      → not (is_nil an) ≡ true → b ⟶ bare an v → (h ++ (l ++ (s ++ b))) ⟶ one v
  wrapped_sound h l s b [] v hd e r n q = absurd (false≢true n)
  wrapped_sound h l s b (a ∷ an) v hd e r n q = is_annotated l hd e r q

  wrapper_sound : (h body : List ℕ) (v : Value) → Header annotation_code (length body) h → wrapper_of f g body ≡ some v → (h ++ body) ⟶ one v
  unfolding wrapper_of
  wrapper_sound h body v hd e =
      let m =
      bind_some (var_uint body)
      (λ n. cut n.0 n.1 >>= λ x. sids_of (suc (length x.0)) x.0 >>= λ an. check (not (is_nil an)) (inner_of f g an x.1)) v
      e in
      let k =
      bind_some (cut m.0.0 m.0.1)
      (λ x. sids_of (suc (length x.0)) x.0 >>= λ an. check (not (is_nil an)) (inner_of f g an x.1)) v m.2 in
      let a = bind_some (sids_of (suc (length k.0.0)) k.0.0) (λ an. check (not (is_nil an)) (inner_of f g an k.0.1)) v k.2 in
      let c = check-some (not (is_nil a.0)) (inner_of f g a.0 k.0.1) v a.2 in
      let w = var_uint-split body m.0.0 m.0.1 m.1 in
      let q = cut_split m.0.0 m.0.1 k.0.0 k.0.1 k.1 in
      let t : body ≡ w.0 ++ (k.0.0 ++ k.0.1) = w.1 ∙ ap (λ (y : List ℕ). w.0 ++ y) q.0 in
      subst (λ (y : List ℕ). (h ++ y) ⟶ one v) (sym t)
      (wrapped_sound h w.0 k.0.0 k.0.1 a.0 v (subst (λ (y : List ℕ). Header annotation_code (length y) h) t hd)
      (w.2 ∙ ap (λ (n : ℕ). some (n, [])) (sym q.1)) (sids_sound (suc (length k.0.0)) k.0.0 a.0 a.1) c.0
      (inner_sound a.0 k.0.1 v c.1))

  value_sound : (p : List ℕ) (sh : Shape) (v : Value) → Shaped p sh → value_of f g sh ≡ some v → p ⟶ one v
  unfolding value_of
  value_sound p pad_shape v s e = absurd (none-ne-some v e)
  value_sound p (scalar_shape x) v s e = is_bare (bare_sound [] p (scalar_shape x) v s e)
  value_sound p (sequence_shape k body) v s e = is_bare (bare_sound [] p (sequence_shape k body) v s e)
  value_sound p (struct_shape t body) v s e = is_bare (bare_sound [] p (struct_shape t body) v s e)
  value_sound p (wrapper_shape body) v s e = subst (λ (y : List ℕ). y ⟶ one v) (sym s.1) (wrapper_sound s.0 body v s.2 e)

pad_sound : (p : List ℕ) (sh : Shape) → Shaped p sh → is_pad sh ≡ true → p ⟶ padding
unfolding is_pad
pad_sound p pad_shape s e = s
pad_sound p (scalar_shape x) s e = absurd (false≢true e)
pad_sound p (sequence_shape k body) s e = absurd (false≢true e)
pad_sound p (struct_shape t body) s e = absurd (false≢true e)
pad_sound p (wrapper_shape body) s e = absurd (false≢true e)

-- ---- members, fields and streams

-- the readers of bodies, with fuel n, answer readings
module _ (n : ℕ)
    (ihf : (b : List ℕ) (vs : Members Scalar) → read_members n b ≡ some vs → b ⟶ members vs)
    (ihg : (b : List ℕ) (fs : Fields Scalar) → read_fields n b ≡ some fs → b ⟶ fields fs) where
  value_at : Shape → Option Value
  value_at sh = value_of (λ c. read_members n c) (λ c. read_fields n c) sh

  at_value : (p : List ℕ) (sh : Shape) (v : Value) → Shaped p sh → value_at sh ≡ some v → p ⟶ one v
  unfolding value_at
  at_value p sh v s e = value_sound (λ c. read_members n c) (λ c. read_fields n c) ihf ihg p sh v s e

  values_front : (p r : List ℕ) (sh : Shape) (vs : Members Scalar) → Shaped p sh
      → next_member (is_pad sh) (value_at sh) (read_members n r) ≡ some vs → (p ++ r) ⟶ members vs
  unfolding next_member
  values_front p r sh vs s e =
      by_cases (is_pad sh)
      (λ q. members_pad (pad_sound p sh s q) (ihf r vs (rw (q, next_member) at e)))
      (λ q.
      let m = bind_some (value_at sh) (λ x. read_members n r >>= λ xs. some (member x xs)) vs (rw (q, next_member) at e) in
      let k = bind_some (read_members n r) (λ xs. some (member m.0 xs)) vs m.2 in
      subst (λ (y : Members Scalar). (p ++ r) ⟶ members y) (some-injective (member m.0 k.0) vs k.2)
      (members-next (at_value p sh m.0 s m.1) (ihf r k.0 k.1)))

  fields_front : (l p r : List ℕ) (k : ℕ) (sh : Shape) (fs : Fields Scalar) → VarUInt l k → Shaped p sh
      → next_field (is_pad sh) k (value_at sh) (read_fields n r) ≡ some fs → (l ++ (p ++ r)) ⟶ fields fs
  unfolding next_field
  fields_front l p r k sh fs v s e =
      by_cases (is_pad sh)
      (λ q. fields_pad l v (pad_sound p sh s q) (ihg r fs (rw (q, next_field) at e)))
      (λ q.
      let m = bind_some (value_at sh) (λ x. read_fields n r >>= λ xs. some (field k x xs)) fs (rw (q, next_field) at e) in
      let j = bind_some (read_fields n r) (λ xs. some (field k m.0 xs)) fs m.2 in
      subst (λ (y : Fields Scalar). (l ++ (p ++ r)) ⟶ fields y) (some-injective (field k m.0 j.0) fs j.2)
      (fields-next l v (at_value p sh m.0 s m.1) (ihg r j.0 j.1)))

  members_step : (b : List ℕ) (vs : Members Scalar)
      → (shape b >>= λ x. next_member (is_pad x.0) (value_of (λ c. read_members n c) (λ c. read_fields n c) x.0) (read_members n x.1))
      ≡ some vs
      → b ⟶ members vs
  unfolding value_at
  members_step b vs e =
      let m = bind_some (shape b) (λ x. next_member (is_pad x.0) (value_at x.0) (read_members n x.1)) vs e in
      let s = shape_sound b m.0 m.1 in
      subst (λ (y : List ℕ). y ⟶ members vs) (sym s.joins) (values_front s.front m.0.1 m.0.0 vs s.shaped m.2)

  fields_step : (b : List ℕ) (fs : Fields Scalar)
      → (var_uint b >>= λ k. shape k.1
      >>= λ x. next_field (is_pad x.0) k.0 (value_of (λ c. read_members n c) (λ c. read_fields n c) x.0) (read_fields n x.1))
      ≡ some fs
      → b ⟶ fields fs
  unfolding value_at
  fields_step b fs e =
      let k = bind_some (var_uint b) (λ k. shape k.1 >>= λ x. next_field (is_pad x.0) k.0 (value_at x.0) (read_fields n x.1)) fs e in
      let m = bind_some (shape k.0.1) (λ x. next_field (is_pad x.0) k.0.0 (value_at x.0) (read_fields n x.1)) fs k.2 in
      let v = var_uint-split b k.0.0 k.0.1 k.1 in
      let s = shape_sound k.0.1 m.0 m.1 in
      subst (λ (y : List ℕ). y ⟶ fields fs) (sym (v.1 ∙ ap (λ (y : List ℕ). v.0 ++ y) s.joins))
      (fields_front v.0 s.front m.0.1 k.0.0 m.0.0 fs v.2 s.shaped m.2)

mutual
  unfolding read_members

  pub members_sound : (n : ℕ) (b : List ℕ) (vs : Members Scalar) → read_members n b ≡ some vs → b ⟶ members vs
  members_sound zero b vs e = absurd (none-ne-some vs e)
  members_sound (suc n) [] vs e = subst (λ (y : Members Scalar). [] ⟶ members y) (some-injective no_members vs e) members_end
  members_sound (suc n) (b ∷ bs) vs e = members_step n (λ c x q. members_sound n c x q) (λ c x q. fields_sound n c x q) (b ∷ bs) vs e

  pub fields_sound : (n : ℕ) (b : List ℕ) (fs : Fields Scalar) → read_fields n b ≡ some fs → b ⟶ fields fs
  fields_sound zero b fs e = absurd (none-ne-some fs e)
  fields_sound (suc n) [] fs e = subst (λ (y : Fields Scalar). [] ⟶ fields y) (some-injective no_fields fs e) fields_end
  fields_sound (suc n) (b ∷ bs) fs e = fields_step n (λ c x q. members_sound n c x q) (λ c x q. fields_sound n c x q) (b ∷ bs) fs e

or_some : {A X : Type 0} (a b : Option A) (y : A) → or_else a b ≡ some y → (a ≡ some y → X) → (b ≡ some y → X) → X
unfolding or_else
or_some (some a) b y e f g = f e
or_some none b y e f g = g e

marker-split : (b r : List ℕ) → after_marker b ≡ some r → b ≡ 0xE0 ∷ 0x01 ∷ 0x00 ∷ 0xEA ∷ r
unfolding after_marker
marker-split [] r e = absurd (none-ne-some r e)
marker-split (a ∷ []) r e = absurd (none-ne-some r e)
marker-split (a ∷ b ∷ []) r e = absurd (none-ne-some r e)
marker-split (a ∷ b ∷ c ∷ []) r e = absurd (none-ne-some r e)
marker-split (a ∷ b ∷ c ∷ d ∷ s) r e =
    by_cases (eqb a 0xE0 && (eqb b 1 && (eqb c 0 && eqb d 0xEA)))
    (λ p.
    let x = both {a = eqb a 0xE0} p in
    let y = both {a = eqb b 1} x.1 in
    let z = both {a = eqb c 0} y.1 in
    rw (eqb-true a 0xE0 x.0, eqb-true b 1 y.0, eqb-true c 0 z.0, eqb-true d 0xEA z.1, some-injective s r (rw (p, after_marker) at e)))
    (λ p. absurd (none-ne-some r (rw (p, after_marker) at e)))

items_front : (n : ℕ) (p r : List ℕ) (sh : Shape) (o : Option (List (Item Scalar))) (is : List (Item Scalar)) → Shaped p sh
    → ((x : List (Item Scalar)) → o ≡ some x → r ⟶ stream x)
    → next_item (is_pad sh) (value_of (λ c. read_members n c) (λ c. read_fields n c) sh) o ≡ some is → (p ++ r) ⟶ stream is
unfolding next_item
items_front n p r sh o is s ih e =
    by_cases (is_pad sh)
    (λ q. stream_pad (pad_sound p sh s q) (ih is (rw (q, next_item) at e)))
    (λ q.
    let m = bind_some (value_of (λ c. read_members n c) (λ c. read_fields n c) sh) (λ x. o >>= λ xs. some (value x ∷ xs)) is (rw (q, next_item) at e) in
    let k = bind_some o (λ xs. some (value m.0 ∷ xs)) is m.2 in
    subst (λ (y : List (Item Scalar)). (p ++ r) ⟶ stream y) (some-injective (value m.0 ∷ k.0) is k.2)
    (stream_next (value_sound (λ c. read_members n c) (λ c. read_fields n c) (members_sound n) (fields_sound n) p sh m.0 s m.1) (ih k.0 k.1)))

step_sound : (n : ℕ) (b : List ℕ) (is : List (Item Scalar)) → ((c : List ℕ) (x : List (Item Scalar)) → read_stream n c ≡ some x → Reads c x)
    → or_else (shape b >>= λ x. next_item (is_pad x.0) (value_of (λ c. read_members (suc n) c) (λ c. read_fields (suc n) c) x.0) (read_stream n x.1))
    (after_marker b >>= λ r. read_stream n r >>= λ xs. some (marker ∷ xs)) ≡ some is → Reads b is
step_sound n b is ih e =
    or_some (shape b >>= λ x. next_item (is_pad x.0) (value_of (λ c. read_members (suc n) c) (λ c. read_fields (suc n) c) x.0) (read_stream n x.1))
    (after_marker b >>= λ r. read_stream n r >>= λ xs. some (marker ∷ xs)) is e
    (λ q.
    let m =
    bind_some (shape b)
    (λ x. next_item (is_pad x.0) (value_of (λ c. read_members (suc n) c) (λ c. read_fields (suc n) c) x.0) (read_stream n x.1)) is
    q in
    let s = shape_sound b m.0 m.1 in
    subst (λ (y : List ℕ). Reads y is) (sym s.joins)
    (items_front (suc n) s.front m.0.1 m.0.0 (read_stream n m.0.1) is s.shaped (ih m.0.1) m.2))
    (λ q.
    let m = bind_some (after_marker b) (λ r. read_stream n r >>= λ xs. some (marker ∷ xs)) is q in
    let k = bind_some (read_stream n m.0) (λ xs. some (marker ∷ xs)) is m.2 in
    subst (λ (y : List (Item Scalar)). Reads b y) (some-injective (marker ∷ k.0) is k.2)
    (subst (λ (y : List ℕ). Reads y (marker ∷ k.0)) (sym (marker-split b m.0 m.1)) (stream_marker (ih m.0 k.0 k.1))))

pub stream_sound : (n : ℕ) (b : List ℕ) (is : List (Item Scalar)) → read_stream n b ≡ some is → Reads b is
unfolding read_stream
stream_sound zero b is e = absurd (none-ne-some is e)
stream_sound (suc n) [] is e = subst (λ (y : List (Item Scalar)). [] ⟶ stream y) (some-injective [] is e) stream_end
stream_sound (suc n) (b ∷ bs) is e = step_sound n (b ∷ bs) is (λ c x q. stream_sound n c x q) e

-- ---- the reader accepts exactly the grammar

pub exactly : (b : List ℕ) (is : List (Item Scalar)) → Reads b is ↔ (reader b ≡ some is)
unfolding reader
exactly b is = (λ r. complete r (suc (length b)) (omega arith), stream_sound (suc (length b)) b is)
