-- Every reading is what the reader answers; so two readings of the same bytes are equal.
-- Assumes nothing.
use Prim.Native.Nat.{ℕ, zero, suc, ◌+◌, ◌*◌, ◌%◌, ◌^◌, ◌<◌, ◌≤◌}
use native.Mathlib.Omega.{arith}
use mathlib.Core.Path.{◌≡◌, refl, sym, ◌∙◌}
use mathlib.Core.Logic.{◌≢◌}
use mathlib.Core.Bool.{Bool, true, false}
use mathlib.Core.List.{List, [], ◌∷◌, ◌++◌, append_assoc, append-nil}
use mathlib.Core.Option.{Option, none, some, some-injective, none-ne-some}
use lib.Dec.{ltb}
use lib.ListN.{length, length-append}
use Rattle.ion.specs.Value.{IonType, TypeCode, null_code, bool_code, positive_code, negative_code, float_code, decimal_code, timestamp_code}
use Rattle.ion.specs.Value.{symbol_code, string_code, clob_code, blob_code, list_code, sexp_code, struct_code, annotation_code, high_bits, null_type}
use Rattle.ion.specs.Value.{sequence_code, FloatValue, finite, Scalar, null, bool, float, SequenceType, list, sexp, Value, scalar, sequence}
use Rattle.ion.specs.Value.{struct, Members, no_members, member, Fields, no_fields, field, Item, marker, value}
use lib.Ieee.{binary32, binary64}
use Rattle.ion.specs.Fields.{groups, var_uint, VarUInt, uint}
use Rattle.ion.specs.Scalars.{float_of, scalar_of}
use Rattle.ion.specs.Grammar.{Header, short, long, sorted, Phrase, padding, sids, bare, one, members, fields, stream, ◌⟶◌, pad, sids_end}
use Rattle.ion.specs.Grammar.{sids_next, is-null, is_false, is_true, is_zero, is_float32, is_float64, is_scalar, is-sequence, is_struct}
use Rattle.ion.specs.Grammar.{is_sorted, is_bare, is_annotated, members_end, members_pad, members-next, fields_end, fields_pad, fields-next}
use Rattle.ion.specs.Grammar.{stream_end, stream_pad, stream_marker, stream_next, Reads}
use borrow.Author.Tests.{lt-ltb, ne_eqb}
use Rattle.ion.proofs.Tests.{by_cases}
use Rattle.ion.proofs.Fields.{var_uint_append, var_uint_pos}
use Rattle.ion.proofs.Reader.{Shape, pad_shape, scalar_shape, sequence_shape, struct_shape, wrapper_shape, cut_seam, shape, shape_at, body_at}
use Rattle.ion.proofs.Reader.{sorted_at, bool_at, bits_at, float_at, plain, shape_of, shape_header, shape_td, shape_at-body, opened, plain_code}
use Rattle.ion.proofs.Reader.{sids_of, bare_of, inner_of, wrapper_of, value_of, is_pad, next_member, next_field, next_item, read_members, read_fields}
use Rattle.ion.proofs.Reader.{after_marker, or_else, read_stream}

-- neither a pad nor an annotation wrapper
pub ordinary : Shape → Bool
ordinary pad_shape = false
ordinary (scalar_shape s) = true
ordinary (sequence_shape k body) = true
ordinary (struct_shape t body) = true
ordinary (wrapper_shape body) = false

pub record BareRead (f : ℕ) (an b : List ℕ) (v : Value) : Type 0 where
  pub sh : Shape
  pub at : (r : List ℕ) → shape (b ++ r) ≡ some (sh, r)
  pub kind : ordinary sh ≡ true
  pub gives : bare_of (λ c. read_members f c) (λ c. read_fields f c) an sh ≡ some v

pub record ValueRead (f : ℕ) (b : List ℕ) (v : Value) : Type 0 where
  pub sh : Shape
  pub at : (r : List ℕ) → shape (b ++ r) ≡ some (sh, r)
  pub kind : is_pad sh ≡ false
  pub gives : value_of (λ c. read_members f c) (λ c. read_fields f c) sh ≡ some v

-- ---- single steps of the reader

step_members : (f : ℕ) (b r : List ℕ) (sh : Shape) (v : Value) (vs : Members Scalar) → shape b ≡ some (sh, r) → is_pad sh ≡ false
    → value_of (λ c. read_members f c) (λ c. read_fields f c) sh ≡ some v → read_members f r ≡ some vs → read_members (suc f) b ≡ some (member v vs)
unfolding read_members shape next_member
step_members f [] r sh v vs p q x y = cc
step_members f (b ∷ bs) r sh v vs p q x y = rw (p, read_members, q, x, y)

step_members_pad : (f : ℕ) (b r : List ℕ) (vs : Members Scalar) → shape b ≡ some (pad_shape, r) → read_members f r ≡ some vs → read_members (suc f) b ≡ some vs
unfolding read_members shape is_pad next_member
step_members_pad f [] r vs p y = cc
step_members_pad f (b ∷ bs) r vs p y = rw (p, read_members, y)

step_fields : (f : ℕ) (b s r : List ℕ) (k : ℕ) (sh : Shape) (v : Value) (fs : Fields Scalar) → var_uint b ≡ some (k, s)
    → shape s ≡ some (sh, r) → is_pad sh ≡ false
    → value_of (λ c. read_members f c) (λ c. read_fields f c) sh ≡ some v → read_fields f r ≡ some fs → read_fields (suc f) b ≡ some (field k v fs)
unfolding read_fields var_uint groups next_field
step_fields f [] s r k sh v fs o p q x y = cc
step_fields f (b ∷ bs) s r k sh v fs o p q x y = rw (o, read_fields, p, q, x, y)

step_fields_pad : (f : ℕ) (b s r : List ℕ) (k : ℕ) (fs : Fields Scalar) → var_uint b ≡ some (k, s) → shape s ≡ some (pad_shape, r)
    → read_fields f r ≡ some fs → read_fields (suc f) b ≡ some fs
unfolding read_fields var_uint groups is_pad next_field
step_fields_pad f [] s r k fs o p y = cc
step_fields_pad f (b ∷ bs) s r k fs o p y = rw (o, read_fields, p, y)

-- ---- lengths

pub header_pos : {c : TypeCode} {n : ℕ} {h : List ℕ} → Header c n h → 0 < length h
header_pos (short lt) = omega arith
header_pos (long e) = omega arith

-- ---- what completeness says of each kind of phrase, and each production

abbrev pub Result : List ℕ → Phrase → Type 0
Result b padding = (0 < length b) × ((r : List ℕ) → shape (b ++ r) ≡ some (pad_shape, r))
Result b (sids an) = (f : ℕ) → length b < f → sids_of f b ≡ some an
Result b (bare an v) = (0 < length b) × ((f : ℕ) → length b ≤ f → BareRead f an b v)
Result b (one v) = (0 < length b) × ((f : ℕ) → length b ≤ f → ValueRead f b v)
Result b (members vs) = (f : ℕ) → length b < f → read_members f b ≡ some vs
Result b (fields fs) = (f : ℕ) → length b < f → read_fields f b ≡ some fs
Result b (stream is) = (f : ℕ) → length b < f → read_stream f b ≡ some is

complete_pad : {h : List ℕ} (body : List ℕ) → Header null_code (length body) h → Result (h ++ body) padding
unfolding shape_of plain_code
complete_pad body hd = (simp length-append (omega (arith, header_pos hd)), λ r. shape_header null_code body r pad_shape refl hd refl)

complete_sids : (l b an : List ℕ) (a : ℕ) → VarUInt l a → Result b (sids an) → Result (l ++ b) (sids (a ∷ an))
unfolding sids_of var_uint groups
complete_sids l b an a e ih zero lt = absurd (omega arith)
complete_sids [] b an a e ih (suc f) lt = cc
complete_sids (x ∷ xs) b an a e ih (suc f) lt =
    rw (var_uint_append (x ∷ xs) a [] b e, ih f (omega (arith, length-append xs b)))

scalar_plain : (c : TypeCode) (body : List ℕ) (s : Scalar) → scalar_of c body ≡ some s → plain_code c ≡ true
unfolding scalar_of plain_code
scalar_plain null_code body s e = cc
scalar_plain bool_code body s e = cc
scalar_plain positive_code body s e = refl
scalar_plain negative_code body s e = refl
scalar_plain float_code body s e = cc
scalar_plain decimal_code body s e = refl
scalar_plain timestamp_code body s e = refl
scalar_plain symbol_code body s e = refl
scalar_plain string_code body s e = refl
scalar_plain clob_code body s e = refl
scalar_plain blob_code body s e = refl
scalar_plain list_code body s e = cc
scalar_plain sexp_code body s e = cc
scalar_plain struct_code body s e = cc
scalar_plain annotation_code body s e = cc

scalar-shape : (c : TypeCode) (body : List ℕ) (s : Scalar) → scalar_of c body ≡ some s → shape_of c body ≡ some (scalar_shape s)
unfolding shape_of
scalar-shape null_code body s e = let q : ◌≡◌ {A = Option Scalar} none (some s) = unfold scalar_of in e in cc
scalar-shape bool_code body s e = let q : ◌≡◌ {A = Option Scalar} none (some s) = unfold scalar_of in e in cc
scalar-shape positive_code body s e = rw e
scalar-shape negative_code body s e = rw e
scalar-shape float_code body s e = let q : ◌≡◌ {A = Option Scalar} none (some s) = unfold scalar_of in e in cc
scalar-shape decimal_code body s e = rw e
scalar-shape timestamp_code body s e = rw e
scalar-shape symbol_code body s e = rw e
scalar-shape string_code body s e = rw e
scalar-shape clob_code body s e = rw e
scalar-shape blob_code body s e = rw e
scalar-shape list_code body s e = let q : ◌≡◌ {A = Option Scalar} none (some s) = unfold scalar_of in e in cc
scalar-shape sexp_code body s e = let q : ◌≡◌ {A = Option Scalar} none (some s) = unfold scalar_of in e in cc
scalar-shape struct_code body s e = let q : ◌≡◌ {A = Option Scalar} none (some s) = unfold scalar_of in e in cc
scalar-shape annotation_code body s e = let q : ◌≡◌ {A = Option Scalar} none (some s) = unfold scalar_of in e in cc

-- an ordinary shape at the front, of the bytes b
module _ (an b : List ℕ) (v : Value) (sh : Shape) (pos : 0 < length b) (at : (r : List ℕ) → shape (b ++ r) ≡ some (sh, r)) (ord : ordinary sh ≡ true) where
  complete_bare : ((f : ℕ) → length b ≤ f → bare_of (λ c. read_members f c) (λ c. read_fields f c) an sh ≡ some v) → Result b (bare an v)
  complete_bare g = (pos, λ f le. record { sh = sh; at = at; kind = ord; gives = g f le })

framed_pos : {c : TypeCode} {n : ℕ} {h : List ℕ} (body : List ℕ) → Header c n h → 0 < length (h ++ body)
framed_pos {h = h} body hd = simp length-append (omega (arith, header_pos hd))

-- a body is shorter than the bytes that frame it
framed_lt : {c : TypeCode} {n : ℕ} {h : List ℕ} (body : List ℕ) (f : ℕ) → Header c n h → length (h ++ body) ≤ f → length body < f
framed_lt {h = h} body f hd le = omega (arith, length-append h body, header_pos hd)

complete_scalar : (an h : List ℕ) (c : TypeCode) (s : Scalar) (body : List ℕ) → Header c (length body) h → scalar_of c body ≡ some s
    → Result (h ++ body) (bare an (scalar an s))
unfolding bare_of ordinary
complete_scalar an h c s body hd e =
    complete_bare an (h ++ body) (scalar an s) (scalar_shape s) (framed_pos body hd)
    (λ r. shape_header c body r (scalar_shape s) (scalar_plain c body s e) hd (scalar-shape c body s e)) refl
    (λ f le. refl)

kind_plain : (k : SequenceType) → plain_code (sequence_code k) ≡ true
unfolding plain_code
kind_plain list = refl
kind_plain sexp = refl

kind_shape : (k : SequenceType) (body : List ℕ) → shape_of (sequence_code k) body ≡ some (sequence_shape k body)
unfolding shape_of
kind_shape list body = refl
kind_shape sexp body = refl

complete_sequence : (an h body : List ℕ) (k : SequenceType) (vs : Members Scalar) → Header (sequence_code k) (length body) h
    → Result body (members vs) → Result (h ++ body) (bare an (sequence an k vs))
unfolding bare_of ordinary
complete_sequence an h body k vs hd ih =
    complete_bare an (h ++ body) (sequence an k vs) (sequence_shape k body) (framed_pos body hd)
    (λ r. shape_header (sequence_code k) body r (sequence_shape k body) (kind_plain k) hd (kind_shape k body)) refl
    (λ f le. rw (ih f (framed_lt body f hd le)))

-- one byte is no field
one_byte : (x : ℕ) (fs : Fields Scalar) → read_fields 2 (x ∷ []) ≡ some fs → ⊥
unfolding read_fields var_uint groups shape
one_byte x fs e =
    by_cases (ltb x 0x80)
    (λ p. absurd (none-ne-some fs (rw (p, groups) at e)))
    (λ p. by_cases (ltb (0 * 128 + x % 128) (2 ^ 64))
    (λ q. absurd (none-ne-some fs (rw (p, groups, q) at e)))
    (λ q. absurd (none-ne-some fs (rw (p, groups, q) at e))))

fields-length : (body : List ℕ) (fs : Fields Scalar) → Result body (fields fs) → length body ≢ 1
fields-length [] fs ih e = omega arith
fields-length (x ∷ []) fs ih e = one_byte x fs (ih 2 (omega arith))
fields-length (x ∷ y ∷ r) fs ih e = omega arith

struct_low : (body : List ℕ) {h : List ℕ} (hd : Header struct_code (length body) h) → length body ≢ 1 → (opened body hd).low ≢ 1
unfolding opened
struct_low body (short lt) ne q = ne q
struct_low body (long e) ne q = omega arith

shape_struct : {h : List ℕ} (body r : List ℕ) → Header struct_code (length body) h → length body ≢ 1
    → shape ((h ++ body) ++ r) ≡ some (struct_shape false body, r)
unfolding plain body_at shape_of
shape_struct {h} body r hd ne =
    let o = opened body hd in
    let small : o.low < 16 = omega arith in
    rw (
      append_assoc,
      o.is,
      shape_td struct_code o.low (o.tail ++ (body ++ r)) small,
      shape_at-body struct_code o.low _ o.small,
      ne_eqb o.low 1 (struct_low body hd ne),
      body_at,
      plain,
      o.frames,
    )

complete_struct : (an h body : List ℕ) (fs : Fields Scalar) → Header struct_code (length body) h → Result body (fields fs)
    → Result (h ++ body) (bare an (struct an fs))
unfolding bare_of ordinary
complete_struct an h body fs hd ih =
    complete_bare an (h ++ body) (struct an fs) (struct_shape false body) (framed_pos body hd) (λ r. shape_struct body r hd (fields-length body fs ih)) refl
    (λ f le. rw (ih f (framed_lt body f hd le)))

shape-sorted : (l body r : List ℕ) → VarUInt l (length body) → 0 < length body → shape (0xD1 ∷ ((l ++ body) ++ r)) ≡ some (struct_shape true body, r)
unfolding body_at sorted_at
shape-sorted l body r e pos =
    rw (
      append_assoc l body r,
      shape_td struct_code 1 (l ++ (body ++ r)) (omega arith),
      shape_at-body struct_code 1 _ (omega arith),
      var_uint_append l (length body) [] (body ++ r) e,
      sorted_at,
      lt-ltb _ _ pos,
      cut_seam,
    )

complete_sorted : (an l body : List ℕ) (fs : Fields Scalar) → VarUInt l (length body) → 0 < length body → sorted 0 fs ≡ true
    → Result body (fields fs) → Result (0xD1 ∷ (l ++ body)) (bare an (struct an fs))
unfolding bare_of ordinary
complete_sorted an l body fs e pos up ih =
    complete_bare an (0xD1 ∷ (l ++ body)) (struct an fs) (struct_shape true body) (omega arith) (λ r. shape-sorted l body r e pos) refl
    (λ f le. rw (ih f (omega (arith, length-append l body, var_uint_pos l e)), up))

complete_null : (an : List ℕ) (t : IonType) (c : TypeCode) → null_type c ≡ some t → Result ((high_bits c * 16 + 15) ∷ []) (bare an (scalar an (null t)))
unfolding bare_of ordinary shape_at
complete_null an t c e =
    complete_bare an ((high_bits c * 16 + 15) ∷ []) (scalar an (null t)) (scalar_shape (null t)) (omega arith)
    (λ r. rw (shape_td c 15 r (omega arith), shape_at, e)) refl (λ f le. refl)

complete_float : (an b : List ℕ) (l : ℕ) (x : FloatValue) → l < 15 → ((r : List ℕ) → float_at l (b ++ r) ≡ some (scalar_shape (float x), r))
    → Result ((high_bits float_code * 16 + l) ∷ b) (bare an (scalar an (float x)))
unfolding bare_of ordinary body_at
complete_float an b l x lt e =
    complete_bare an ((high_bits float_code * 16 + l) ∷ b) (scalar an (float x)) (scalar_shape (float x)) (omega arith)
    (λ r. rw (shape_td float_code l (b ++ r) (omega arith), shape_at-body float_code l (b ++ r) lt, e r)) refl (λ f le. refl)

bits_seam : (f : List ℕ → FloatValue) (n : ℕ) (b r : List ℕ) → length b ≡ n → bits_at f n (b ++ r) ≡ some (scalar_shape (float (f b)), r)
unfolding bits_at
bits_seam f n b r e = rw (← e, cut_seam)

complete_zero : (an : List ℕ) → Result (0x40 ∷ []) (bare an (scalar an (float (finite false 0))))
unfolding float_at
complete_zero an = complete_float an [] 0 (finite false 0) (omega arith) (λ r. refl)

complete_float32 : (an b : List ℕ) → length b ≡ 4 → Result (0x44 ∷ b) (bare an (scalar an (float (float_of binary32 (uint b)))))
unfolding float_at
complete_float32 an b e = complete_float an b 4 (float_of binary32 (uint b)) (omega arith) (λ r. bits_seam (λ c. float_of binary32 (uint c)) 4 b r e)

complete_float64 : (an b : List ℕ) → length b ≡ 8 → Result (0x48 ∷ b) (bare an (scalar an (float (float_of binary64 (uint b)))))
unfolding float_at
complete_float64 an b e = complete_float an b 8 (float_of binary64 (uint b)) (omega arith) (λ r. bits_seam (λ c. float_of binary64 (uint c)) 8 b r e)

complete_bool : (an : List ℕ) (l : ℕ) (x : Bool) → l < 15 → ((r : List ℕ) → bool_at l r ≡ some (scalar_shape (bool x), r))
    → Result ((high_bits bool_code * 16 + l) ∷ []) (bare an (scalar an (bool x)))
unfolding bare_of ordinary body_at
complete_bool an l x lt e =
    complete_bare an ((high_bits bool_code * 16 + l) ∷ []) (scalar an (bool x)) (scalar_shape (bool x)) (omega arith)
    (λ r. rw (shape_td bool_code l r (omega arith), shape_at-body bool_code l r lt, e)) refl (λ f le. refl)

value_bare : (f : ℕ) (sh : Shape) → ordinary sh ≡ true
    → value_of (λ c. read_members f c) (λ c. read_fields f c) sh ≡ bare_of (λ c. read_members f c) (λ c. read_fields f c) [] sh
unfolding value_of ordinary
value_bare f pad_shape e = cc
value_bare f (scalar_shape s) e = refl
value_bare f (sequence_shape k body) e = refl
value_bare f (struct_shape t body) e = refl
value_bare f (wrapper_shape body) e = cc

not_pad : (sh : Shape) → ordinary sh ≡ true → is_pad sh ≡ false
unfolding is_pad ordinary
not_pad pad_shape e = cc
not_pad (scalar_shape s) e = refl
not_pad (sequence_shape k body) e = refl
not_pad (struct_shape t body) e = refl
not_pad (wrapper_shape body) e = refl

complete_one : (b : List ℕ) (v : Value) → Result b (bare [] v) → Result b (one v)
complete_one b v ih = (
  ih.0,
  λ f le.
      let r = ih.1 f le in
      record { sh = r.sh; at = r.at; kind = not_pad r.sh r.kind; gives = rw (value_bare f r.sh r.kind) r.gives },
)

wrapped_gives : (f : ℕ) (l s b an : List ℕ) (a : ℕ) (v : Value) → VarUInt l (length s) → Result s (sids (a ∷ an)) → BareRead f (a ∷ an) b v
    → wrapper_of (λ c. read_members f c) (λ c. read_fields f c) (l ++ (s ++ b)) ≡ some v
unfolding wrapper_of inner_of
wrapped_gives f l s b an a v e hs r =
    rw (var_uint_append l (length s) [] (s ++ b) e, cut_seam s b, hs (suc (length s)) (omega arith), rw append-nil at (r.at []), r.gives)

complete_wrapped : (h l s b an : List ℕ) (a : ℕ) (v : Value) → Header annotation_code (length (l ++ (s ++ b))) h → VarUInt l (length s)
    → Result s (sids (a ∷ an)) → Result b (bare (a ∷ an) v)
    → Result (h ++ (l ++ (s ++ b))) (one v)
unfolding value_of is_pad shape_of plain_code
complete_wrapped h l s b an a v hd e hs ih = (
  framed_pos (l ++ (s ++ b)) hd,
  λ f le. record {
    sh = wrapper_shape (l ++ (s ++ b));
    at = λ r. shape_header annotation_code (l ++ (s ++ b)) r (wrapper_shape (l ++ (s ++ b))) refl hd refl;
    kind = refl;
    gives = wrapped_gives f l s b an a v e hs (ih.1 f (omega (arith, framed_lt (l ++ (s ++ b)) f hd le, length-append l (s ++ b), length-append s b)));
  },
)

complete_members_pad : (p b : List ℕ) (vs : Members Scalar) → Result p padding → Result b (members vs) → Result (p ++ b) (members vs)
complete_members_pad p b vs pd ih zero lt = absurd (omega arith)
complete_members_pad p b vs pd ih (suc f) lt = step_members_pad f (p ++ b) b vs (pd.1 b) (ih f (omega (arith, length-append p b, pd.0)))

complete_members-next : (p b : List ℕ) (v : Value) (vs : Members Scalar) → Result p (one v) → Result b (members vs) → Result (p ++ b) (members (member v vs))
complete_members-next p b v vs x ih zero lt = absurd (omega arith)
complete_members-next p b v vs x ih (suc f) lt =
    let r = x.1 f (omega (arith, length-append p b)) in
    step_members f (p ++ b) b r.sh v vs (r.at b) r.kind r.gives (ih f (omega (arith, length-append p b, x.0)))

complete_fields_pad : (l p b : List ℕ) (k : ℕ) (fs : Fields Scalar) → VarUInt l k → Result p padding → Result b (fields fs) → Result (l ++ (p ++ b)) (fields fs)
complete_fields_pad l p b k fs e pd ih zero lt = absurd (omega arith)
complete_fields_pad l p b k fs e pd ih (suc f) lt =
    step_fields_pad f (l ++ (p ++ b)) (p ++ b) b k fs (var_uint_append l k [] (p ++ b) e) (pd.1 b)
    (ih f (omega (arith, length-append l (p ++ b), length-append p b, pd.0)))

complete_fields-next : (l p b : List ℕ) (k : ℕ) (v : Value) (fs : Fields Scalar) → VarUInt l k → Result p (one v) → Result b (fields fs)
    → Result (l ++ (p ++ b)) (fields (field k v fs))
complete_fields-next l p b k v fs e x ih zero lt = absurd (omega arith)
complete_fields-next l p b k v fs e x ih (suc f) lt =
    let r = x.1 f (omega (arith, length-append l (p ++ b), length-append p b)) in
    step_fields f (l ++ (p ++ b)) (p ++ b) b k r.sh v fs (var_uint_append l k [] (p ++ b) e) (r.at b) r.kind r.gives
    (ih f (omega (arith, length-append l (p ++ b), length-append p b, x.0)))

step_stream : (f : ℕ) (b r : List ℕ) (sh : Shape) (v : Value) (is : List (Item Scalar)) → shape b ≡ some (sh, r) → is_pad sh ≡ false
    → value_of (λ c. read_members (suc f) c) (λ c. read_fields (suc f) c) sh ≡ some v → read_stream f r ≡ some is → read_stream (suc f) b ≡ some (value v ∷ is)
unfolding read_stream shape next_item or_else
step_stream f [] r sh v is p q x y = cc
step_stream f (b ∷ bs) r sh v is p q x y = rw (p, read_stream, q, x, y)

step_stream_pad : (f : ℕ) (b r : List ℕ) (is : List (Item Scalar)) → shape b ≡ some (pad_shape, r) → read_stream f r ≡ some is → read_stream (suc f) b ≡ some is
unfolding read_stream shape next_item or_else is_pad
step_stream_pad f [] r is p y = cc
step_stream_pad f (b ∷ bs) r is p y = rw (p, read_stream, y)

marker-shape : (r : List ℕ) → shape (0xE0 ∷ r) ≡ some (wrapper_shape [], r)
unfolding shape_of plain_code
marker-shape r = shape_header annotation_code [] r (wrapper_shape []) refl (short (omega arith)) refl

complete_marker : (b : List ℕ) (is : List (Item Scalar)) → Result b (stream is) → Result (0xE0 ∷ 0x01 ∷ 0x00 ∷ 0xEA ∷ b) (stream (marker ∷ is))
unfolding read_stream next_item or_else after_marker value_of wrapper_of var_uint groups is_pad
complete_marker b is ih zero lt = absurd (omega arith)
complete_marker b is ih (suc f) lt = rw (marker-shape (0x01 ∷ 0x00 ∷ 0xEA ∷ b), ih f (omega arith))

complete_stream_pad : (p b : List ℕ) (is : List (Item Scalar)) → Result p padding → Result b (stream is) → Result (p ++ b) (stream is)
complete_stream_pad p b is pd ih zero lt = absurd (omega arith)
complete_stream_pad p b is pd ih (suc f) lt = step_stream_pad f (p ++ b) b is (pd.1 b) (ih f (omega (arith, length-append p b, pd.0)))

complete_stream_next : (p b : List ℕ) (v : Value) (is : List (Item Scalar)) → Result p (one v) → Result b (stream is) → Result (p ++ b) (stream (value v ∷ is))
complete_stream_next p b v is x ih zero lt = absurd (omega arith)
complete_stream_next p b v is x ih (suc f) lt =
    let r = x.1 (suc f) (omega (arith, length-append p b)) in
    step_stream f (p ++ b) b r.sh v is (r.at b) r.kind r.gives (ih f (omega (arith, length-append p b, x.0)))

complete_sids_end : Result [] (sids [])
unfolding sids_of
complete_sids_end zero lt = absurd (omega arith)
complete_sids_end (suc f) lt = refl

complete_members_end : Result [] (members no_members)
unfolding read_members
complete_members_end zero lt = absurd (omega arith)
complete_members_end (suc f) lt = refl

complete_fields_end : Result [] (fields no_fields)
unfolding read_fields
complete_fields_end zero lt = absurd (omega arith)
complete_fields_end (suc f) lt = refl

complete_stream_end : Result [] (stream [])
unfolding read_stream
complete_stream_end zero lt = absurd (omega arith)
complete_stream_end (suc f) lt = refl

complete_false : (an : List ℕ) → Result (0x10 ∷ []) (bare an (scalar an (bool false)))
unfolding bool_at
complete_false an = complete_bool an 0 false (omega arith) (λ r. refl)

complete_true : (an : List ℕ) → Result (0x11 ∷ []) (bare an (scalar an (bool true)))
unfolding bool_at
complete_true an = complete_bool an 1 true (omega arith) (λ r. refl)

pub complete : {b : List ℕ} {t : Phrase} → b ⟶ t → Result b t
complete (pad body hd) = complete_pad body hd
complete sids_end = complete_sids_end
complete (sids_next l {b} {an} {a} e r) = complete_sids l b an a e (complete r)
complete (is-null {an} {t} c e) = complete_null an t c e
complete (is_false {an}) = complete_false an
complete (is_true {an}) = complete_true an
complete (is_zero {an}) = complete_zero an
complete (is_float32 {an} b e) = complete_float32 an b e
complete (is_float64 {an} b e) = complete_float64 an b e
complete (is_scalar {an} c {h} {s} body hd e) = complete_scalar an h c s body hd e
complete (is-sequence {an} k {h} {body} {vs} hd bs) = complete_sequence an h body k vs hd (complete bs)
complete (is_struct {an} {h} {body} {fs} hd bs) = complete_struct an h body fs hd (complete bs)
complete (is_sorted {an} {body} {fs} l e pos bs up) = complete_sorted an l body fs e pos up (complete bs)
complete (is_bare {b} {v} r) = complete_one b v (complete r)
complete (is_annotated {h} {s} {b} {an} {a} {v} l hd e ss r) = complete_wrapped h l s b an a v hd e (complete ss) (complete r)
complete members_end = complete_members_end
complete (members_pad {p} {b} {vs} pd r) = complete_members_pad p b vs (complete pd) (complete r)
complete (members-next {p} {b} {v} {vs} x r) = complete_members-next p b v vs (complete x) (complete r)
complete fields_end = complete_fields_end
complete (fields_pad {p} {b} {k} {fs} l e pd r) = complete_fields_pad l p b k fs e (complete pd) (complete r)
complete (fields-next {p} {b} {k} {v} {fs} l e x r) = complete_fields-next l p b k v fs e (complete x) (complete r)
complete stream_end = complete_stream_end
complete (stream_pad {p} {b} {is} pd r) = complete_stream_pad p b is (complete pd) (complete r)
complete (stream_marker {b} {is} r) = complete_marker b is (complete r)
complete (stream_next {p} {b} {v} {is} x r) = complete_stream_next p b v is (complete x) (complete r)

-- ---- two readings of the same bytes are equal

pub reads_unique : (b : List ℕ) (x y : List (Item Scalar)) → Reads b x → Reads b y → x ≡ y
reads_unique b x y p q = some-injective x y (sym (complete p (suc (length b)) (omega arith)) ∙ complete q (suc (length b)) (omega arith))
