-- A value without its annotation wrapper, at a place: its header, its scalar or its members, as the walk finds them.
-- Assumes nothing.
use Prim.Native.Nat.{ℕ, ◌+◌, ◌*◌, ◌/◌, ◌%◌, ◌≤◌, ◌<◌}
use native.Mathlib.Omega.{arith}
use mathlib.Core.Path.{◌≡◌, refl}
use mathlib.Core.Logic.{◌≢◌}
use mathlib.Core.Bool.{true, false, cond}
use mathlib.Core.List.{List, [], ◌∷◌, ◌++◌}
use mathlib.Core.Option.{Option, some, none-ne-some}
use lib.Dec.{ltb, eqb}
use lib.Ieee.{binary32, binary64}
use lib.ListN.{length, get_or}
use borrow.Author.Tests.{lt-ltb, le-ltb, le-leb, lt-leb, ne_eqb}
use Rattle.ion.specs.Value.{IonType, ion_list, ion_sexp, ion_struct, TypeCode, null_code, bool_code, positive_code, negative_code, float_code, decimal_code}
use Rattle.ion.specs.Value.{timestamp_code, symbol_code, string_code, clob_code, blob_code, list_code, sexp_code, struct_code, annotation_code, high_bits}
use Rattle.ion.specs.Value.{null_type, SequenceType, list, sexp, sequence_code}
use Rattle.ion.specs.Value.{signed, finite, Scalar, null, bool, float, Value, scalar, sequence, struct, Members, Fields}
use Rattle.ion.specs.Chain.{◌>>=◌}
use Rattle.ion.specs.Fields.{VarUInt, uint, big_endian, var_int, var_uints, groups, is_i64, is_negative}
use Rattle.ion.specs.Scalars.{scalar_of, timestamp_of, are_fields, float_of}
use Rattle.ion.specs.Grammar.{Header, sorted}
use Rattle.ion.proofs.Tests.{by_cases}
use Rattle.reading.specs.Headers.{impossible, alone}
use Rattle.reading.specs.Scalars.{scalar_in, body_of}
use Rattle.reading.specs.Items.{is_pad, is_marker, is_wrapper, opens, reads, has_names, is_sorted_struct, is_stream}
use Rattle.reading.specs.Walk.{Event, begins, ends, tree_events, tree_depth, member_events, field_events, members_depth, fields_depth, Walk, shows}
use Rattle.reading.specs.Walk.{container_type, container_walk, leaf_walk, walk_from}
use Rattle.reading_grammar.proofs.Tests.{contrary}
use Rattle.reading_grammar.proofs.Places.{Rest}
use Rattle.reading_grammar.proofs.TypeBytes as K
use Rattle.reading_grammar.proofs.TypeBytes.{IsLeaf, IsContainer, code_of-high_bits}
use Rattle.ion.proofs.Unique.{header_pos}
use Rattle.ion.proofs.Reader.{td_high, td_low}
use Rattle.reading_grammar.proofs.Headed.{HeaderFound, Usual, first, plain_header, sorted_header, byte_header, float_header}

-- what the walk makes of a type byte and its body, which fills t from `start` on
abbrev pub content_walk : ℕ → List ℕ → ℕ → Option ℕ → List ℕ → ℕ → ℕ → List ℕ → Walk
content_walk f t depth name an kind start body =
    cond (opens kind) (container_walk kind name an (walk_from f t kind 0 (depth + 1) start)) (leaf_walk kind name an body)

-- the bytes b are found to be the value v, its annotations given
pub record BareFound (b an : List ℕ) (v : Value) : Type 0 where
  pub kind : ℕ
  pub header : List ℕ
  pub body : List ℕ
  pub joins : b ≡ header ++ body
  pub pos : 0 < length header
  pub byte : get_or header 0 0 ≡ kind
  pub pad : is_pad kind ≡ false
  pub marker : is_marker kind ≡ false
  pub wrapper : is_wrapper kind ≡ false
  pub deep : opens kind ≡ true → 0 < tree_depth v
  pub good : reads kind body ≡ true
  pub headed : HeaderFound kind header body
  pub walks : (t : List ℕ) (start f depth : ℕ) (name : Option ℕ) → Rest t start body → length body < f → depth + tree_depth v ≤ 32
      → content_walk f t depth name an kind start body ≡ shows (tree_events name v)

-- ---- scalars

module _ (an : List ℕ) (kind : ℕ) (h body : List ℕ) (x : Scalar) (pos : 0 < length h) (byte : get_or h 0 0 ≡ kind) (k : IsLeaf kind)
    (e : scalar_in kind body ≡ some x)
    (headed : HeaderFound kind h body) where
  found_leaf : BareFound (h ++ body) an (scalar an x)
  unfolding tree_events tree_depth
  found_leaf = record {
    kind = kind;
    header = h;
    body = body;
    joins = refl;
    pos = pos;
    byte = byte;
    pad = k.pad;
    marker = k.marker;
    wrapper = k.wrapper;
    deep = λ q. contrary k.shut q;
    good = rw (k.pad, k.marker, k.shut, e);
    headed = headed;
    walks = λ t start f depth name r lt le. rw (k.shut, k.marker, e);
  }

-- the scalar of a type byte by its halves
scalar_halves : (c : TypeCode) (l : ℕ) (body : List ℕ) → l < 16
    → scalar_in (high_bits c * 16 + l) body ≡ cond (eqb l 15) (null_type c >>= λ t. some (null t)) (body_of c l body)
unfolding scalar_in
scalar_halves c l body h = rw (td_high c l h, td_low c l h, code_of-high_bits c)

null_leaf : (c : TypeCode) (t : IonType) → null_type c ≡ some t → IsLeaf (high_bits c * 16 + 15)
null_leaf null_code t e = K.leaf 0x0F (omega arith) (omega arith)
null_leaf bool_code t e = K.leaf 0x1F (omega arith) (omega arith)
null_leaf positive_code t e = K.leaf 0x2F (omega arith) (omega arith)
null_leaf negative_code t e = K.leaf 0x3F (omega arith) (omega arith)
null_leaf float_code t e = K.leaf 0x4F (omega arith) (omega arith)
null_leaf decimal_code t e = K.leaf 0x5F (omega arith) (omega arith)
null_leaf timestamp_code t e = K.leaf 0x6F (omega arith) (omega arith)
null_leaf symbol_code t e = K.leaf 0x7F (omega arith) (omega arith)
null_leaf string_code t e = K.leaf 0x8F (omega arith) (omega arith)
null_leaf clob_code t e = K.leaf 0x9F (omega arith) (omega arith)
null_leaf blob_code t e = K.leaf 0xAF (omega arith) (omega arith)
null_leaf list_code t e = record { pad = refl; marker = refl; wrapper = refl; shut = refl }
null_leaf sexp_code t e = record { pad = refl; marker = refl; wrapper = refl; shut = refl }
null_leaf struct_code t e = record { pad = refl; marker = refl; wrapper = refl; shut = refl }
null_leaf annotation_code t e = absurd (none-ne-some t e)

null_possible : (c : TypeCode) (t : IonType) → null_type c ≡ some t → impossible (high_bits c) 15 ≡ false
null_possible null_code t e = refl
null_possible bool_code t e = refl
null_possible positive_code t e = refl
null_possible negative_code t e = refl
null_possible float_code t e = refl
null_possible decimal_code t e = refl
null_possible timestamp_code t e = refl
null_possible symbol_code t e = refl
null_possible string_code t e = refl
null_possible clob_code t e = refl
null_possible blob_code t e = refl
null_possible list_code t e = refl
null_possible sexp_code t e = refl
null_possible struct_code t e = refl
null_possible annotation_code t e = absurd (none-ne-some t e)

-- one byte b that is a whole scalar
found_byte : (an : List ℕ) (b : ℕ) (x : Scalar) → IsLeaf b → scalar_in b [] ≡ some x → impossible (b / 16) (b % 16) ≡ false
    → alone (b / 16) (b % 16) ≡ true → BareFound (b ∷ []) an (scalar an x)
found_byte an b x k e can a =
    found_leaf an b (b ∷ []) [] x (omega arith) refl k e
    (λ out s at r start stop p q y. let e₁ : start ≡ at + 1 = p in let e₂ : stop ≡ at + 1 = omega arith in rw (e₁, e₂) (byte_header out b r can a y))

pub found_null : (an : List ℕ) (c : TypeCode) (t : IonType) → null_type c ≡ some t → BareFound ((high_bits c * 16 + 15) ∷ []) an (scalar an (null t))
found_null an c t e =
    found_byte an (high_bits c * 16 + 15) (null t) (null_leaf c t e) (rw (scalar_halves c 15 [] (omega arith), e))
    (rw (td_high c 15 (omega arith), td_low c 15 (omega arith)) (null_possible c t e)) (rw (td_low c 15 (omega arith)))

pub found-false : (an : List ℕ) → BareFound (0x10 ∷ []) an (scalar an (bool false))
unfolding body_of
found-false an = found_byte an 0x10 (bool false) (K.leaf 0x10 (omega arith) (omega arith)) (rw (scalar_halves bool_code 0 [] (omega arith))) refl refl

pub found-true : (an : List ℕ) → BareFound (0x11 ∷ []) an (scalar an (bool true))
unfolding body_of
found-true an = found_byte an 0x11 (bool true) (K.leaf 0x11 (omega arith) (omega arith)) (rw (scalar_halves bool_code 1 [] (omega arith))) refl refl

found_float : (an : List ℕ) (b l : ℕ) (body : List ℕ) (x : Scalar) → IsLeaf b → scalar_in b body ≡ some x → b / 16 ≡ 4 → b % 16 ≡ l → l < 14
    → impossible 4 l ≡ false → length body ≡ l
    → BareFound (b ∷ body) an (scalar an x)
found_float an b l body x k e hi lo lt can n =
    found_leaf an b (b ∷ []) body x (omega arith) refl k e
    (λ out s at r start stop p q y. rw p (float_header out b l body r stop hi lo lt can n (omega arith) y))

pub found-zero : (an : List ℕ) → BareFound (0x40 ∷ []) an (scalar an (float (finite false 0)))
unfolding body_of
found-zero an =
    found_float an 0x40 0 [] (float (finite false 0)) (K.leaf 0x40 (omega arith) (omega arith))
    (rw (scalar_halves float_code 0 [] (omega arith))) refl refl (omega arith) refl refl

pub found_float32 : (an b : List ℕ) → length b ≡ 4 → BareFound (0x44 ∷ b) an (scalar an (float (float_of binary32 (uint b))))
unfolding body_of
found_float32 an b n =
    found_float an 0x44 4 b (float (float_of binary32 (uint b))) (K.leaf 0x44 (omega arith) (omega arith))
    (rw (scalar_halves float_code 4 b (omega arith), n)) refl refl (omega arith) refl n

pub found_float64 : (an b : List ℕ) → length b ≡ 8 → BareFound (0x48 ∷ b) an (scalar an (float (float_of binary64 (uint b))))
unfolding body_of
found_float64 an b n =
    found_float an 0x48 8 b (float (float_of binary64 (uint b))) (K.leaf 0x48 (omega arith) (omega arith))
    (rw (scalar_halves float_code 8 b (omega arith), n)) refl refl (omega arith) refl n

-- ---- the scalars that have a length and a body

pub usual : (t n : ℕ) → eqb t 15 ≡ false → eqb t 1 ≡ false → eqb t 4 ≡ false → eqb t 14 ≡ false → eqb t 13 ≡ false → eqb t 3 ≡ false
    → eqb t 6 ≡ false → Usual t n
usual t n a b c d e f g =
    record {
      shortly = λ lt. rw (a, b, c, d);
      at_length = rw (a, b, c, d);
      framed = b;
      plain = rw e;
      short_fits = rw (f, g, d, e);
      long_fits = rw (f, g, d, e);
    }

-- negative zero has no body
negative_usual : (body : List ℕ) (x : Scalar) → scalar_of negative_code body ≡ some x → Usual 3 (length body)
unfolding scalar_of big_endian
negative_usual [] x e = absurd (none-ne-some x e)
negative_usual (b ∷ bs) x e =
    let z : eqb (length (b ∷ bs)) 0 ≡ false = ne_eqb (length (b ∷ bs)) 0 (λ q. omega arith) in
    record { shortly = λ lt. refl; at_length = refl; framed = refl; plain = refl; short_fits = rw z; long_fits = rw z }

-- one byte is no offset and year
one_byte_time : (b : ℕ) (x : Scalar) → timestamp_of (b ∷ []) ≡ some x → ⊥
unfolding timestamp_of var_int groups var_uints are_fields
one_byte_time b x e =
    by_cases (ltb b 0x80)
    (λ p. none-ne-some x (rw (p, var_int) at e))
    (λ p. by_cases (is_i64 (signed (is_negative b) (b % 64)))
    (λ q. none-ne-some x (rw q at (rw (p, var_int) at e)))
    (λ q. none-ne-some x (rw q at (rw (p, var_int) at e))))

timestamp_usual : (body : List ℕ) (x : Scalar) → scalar_of timestamp_code body ≡ some x → Usual 6 (length body)
unfolding scalar_of timestamp_of var_int
timestamp_usual [] x e = absurd (none-ne-some x e)
timestamp_usual (b ∷ []) x e = absurd (one_byte_time b x e)
timestamp_usual (a ∷ b ∷ bs) x e =
    let z : ltb (length (a ∷ b ∷ bs)) 2 ≡ false = le-ltb (length (a ∷ b ∷ bs)) 2 (omega arith) in
    record { shortly = λ lt. refl; at_length = refl; framed = refl; plain = refl; short_fits = rw z; long_fits = rw z }

scalar_usual : (c : TypeCode) (body : List ℕ) (x : Scalar) → scalar_of c body ≡ some x → Usual (high_bits c) (length body)
unfolding scalar_of
scalar_usual null_code body x e = absurd (none-ne-some x e)
scalar_usual bool_code body x e = absurd (none-ne-some x e)
scalar_usual positive_code body x e = usual 2 (length body) refl refl refl refl refl refl refl
scalar_usual negative_code body x e = negative_usual body x e
scalar_usual float_code body x e = absurd (none-ne-some x e)
scalar_usual decimal_code body x e = usual 5 (length body) refl refl refl refl refl refl refl
scalar_usual timestamp_code body x e = timestamp_usual body x e
scalar_usual symbol_code body x e = usual 7 (length body) refl refl refl refl refl refl refl
scalar_usual string_code body x e = usual 8 (length body) refl refl refl refl refl refl refl
scalar_usual clob_code body x e = usual 9 (length body) refl refl refl refl refl refl refl
scalar_usual blob_code body x e = usual 10 (length body) refl refl refl refl refl refl refl
scalar_usual list_code body x e = absurd (none-ne-some x e)
scalar_usual sexp_code body x e = absurd (none-ne-some x e)
scalar_usual struct_code body x e = absurd (none-ne-some x e)
scalar_usual annotation_code body x e = absurd (none-ne-some x e)

scalar_range : (c : TypeCode) (body : List ℕ) (x : Scalar) → scalar_of c body ≡ some x → (1 ≤ high_bits c) × (high_bits c ≤ 10)
unfolding scalar_of
scalar_range null_code body x e = absurd (none-ne-some x e)
scalar_range bool_code body x e = absurd (none-ne-some x e)
scalar_range positive_code body x e = (omega arith, omega arith)
scalar_range negative_code body x e = (omega arith, omega arith)
scalar_range float_code body x e = absurd (none-ne-some x e)
scalar_range decimal_code body x e = (omega arith, omega arith)
scalar_range timestamp_code body x e = (omega arith, omega arith)
scalar_range symbol_code body x e = (omega arith, omega arith)
scalar_range string_code body x e = (omega arith, omega arith)
scalar_range clob_code body x e = (omega arith, omega arith)
scalar_range blob_code body x e = (omega arith, omega arith)
scalar_range list_code body x e = absurd (none-ne-some x e)
scalar_range sexp_code body x e = absurd (none-ne-some x e)
scalar_range struct_code body x e = absurd (none-ne-some x e)
scalar_range annotation_code body x e = absurd (none-ne-some x e)

scalar_body : (c : TypeCode) (l : ℕ) (body : List ℕ) (x : Scalar) → scalar_of c body ≡ some x → body_of c l body ≡ some x
unfolding body_of
scalar_body null_code l body x e = absurd (none-ne-some x (unfold scalar_of in e))
scalar_body bool_code l body x e = absurd (none-ne-some x (unfold scalar_of in e))
scalar_body positive_code l body x e = e
scalar_body negative_code l body x e = e
scalar_body float_code l body x e = absurd (none-ne-some x (unfold scalar_of in e))
scalar_body decimal_code l body x e = e
scalar_body timestamp_code l body x e = e
scalar_body symbol_code l body x e = e
scalar_body string_code l body x e = e
scalar_body clob_code l body x e = e
scalar_body blob_code l body x e = e
scalar_body list_code l body x e = absurd (none-ne-some x (unfold scalar_of in e))
scalar_body sexp_code l body x e = absurd (none-ne-some x (unfold scalar_of in e))
scalar_body struct_code l body x e = absurd (none-ne-some x (unfold scalar_of in e))
scalar_body annotation_code l body x e = absurd (none-ne-some x (unfold scalar_of in e))

pub found_scalar : (an h : List ℕ) (c : TypeCode) (x : Scalar) (body : List ℕ) → Header c (length body) h → scalar_of c body ≡ some x
    → BareFound (h ++ body) an (scalar an x)
found_scalar an h c x body hd e =
    let k = first hd in
    let w = scalar_range c body x e in
    found_leaf an (get_or h 0 0) h body x (header_pos hd) refl (K.leaf (get_or h 0 0) (omega (arith, k.is)) (omega (arith, k.is, k.small)))
    (rw (k.is, scalar_halves c k.nibble body (omega (arith, k.small)), ne_eqb k.nibble 15 (λ q. omega (arith, k.small)))
    (scalar_body c k.nibble body x e))
    (λ out s at r start stop p q y. plain_header out body r start stop hd (scalar_usual c body x e) p q y)

-- ---- containers

-- the bytes b, in any parent without names, are found to be the members vs
abbrev pub MembersFound : List ℕ → Members Scalar → Type 0
MembersFound b vs =
    (f : ℕ) (s : List ℕ) (parent least depth at : ℕ) → has_names parent ≡ false → is_stream parent ≡ false → is_sorted_struct parent ≡ false
    → Rest s at b → length b < f → depth + members_depth vs ≤ 32 → walk_from f s parent least depth at ≡ shows (member_events vs)

-- the bytes b, in any struct, are found to be the fields fs; in a sorted one the names must not fall
abbrev pub FieldsFound : List ℕ → Fields Scalar → Type 0
FieldsFound b fs =
    (f : ℕ) (s : List ℕ) (parent least depth at : ℕ) → has_names parent ≡ true → is_stream parent ≡ false → (is_sorted_struct parent ≡ true → sorted least fs ≡ true)
    → Rest s at b → length b < f → depth + fields_depth fs ≤ 32 → walk_from f s parent least depth at ≡ shows (field_events fs)

module _ (an : List ℕ) (kind : ℕ) (h body : List ℕ) (v : Value) (t : IonType) (es : List Event) (d : ℕ) (pos : 0 < length h)
    (byte : get_or h 0 0 ≡ kind) (k : IsContainer kind)
    (type : container_type kind ≡ t) (events : (name : Option ℕ) → tree_events name v ≡ begins name an t ∷ (es ++ (ends ∷ []))) (depth_is : tree_depth v ≡ 1 + d)
    (headed : HeaderFound kind h body)
    (inner : (u : List ℕ) (start f depth : ℕ) → Rest u start body → length body < f → depth + d ≤ 32 → walk_from f u kind 0 depth start ≡ shows es) where
  unfoldable pub found_container : BareFound (h ++ body) an v
  found_container = record {
    kind = kind;
    header = h;
    body = body;
    joins = refl;
    pos = pos;
    byte = byte;
    pad = k.pad;
    marker = k.marker;
    wrapper = k.wrapper;
    deep = λ q. omega arith;
    good = rw (k.pad, k.marker, k.begun);
    headed = headed;
    walks = λ u start f depth name r lt le. rw (k.begun, type, inner u start f (depth + 1) r lt (omega arith), events name);
  }

unfoldable pub found_list : (an h body : List ℕ) (vs : Members Scalar) → Header list_code (length body) h → MembersFound body vs
    → BareFound (h ++ body) an (sequence an list vs)
unfolding tree_events tree_depth
found_list an h body vs hd ih =
    let k = first hd in
    let lo : 0xB0 ≤ get_or h 0 0 = omega (arith, k.is) in
    let hi : get_or h 0 0 < 0xBF = omega (arith, k.is, k.small) in
    found_container an (get_or h 0 0) h body (sequence an list vs) ion_list (member_events vs) (members_depth vs) (header_pos hd) refl
    (K.container (get_or h 0 0) lo (omega arith) (λ e. omega arith) (λ e. omega arith)) (rw (lt-ltb (get_or h 0 0) 0xC0 (omega arith))) (λ name. refl) refl
    (λ out s at r start stop p q y. plain_header out body r start stop hd (usual 11 (length body) refl refl refl refl refl refl refl) p q y)
    (λ u start f depth r lt le. ih f u (get_or h 0 0) 0 depth start (rw (lt-leb 0xD0 (get_or h 0 0) (omega arith)))
    (ne_eqb (get_or h 0 0) 0 (λ e. omega arith)) (ne_eqb (get_or h 0 0) 0xD1 (λ e. omega arith)) r lt le)

unfoldable pub found_sexp : (an h body : List ℕ) (vs : Members Scalar) → Header sexp_code (length body) h → MembersFound body vs
    → BareFound (h ++ body) an (sequence an sexp vs)
unfolding tree_events tree_depth
found_sexp an h body vs hd ih =
    let k = first hd in
    let lo : 0xC0 ≤ get_or h 0 0 = omega (arith, k.is) in
    let hi : get_or h 0 0 < 0xCF = omega (arith, k.is, k.small) in
    found_container an (get_or h 0 0) h body (sequence an sexp vs) ion_sexp (member_events vs) (members_depth vs) (header_pos hd) refl
    (K.container (get_or h 0 0) (omega arith) (omega arith) (λ e. omega arith) (λ e. omega arith))
    (rw (le-ltb (get_or h 0 0) 0xC0 lo, lt-ltb (get_or h 0 0) 0xD0 (omega arith))) (λ name. refl) refl
    (λ out s at r start stop p q y. plain_header out body r start stop hd (usual 12 (length body) refl refl refl refl refl refl refl) p q y)
    (λ u start f depth r lt le. ih f u (get_or h 0 0) 0 depth start (rw (lt-leb 0xD0 (get_or h 0 0) (omega arith)))
    (ne_eqb (get_or h 0 0) 0 (λ e. omega arith)) (ne_eqb (get_or h 0 0) 0xD1 (λ e. omega arith)) r lt le)

pub found_sequence : (an h body : List ℕ) (k : SequenceType) (vs : Members Scalar) → Header (sequence_code k) (length body) h
    → MembersFound body vs → BareFound (h ++ body) an (sequence an k vs)
found_sequence an h body list vs hd ih = found_list an h body vs hd ih
found_sequence an h body sexp vs hd ih = found_sexp an h body vs hd ih

-- a struct, sorted or not, by its type byte
unfoldable pub struct_found : (an : List ℕ) (kind : ℕ) (h body : List ℕ) (fs : Fields Scalar) → 0 < length h → get_or h 0 0 ≡ kind → 0xD0 ≤ kind → kind < 0xDF
    → HeaderFound kind h body
    → (is_sorted_struct kind ≡ true → sorted 0 fs ≡ true) → FieldsFound body fs → BareFound (h ++ body) an (struct an fs)
unfolding tree_events tree_depth
struct_found an kind h body fs pos byte lo hi headed up ih =
    found_container an kind h body (struct an fs) ion_struct (field_events fs) (fields_depth fs) pos byte
    (K.container kind (omega arith) (omega arith) (λ e. omega arith) (λ e. omega arith))
    (rw (le-ltb kind 0xC0 (omega arith), le-ltb kind 0xD0 lo)) (λ name. refl) refl
    headed
    (λ u start f depth r lt le. ih f u kind 0 depth start (rw (le-leb 0xD0 kind lo, lt-ltb kind 0xDF hi)) (ne_eqb kind 0 (λ e. omega arith)) up r lt le)

pub struct_usual : (n : ℕ) → n ≢ 1 → Usual 13 n
struct_usual n ne = let z : eqb n 1 ≡ false = ne_eqb n 1 ne in
    record { shortly = λ lt. refl; at_length = refl; framed = refl; plain = z; short_fits = rw z; long_fits = rw z }

unfoldable pub found_struct : (an h body : List ℕ) (fs : Fields Scalar) → Header struct_code (length body) h → length body ≢ 1
    → FieldsFound body fs → BareFound (h ++ body) an (struct an fs)
found_struct an h body fs hd ne ih =
    let k = first hd in
    let no : get_or h 0 0 ≢ 0xD1 = λ e. k.not_one ne (omega (arith, k.is)) in
    struct_found an (get_or h 0 0) h body fs (header_pos hd) refl (omega (arith, k.is)) (omega (arith, k.is, k.small))
    (λ out s at r start stop p q y. plain_header out body r start stop hd (struct_usual (length body) ne) p q y)
    (λ e. contrary (ne_eqb (get_or h 0 0) 0xD1 no) e) ih

unfoldable pub found-sorted : (an l body : List ℕ) (fs : Fields Scalar) → VarUInt l (length body) → 0 < length body → length body ≢ 1
    → sorted 0 fs ≡ true → FieldsFound body fs → BareFound (0xD1 ∷ (l ++ body)) an (struct an fs)
found-sorted an l body fs v pos ne up ih =
    struct_found an 0xD1 (0xD1 ∷ l) body fs (omega arith) refl (omega arith) (omega arith)
    (λ out s at r start stop p q y. sorted_header out l body r start stop v (omega arith) (omega arith) q y)
    (λ e. up) ih
