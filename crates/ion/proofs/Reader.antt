-- A reader of the grammar, as a function with fuel: every reading is what it answers, so readings are unique.
-- Assumes nothing.
use Prim.Native.Nat.{ℕ, zero, suc, ◌+◌, ◌*◌, ◌/◌, ◌%◌, ◌<◌}
use native.Mathlib.Omega.{arith}
use mathlib.Core.Path.{◌≡◌, refl, sym, ◌∙◌, ap}
use mathlib.Core.Bool.{Bool, true, false, ◌&&◌, ◌||◌, not}
use mathlib.Core.List.{List, [], ◌∷◌, ◌++◌, append_assoc}
use mathlib.Core.Option.{Option, none, some, some-injective, none-ne-some}
use lib.Dec.{ltb, leb, eqb}
use borrow.Author.Tests.{lt-ltb, le-leb, ne_eqb, eqb-true}
use Rattle.ion.proofs.Tests.{by_cases}
use lib.ListN.{length, take, drop, length-append}
use lib.Seq.{take-append_seam, drop-append_seam}
use lib.Arith.{digits_div, digits_mod}
use Rattle.ion.specs.Value.{TypeCode, null_code, bool_code, positive_code, negative_code, float_code, decimal_code, timestamp_code, symbol_code}
use Rattle.ion.specs.Value.{string_code, clob_code, blob_code, list_code, sexp_code, struct_code, annotation_code, high_bits, null_type, FloatValue}
use Rattle.ion.specs.Value.{finite, Scalar, null, bool, float, SequenceType, list, sexp, Value, scalar, sequence, struct, Members, no_members}
use Rattle.ion.specs.Value.{member, Fields, no_fields, field, Item, marker, value}
use lib.Ieee.{binary32, binary64}
use Rattle.ion.specs.Chain.{◌>>=◌, check}
use Rattle.ion.specs.Fields.{var_uint, uint}
use Rattle.ion.specs.Scalars.{float_of, scalar_of}
use Rattle.ion.specs.Grammar.{Header, short, long, sorted}
use Rattle.ion.proofs.Fields.{var_uint_append}

-- ---- one header, as a function

-- what stands at the front of the bytes, its body not yet read
pub data Shape : Type 0 where
  pad_shape : Shape
  scalar_shape : Scalar → Shape
  sequence_shape : SequenceType → List ℕ → Shape
  struct_shape : Bool → List ℕ → Shape
  wrapper_shape : List ℕ → Shape

-- the type code of a number: the first in the list that has it
abbrev pub all_codes : List TypeCode
all_codes =
    null_code ∷ bool_code ∷ positive_code ∷ negative_code ∷ float_code ∷ decimal_code ∷ timestamp_code ∷ symbol_code ∷ string_code ∷ clob_code
    ∷ blob_code ∷ list_code ∷ sexp_code ∷ struct_code ∷ annotation_code ∷ []

unfoldable pub find_code : ℕ → List TypeCode → Option TypeCode
find_code n [] = none
find_code n (c ∷ cs) = elim (eqb (high_bits c) n) [ true ↦ some c | false ↦ find_code n cs ]

abbrev pub code_of : ℕ → Option TypeCode
code_of n = find_code n all_codes

pub find-code : (n : ℕ) (cs : List TypeCode) (c : TypeCode) → find_code n cs ≡ some c → high_bits c ≡ n
unfolding find_code
find-code n [] c e = absurd (none-ne-some c e)
find-code n (d ∷ cs) c e =
    by_cases (eqb (high_bits d) n)
    (λ p. ap high_bits (sym (some-injective d c (rw (p, find_code) at e))) ∙ eqb-true (high_bits d) n p)
    (λ p. find-code n cs c (rw (p, find_code) at e))

pub code_of-high_bits : (c : TypeCode) → code_of (high_bits c) ≡ some c
unfolding find_code
code_of-high_bits null_code = refl
code_of-high_bits bool_code = refl
code_of-high_bits positive_code = refl
code_of-high_bits negative_code = refl
code_of-high_bits float_code = refl
code_of-high_bits decimal_code = refl
code_of-high_bits timestamp_code = refl
code_of-high_bits symbol_code = refl
code_of-high_bits string_code = refl
code_of-high_bits clob_code = refl
code_of-high_bits blob_code = refl
code_of-high_bits list_code = refl
code_of-high_bits sexp_code = refl
code_of-high_bits struct_code = refl
code_of-high_bits annotation_code = refl

-- the body of n bytes, and the bytes after it
unfoldable pub cut : ℕ → List ℕ → Option (List ℕ × List ℕ)
cut n b = elim (leb n (length b)) [ true ↦ some (take n b, drop n b) | false ↦ none ]

-- the length that the low four bits l announce
unfoldable pub length_of : ℕ → List ℕ → Option (ℕ × List ℕ)
length_of l b = elim (ltb l 14) [ true ↦ some (l, b) | false ↦ var_uint b ]

unfoldable pub framed : ℕ → List ℕ → Option (List ℕ × List ℕ)
framed l b = length_of l b >>= λ n. cut n.0 n.1

-- what a type code, its low four bits (not 15) and the body make
unfoldable pub shape_of : TypeCode → List ℕ → Option Shape
shape_of null_code body = some pad_shape
shape_of bool_code body = none
shape_of positive_code body = scalar_of positive_code body >>= λ s. some (scalar_shape s)
shape_of negative_code body = scalar_of negative_code body >>= λ s. some (scalar_shape s)
shape_of float_code body = none
shape_of decimal_code body = scalar_of decimal_code body >>= λ s. some (scalar_shape s)
shape_of timestamp_code body = scalar_of timestamp_code body >>= λ s. some (scalar_shape s)
shape_of symbol_code body = scalar_of symbol_code body >>= λ s. some (scalar_shape s)
shape_of string_code body = scalar_of string_code body >>= λ s. some (scalar_shape s)
shape_of clob_code body = scalar_of clob_code body >>= λ s. some (scalar_shape s)
shape_of blob_code body = scalar_of blob_code body >>= λ s. some (scalar_shape s)
shape_of list_code body = some (sequence_shape list body)
shape_of sexp_code body = some (sequence_shape sexp body)
shape_of struct_code body = some (struct_shape false body)
shape_of annotation_code body = some (wrapper_shape body)

unfoldable pub plain : TypeCode → ℕ → List ℕ → Option (Shape × List ℕ)
plain c l bs = framed l bs >>= λ x. shape_of c x.0 >>= λ sh. some (sh, x.1)

unfoldable pub sorted_at : List ℕ → Option (Shape × List ℕ)
sorted_at bs = var_uint bs >>= λ n. check (ltb 0 n.0) (cut n.0 n.1 >>= λ x. some (struct_shape true x.0, x.1))

unfoldable pub bool_at : ℕ → List ℕ → Option (Shape × List ℕ)
bool_at l bs =
    elim (eqb l 0)
    [ true ↦ some (scalar_shape (bool false), bs) | false ↦ elim (eqb l 1) [ true ↦ some (scalar_shape (bool true), bs) | false ↦ none ] ]

-- a float of n bytes
unfoldable pub bits_at : (List ℕ → FloatValue) → ℕ → List ℕ → Option (Shape × List ℕ)
bits_at f n bs = cut n bs >>= λ x. some (scalar_shape (float (f x.0)), x.1)

unfoldable pub float_at : ℕ → List ℕ → Option (Shape × List ℕ)
float_at l bs =
    elim (eqb l 0) [
      | true ↦ some (scalar_shape (float (finite false 0)), bs)
      | false ↦ elim (eqb l 4) [
        | true ↦ bits_at (λ b. float_of binary32 (uint b)) 4 bs
        | false ↦ elim (eqb l 8) [ true ↦ bits_at (λ b. float_of binary64 (uint b)) 8 bs | false ↦ none ]
      ]
    ]

-- where the low four bits are not 15
unfoldable pub body_at : TypeCode → ℕ → List ℕ → Option (Shape × List ℕ)
body_at null_code l bs = plain null_code l bs
body_at bool_code l bs = bool_at l bs
body_at positive_code l bs = plain positive_code l bs
body_at negative_code l bs = plain negative_code l bs
body_at float_code l bs = float_at l bs
body_at decimal_code l bs = plain decimal_code l bs
body_at timestamp_code l bs = plain timestamp_code l bs
body_at symbol_code l bs = plain symbol_code l bs
body_at string_code l bs = plain string_code l bs
body_at clob_code l bs = plain clob_code l bs
body_at blob_code l bs = plain blob_code l bs
body_at list_code l bs = plain list_code l bs
body_at sexp_code l bs = plain sexp_code l bs
body_at struct_code l bs = elim (eqb l 1) [ true ↦ sorted_at bs | false ↦ plain struct_code l bs ]
body_at annotation_code l bs = plain annotation_code l bs

unfoldable pub shape_at : TypeCode → ℕ → List ℕ → Option (Shape × List ℕ)
shape_at c l bs = elim (eqb l 15) [ true ↦ null_type c >>= λ t. some (scalar_shape (null t), bs) | false ↦ body_at c l bs ]

unfoldable pub shape : List ℕ → Option (Shape × List ℕ)
shape [] = none
shape (b ∷ bs) = code_of (b / 16) >>= λ c. shape_at c (b % 16) bs

-- ---- the header lemma

pub cut_seam : (body r : List ℕ) → cut (length body) (body ++ r) ≡ some (body, r)
unfolding cut
cut_seam body r = rw (le-leb (length body) (length (body ++ r)) (simp length-append (omega arith)), cut, take-append_seam, drop-append_seam)

pub td_high : (c : TypeCode) (l : ℕ) → l < 16 → (high_bits c * 16 + l) / 16 ≡ high_bits c
td_high c l h = digits_div (high_bits c) h

pub td_low : (c : TypeCode) (l : ℕ) → l < 16 → (high_bits c * 16 + l) % 16 ≡ l
td_low c l h = digits_mod (high_bits c) h

pub shape_td : (c : TypeCode) (l : ℕ) (bs : List ℕ) → l < 16 → shape ((high_bits c * 16 + l) ∷ bs) ≡ shape_at c l bs
unfolding shape
shape_td c l bs h = rw (td_high c l h, td_low c l h, code_of-high_bits)

-- what a header is, as the function sees it
pub record Opened (c : TypeCode) (body h : List ℕ) : Type 0 where
  pub low : ℕ
  pub tail : List ℕ
  pub small : low < 15
  pub is : h ≡ (high_bits c * 16 + low) ∷ tail
  pub frames : (r : List ℕ) → framed low (tail ++ (body ++ r)) ≡ some (body, r)

unfoldable pub opened : {c : TypeCode} (body : List ℕ) {h : List ℕ} → Header c (length body) h → Opened c body h
unfolding framed length_of
opened body (short lt) = record {
  low = length body;
  tail = [];
  small = omega arith;
  is = refl;
  frames = λ r. rw (lt-ltb _ _ lt, length_of) (cut_seam body r);
}
opened body (long {l} e) = record {
  low = 14;
  tail = l;
  small = omega arith;
  is = refl;
  frames = λ r. rw (var_uint_append l (length body) [] (body ++ r) e) (cut_seam body r);
}

-- the codes whose headers have nothing special
unfoldable pub plain_code : TypeCode → Bool
plain_code null_code = true
plain_code bool_code = false
plain_code positive_code = true
plain_code negative_code = true
plain_code float_code = false
plain_code decimal_code = true
plain_code timestamp_code = true
plain_code symbol_code = true
plain_code string_code = true
plain_code clob_code = true
plain_code blob_code = true
plain_code list_code = true
plain_code sexp_code = true
plain_code struct_code = false
plain_code annotation_code = true

pub shape_at-body : (c : TypeCode) (l : ℕ) (bs : List ℕ) → l < 15 → shape_at c l bs ≡ body_at c l bs
unfolding shape_at
shape_at-body c l bs h = rw (ne_eqb l 15 (λ e. omega arith), shape_at)

pub body_at-plain : (c : TypeCode) (l : ℕ) (bs : List ℕ) → plain_code c ≡ true → body_at c l bs ≡ plain c l bs
unfolding body_at plain_code
body_at-plain null_code l bs e = refl
body_at-plain bool_code l bs e = cc
body_at-plain positive_code l bs e = refl
body_at-plain negative_code l bs e = refl
body_at-plain float_code l bs e = cc
body_at-plain decimal_code l bs e = refl
body_at-plain timestamp_code l bs e = refl
body_at-plain symbol_code l bs e = refl
body_at-plain string_code l bs e = refl
body_at-plain clob_code l bs e = refl
body_at-plain blob_code l bs e = refl
body_at-plain list_code l bs e = refl
body_at-plain sexp_code l bs e = refl
body_at-plain struct_code l bs e = cc
body_at-plain annotation_code l bs e = refl

pub shape_header : (c : TypeCode) {h : List ℕ} (body r : List ℕ) (sh : Shape) → plain_code c ≡ true → Header c (length body) h
    → shape_of c body ≡ some sh → shape ((h ++ body) ++ r) ≡ some (sh, r)
unfolding plain
shape_header c {h} body r sh e hd q =
    let o = opened body hd in
    let small : o.low < 16 = omega arith in
    rw (
      append_assoc,
      o.is,
      shape_td c o.low (o.tail ++ (body ++ r)) small,
      shape_at-body c o.low _ o.small,
      body_at-plain c _ _ e,
      plain,
      o.frames,
      q,
    )

-- ---- the reader

-- the sids that fill the bytes
unfoldable pub sids_of : ℕ → List ℕ → Option (List ℕ)
sids_of zero b = none
sids_of (suc f) [] = some []
sids_of (suc f) (b ∷ bs) = var_uint (b ∷ bs) >>= λ x. sids_of f x.1 >>= λ an. some (x.0 ∷ an)

abbrev pub is_nil : List ℕ → Bool
is_nil [] = true
is_nil (x ∷ xs) = false

-- a value from its shape, given readers of its members
unfoldable pub bare_of : (List ℕ → Option (Members Scalar)) → (List ℕ → Option (Fields Scalar)) → List ℕ → Shape → Option Value
bare_of f g an pad_shape = none
bare_of f g an (scalar_shape s) = some (scalar an s)
bare_of f g an (sequence_shape k body) = f body >>= λ vs. some (sequence an k vs)
bare_of f g an (struct_shape t body) = g body >>= λ fs. check (not t || sorted 0 fs) (some (struct an fs))
bare_of f g an (wrapper_shape body) = none

-- the one value, not wrapped, that fills the bytes
unfoldable pub inner_of : (List ℕ → Option (Members Scalar)) → (List ℕ → Option (Fields Scalar)) → List ℕ → List ℕ → Option Value
inner_of f g an b = shape b >>= λ x. check (is_nil x.1) (bare_of f g an x.0)

unfoldable pub wrapper_of : (List ℕ → Option (Members Scalar)) → (List ℕ → Option (Fields Scalar)) → List ℕ → Option Value
wrapper_of f g body =
    var_uint body >>= λ n.
    cut n.0 n.1 >>= λ x.
    sids_of (suc (length x.0)) x.0 >>= λ an.
    check (not (is_nil an)) (inner_of f g an x.1)

unfoldable pub value_of : (List ℕ → Option (Members Scalar)) → (List ℕ → Option (Fields Scalar)) → Shape → Option Value
value_of f g pad_shape = none
value_of f g (scalar_shape s) = bare_of f g [] (scalar_shape s)
value_of f g (sequence_shape k body) = bare_of f g [] (sequence_shape k body)
value_of f g (struct_shape t body) = bare_of f g [] (struct_shape t body)
value_of f g (wrapper_shape body) = wrapper_of f g body

-- is it a pad?
unfoldable pub is_pad : Shape → Bool
is_pad pad_shape = true
is_pad (scalar_shape s) = false
is_pad (sequence_shape k body) = false
is_pad (struct_shape t body) = false
is_pad (wrapper_shape body) = false

-- one member more: a pad adds none
unfoldable pub next_member : Bool → Option Value → Option (Members Scalar) → Option (Members Scalar)
next_member true v vs = vs
next_member false v vs = v >>= λ x. vs >>= λ xs. some (member x xs)

unfoldable pub next_field : Bool → ℕ → Option Value → Option (Fields Scalar) → Option (Fields Scalar)
next_field true k v fs = fs
next_field false k v fs = v >>= λ x. fs >>= λ xs. some (field k x xs)

unfoldable mutual
  pub read_members : ℕ → List ℕ → Option (Members Scalar)
  read_members zero b = none
  read_members (suc f) [] = some no_members
  read_members (suc f) (b ∷ bs) =
      shape (b ∷ bs) >>= λ x. next_member (is_pad x.0) (value_of (λ c. read_members f c) (λ c. read_fields f c) x.0) (read_members f x.1)

  pub read_fields : ℕ → List ℕ → Option (Fields Scalar)
  read_fields zero b = none
  read_fields (suc f) [] = some no_fields
  read_fields (suc f) (b ∷ bs) =
      var_uint (b ∷ bs) >>= λ k.
      shape k.1 >>= λ x. next_field (is_pad x.0) k.0 (value_of (λ c. read_members f c) (λ c. read_fields f c) x.0) (read_fields f x.1)

-- a stream: the rest behind a version marker
unfoldable pub after_marker : List ℕ → Option (List ℕ)
after_marker [] = none
after_marker (a ∷ []) = none
after_marker (a ∷ b ∷ []) = none
after_marker (a ∷ b ∷ c ∷ []) = none
after_marker (a ∷ b ∷ c ∷ d ∷ rest) = elim (eqb a 0xE0 && (eqb b 1 && (eqb c 0 && eqb d 0xEA))) [ true ↦ some rest | false ↦ none ]

unfoldable pub next_item : Bool → Option Value → Option (List (Item Scalar)) → Option (List (Item Scalar))
next_item true v is = is
next_item false v is = v >>= λ x. is >>= λ xs. some (value x ∷ xs)

unfoldable pub or_else : {A : Type 0} → Option A → Option A → Option A
or_else (some a) y = some a
or_else none y = y

unfoldable pub read_stream : ℕ → List ℕ → Option (List (Item Scalar))
read_stream zero b = none
read_stream (suc f) [] = some []
read_stream (suc f) (b ∷ bs) =
    or_else (shape (b ∷ bs) >>= λ x. next_item (is_pad x.0) (value_of (λ c. read_members (suc f) c) (λ c. read_fields (suc f) c) x.0) (read_stream f x.1))
    (after_marker (b ∷ bs) >>= λ r. read_stream f r >>= λ is. some (marker ∷ is))

-- the reader of all the bytes
unfoldable pub reader : List ℕ → Option (List (Item Scalar))
reader b = read_stream (suc (length b)) b
