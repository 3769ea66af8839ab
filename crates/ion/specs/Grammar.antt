-- The grammar of the Ion 1.0 binary encoding: which bytes stand for which value, production by production.
-- Assumes nothing.
use Rattle.std.specs.Prelude.{ℕ, ◌+◌, ◌*◌, ◌<◌, ◌≡◌, Bool, true, false, ◌&&◌, List, [], ◌∷◌, ◌++◌, leb, length}
use Rattle.std.proofs.Math.Option.{some}
use Rattle.std.specs.Float.{binary32, binary64}
use Rattle.ion.specs.Value.{IonType, TypeCode, null_code, struct_code, annotation_code, high_bits, null_type, SequenceType, sequence_code}
use Rattle.ion.specs.Value.{finite, Scalar, null, bool, float}
use Rattle.ion.specs.Value.{Value, scalar, sequence, struct, Members, no_members, member, Fields, no_fields, field, Item, marker, value}
use Rattle.ion.specs.Fields.{VarUInt, uint}
use Rattle.ion.specs.Scalars.{float_of, scalar_of}

-- "Typed Value Formats": the type descriptor of a body of n bytes. The type code is in the high four bits; the low four are the length,
-- or 14 with the length behind them as a VarUInt.
pub data Header (c : TypeCode) (n : ℕ) : List ℕ → Type 0 where
  short : n < 14 → Header c n ((high_bits c * 16 + n) ∷ [])
  long : {l : List ℕ} → VarUInt l n → Header c n ((high_bits c * 16 + 14) ∷ l)

-- the names may repeat but not fall (document 02, Item 1), from `least` on
abbrev pub sorted : ℕ → Fields Scalar → Bool
sorted least no_fields = true
sorted least (field k v fs) = leb least k && sorted k fs

-- What bytes may stand for: a NOP pad; the sids of an annotation list; a value without its annotation wrapper, given its annotations;
-- a value; the members of a list or an s-expression; the fields of a struct; a stream.
pub data Phrase : Type 0 where
  padding : Phrase
  sids : List ℕ → Phrase
  bare : List ℕ → Value → Phrase
  one : Value → Phrase
  members : Members Scalar → Phrase
  fields : Fields Scalar → Phrase
  stream : List (Item Scalar) → Phrase

-- The bytes on the left stand for the phrase on the right.
infix 30 ◌⟶◌
pub data ◌⟶◌ : List ℕ → Phrase → Type 0 where
  -- "0: null": 0F is null.null, any other length is a NOP pad of that many bytes, whatever they are
  pad : {h : List ℕ} (body : List ℕ) → Header null_code (length body) h → (h ++ body) ⟶ padding
  -- "Null Values": 15 in the low four bits of any type but the annotations'
  is-null : {an : List ℕ} {t : IonType} (c : TypeCode) → null_type c ≡ some t → ((high_bits c * 16 + 15) ∷ []) ⟶ bare an (scalar an (null t))
  -- "1: bool"
  is_false : {an : List ℕ} → (0x10 ∷ []) ⟶ bare an (scalar an (bool false))
  is_true : {an : List ℕ} → (0x11 ∷ []) ⟶ bare an (scalar an (bool true))
  -- "4: float": no body is 0e0; four bytes are a binary32, eight a binary64
  is_zero : {an : List ℕ} → (0x40 ∷ []) ⟶ bare an (scalar an (float (finite false 0)))
  is_float32 : {an : List ℕ} (b : List ℕ) → length b ≡ 4 → (0x44 ∷ b) ⟶ bare an (scalar an (float (float_of binary32 (uint b))))
  is_float64 : {an : List ℕ} (b : List ℕ) → length b ≡ 8 → (0x48 ∷ b) ⟶ bare an (scalar an (float (float_of binary64 (uint b))))
  -- "2 and 3: int", "5: decimal" to "10: blob"
  is_scalar : {an : List ℕ} (c : TypeCode) {h : List ℕ} {s : Scalar} (body : List ℕ)
      → Header c (length body) h → scalar_of c body ≡ some s
      → (h ++ body) ⟶ bare an (scalar an s)
  -- "11: list" and "12: sexp"
  is-sequence : {an : List ℕ} (k : SequenceType) {h body : List ℕ} {vs : Members Scalar}
      → Header (sequence_code k) (length body) h → body ⟶ members vs
      → (h ++ body) ⟶ bare an (sequence an k vs)
  -- "13: struct". A body of fields is never one byte long, so D1 is no plain header; it is the sorted form: a VarUInt length follows,
  -- and the body is not empty
  is_struct : {an : List ℕ} {h body : List ℕ} {fs : Fields Scalar}
      → Header struct_code (length body) h → body ⟶ fields fs
      → (h ++ body) ⟶ bare an (struct an fs)
  is_sorted : {an : List ℕ} {body : List ℕ} {fs : Fields Scalar} (l : List ℕ)
      → VarUInt l (length body) → 0 < length body → body ⟶ fields fs → sorted 0 fs ≡ true
      → (0xD1 ∷ (l ++ body)) ⟶ bare an (struct an fs)
  -- "14: Annotations": the length of the sids as a VarUInt, at least one sid, and exactly one value, which is no wrapper and no pad
  is_bare : {b : List ℕ} {v : Value} → b ⟶ bare [] v → b ⟶ one v
  is_annotated : {h s b an : List ℕ} {a : ℕ} {v : Value} (l : List ℕ)
      → Header annotation_code (length (l ++ (s ++ b))) h → VarUInt l (length s) → s ⟶ sids (a ∷ an) → b ⟶ bare (a ∷ an) v
      → (h ++ (l ++ (s ++ b))) ⟶ one v
  sids_end : [] ⟶ sids []
  sids_next : (l : List ℕ) {b an : List ℕ} {a : ℕ} → VarUInt l a → b ⟶ sids an → (l ++ b) ⟶ sids (a ∷ an)
  -- the members of a sequence, with pads between them
  members_end : [] ⟶ members no_members
  members_pad : {p b : List ℕ} {vs : Members Scalar} → p ⟶ padding → b ⟶ members vs → (p ++ b) ⟶ members vs
  members-next : {p b : List ℕ} {v : Value} {vs : Members Scalar} → p ⟶ one v → b ⟶ members vs → (p ++ b) ⟶ members (member v vs)
  -- the fields of a struct: a VarUInt name and a value, or a name and a pad
  fields_end : [] ⟶ fields no_fields
  fields_pad : {p b : List ℕ} {k : ℕ} {fs : Fields Scalar} (l : List ℕ)
      → VarUInt l k → p ⟶ padding → b ⟶ fields fs
      → (l ++ (p ++ b)) ⟶ fields fs
  fields-next : {p b : List ℕ} {k : ℕ} {v : Value} {fs : Fields Scalar} (l : List ℕ)
      → VarUInt l k → p ⟶ one v → b ⟶ fields fs
      → (l ++ (p ++ b)) ⟶ fields (field k v fs)
  -- "Value Streams": version markers, values and pads in order; the first item need not be a marker (document 02, Item 1)
  stream_end : [] ⟶ stream []
  stream_pad : {p b : List ℕ} {is : List (Item Scalar)} → p ⟶ padding → b ⟶ stream is → (p ++ b) ⟶ stream is
  stream_marker : {b : List ℕ} {is : List (Item Scalar)} → b ⟶ stream is → (0xE0 ∷ 0x01 ∷ 0x00 ∷ 0xEA ∷ b) ⟶ stream (marker ∷ is)
  stream_next : {p b : List ℕ} {v : Value} {is : List (Item Scalar)} → p ⟶ one v → b ⟶ stream is → (p ++ b) ⟶ stream (value v ∷ is)

-- A reading of bytes (document 01, "What a list of calls spells"): all of them stand for these items, in order.
abbrev pub Reads : List ℕ → List (Item Scalar) → Type 0
Reads b is = b ⟶ stream is
