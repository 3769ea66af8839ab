-- The Ion data model: annotated trees over their leaves, and the items of a stream. Symbols are numbers (sids).
-- Two readings are equal if they are `≡` here; there is no other notion of equality.
-- Assumes nothing.
use Rattle.std.specs.Prelude.{ℕ, Bool, List, [], ◌∷◌, ◌++◌, ℤ}
use Rattle.std.proofs.Math.Option.{Option, none, some}

-- The thirteen Ion types.
pub data IonType : Type 0 where
  ion_null ion_bool ion_int ion_float ion_decimal ion_timestamp ion_symbol ion_string ion_clob ion_blob ion_list ion_sexp ion_struct : IonType

-- The type codes of a type descriptor ("Typed Value Formats"): ints have one for each sign. Code 15 is reserved.
pub data TypeCode : Type 0 where
  null_code bool_code positive_code negative_code float_code decimal_code timestamp_code symbol_code : TypeCode
  string_code clob_code blob_code list_code sexp_code struct_code annotation_code : TypeCode

-- The number that the high four bits of a type descriptor hold.
abbrev pub high_bits : TypeCode → ℕ
high_bits null_code = 0
high_bits bool_code = 1
high_bits positive_code = 2
high_bits negative_code = 3
high_bits float_code = 4
high_bits decimal_code = 5
high_bits timestamp_code = 6
high_bits symbol_code = 7
high_bits string_code = 8
high_bits clob_code = 9
high_bits blob_code = 10
high_bits list_code = 11
high_bits sexp_code = 12
high_bits struct_code = 13
high_bits annotation_code = 14

-- The type of a null with this code: both int codes have a null.int, an annotation has none.
abbrev pub null_type : TypeCode → Option IonType
null_type null_code = some ion_null
null_type bool_code = some ion_bool
null_type positive_code = some ion_int
null_type negative_code = some ion_int
null_type float_code = some ion_float
null_type decimal_code = some ion_decimal
null_type timestamp_code = some ion_timestamp
null_type symbol_code = some ion_symbol
null_type string_code = some ion_string
null_type clob_code = some ion_clob
null_type blob_code = some ion_blob
null_type list_code = some ion_list
null_type sexp_code = some ion_sexp
null_type struct_code = some ion_struct
null_type annotation_code = none

-- A float by its sign and size: a finite size is a whole number of units of 2 ^ -1074, and there is one NaN.
pub data FloatValue : Type 0 where
  not_anumber : FloatValue
  infinite : Bool → FloatValue
  finite : Bool → ℕ → FloatValue

-- A sign (true: negative) and a magnitude; zero keeps its sign.
pub data Signed : Type 0 where
  signed : Bool → ℕ → Signed

-- The digits behind a timestamp's seconds: how many, and the number that they make.
pub data Fraction : Type 0 where
  no_fraction : Fraction
  fraction : ℕ → ℕ → Fraction

-- What a scalar holds. A decimal is its coefficient and its exponent.
-- A timestamp is its offset in minutes, if that is known, its UTC fields from the year down, and its fraction;
-- its precision is how many fields it has: year (1), month (2), day (3), minute (5) or second (6).
pub data Scalar : Type 0 where
  null : IonType → Scalar
  bool : Bool → Scalar
  int : ℤ → Scalar
  float : FloatValue → Scalar
  decimal : Signed → ℤ → Scalar
  timestamp : Option ℤ → List ℕ → Fraction → Scalar
  symbol : ℕ → Scalar
  string clob blob : List ℕ → Scalar

pub data SequenceType : Type 0 where
  list sexp : SequenceType

abbrev pub sequence_code : SequenceType → TypeCode
sequence_code list = list_code
sequence_code sexp = sexp_code

-- A value with its annotations, over leaves in S: scalars for what is read, the arguments of calls for what is written.
mutual
  pub data Tree (S : Type 0) : Type 0 where
    scalar : List ℕ → S → Tree S
    sequence : List ℕ → SequenceType → Members S → Tree S
    struct : List ℕ → Fields S → Tree S

  pub data Members (S : Type 0) : Type 0 where
    no_members : Members S
    member : Tree S → Members S → Members S

  -- each with its name; a name may stand more than once
  pub data Fields (S : Type 0) : Type 0 where
    no_fields : Fields S
    field : ℕ → Tree S → Fields S → Fields S

-- What a stream holds: version markers and values.
pub data Item (S : Type 0) : Type 0 where
  marker : Item S
  value : Tree S → Item S

abbrev pub Value : Type 0
Value = Tree Scalar

-- ---- the leaves of what a stream holds, in their order

unfoldable mutual
  pub tree_leaves : {S : Type 0} → Tree S → List S
  tree_leaves (scalar an s) = s ∷ []
  tree_leaves (sequence an k vs) = members_leaves vs
  tree_leaves (struct an fs) = fields_leaves fs

  pub members_leaves : {S : Type 0} → Members S → List S
  members_leaves no_members = []
  members_leaves (member v vs) = tree_leaves v ++ members_leaves vs

  pub fields_leaves : {S : Type 0} → Fields S → List S
  fields_leaves no_fields = []
  fields_leaves (field n v fs) = tree_leaves v ++ fields_leaves fs

unfoldable pub leaves : {S : Type 0} → List (Item S) → List S
leaves [] = []
leaves (marker ∷ is) = leaves is
leaves (value v ∷ is) = tree_leaves v ++ leaves is
