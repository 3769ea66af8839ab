-- The scalar calls by their arguments: the bytes that each puts, the value that its arguments name, and the checks on them.
-- The bytes are no function of the value: 20 and 21 00 both read as the int 0.
-- Assumes nothing.
use Rattle.std.specs.Prelude.{ℕ, suc, ◌+◌, ◌^◌, ◌<◌, Bool, true, false, ◌&&◌, ◌||◌, not, List, [], ◌∷◌, ltb, eqb, length, ℤ, pos, negsuc, neg_ℤ}
use Rattle.std.proofs.Math.Option.{Option}
use Rattle.std.specs.Float.{binary32, binary64}
use Rattle.std.specs.Float.Ieee.{of_bits, to_bits, is_nan, fits as holds}
use Rattle.ion.specs.Value.{IonType, ion_null, ion_bool, ion_int, ion_float, ion_decimal, ion_timestamp, ion_symbol, ion_string, ion_clob, ion_blob}
use Rattle.ion.specs.Value.{ion_list, ion_sexp, ion_struct}
use Rattle.ion.specs.Value.{TypeCode, null_code, bool_code, positive_code, negative_code, float_code, decimal_code, timestamp_code, symbol_code}
use Rattle.ion.specs.Value.{string_code, clob_code, blob_code, list_code, sexp_code, struct_code}
use Rattle.ion.specs.Value.{signed, Fraction, Scalar, null, bool, int, float, decimal, timestamp, symbol, string, clob, blob}
use Rattle.ion.specs.Fields.{uint}
use Rattle.ion.specs.Text.{utf8}
use Rattle.ion.specs.Scalars.{float_of}
use Rattle.encoding.specs.Fields.{uint_bytes, fixed_bytes, trimmed, or_zero, IsI64}
use Rattle.encoding.specs.Headers.{type_byte, framed_bytes}
use Rattle.encoding.specs.Decimal.{decimal_body}
use Rattle.encoding.specs.Timestamp.{utc, is_timestamp, timestamp_body}

-- A sign is true for negative; a magnitude is big-endian, and no bytes mean zero. Floats are given by their bits.
-- A decimal has the sign and magnitude of its coefficient, then its exponent; a timestamp its offset, if that is known, local fields and fraction.
pub data Argument : Type 0 where
  write_null : IonType → Argument
  write_bool : Bool → Argument
  write_i64 : ℤ → Argument
  write_int : Bool → List ℕ → Argument
  write_f32 write_f64 : ℕ → Argument
  write_decimal : Bool → List ℕ → ℤ → Argument
  write_timestamp : Option ℤ → List ℕ → Fraction → Argument
  write_symbol : ℕ → Argument
  write_string write_clob write_blob : List ℕ → Argument

-- ---- the bytes

-- `write_null`: null.int has the code of the positive ints
abbrev pub code_of_null : IonType → TypeCode
code_of_null ion_null = null_code
code_of_null ion_bool = bool_code
code_of_null ion_int = positive_code
code_of_null ion_float = float_code
code_of_null ion_decimal = decimal_code
code_of_null ion_timestamp = timestamp_code
code_of_null ion_symbol = symbol_code
code_of_null ion_string = string_code
code_of_null ion_clob = clob_code
code_of_null ion_blob = blob_code
code_of_null ion_list = list_code
code_of_null ion_sexp = sexp_code
code_of_null ion_struct = struct_code

abbrev pub code_of_sign : Bool → TypeCode
code_of_sign false = positive_code
code_of_sign true = negative_code

-- positive zero is 40; every other f32 is 44 and its own bits
unfoldable pub float32_bytes : ℕ → List ℕ
float32_bytes b = elim (eqb b 0) [ true ↦ 0x40 ∷ [] | false ↦ 0x44 ∷ fixed_bytes 4 b ]

-- binary32 holds the value of this f64 exactly (IEEE 754, by lib.Ieee); every NaN goes out in eight bytes
unfoldable pub narrows : ℕ → Bool
narrows b = not (is_nan (of_bits binary64 b)) && holds binary32 (of_bits binary64 b)

unfoldable pub float64_bytes : ℕ → List ℕ
float64_bytes b = elim (narrows b) [ true ↦ float32_bytes (to_bits binary32 (of_bits binary64 b)) | false ↦ 0x48 ∷ fixed_bytes 8 b ]

unfoldable pub argument_bytes : Argument → List ℕ
argument_bytes (write_null t) = (type_byte (code_of_null t) + 15) ∷ []
argument_bytes (write_bool false) = 0x10 ∷ []
argument_bytes (write_bool true) = 0x11 ∷ []
argument_bytes (write_i64 (pos n)) = framed_bytes (type_byte positive_code) (uint_bytes n)
argument_bytes (write_i64 (negsuc n)) = framed_bytes (type_byte negative_code) (uint_bytes (suc n))
argument_bytes (write_int s m) = framed_bytes (type_byte (code_of_sign s)) (or_zero (trimmed m))
argument_bytes (write_f32 b) = float32_bytes b
argument_bytes (write_f64 b) = float64_bytes b
argument_bytes (write_decimal s m e) = framed_bytes (type_byte decimal_code) (decimal_body s m e)
argument_bytes (write_timestamp o fs x) = framed_bytes (type_byte timestamp_code) (timestamp_body o fs x)
argument_bytes (write_symbol n) = framed_bytes (type_byte symbol_code) (uint_bytes n)
argument_bytes (write_string b) = framed_bytes (type_byte string_code) b
argument_bytes (write_clob b) = framed_bytes (type_byte clob_code) b
argument_bytes (write_blob b) = framed_bytes (type_byte blob_code) b

-- ---- the value that the arguments name

abbrev pub with_sign : Bool → ℤ → ℤ
with_sign false z = z
with_sign true z = neg_ℤ z

unfoldable pub meaning : Argument → Scalar
meaning (write_null t) = null t
meaning (write_bool x) = bool x
meaning (write_i64 z) = int z
meaning (write_int s m) = int (with_sign s (pos (uint m)))
meaning (write_f32 b) = float (float_of binary32 b)
meaning (write_f64 b) = float (float_of binary64 b)
meaning (write_decimal s m e) = decimal (signed s (uint m)) e
meaning (write_timestamp o fs x) = timestamp o (utc o fs) x
meaning (write_symbol n) = symbol n
meaning (write_string b) = string b
meaning (write_clob b) = clob b
meaning (write_blob b) = blob b

-- ---- the checks 5 to 8 of document 01's table: each test that refuses, with its number. Document 02, Item 9, takes a timestamp's length out of it.

abbrev pub argument_checks : Argument → List (Bool × ℕ)
argument_checks (write_null t) = []
argument_checks (write_bool x) = []
argument_checks (write_i64 z) = []
argument_checks (write_int s m) = (s && eqb (uint m) 0, 5) ∷ []
argument_checks (write_f32 b) = []
argument_checks (write_f64 b) = []
argument_checks (write_decimal s m e) = (ltb 32 (length (decimal_body s m e)), 8) ∷ []
argument_checks (write_timestamp o fs x) = (not (is_timestamp o fs x), 7) ∷ []
argument_checks (write_symbol n) = []
argument_checks (write_string b) = (not (utf8 b), 6) ∷ []
argument_checks (write_clob b) = []
argument_checks (write_blob b) = []

-- one of the tests holds
abbrev pub any_holds : List (Bool × ℕ) → Bool
any_holds [] = false
any_holds (x ∷ xs) = x.0 || any_holds xs

-- The bytes of a scalar whose own checks pass, and none otherwise; no scalar has none.
unfoldable pub checked_bytes : Argument → List ℕ
checked_bytes a = elim (any_holds (argument_checks a)) [ true ↦ [] | false ↦ argument_bytes a ]

-- ---- what the types of the arguments say, as far as a theorem needs it: numbers of 32 and 64 bits, slices shorter than 2 ^ 64

abbrev pub Typed : Argument → Type 0
Typed (write_null t) = Unit {0}
Typed (write_bool x) = Unit {0}
Typed (write_i64 z) = IsI64 z
Typed (write_int s m) = length m < 2 ^ 64
Typed (write_f32 b) = b < 2 ^ 32
Typed (write_f64 b) = b < 2 ^ 64
Typed (write_decimal s m e) = IsI64 e
Typed (write_timestamp o fs x) = Unit {0}
Typed (write_symbol n) = n < 2 ^ 64
Typed (write_string b) = length b < 2 ^ 64
Typed (write_clob b) = length b < 2 ^ 64
Typed (write_blob b) = length b < 2 ^ 64
