-- "Typed Value Formats" of the Ion 1.0 binary encoding, the scalars: what a body stands for, as a function of its bytes.
-- Assumes nothing.
use Rattle.std.specs.Prelude.{ℕ, zero, suc, ◌*◌, ◌/◌, ◌^◌, Bool, true, false, ◌&&◌, List, [], ◌∷◌, ltb, leb, eqb, ℤ, pos, negsuc}
use Rattle.std.proofs.Math.Option.{Option, none, some}
use lib.Ieee.{Float, nan, inf, fin, Format, of_bits, up, down}
use Rattle.ion.specs.Value.{TypeCode, null_code, bool_code, positive_code, negative_code, float_code, decimal_code, timestamp_code, symbol_code}
use Rattle.ion.specs.Value.{string_code, clob_code, blob_code, list_code, sexp_code, struct_code, annotation_code}
use Rattle.ion.specs.Value.{FloatValue, not_anumber, infinite, finite, Signed, signed, Fraction, no_fraction, fraction}
use Rattle.ion.specs.Value.{Scalar, int, decimal, timestamp, symbol, string, clob, blob}
use Rattle.ion.specs.Chain.{◌>>=◌, check}
use Rattle.ion.specs.Fields.{uint, int_field, var_uints, var_int, number}
use Rattle.ion.specs.Text.{utf8}
use Rattle.ion.specs.Calendar.{is_month, is_day}

-- ---- "2 and 3: int": a magnitude. Negative zero is outside the grammar.

abbrev pub int_of : Signed → Option Scalar
int_of (signed false n) = some (int (pos n))
int_of (signed true zero) = none
int_of (signed true (suc n)) = some (int (negsuc n))

-- ---- "4: float": IEEE 754, by the account of lib.Ieee. A size counts units of 2 ^ -1074, of which every binary64 is a whole number.

abbrev pub float_value : Float → FloatValue
float_value nan = not_anumber
float_value (inf s) = infinite s
float_value (fin s m e) = finite s (m * up e * 2 ^ 1074 / down e)

-- the value of a bit pattern
unfoldable pub float_of : Format → ℕ → FloatValue
float_of f b = float_value (of_bits f b)

-- ---- "5: decimal": a VarInt exponent, then an Int coefficient, which may be missing; no body is 0d0.

unfoldable pub decimal_of : List ℕ → Option Scalar
decimal_of [] = some (decimal (signed false 0) (pos 0))
decimal_of (b ∷ bs) = var_int (b ∷ bs) >>= λ e. some (decimal (int_field e.1) (number e.0))

-- ---- "6: timestamp": a VarInt offset, VarUInt fields in UTC, then the fraction's VarInt exponent and Int coefficient.

-- The offset in minutes; negative zero is the unknown offset.
abbrev pub offset_of : Signed → Option ℤ
offset_of (signed false n) = some (pos n)
offset_of (signed true zero) = none
offset_of (signed true (suc n)) = some (negsuc n)

-- Years 0 to 10000: files hold those two UTC years beside the calendar's, and remain readable (document 02, Item 2).
abbrev pub is_year : ℕ → Bool
is_year y = leb y 10000

-- Year; month; day; hour and minute together; second.
unfoldable pub are_fields : List ℕ → Bool
are_fields [] = false
are_fields (y ∷ []) = is_year y
are_fields (y ∷ m ∷ []) = is_year y && is_month m
are_fields (y ∷ m ∷ d ∷ []) = is_year y && is_day y m d
are_fields (y ∷ m ∷ d ∷ h ∷ []) = false
are_fields (y ∷ m ∷ d ∷ h ∷ i ∷ []) = is_year y && (is_day y m d && (ltb h 24 && ltb i 60))
are_fields (y ∷ m ∷ d ∷ h ∷ i ∷ s ∷ []) = is_year y && (is_day y m d && (ltb h 24 && (ltb i 60 && ltb s 60)))
are_fields (y ∷ m ∷ d ∷ h ∷ i ∷ s ∷ x ∷ r) = false

-- A fraction's coefficient has at most 4,096 bytes, leading zeros aside: to compare a longer one with a power of ten exactly takes memory that grows with it.
-- Document 02, Item 1, leaves this open (docs/DECISIONS.md).
unfoldable pub is_coefficient : ℕ → Bool
is_coefficient c = ltb c (256 ^ 4096)

-- The exponent and the coefficient make a value of at least zero and below one. Zero with an exponent above -1 is no fraction;
-- a coefficient of negative zero is zero (document 02, Item 1).
unfoldable pub fraction_of : Signed → Signed → Option Fraction
fraction_of (signed false e) (signed s c) = check (eqb c 0) (some no_fraction)
fraction_of (signed true zero) (signed s c) = check (eqb c 0) (some no_fraction)
fraction_of (signed true (suc e)) (signed false c) = check (is_coefficient c && ltb c (10 ^ suc e)) (some (fraction (suc e) c))
fraction_of (signed true (suc e)) (signed true c) = check (eqb c 0) (some (fraction (suc e) 0))

unfoldable pub fraction_at : List ℕ → Option Fraction
fraction_at [] = some no_fraction
fraction_at (b ∷ bs) = var_int (b ∷ bs) >>= λ e. fraction_of e.0 (int_field e.1)

unfoldable pub timestamp_of : List ℕ → Option Scalar
timestamp_of b =
    var_int b >>= λ o.
    var_uints 6 o.1 >>= λ f.
    check (are_fields f.0) (fraction_at f.1 >>= λ x. some (timestamp (offset_of o.0) f.0 x))

-- ---- the scalars that have a header with a length and a body, by their type code: "7: symbol" is a UInt of 64 bits at most, "8: string" is UTF-8,
-- "9: clob" and "10: blob" are any bytes. Null, bool and float have productions of their own.

unfoldable pub scalar_of : TypeCode → List ℕ → Option Scalar
scalar_of null_code b = none
scalar_of bool_code b = none
scalar_of positive_code b = int_of (signed false (uint b))
scalar_of negative_code b = int_of (signed true (uint b))
scalar_of float_code b = none
scalar_of decimal_code b = decimal_of b
scalar_of timestamp_code b = timestamp_of b
scalar_of symbol_code b = check (ltb (uint b) (2 ^ 64)) (some (symbol (uint b)))
scalar_of string_code b = check (utf8 b) (some (string b))
scalar_of clob_code b = some (clob b)
scalar_of blob_code b = some (blob b)
scalar_of list_code b = none
scalar_of sexp_code b = none
scalar_of struct_code b = none
scalar_of annotation_code b = none
