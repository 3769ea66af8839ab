-- What the numbers of an entry stand for where they name a type, a precision, an offset or a fraction.
-- Assumes nothing.
use Rattle.std.specs.Prelude.{ℕ, true, false, [], ◌∷◌, List as Listed, Option, Some, None, eqb, ℤ, get_or}
use Rattle.scalars.specs.declared.IonType.{IonType}
use Rattle.scalars.specs.declared.IonType.TheVariants.{Null, Bool, Int, Float, Decimal, Timestamp, Symbol, String, Clob, Blob, List, Sexp, Struct}
use Rattle.timestamp.specs.declared.Precision.{Precision}
use Rattle.timestamp.specs.declared.Precision.TheVariants.{Year, Month, Day, Minute, Second}
use Rattle.timestamp.specs.declared.Fraction.{Fraction}

-- "Typed Value Formats": a type by its code. 2 and 3 are both int; a number past 13 stands for null.
abbrev pub types : Listed IonType
types = Null ∷ Bool ∷ Int ∷ Int ∷ Float ∷ Decimal ∷ Timestamp ∷ Symbol ∷ String ∷ Clob ∷ Blob ∷ List ∷ Sexp ∷ Struct ∷ []

unfoldable pub type_coded : ℕ → IonType
type_coded code = get_or types code Null

abbrev pub precisions : Listed Precision
precisions = Year ∷ Month ∷ Day ∷ Minute ∷ []

-- from 4 on it is second
unfoldable pub precision_numbered : ℕ → Precision
precision_numbered n = get_or precisions n Second

unfoldable pub offset_lent : ℕ → ℤ → Option ℤ
offset_lent known minutes = elim (eqb known 0) [ true ↦ None | false ↦ Some minutes ]

unfoldable pub fraction_lent : ℕ → ℕ → ℕ → Option Fraction
fraction_lent given digits coefficient =
    elim (eqb given 0) [ true ↦ None | false ↦ Some (record { digits = digits; coefficient = coefficient }) ]
