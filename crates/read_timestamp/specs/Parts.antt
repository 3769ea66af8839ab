-- The parts of a timestamp's body by their places: the fields, and the fraction behind them.
-- Assumes nothing.
use Rattle.std.specs.Prelude as Std
use Rattle.std.specs.Prelude.{ℕ, ◌-◌, List, [], ◌∷◌, length, drop, Result, Ok, Err, Some, None}
use Rattle.std.proofs.Math.Option.{Option, none, some}
use Rattle.ion.specs.Value as Ion
use Rattle.ion.specs.Value.{Signed}
use Rattle.ion.specs.Fields.{int_field, var_uints, var_int}
use Rattle.ion.specs.Scalars.{fraction_of}
use Rattle.reading.specs.declared.Refusal.{Refusal}
use Rattle.reading.specs.declared.Refusal.TheVariants.{NotIon}
use Rattle.reading.specs.declared.Fraction.{Fraction}
use Rattle.reading.specs.Bodies.{six_fields}
use Rattle.read_timestamp.specs.declared.FieldsTo.{FieldsTo}

-- what is left of `size` bytes begins behind the fields
abbrev pub fields_in : ℕ → Option (List ℕ × List ℕ) → Result FieldsTo Refusal
fields_in size none = Err NotIon
fields_in size (some x) = Ok (record { fields = six_fields x.0; next = size - length x.1 })

unfoldable pub fields_at : List ℕ → ℕ → Result FieldsTo Refusal
fields_at s at = fields_in (length s) (var_uints 6 (drop at s))

-- the coefficient is the Int whose bytes are the last n of `size`
abbrev pub digits_in : ℕ → ℕ → Option Ion.Fraction → Result (Std.Option Fraction) Refusal
digits_in size n none = Err NotIon
digits_in size n (some Ion.no_fraction) = Ok None
digits_in size n (some (Ion.fraction k c)) = Ok (Some (record { digits = k; coefficient = size - n }))

abbrev pub exponent_in : ℕ → Option (Signed × List ℕ) → Result (Std.Option Fraction) Refusal
exponent_in size none = Err NotIon
exponent_in size (some e) = digits_in size (length e.1) (fraction_of e.0 (int_field e.1))

abbrev pub fraction_in : ℕ → List ℕ → Result (Std.Option Fraction) Refusal
fraction_in size [] = Ok None
fraction_in size (b ∷ bs) = exponent_in size (var_int (b ∷ bs))

unfoldable pub fraction_at : List ℕ → ℕ → Result (Std.Option Fraction) Refusal
fraction_at s at = fraction_in (length s) (drop at s)
