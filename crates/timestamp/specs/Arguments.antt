-- What a Timestamp stands for: the arguments of the call that writes it.
-- Assumes nothing.
use Rattle.std.specs.Prelude.{ℕ, List, [], ◌∷◌, ℤ, Some, None}
use Rattle.std.specs.Prelude.{Option as RustOption}
use Rattle.std.proofs.Math.Option.{Option, none, some}
use Rattle.ion.specs.Value.{no_fraction, fraction}
use Rattle.ion.specs.Value.{Fraction as IonFraction}
use Rattle.encoding.specs.Argument.{Argument, write_timestamp}
use Rattle.timestamp.specs.declared.Precision.{Precision}
use Rattle.timestamp.specs.declared.Precision.TheVariants.{Year, Month, Day, Minute, Second}
use Rattle.timestamp.specs.declared.Fraction.{Fraction}
use Rattle.timestamp.specs.declared.Timestamp.{Timestamp}

abbrev pub offset_minutes : RustOption ℤ → Option ℤ
offset_minutes None = none
offset_minutes (Some z) = some z

abbrev pub fraction_digits : RustOption Fraction → IonFraction
fraction_digits None = no_fraction
fraction_digits (Some x) = fraction x.digits x.coefficient

-- how many fields count
abbrev pub field_count : Precision → ℕ
field_count Year = 1
field_count Month = 2
field_count Day = 3
field_count Minute = 5
field_count Second = 6

-- those that count, from the year down
abbrev pub fields_by : Precision → ℕ → ℕ → ℕ → ℕ → ℕ → ℕ → List ℕ
fields_by Year y m d h i s = y ∷ []
fields_by Month y m d h i s = y ∷ m ∷ []
fields_by Day y m d h i s = y ∷ m ∷ d ∷ []
fields_by Minute y m d h i s = y ∷ m ∷ d ∷ h ∷ i ∷ []
fields_by Second y m d h i s = y ∷ m ∷ d ∷ h ∷ i ∷ s ∷ []

abbrev pub fields_of : Timestamp → List ℕ
fields_of t = fields_by t.precision t.year t.month t.day t.hour t.minute t.second

abbrev pub argument_of : Timestamp → Argument
argument_of t = write_timestamp (offset_minutes t.offset) (fields_of t) (fraction_digits t.fraction)
