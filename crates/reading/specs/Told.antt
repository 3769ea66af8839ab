-- What the answers about a scalar's body tell: put together, they are the scalar. The statements; the proofs are in proofs/Whole.antt.
-- Ints, floats, strings and lobs need no more than their type byte and their body.
-- Assumes nothing.
use Rattle.std.specs.Prelude as Std
use Rattle.std.specs.Prelude.{ℕ, ℤ, ◌≡◌, Bool, false, List, [], ◌∷◌, take, drop, Result, Ok, Err, Some, None, is_some as is_there}
use Rattle.std.proofs.Math.Option.{Option, none, some}
use Rattle.ion.specs.Value as Ion
use Rattle.ion.specs.Value.{decimal_code, timestamp_code, symbol_code, signed, no_fraction, fraction, Scalar, decimal, timestamp, symbol}
use Rattle.ion.specs.Fields.{int_field, number}
use Rattle.ion.specs.Scalars.{offset_of, scalar_of}
use Rattle.reading.specs.declared.Refusal.{Refusal}
use Rattle.reading.specs.declared.Decimal.{Decimal}
use Rattle.reading.specs.declared.Offset.{Offset}
use Rattle.reading.specs.declared.Fields.{Fields}
use Rattle.reading.specs.declared.Fraction.{Fraction}
use Rattle.reading.specs.declared.Timestamp.{Timestamp}
use Rattle.reading.specs.declared.Shown.{Shown}
use Rattle.reading.specs.Scalars.{is_some}
use Rattle.reading.specs.Bodies.{magnitude, decimal_in, timestamp_in, mark_in, shown_in, symbol_in}

-- ---- what an answer about the body b tells

abbrev pub decimal_told : List ℕ → Result Decimal Refusal → Option Scalar
decimal_told b (Ok d) = some (decimal (int_field (drop d.coefficient b)) (number (signed d.negative d.exponent)))
decimal_told b (Err r) = none

abbrev pub offset_told : Std.Option Offset → Option ℤ
offset_told None = none
offset_told (Some o) = offset_of (signed o.negative o.minutes)

abbrev pub fields_told : Fields → List ℕ
fields_told f = take f.count (f.year ∷ f.month ∷ f.day ∷ f.hour ∷ f.minute ∷ f.second ∷ [])

-- the digits that a fraction has, and the bytes of their coefficient
abbrev pub fraction_told : List ℕ → Std.Option Fraction → Ion.Fraction
fraction_told b None = no_fraction
fraction_told b (Some f) = fraction f.digits (magnitude (int_field (drop f.coefficient b)))

abbrev pub timestamp_told : List ℕ → Result Timestamp Refusal → Option Scalar
timestamp_told b (Ok t) = some (timestamp (offset_told t.offset) (fields_told t.fields) (fraction_told b t.fraction))
timestamp_told b (Err r) = none

abbrev pub symbol_told : Result ℕ Refusal → Option Scalar
symbol_told (Ok n) = some (symbol n)
symbol_told (Err r) = none

-- the offset is known exactly if there is one
abbrev pub KnownTold : Result Timestamp Refusal → Type 0
KnownTold (Ok t) = is_there t.offset ≡ is_some (offset_told t.offset)
KnownTold (Err r) = Unit {0}

-- a timestamp that is shown, and its mark
abbrev pub timestamp_shown : Result Shown Refusal → Result Timestamp Refusal
timestamp_shown (Ok x) = Ok x.timestamp
timestamp_shown (Err r) = Err r

abbrev pub mark_shown : Result Shown Refusal → Bool
mark_shown (Ok x) = x.marked
mark_shown (Err r) = false

-- ---- the statements

abbrev pub DecimalWhole : Type 0
DecimalWhole = (b : List ℕ) → scalar_of decimal_code b ≡ decimal_told b (decimal_in b)

abbrev pub TimestampWhole : Type 0
TimestampWhole = (b : List ℕ) → scalar_of timestamp_code b ≡ timestamp_told b (timestamp_in b)

-- The mark beside it is that of the scalar; a body that is none has no mark.
abbrev pub MarkWhole : Type 0
MarkWhole = (b : List ℕ) → mark_shown (shown_in b) ≡ mark_in (timestamp_told b (timestamp_shown (shown_in b)))

abbrev pub SymbolWhole : Type 0
SymbolWhole = (b : List ℕ) → scalar_of symbol_code b ≡ symbol_told (symbol_in b)
