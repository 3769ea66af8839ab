-- The bodies of decimals, timestamps and symbols, taken apart: what a caller needs to have the scalar whole, by the functions of the grammar.
-- Numbers past what is given here stay where they are in the body, as an Int from a place on.
-- Assumes nothing.
use Rattle.std.specs.Prelude as Std
use Rattle.std.specs.Prelude.{ℕ, zero, suc, ◌-◌, ◌^◌, Bool, true, false, cond, List, [], ◌∷◌, ltb, length, get_or, Result, Ok, Err, Some, None}
use Rattle.std.proofs.Math.Option.{Option, none, some}
use Rattle.ion.specs.Value as Ion
use Rattle.ion.specs.Value.{Signed, signed, no_fraction, fraction, Scalar}
use Rattle.ion.specs.Fields.{uint, int_field, var_uints, var_int}
use Rattle.ion.specs.Scalars.{are_fields, fraction_of, timestamp_of}
use Rattle.mark.specs.OutOfCalendar.{is_marked}
use Rattle.reading.specs.declared.Refusal.{Refusal}
use Rattle.reading.specs.declared.Refusal.TheVariants.{NotIon}
use Rattle.reading.specs.declared.Decimal.{Decimal}
use Rattle.reading.specs.declared.Offset.{Offset}
use Rattle.reading.specs.declared.Fields.{Fields}
use Rattle.reading.specs.declared.Fraction.{Fraction}
use Rattle.reading.specs.declared.Timestamp.{Timestamp}
use Rattle.reading.specs.declared.Shown.{Shown}

abbrev pub is_negative : Signed → Bool
is_negative (signed s n) = s

abbrev pub magnitude : Signed → ℕ
magnitude (signed s n) = n

-- ---- "5: decimal": a VarInt exponent, then an Int coefficient; no body is 0d0

abbrev pub decimal_from : ℕ → Option (Signed × List ℕ) → Result Decimal Refusal
decimal_from size none = Err NotIon
decimal_from size (some e) = Ok (record { negative = is_negative e.0; exponent = magnitude e.0; coefficient = size - length e.1 })

unfoldable pub decimal_in : List ℕ → Result Decimal Refusal
decimal_in [] = Ok (record { negative = false; exponent = 0; coefficient = 0 })
decimal_in (b ∷ bs) = decimal_from (length (b ∷ bs)) (var_int (b ∷ bs))

-- ---- "6: timestamp": a VarInt offset, VarUInt fields in UTC, then the fraction's VarInt exponent and Int coefficient

-- negative zero is the unknown offset
abbrev pub known_offset : Signed → Std.Option Offset
known_offset (signed false n) = Some (record { negative = false; minutes = n })
known_offset (signed true zero) = None
known_offset (signed true (suc n)) = Some (record { negative = true; minutes = suc n })

abbrev pub six_fields : List ℕ → Fields
six_fields f =
    record {
      count = length f;
      year = get_or f 0 0;
      month = get_or f 1 0;
      day = get_or f 2 0;
      hour = get_or f 3 0;
      minute = get_or f 4 0;
      second = get_or f 5 0;
    }

abbrev pub stamped : Signed → List ℕ → Std.Option Fraction → Result Timestamp Refusal
stamped o f x = Ok (record { offset = known_offset o; fields = six_fields f; fraction = x })

-- the coefficient is the Int whose bytes are the body's last n
abbrev pub fractioned : ℕ → Signed → List ℕ → ℕ → Option Ion.Fraction → Result Timestamp Refusal
fractioned size o f n none = Err NotIon
fractioned size o f n (some no_fraction) = stamped o f None
fractioned size o f n (some (fraction k c)) = stamped o f (Some (record { digits = k; coefficient = size - n }))

abbrev pub exponent_from : ℕ → Signed → List ℕ → Option (Signed × List ℕ) → Result Timestamp Refusal
exponent_from size o f none = Err NotIon
exponent_from size o f (some e) = fractioned size o f (length e.1) (fraction_of e.0 (int_field e.1))

abbrev pub fraction_from : ℕ → Signed → List ℕ → List ℕ → Result Timestamp Refusal
fraction_from size o f [] = stamped o f None
fraction_from size o f (b ∷ bs) = exponent_from size o f (var_int (b ∷ bs))

abbrev pub fields_from : ℕ → Signed → Option (List ℕ × List ℕ) → Result Timestamp Refusal
fields_from size o none = Err NotIon
fields_from size o (some f) = cond (are_fields f.0) (fraction_from size o f.0 f.1) (Err NotIon)

abbrev pub offset_from : ℕ → Option (Signed × List ℕ) → Result Timestamp Refusal
offset_from size none = Err NotIon
offset_from size (some o) = fields_from size o.0 (var_uints 6 o.1)

unfoldable pub timestamp_in : List ℕ → Result Timestamp Refusal
timestamp_in b = offset_from (length b) (var_int b)

-- the mark of a body that reads
abbrev pub mark_in : Option Scalar → Bool
mark_in none = false
mark_in (some x) = is_marked x

-- what the reader shows: the mark beside the timestamp
abbrev pub shown_with : Bool → Result Timestamp Refusal → Result Shown Refusal
shown_with mark (Err r) = Err r
shown_with mark (Ok t) = Ok (record { timestamp = t; marked = mark })

unfoldable pub shown_in : List ℕ → Result Shown Refusal
shown_in b = shown_with (mark_in (timestamp_of b)) (timestamp_in b)

-- ---- "7: symbol": a UInt of 64 bits at most

unfoldable pub symbol_in : List ℕ → Result ℕ Refusal
symbol_in b = cond (ltb (uint b) (2 ^ 64)) (Ok (uint b)) (Err NotIon)
