-- What is shown of a body: the mark is that of the timestamp that the body reads as, whose fields are a date or a time of the calendar.
-- Assumes nothing.
use Prim.Native.Nat.{ℕ}
use mathlib.Core.Path.{◌≡◌, refl, ◌∙◌, ap, subst}
use mathlib.Core.Bool.{true}
use mathlib.Core.List.{List}
use mathlib.Core.Option.{Option, none, some}
use lib.IntN.{ℤ}
use Rattle.ion.specs.Value.{Signed, Fraction, Scalar, null, bool, int, float, decimal, timestamp, symbol, string, clob, blob}
use Rattle.ion.specs.Chain.{◌>>=◌, check}
use Rattle.ion.specs.Fields.{var_int, var_uints}
use Rattle.ion.specs.Scalars.{offset_of, are_fields, fraction_at, timestamp_of, scalar_of}
use Rattle.ion.proofs.Tests.{by_cases}
use Rattle.std.specs.Prelude.{Result, Ok, Err}
use Rattle.mark.specs.OutOfCalendar.{out_of_calendar}
use Rattle.reading.specs.declared.Refusal.{Refusal}
use Rattle.reading.specs.declared.Shown.{Shown}
use Rattle.reading.specs.declared.Timestamp.{Timestamp}
use Rattle.reading.specs.Bodies.{timestamp_in, mark_in, shown_with, shown_in}
use Rattle.reading.specs.Told.{offset_told, fields_told, timestamp_told}
use Rattle.reading.proofs.Whole.{timestamp_whole}

told : (b : List ℕ) → timestamp_of b ≡ timestamp_told b (timestamp_in b)
unfolding scalar_of
told b = timestamp_whole b

abbrev pub marked : Result Timestamp Refusal → Result Shown Refusal
marked (Ok t) = Ok (record { timestamp = t; marked = out_of_calendar (offset_told t.offset) (fields_told t.fields) })
marked (Err r) = Err r

pub shown_by : (b : List ℕ) → shown_in b ≡ marked (timestamp_in b)
unfolding shown_in
shown_by b = rw (told b) (go (timestamp_in b))
  where
    go : (t : Result Timestamp Refusal) → shown_with (mark_in (timestamp_told b t)) t ≡ marked t
    go (Ok t) = refl
    go (Err r) = refl

-- ---- the fields of a timestamp that reads

abbrev FieldsHold : Option Scalar → Type 0
FieldsHold none = Unit {0}
FieldsHold (some (null t)) = Unit {0}
FieldsHold (some (bool b)) = Unit {0}
FieldsHold (some (int z)) = Unit {0}
FieldsHold (some (float x)) = Unit {0}
FieldsHold (some (decimal c e)) = Unit {0}
FieldsHold (some (timestamp o fs x)) = are_fields fs ≡ true
FieldsHold (some (symbol n)) = Unit {0}
FieldsHold (some (string b)) = Unit {0}
FieldsHold (some (clob b)) = Unit {0}
FieldsHold (some (blob b)) = Unit {0}

fields_hold : (b : List ℕ) → FieldsHold (timestamp_of b)
unfolding timestamp_of
fields_hold b = by_offset (var_int b)
  where
    by_fraction : (o : Option ℤ) (fs : List ℕ) (x : Option Fraction) → are_fields fs ≡ true → FieldsHold (x >>= λ x. some (timestamp o fs x))
    by_fraction o fs none e = tt
    by_fraction o fs (some x) e = e

    by_fields : (o : Option ℤ) (x : Option (List ℕ × List ℕ)) →
        FieldsHold (x >>= λ f. check (are_fields f.0) (fraction_at f.1 >>= λ x. some (timestamp o f.0 x)))
    by_fields o none = tt
    by_fields o (some f) = by_cases (are_fields f.0) (λ p. rw p (by_fraction o f.0 (fraction_at f.1) p)) (λ p. rw p tt)

    by_offset : (x : Option (Signed × List ℕ)) →
        FieldsHold (x >>= λ o. var_uints 6 o.1 >>= λ f. check (are_fields f.0) (fraction_at f.1 >>= λ x. some (timestamp (offset_of o.0) f.0 x)))
    by_offset none = tt
    by_offset (some o) = by_fields (offset_of o.0) (var_uints 6 o.1)

pub fields_told_hold : (b : List ℕ) (t : Timestamp) → timestamp_in b ≡ Ok t → are_fields (fields_told t.fields) ≡ true
fields_told_hold b t e = subst FieldsHold (told b ∙ ap (timestamp_told b) e) (fields_hold b)
