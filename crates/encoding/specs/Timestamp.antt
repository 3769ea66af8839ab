-- A timestamp as the writer is given it, and its body: document 01's modules types/timestamp and binary/timestamp.
-- The fields are local, from the year down: 1, 2, 3, 5 or 6 of them, by the precision.
-- Assumes nothing.
use Rattle.std.specs.Prelude.{ℕ, suc, ◌+◌, ◌-◌, ◌*◌, ◌/◌, ◌%◌, ◌^◌, ◌≤◌, ◌<◌, ◌≡◌, Bool, true, false, cond, ◌&&◌, not, List, [], ◌∷◌, ◌++◌, ltb, leb, eqb, length, take, drop, get_or, ℤ, pos, negsuc, nat_abs, neg_ℤ, ◌-ℤ◌}
use Rattle.std.proofs.Math.Option.{Option, none, some}
use Rattle.ion.specs.Value.{signed, Fraction, no_fraction, fraction}
use Rattle.ion.specs.Calendar.{days_in_month, is_month, is_calendar_year, minute_of}
use Rattle.ion.specs.Scalars.{are_fields}
use Rattle.mark.specs.OutOfCalendar.{out_of_calendar}
use Rattle.encoding.specs.Fields.{var_uints_bytes, var_int_bytes, signed_of, uint_bytes}
use Rattle.encoding.specs.Decimal.{decimal_body}

-- ---- written fields are UTC: local minus offset

pub data Date : Type 0 where
  date : ℕ → ℕ → ℕ → Date

unfoldable pub day_before : ℕ → ℕ → ℕ → Date
day_before y m d =
    elim (ltb 1 d) [
      | true ↦ date y m (d - 1)
      | false ↦ elim (ltb 1 m) [ true ↦ date y (m - 1) (days_in_month y (m - 1)) | false ↦ date (y - 1) 12 31 ]
    ]

unfoldable pub day_after : ℕ → ℕ → ℕ → Date
day_after y m d =
    elim (ltb d (days_in_month y m)) [
      | true ↦ date y m (d + 1)
      | false ↦ elim (ltb m 12) [ true ↦ date y (m + 1) 1 | false ↦ date (y + 1) 1 1 ]
    ]

-- local minus offset, in minutes from the start of the day before; the offset is within a day
abbrev pub utc_minutes : ℤ → ℕ → ℕ → ℕ
utc_minutes (pos east) h i = 1440 + (h * 60 + i) - east
utc_minutes (negsuc west) h i = 1440 + (h * 60 + i) + suc west

-- the day of the minute t, counted so: a day has 1440
abbrev pub utc_day : ℕ → ℕ → ℕ → ℕ → Date
utc_day t y m d = cond (ltb t 1440) (day_before y m d) (cond (ltb t 2880) (date y m d) (day_after y m d))

-- the minute t of that day, and the fields below the minute
abbrev pub fields_at : Date → ℕ → List ℕ → List ℕ
fields_at (date y m d) t r = y ∷ m ∷ d ∷ t % 1440 / 60 ∷ t % 1440 % 60 ∷ r

abbrev pub utc_fields : ℕ → ℕ → ℕ → ℕ → List ℕ → List ℕ
utc_fields t y m d r = fields_at (utc_day t y m d) t r

-- with no offset known, or no time, the fields stay
abbrev pub utc : Option ℤ → List ℕ → List ℕ
utc none fs = fs
utc (some z) [] = []
utc (some z) (y ∷ []) = y ∷ []
utc (some z) (y ∷ m ∷ []) = y ∷ m ∷ []
utc (some z) (y ∷ m ∷ d ∷ []) = y ∷ m ∷ d ∷ []
utc (some z) (y ∷ m ∷ d ∷ h ∷ []) = y ∷ m ∷ d ∷ h ∷ []
utc (some z) (y ∷ m ∷ d ∷ h ∷ i ∷ r) = utc_fields (utc_minutes z h i) y m d r

-- ---- check 7: a rule for each field that is there; the first field that breaks its rule answers

pub data TimestampField : Type 0 where
  year_field month_field day_field hour_field minute_field second_field offset_field digit_count_field coefficient_field utc_year_field : TimestampField

-- a field, its value, and whether its rule holds
pub record TimestampRule : Type 0 where
  pub field : TimestampField
  pub value : ℤ
  pub holds : Bool

-- year 1 to 9999
abbrev pub year_rule : ℕ → TimestampRule
year_rule y = record { field = year_field; value = pos y; holds = is_calendar_year y }

-- real calendar day
abbrev pub month_rule : ℕ → TimestampRule
month_rule m = record { field = month_field; value = pos m; holds = is_month m }

abbrev pub day_rule : ℕ → ℕ → ℕ → TimestampRule
day_rule y m d = record { field = day_field; value = pos d; holds = leb 1 d && leb d (days_in_month y m) }

-- hour 0 to 23, minute and second 0 to 59
abbrev pub hour_rule : ℕ → TimestampRule
hour_rule h = record { field = hour_field; value = pos h; holds = ltb h 24 }

abbrev pub minute_rule : ℕ → TimestampRule
minute_rule i = record { field = minute_field; value = pos i; holds = ltb i 60 }

abbrev pub second_rule : ℕ → TimestampRule
second_rule s = record { field = second_field; value = pos s; holds = ltb s 60 }

-- as far as the precision goes
abbrev pub field_rules : List ℕ → List TimestampRule
field_rules fs =
    let at : ℕ → ℕ = λ i. get_or fs i 0 in
    take (length fs)
    (year_rule (at 0) ∷ month_rule (at 1) ∷ day_rule (at 0) (at 1) (at 2) ∷ hour_rule (at 3) ∷ minute_rule (at 4) ∷ second_rule (at 5) ∷ [])

-- offset unknown or -1439 to 1439 minutes; a known offset needs minute or second precision
abbrev pub offset_rules : Option ℤ → List ℕ → List TimestampRule
offset_rules none fs = []
offset_rules (some z) fs = record { field = offset_field; value = z; holds = leb 5 (length fs) && leb (nat_abs z) 1439 } ∷ []

-- second precision may carry 1 to 18 fraction digits, with a coefficient below ten to that count
abbrev pub fraction_rules : Fraction → List ℕ → List TimestampRule
fraction_rules no_fraction fs = []
fraction_rules (fraction k c) fs =
    record { field = digit_count_field; value = pos k; holds = eqb (length fs) 6 && (leb 1 k && leb k 18) }
    ∷ record { field = coefficient_field; value = pos c; holds = ltb c (10 ^ k) }
    ∷ []

abbrev pub local_rules : Option ℤ → List ℕ → Fraction → List TimestampRule
local_rules offset fs x = field_rules fs ++ (offset_rules offset fs ++ fraction_rules x fs)

-- the UTC year 1 to 9999 (document 02, Item 2); with no offset known it is the local one
abbrev pub utc_year_rules : Option ℤ → List ℕ → List TimestampRule
utc_year_rules none fs = []
utc_year_rules (some z) fs =
    let y : ℕ = get_or (utc (some z) fs) 0 0 in
    record { field = utc_year_field; value = pos y; holds = is_calendar_year y } ∷ []

-- in the order in which they answer
abbrev pub timestamp_rules : Option ℤ → List ℕ → Fraction → List TimestampRule
timestamp_rules offset fs x = local_rules offset fs x ++ utc_year_rules offset fs

abbrev pub first_bad : List TimestampRule → Option TimestampRule
first_bad [] = none
first_bad (r ∷ rs) = cond r.holds (first_bad rs) (some r)

abbrev pub is_none : {A : Type 0} → Option A → Bool
is_none none = true
is_none (some x) = false

-- year, month, day, minute or second: with an hour there is a minute. No call has another count of fields.
abbrev pub is_precision : ℕ → Bool
is_precision n = leb 1 n && (leb n 6 && not (eqb n 4))

-- before UTC is looked at
unfoldable pub is_local_timestamp : Option ℤ → List ℕ → Fraction → Bool
is_local_timestamp offset fs x = is_precision (length fs) && is_none (first_bad (local_rules offset fs x))

unfoldable pub is_timestamp : Option ℤ → List ℕ → Fraction → Bool
is_timestamp offset fs x = is_precision (length fs) && is_none (first_bad (timestamp_rules offset fs x))

-- ---- the body: offset (unknown is C0), UTC fields, then any fraction as a decimal body

abbrev pub offset_bytes : Option ℤ → List ℕ
offset_bytes none = var_int_bytes (signed true 0)
offset_bytes (some z) = var_int_bytes (signed_of z)

abbrev pub fraction_bytes : Fraction → List ℕ
fraction_bytes no_fraction = []
fraction_bytes (fraction k c) = decimal_body false (uint_bytes c) (neg_ℤ (pos k))

unfoldable pub timestamp_body : Option ℤ → List ℕ → Fraction → List ℕ
timestamp_body offset fs x = offset_bytes offset ++ (var_uints_bytes (utc offset fs) ++ fraction_bytes x)

-- No timestamp that passes check 7 has a body of 19 bytes or more (document 02, Item 9): proofs/TimestampLength.antt.
abbrev pub BodyBelow19 : Type 0
BodyBelow19 = (o : Option ℤ) (fs : List ℕ) (x : Fraction) → is_timestamp o fs x ≡ true → length (timestamp_body o fs x) < 19

-- ---- `utc` by the calendar: what proofs/Calendar.antt and proofs/Timestamp.antt prove of it. The four together leave it no choice.

-- The UTC minute is the local minute minus the offset.
abbrev pub UtcIsLocalMinusOffset : Type 0
UtcIsLocalMinusOffset = (z : ℤ) (fs : List ℕ) (x : Fraction) → is_timestamp (some z) fs x ≡ true → minute_of (utc (some z) fs) ≡ minute_of fs -ℤ z

-- The precision and the seconds stay.
abbrev pub UtcKeepsSeconds : Type 0
UtcKeepsSeconds = (z : ℤ) (fs : List ℕ) → (length (utc (some z) fs) ≡ length fs) × (drop 5 (utc (some z) fs) ≡ drop 5 fs)

-- The UTC fields are a real day and time.
abbrev pub UtcAreFields : Type 0
UtcAreFields = (o : Option ℤ) (fs : List ℕ) (x : Fraction) → is_timestamp o fs x ≡ true → are_fields (utc o fs) ≡ true

-- No two minutes of the calendar have the same number.
abbrev pub MinuteUnique : Type 0
MinuteUnique =
    (fs gs : List ℕ) → are_fields fs ≡ true → are_fields gs ≡ true → 5 ≤ length fs → 5 ≤ length gs → minute_of fs ≡ minute_of gs → take 5 fs ≡ take 5 gs

-- What is written is never marked: proofs/OutOfCalendar.antt.
abbrev pub NeverMarked : Type 0
NeverMarked = (o : Option ℤ) (fs : List ℕ) (x : Fraction) → is_timestamp o fs x ≡ true → out_of_calendar o (utc o fs) ≡ false
