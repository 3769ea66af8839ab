-- What scalar calls put, where the grammar leaves a choice or a value is at the edge of binary32: document 01, "value_writer". The field that check 7
-- answers, and the longest body: "types/timestamp". Computation. Assumes nothing.
use Prim.Native.Nat.{ℕ}
use mathlib.Core.Bool.{true, false}
use mathlib.Core.Path.{◌≡◌, refl}
use mathlib.Core.List.{List, [], ◌∷◌, map}
use mathlib.Core.Option.{Option, none, some}
use lib.ListN.{length}
use lib.IntN.{ℤ, pos, negsuc}
use lib.Ieee.{of_bits, to_bits, is_nan}
use lib.Ieee.{fits as holds}
use Rattle.ion.specs.Value.{IonType, ion_null, ion_bool, ion_int, ion_float, ion_decimal, ion_timestamp, ion_symbol, ion_string, ion_clob, ion_blob}
use Rattle.ion.specs.Value.{ion_list, ion_sexp, ion_struct}
use Rattle.ion.specs.Value.{Fraction, no_fraction, fraction}
use Rattle.ion.proofs.Readings.{bytes_before, hex}
use Rattle.encoding.specs.Digits.{low_digits, count_digits, digit_count, digits}
use Rattle.encoding.specs.Fields.{var_uint_bytes, var_uints_bytes, var_int_groups, var_int_bytes, uint_bytes, fixed_bytes, trimmed, int_bytes}
use Rattle.encoding.specs.Decimal.{decimal_body}
use Rattle.encoding.specs.Timestamp.{TimestampField, year_field, month_field, day_field, hour_field, minute_field, second_field, offset_field}
use Rattle.encoding.specs.Timestamp.{digit_count_field, coefficient_field, utc_year_field, day_before, day_after, timestamp_rules, first_bad}
use Rattle.encoding.specs.Timestamp.{is_timestamp, timestamp_body}
use Rattle.encoding.specs.Argument.{write_null, write_f64, float32_bytes, narrows, float64_bytes, argument_bytes}

abbrev types : List IonType
types =
    ion_null ∷ ion_bool ∷ ion_int ∷ ion_float ∷ ion_decimal ∷ ion_timestamp ∷ ion_symbol ∷ ion_string ∷ ion_clob ∷ ion_blob ∷ ion_list ∷ ion_sexp ∷ ion_struct ∷ []

-- null.int is 2F and never 3F
pub nulls_written : map (λ (t : IonType). argument_bytes (write_null t)) types
    ≡ map hex (0x0F ∷ 0x1F ∷ 0x2F ∷ 0x4F ∷ 0x5F ∷ 0x6F ∷ 0x7F ∷ 0x8F ∷ 0x9F ∷ 0xAF ∷ 0xBF ∷ 0xCF ∷ 0xDF ∷ [])
unfolding bytes_before argument_bytes
nulls_written = refl

-- an f64 by its bits, and the bytes
abbrev floats : List (ℕ × ℕ)
floats =
    -- the infinities
    (0x7FF0000000000000, 0x447F800000)
    ∷ (0xFFF0000000000000, 0x44FF800000)
    -- the greatest binary32; with one digit more; 2 ^ 128
    ∷ (0x47EFFFFFE0000000, 0x447F7FFFFF)
    ∷ (0x47EFFFFFF0000000, 0x4847EFFFFFF0000000)
    ∷ (0x47F0000000000000, 0x4847F0000000000000)
    -- the least normal binary32, and the greatest subnormal, negative
    ∷ (0x3810000000000000, 0x4400800000)
    ∷ (0xB80FFFFFC0000000, 0x44807FFFFF)
    -- NaNs, of any bits
    ∷ (0x7FF8000000000000, 0x487FF8000000000000)
    ∷ (0xFFF0000000000001, 0x48FFF0000000000001)
    ∷ []

pub floats-written : map (λ (c : ℕ × ℕ). argument_bytes (write_f64 c.0)) floats ≡ map (λ (c : ℕ × ℕ). hex c.1) floats
unfolding bytes_before argument_bytes float32_bytes narrows float64_bytes fixed_bytes low_digits of_bits to_bits holds is_nan
floats-written = refl

-- offset, local fields and fraction of a timestamp, and the field that check 7 answers, with its value
abbrev bad : List (Option ℤ × List ℕ × Fraction × TimestampField × ℤ)
bad =
    (none, 0 ∷ [], no_fraction, year_field, pos 0)
    ∷ (none, 10000 ∷ 1 ∷ [], no_fraction, year_field, pos 10000)
    ∷ (none, 2000 ∷ 13 ∷ [], no_fraction, month_field, pos 13)
    ∷ (none, 1900 ∷ 2 ∷ 29 ∷ [], no_fraction, day_field, pos 29)
    ∷ (none, 2000 ∷ 1 ∷ 1 ∷ 24 ∷ 0 ∷ [], no_fraction, hour_field, pos 24)
    ∷ (none, 2000 ∷ 1 ∷ 1 ∷ 23 ∷ 60 ∷ [], no_fraction, minute_field, pos 60)
    ∷ (none, 2000 ∷ 1 ∷ 1 ∷ 23 ∷ 59 ∷ 60 ∷ [], no_fraction, second_field, pos 60)
    ∷ (some (pos 1440), 2000 ∷ 1 ∷ 1 ∷ 0 ∷ 0 ∷ [], no_fraction, offset_field, pos 1440)
    ∷ (some (negsuc 1439), 2000 ∷ 1 ∷ 1 ∷ 0 ∷ 0 ∷ [], no_fraction, offset_field, negsuc 1439)
    -- known, with no time
    ∷ (some (pos 0), 2000 ∷ 1 ∷ 1 ∷ [], no_fraction, offset_field, pos 0)
    ∷ (none, 2000 ∷ 1 ∷ 1 ∷ 0 ∷ 0 ∷ 0 ∷ [], fraction 0 0, digit_count_field, pos 0)
    ∷ (none, 2000 ∷ 1 ∷ 1 ∷ 0 ∷ 0 ∷ 0 ∷ [], fraction 19 0, digit_count_field, pos 19)
    -- no seconds that carry it
    ∷ (none, 2000 ∷ 1 ∷ 1 ∷ 0 ∷ 0 ∷ [], fraction 1 0, digit_count_field, pos 1)
    ∷ (none, 2000 ∷ 1 ∷ 1 ∷ 0 ∷ 0 ∷ 0 ∷ [], fraction 2 100, coefficient_field, pos 100)
    -- the UTC year: the last minute of the year 0, and the first of the year 10000
    ∷ (some (pos 1), 1 ∷ 1 ∷ 1 ∷ 0 ∷ 0 ∷ [], no_fraction, utc_year_field, pos 0)
    ∷ (some (pos 1439), 1 ∷ 1 ∷ 1 ∷ 23 ∷ 58 ∷ 59 ∷ [], fraction 1 9, utc_year_field, pos 0)
    ∷ (some (negsuc 0), 9999 ∷ 12 ∷ 31 ∷ 23 ∷ 59 ∷ [], no_fraction, utc_year_field, pos 10000)
    ∷ (some (negsuc 1438), 9999 ∷ 12 ∷ 31 ∷ 0 ∷ 1 ∷ 0 ∷ [], no_fraction, utc_year_field, pos 10000)
    -- of two or more, the first
    ∷ (some (pos 1), 1 ∷ 1 ∷ 1 ∷ 0 ∷ 0 ∷ 0 ∷ [], fraction 2 100, coefficient_field, pos 100)
    ∷ (some (negsuc 0), 9999 ∷ 12 ∷ 31 ∷ 23 ∷ 59 ∷ 60 ∷ [], no_fraction, second_field, pos 60)
    ∷ (some (pos 1440), 2000 ∷ 2 ∷ 30 ∷ 24 ∷ 0 ∷ [], no_fraction, day_field, pos 30)
    ∷ (some (negsuc 1439), 2000 ∷ 1 ∷ 1 ∷ 0 ∷ 0 ∷ 0 ∷ [], fraction 19 0, offset_field, negsuc 1439)
    ∷ (none, 2000 ∷ 1 ∷ 1 ∷ 0 ∷ 0 ∷ [], fraction 1 10, digit_count_field, pos 1)
    ∷ []

pub bad_answered : map (λ (c : Option ℤ × List ℕ × Fraction × TimestampField × ℤ). first_bad (timestamp_rules c.0 c.1 c.2)) bad
    ≡ map (λ (c : Option ℤ × List ℕ × Fraction × TimestampField × ℤ). some (record { field = c.3; value = c.4; holds = false })) bad
unfolding day_before day_after
bad_answered = refl

-- at the ends of each range, as far as the precision goes
abbrev good : List (Option ℤ × List ℕ × Fraction)
good =
    (none, 1 ∷ [], no_fraction)
    ∷ (none, 9999 ∷ 12 ∷ [], no_fraction)
    ∷ (none, 2000 ∷ 2 ∷ 29 ∷ [], no_fraction)
    ∷ (some (pos 1439), 9999 ∷ 12 ∷ 31 ∷ 23 ∷ 59 ∷ [], no_fraction)
    ∷ (some (negsuc 1438), 1 ∷ 1 ∷ 1 ∷ 0 ∷ 0 ∷ 0 ∷ [], fraction 1 0)
    ∷ (none, 9999 ∷ 12 ∷ 31 ∷ 23 ∷ 59 ∷ 59 ∷ [], fraction 18 999999999999999999)
    -- the first and the last minute of the UTC years 1 to 9999
    ∷ (some (pos 0), 1 ∷ 1 ∷ 1 ∷ 0 ∷ 0 ∷ [], no_fraction)
    ∷ (some (pos 1439), 1 ∷ 1 ∷ 1 ∷ 23 ∷ 59 ∷ [], no_fraction)
    ∷ (some (pos 0), 9999 ∷ 12 ∷ 31 ∷ 23 ∷ 59 ∷ [], no_fraction)
    ∷ (some (negsuc 1438), 9999 ∷ 12 ∷ 31 ∷ 0 ∷ 0 ∷ [], no_fraction)
    ∷ []

pub good-answered : map (λ (c : Option ℤ × List ℕ × Fraction). first_bad (timestamp_rules c.0 c.1 c.2)) good
    ≡ map (λ (c : Option ℤ × List ℕ × Fraction). none) good
good-answered = refl

-- 9998-12-31T23:59:59, 1439 minutes west, which is 9999-01-01T23:58:59 in UTC
abbrev latest : List ℕ
latest = 9998 ∷ 12 ∷ 31 ∷ 23 ∷ 59 ∷ 59 ∷ []

abbrev west : Option ℤ
west = some (negsuc 1438)

-- with as much of a second as 18 digits hold: no body is longer. The bytes are those of the original Rust.
pub longest-body : let x = fraction 18 999999999999999999 in
    (is_timestamp west latest x ≡ true) × (timestamp_body west latest x ≡ hex 0x4B9F4E8F818197BABBD20DE0B6B3A763FFFF)
    × (length (timestamp_body west latest x) ≡ 18)
unfolding is_timestamp day_before day_after bytes_before timestamp_body decimal_body trimmed int_bytes uint_bytes var_uints_bytes var_uint_bytes var_int_bytes var_int_groups
    digits digit_count count_digits low_digits
longest-body = (refl, refl, refl)

-- with one digit more, which check 7 refuses
pub longer_refused : let x = fraction 19 9999999999999999999 in (is_timestamp west latest x ≡ false) × (length (timestamp_body west latest x) ≡ 19)
unfolding is_timestamp day_before day_after timestamp_body decimal_body trimmed int_bytes uint_bytes var_uints_bytes var_uint_bytes var_int_bytes var_int_groups
    digits digit_count count_digits low_digits
longer_refused = (refl, refl)
