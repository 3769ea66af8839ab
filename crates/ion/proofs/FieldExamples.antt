-- Fields, calendar and timestamp fields at the ends of their ranges, and one beyond each end.
-- Computation. Assumes nothing.
use Prim.Native.Nat.{ℕ, ◌+◌, ◌-◌, ◌*◌, ◌^◌}
use mathlib.Core.Path.{◌≡◌, refl}
use mathlib.Core.Bool.{true, false}
use mathlib.Core.List.{List, [], ◌∷◌, map}
use mathlib.Core.Option.{none, some}
use Rattle.ion.specs.Value.{signed}
use Rattle.ion.specs.Fields.{big_endian, uint, int_field, groups, var_uint, is_i64, var_int}
use Rattle.ion.specs.Calendar.{is_leap_year, days_in_month, is_month, is_day, days_before_month, days_before_year, day_number, minute_number}
use Rattle.ion.specs.Scalars.{is_year, are_fields}
use Rattle.ion.proofs.Readings.{bytes_before, hex}

-- ---- UInt and Int: big-endian; the top bit of an Int is its sign, and 80 is negative zero

uints_read : map uint ([] ∷ (0x00 ∷ 0x01 ∷ []) ∷ hex 0x0102 ∷ hex 0xFFFF ∷ []) ≡ 0 ∷ 1 ∷ 258 ∷ 65535 ∷ []
unfolding bytes_before big_endian
uints_read = refl

ints_read : map int_field ([] ∷ (0x00 ∷ []) ∷ hex 0x80 ∷ hex 0x7F ∷ hex 0xFF ∷ hex 0x8102 ∷ (0x00 ∷ 0x80 ∷ []) ∷ hex 0x8080 ∷ [])
    ≡ signed false 0 ∷ signed false 0 ∷ signed true 0 ∷ signed false 127 ∷ signed true 127 ∷ signed true 258 ∷ signed false 128 ∷ signed true 128 ∷ []
unfolding bytes_before big_endian int_field
ints_read = refl

-- ---- VarUInt: overlong, the greatest, one past it, one cut off

var_uints_read : map var_uint (hex 0x80 ∷ hex 0xFF ∷ hex 0x0180 ∷ hex 0x7FFF ∷ (0x00 ∷ 0x00 ∷ 0x81 ∷ 0x20 ∷ []) ∷ [])
    ≡ some (0, []) ∷ some (127, []) ∷ some (128, []) ∷ some (16383, []) ∷ some (1, 0x20 ∷ []) ∷ []
unfolding bytes_before groups var_uint
var_uints_read = refl

var_uints_ends : map var_uint (hex 0x017F7F7F7F7F7F7F7FFF ∷ hex 0x02000000000000000080 ∷ hex 0x01 ∷ [] ∷ []) ≡ some (2 ^ 64 - 1, []) ∷ none ∷ none ∷ none ∷ []
unfolding bytes_before groups var_uint
var_uints_ends = refl

-- ---- VarInt: six bits in the first byte, the sign above them; both ends of signed 64 bits, and one past each

var_ints_read : map var_int (hex 0xBF ∷ hex 0xFF ∷ (0x00 ∷ 0xC0 ∷ []) ∷ hex 0x40C0 ∷ hex 0x80 ∷ hex 0xC0 ∷ hex 0x8120 ∷ [])
    ≡ some (signed false 63, []) ∷ some (signed true 63, []) ∷ some (signed false 64, []) ∷ some (signed true 64, [])
    ∷ some (signed false 0, []) ∷ some (signed true 0, []) ∷ some (signed false 1, 0x20 ∷ []) ∷ []
unfolding bytes_before groups var_int
var_ints_read = refl

var_ints_ends : map var_int ((0x00 ∷ hex 0x7F7F7F7F7F7F7F7FFF) ∷ hex 0x41000000000000000080 ∷ hex 0x01000000000000000080 ∷ hex 0x41000000000000000081 ∷ [])
    ≡ some (signed false (2 ^ 63 - 1), []) ∷ some (signed true (2 ^ 63), []) ∷ none ∷ none ∷ []
unfolding bytes_before groups var_int
var_ints_ends = refl

i64_ends : map is_i64 (signed false 0 ∷ signed true 0 ∷ signed false (2 ^ 63 - 1) ∷ signed true (2 ^ 63) ∷ signed false (2 ^ 63) ∷ signed true (2 ^ 63 + 1) ∷ [])
    ≡ true ∷ true ∷ true ∷ true ∷ false ∷ false ∷ []
i64_ends = refl

-- ---- the calendar: every fourth year, but of the centuries every fourth; 400 years have 146,097 days;
-- the first of January 1970 is 719,528 days behind that of the year 0

leap_years : map is_leap_year (0 ∷ 1 ∷ 2 ∷ 3 ∷ 4 ∷ 100 ∷ 200 ∷ 300 ∷ 400 ∷ 1900 ∷ 1996 ∷ 2000 ∷ 2023 ∷ 2100 ∷ [])
    ≡ true ∷ false ∷ false ∷ false ∷ true ∷ false ∷ false ∷ false ∷ true ∷ false ∷ true ∷ true ∷ false ∷ false ∷ []
leap_years = refl

abbrev months : List ℕ
months = 0 ∷ 1 ∷ 2 ∷ 3 ∷ 4 ∷ 5 ∷ 6 ∷ 7 ∷ 8 ∷ 9 ∷ 10 ∷ 11 ∷ 12 ∷ 13 ∷ []

month_lengths : map (days_in_month 2023) months ≡ 0 ∷ 31 ∷ 28 ∷ 31 ∷ 30 ∷ 31 ∷ 30 ∷ 31 ∷ 31 ∷ 30 ∷ 31 ∷ 30 ∷ 31 ∷ 0 ∷ []
month_lengths = refl

leap_month_lengths : map (days_in_month 2024) months ≡ 0 ∷ 31 ∷ 29 ∷ 31 ∷ 30 ∷ 31 ∷ 30 ∷ 31 ∷ 31 ∷ 30 ∷ 31 ∷ 30 ∷ 31 ∷ 0 ∷ []
leap_month_lengths = refl

month_ends : map is_month (0 ∷ 1 ∷ 12 ∷ 13 ∷ []) ≡ false ∷ true ∷ true ∷ false ∷ []
month_ends = refl

day_ends : map (is_day 2023 1) (0 ∷ 1 ∷ 31 ∷ 32 ∷ []) ≡ false ∷ true ∷ true ∷ false ∷ []
day_ends = refl

february_ends : is_day 2023 2 28 ∷ is_day 2023 2 29 ∷ is_day 2024 2 29 ∷ is_day 2024 2 30 ∷ is_day 2023 0 1 ∷ is_day 2023 13 1 ∷ []
    ≡ true ∷ false ∷ true ∷ false ∷ false ∷ false ∷ []
february_ends = refl

days : days_before_year 400 ∷ day_number 0 1 1 ∷ day_number 1970 1 1 ∷ day_number 2000 3 1 ∷ [] ≡ 146097 ∷ 1 ∷ 719529 ∷ 730546 ∷ []
unfolding days_before_month days_before_year day_number
days = refl

minutes : minute_number 0 1 1 0 0 ∷ minute_number 1970 1 1 23 59 ∷ minute_number 1970 1 2 0 0 ∷ [] ≡ 1440 ∷ (719529 * 1440 + 1439) ∷ (719530 * 1440) ∷ []
unfolding days_before_month days_before_year day_number minute_number
minutes = refl

-- ---- timestamp fields: 1, 2, 3, 5 or 6 of them, each from its least to its greatest

year_ends : map is_year (0 ∷ 1 ∷ 9999 ∷ 10000 ∷ 10001 ∷ []) ≡ true ∷ true ∷ true ∷ true ∷ false ∷ []
year_ends = refl

abbrev fields : List (List ℕ)
fields =
    (0 ∷ [])
    ∷ (10000 ∷ [])
    ∷ (2000 ∷ 1 ∷ [])
    ∷ (2000 ∷ 12 ∷ [])
    ∷ (2000 ∷ 1 ∷ 1 ∷ [])
    ∷ (2000 ∷ 1 ∷ 31 ∷ [])
    ∷ (2000 ∷ 2 ∷ 29 ∷ [])
    ∷ (2000 ∷ 1 ∷ 1 ∷ 0 ∷ 0 ∷ [])
    ∷ (2000 ∷ 12 ∷ 31 ∷ 23 ∷ 59 ∷ [])
    ∷ (0 ∷ 1 ∷ 1 ∷ 0 ∷ 0 ∷ 0 ∷ [])
    ∷ (10000 ∷ 12 ∷ 31 ∷ 23 ∷ 59 ∷ 59 ∷ [])
    ∷ []

abbrev no_fields : List (List ℕ)
no_fields =
    -- none, four, seven
    []
    ∷ (2000 ∷ 1 ∷ 1 ∷ 0 ∷ [])
    ∷ (2000 ∷ 1 ∷ 1 ∷ 0 ∷ 0 ∷ 0 ∷ 0 ∷ [])
    -- the year, at each precision
    ∷ (10001 ∷ [])
    ∷ (10001 ∷ 1 ∷ [])
    ∷ (10001 ∷ 1 ∷ 1 ∷ [])
    ∷ (10001 ∷ 1 ∷ 1 ∷ 0 ∷ 0 ∷ [])
    ∷ (10001 ∷ 1 ∷ 1 ∷ 0 ∷ 0 ∷ 0 ∷ [])
    -- the month
    ∷ (2000 ∷ 0 ∷ [])
    ∷ (2000 ∷ 13 ∷ [])
    ∷ (2000 ∷ 0 ∷ 1 ∷ [])
    ∷ (2000 ∷ 13 ∷ 1 ∷ [])
    -- the day
    ∷ (2000 ∷ 1 ∷ 0 ∷ [])
    ∷ (2000 ∷ 1 ∷ 32 ∷ [])
    ∷ (2000 ∷ 2 ∷ 30 ∷ [])
    ∷ (2000 ∷ 1 ∷ 0 ∷ 0 ∷ 0 ∷ [])
    ∷ (2000 ∷ 1 ∷ 32 ∷ 0 ∷ 0 ∷ [])
    ∷ (2000 ∷ 2 ∷ 30 ∷ 0 ∷ 0 ∷ 0 ∷ [])
    -- the hour, the minute, the second
    ∷ (2000 ∷ 1 ∷ 1 ∷ 24 ∷ 0 ∷ [])
    ∷ (2000 ∷ 1 ∷ 1 ∷ 0 ∷ 60 ∷ [])
    ∷ (2000 ∷ 1 ∷ 1 ∷ 24 ∷ 0 ∷ 0 ∷ [])
    ∷ (2000 ∷ 1 ∷ 1 ∷ 0 ∷ 60 ∷ 0 ∷ [])
    ∷ (2000 ∷ 1 ∷ 1 ∷ 0 ∷ 0 ∷ 60 ∷ [])
    ∷ []

pub fields-taken : map are_fields fields ≡ map (λ (l : List ℕ). true) fields
unfolding are_fields
fields-taken = refl

pub fields_refused : map are_fields no_fields ≡ map (λ (l : List ℕ). false) no_fields
unfolding are_fields
fields_refused = refl
