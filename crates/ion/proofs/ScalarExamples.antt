-- Scalars through the reader, type code by type code: each null, the ends of each range, and bytes that have no reading.
-- Computation. Assumes nothing.
use Prim.Native.Nat.{ℕ, ◌+◌, ◌-◌, ◌*◌, ◌^◌}
use mathlib.Core.Path.{◌≡◌, refl}
use mathlib.Core.Bool.{true, false}
use mathlib.Core.List.{List, [], ◌∷◌, ◌++◌, map}
use mathlib.Core.Option.{none, some}
use lib.ListN.{length}
use lib.IntN.{pos, negsuc}
use lib.Ieee.{binary32, binary64, of_bits}
use Rattle.ion.specs.Value.{ion_null, ion_bool, ion_int, ion_float, ion_decimal, ion_timestamp, ion_symbol, ion_string, ion_clob, ion_blob}
use Rattle.ion.specs.Value.{ion_list, ion_sexp, ion_struct, FloatValue, not_anumber, infinite, finite, signed, Fraction, no_fraction, fraction}
use Rattle.ion.specs.Value.{null, bool, int, float, decimal, timestamp, symbol, string, clob, blob}
use Rattle.ion.specs.Scalars.{float_of}
use Rattle.ion.proofs.Reader.{reader}
use Rattle.ion.proofs.Readings.{hex, scalars, reader_whole, AllScalars, NoneRead}

-- ---- "Null Values": each type code but the annotations' has the null of its type; code 15 is reserved

pub nulls_read : AllScalars
    ((0x0F, null ion_null)
    ∷ (0x1F, null ion_bool)
    ∷ (0x2F, null ion_int)
    ∷ (0x3F, null ion_int)
    ∷ (0x4F, null ion_float)
    ∷ (0x5F, null ion_decimal)
    ∷ (0x6F, null ion_timestamp)
    ∷ (0x7F, null ion_symbol)
    ∷ (0x8F, null ion_string)
    ∷ (0x9F, null ion_clob)
    ∷ (0xAF, null ion_blob)
    ∷ (0xBF, null ion_list)
    ∷ (0xCF, null ion_sexp)
    ∷ (0xDF, null ion_struct)
    ∷ [])
unfolding reader_whole
nulls_read = refl

pub nulls_refused : NoneRead (0xEF ∷ 0xF0 ∷ 0xFF ∷ [])
unfolding reader_whole
nulls_refused = refl

-- ---- "1: bool", "2 and 3: int", "7: symbol", "8: string", "9: clob", "10: blob"

pub plain_read : AllScalars
    ((0x10, bool false)
    ∷ (0x11, bool true)
    -- zeros of any length, and each sign
    ∷ (0x20, int (pos 0))
    ∷ (0x2100, int (pos 0))
    ∷ (0x2E820000, int (pos 0))
    ∷ (0x220102, int (pos 258))
    ∷ (0x3101, int (negsuc 0))
    ∷ (0x320102, int (negsuc 257))
    -- the greatest sid, also behind a zero
    ∷ (0x70, symbol 0)
    ∷ (0x720102, symbol 258)
    ∷ (0x78FFFFFFFFFFFFFFFF, symbol (2 ^ 64 - 1))
    ∷ (0x7900FFFFFFFFFFFFFFFF, symbol (2 ^ 64 - 1))
    ∷ (0x80, string [])
    ∷ (0x82C3A9, string (0xC3 ∷ 0xA9 ∷ []))
    ∷ (0x90, clob [])
    ∷ (0x9200FF, clob (0x00 ∷ 0xFF ∷ []))
    ∷ (0xA0, blob [])
    ∷ (0xA200FF, blob (0x00 ∷ 0xFF ∷ []))
    ∷ [])
unfolding reader_whole
plain_read = refl

-- a bool of another length; negative zero, of any length; a sid past 64 bits; no UTF-8
pub plain_refused : NoneRead (0x12 ∷ 0x1E8111 ∷ 0x30 ∷ 0x3100 ∷ 0x3E820000 ∷ 0x79010000000000000000 ∷ 0x82C080 ∷ [])
unfolding reader_whole
plain_refused = refl

-- ---- "4: float": each format's zeros, one and a half, least and greatest numbers, infinities, and NaNs quiet, signalling and negative

abbrev FloatCase : Type 0
FloatCase = ℕ × FloatValue

abbrev floats32 : List FloatCase
floats32 =
    (0x00000000, finite false 0)
    ∷ (0x80000000, finite true 0)
    ∷ (0x3FC00000, finite false (3 * 2 ^ 1073))
    ∷ (0xBFC00000, finite true (3 * 2 ^ 1073))
    -- 2 ^ -149; 2 ^ -126 less that; 2 ^ -126; 2 ^ 128 less 2 ^ 104
    ∷ (0x00000001, finite false (2 ^ 925))
    ∷ (0x80000001, finite true (2 ^ 925))
    ∷ (0x007FFFFF, finite false ((2 ^ 23 - 1) * 2 ^ 925))
    ∷ (0x807FFFFF, finite true ((2 ^ 23 - 1) * 2 ^ 925))
    ∷ (0x00800000, finite false (2 ^ 948))
    ∷ (0x80800000, finite true (2 ^ 948))
    ∷ (0x7F7FFFFF, finite false ((2 ^ 24 - 1) * 2 ^ 1178))
    ∷ (0xFF7FFFFF, finite true ((2 ^ 24 - 1) * 2 ^ 1178))
    ∷ (0x7F800000, infinite false)
    ∷ (0xFF800000, infinite true)
    ∷ (0x7FC00000, not_anumber)
    ∷ (0x7F800001, not_anumber)
    ∷ (0xFFC00000, not_anumber)
    ∷ (0xFFFFFFFF, not_anumber)
    ∷ []

abbrev floats64 : List FloatCase
floats64 =
    (0x0000000000000000, finite false 0)
    ∷ (0x8000000000000000, finite true 0)
    ∷ (0x3FF8000000000000, finite false (3 * 2 ^ 1073))
    ∷ (0xBFF8000000000000, finite true (3 * 2 ^ 1073))
    -- 2 ^ -1074; 2 ^ -1022 less that; 2 ^ -1022; 2 ^ 1024 less 2 ^ 971
    ∷ (0x0000000000000001, finite false 1)
    ∷ (0x8000000000000001, finite true 1)
    ∷ (0x000FFFFFFFFFFFFF, finite false (2 ^ 52 - 1))
    ∷ (0x800FFFFFFFFFFFFF, finite true (2 ^ 52 - 1))
    ∷ (0x0010000000000000, finite false (2 ^ 52))
    ∷ (0x8010000000000000, finite true (2 ^ 52))
    ∷ (0x7FEFFFFFFFFFFFFF, finite false ((2 ^ 53 - 1) * 2 ^ 2045))
    ∷ (0xFFEFFFFFFFFFFFFF, finite true ((2 ^ 53 - 1) * 2 ^ 2045))
    ∷ (0x7FF0000000000000, infinite false)
    ∷ (0xFFF0000000000000, infinite true)
    ∷ (0x7FF8000000000000, not_anumber)
    ∷ (0x7FF0000000000001, not_anumber)
    ∷ (0xFFF8000000000000, not_anumber)
    ∷ (0xFFFFFFFFFFFFFFFF, not_anumber)
    ∷ []

pub floats32_are : map (λ (c : FloatCase). float_of binary32 c.0) floats32 ≡ map (λ (c : FloatCase). c.1) floats32
unfolding float_of of_bits
floats32_are = refl

pub floats64_are : map (λ (c : FloatCase). float_of binary64 c.0) floats64 ≡ map (λ (c : FloatCase). c.1) floats64
unfolding float_of of_bits
floats64_are = refl

pub floats_read : AllScalars
    ((0x40, float (finite false 0))
    ∷ (0x4480000000, float (finite true 0))
    ∷ (0x443FC00000, float (finite false (3 * 2 ^ 1073)))
    ∷ (0x48BFF8000000000000, float (finite true (3 * 2 ^ 1073)))
    ∷ (0x487FF0000000000000, float (infinite false))
    ∷ (0x487FF8000000000000, float not_anumber)
    ∷ [])
unfolding reader_whole
floats_read = refl

-- other lengths
pub floats_refused : NoneRead (0x4100 ∷ 0x423C00 ∷ 0x4E843F800000 ∷ [])
unfolding reader_whole
floats_refused = refl

-- ---- "5: decimal"

pub decimals_read : AllScalars
    -- 0d0, alone and with its exponent; negative zero; an exponent of negative zero
    ((0x50, decimal (signed false 0) (pos 0))
    ∷ (0x5180, decimal (signed false 0) (pos 0))
    ∷ (0x528080, decimal (signed true 0) (pos 0))
    ∷ (0x52C001, decimal (signed false 1) (pos 0))
    -- 1.50, -1.50, 1d3, -129
    ∷ (0x53C20096, decimal (signed false 150) (negsuc 1))
    ∷ (0x53C28096, decimal (signed true 150) (negsuc 1))
    ∷ (0x528301, decimal (signed false 1) (pos 3))
    ∷ (0x53808081, decimal (signed true 129) (pos 0))
    -- the greatest exponent and the least
    ∷ (0x5A007F7F7F7F7F7F7F7FFF, decimal (signed false 0) (pos (2 ^ 63 - 1)))
    ∷ (0x5A41000000000000000080, decimal (signed false 0) (negsuc (2 ^ 63 - 1)))
    ∷ [])
unfolding reader_whole
decimals_read = refl

-- one past each; an exponent cut off
pub decimals_refused : NoneRead (0x5A01000000000000000080 ∷ 0x5A41000000000000000081 ∷ 0x5100 ∷ [])
unfolding reader_whole
decimals_refused = refl

-- ---- "6: timestamp"

pub timestamps_read : AllScalars
    -- each precision
    ((0x63800FD0, timestamp (some (pos 0)) (2000 ∷ []) no_fraction)
    ∷ (0x64800FD082, timestamp (some (pos 0)) (2000 ∷ 2 ∷ []) no_fraction)
    ∷ (0x65800FD0829D, timestamp (some (pos 0)) (2000 ∷ 2 ∷ 29 ∷ []) no_fraction)
    ∷ (0x67800FD0829D97BB, timestamp (some (pos 0)) (2000 ∷ 2 ∷ 29 ∷ 23 ∷ 59 ∷ []) no_fraction)
    ∷ (0x68800FD0829D97BBBA, timestamp (some (pos 0)) (2000 ∷ 2 ∷ 29 ∷ 23 ∷ 59 ∷ 58 ∷ []) no_fraction)
    -- the first UTC year and the last
    ∷ (0x62C080, timestamp none (0 ∷ []) no_fraction)
    ∷ (0x63C04E90, timestamp none (10000 ∷ []) no_fraction)
    -- the unknown offset, also with a leading zero group; one minute east and one west
    ∷ (0x63C00FD0, timestamp none (2000 ∷ []) no_fraction)
    ∷ (0x6440800FD0, timestamp none (2000 ∷ []) no_fraction)
    ∷ (0x63810FD0, timestamp (some (pos 1)) (2000 ∷ []) no_fraction)
    ∷ (0x63C10FD0, timestamp (some (negsuc 0)) (2000 ∷ []) no_fraction)
    -- the greatest offset and the least
    ∷ (0x6C007F7F7F7F7F7F7F7FFF0FD0, timestamp (some (pos (2 ^ 63 - 1))) (2000 ∷ []) no_fraction)
    ∷ (0x6C410000000000000000800FD0, timestamp (some (negsuc (2 ^ 63 - 1))) (2000 ∷ []) no_fraction)
    ∷ [])
unfolding reader_whole
timestamps_read = refl

pub timestamps_refused : NoneRead
    -- the year 10001; offsets one past each end
    (0x63C04E91 ∷ 0x6C010000000000000000800FD0 ∷ 0x6C410000000000000000810FD0
    -- no offset, no year, an hour without its minute
    ∷ 0x60 ∷ 0x6180 ∷ 0x66800FD0818180
    -- 1999-02-29, 2000-02-30, month 13, hour 24
    ∷ 0x65C00FCF829D ∷ 0x65C00FD0829E ∷ 0x64C00FD08D ∷ 0x67C00FD081819880
    ∷ [])
unfolding reader_whole
timestamps_refused = refl

-- 2000-01-01T00:00:00Z, with the bytes of a fraction behind
abbrev new_year : List ℕ → List ℕ
new_year b = (0x68 + length b) ∷ (hex 0x800FD08181808080 ++ b)

abbrev FractionCase : Type 0
FractionCase = ℕ × Fraction

abbrev fractions : List FractionCase
fractions =
    -- the document's equivalent forms: none; 0d0 with and without a coefficient; 0d-0; 0d1
    (0x0, no_fraction)
    ∷ (0x80, no_fraction)
    ∷ (0x8000, no_fraction)
    ∷ (0xC0, no_fraction)
    ∷ (0x81, no_fraction)
    -- a coefficient of negative zero, with an exponent from zero on
    ∷ (0x8080, no_fraction)
    ∷ (0xC080, no_fraction)
    ∷ (0x8180, no_fraction)
    -- zero of one digit and of two, also with a coefficient, also with a negative one
    ∷ (0xC1, fraction 1 0)
    ∷ (0xC2, fraction 2 0)
    ∷ (0xC100, fraction 1 0)
    ∷ (0xC180, fraction 1 0)
    ∷ (0xC280, fraction 2 0)
    -- below one: 0.9, 0.09, 0.99, 0.999
    ∷ (0xC109, fraction 1 9)
    ∷ (0xC209, fraction 2 9)
    ∷ (0xC263, fraction 2 99)
    ∷ (0xC303E7, fraction 3 999)
    ∷ []

pub fractions_read : map (λ (c : FractionCase). reader (new_year (hex c.0))) fractions
    ≡ map (λ (c : FractionCase). some (scalars (timestamp (some (pos 0)) (2000 ∷ 1 ∷ 1 ∷ 0 ∷ 0 ∷ 0 ∷ []) c.1 ∷ []))) fractions
unfolding reader_whole
fractions_read = refl

abbrev no_fractions : List ℕ
no_fractions =
    -- not zero, with exponent 0, -0 and 1
    0x8001 ∷ 0xC001 ∷ 0x8101
    -- one: of one, two and three digits; 1.1
    ∷ 0xC10A ∷ 0xC264 ∷ 0xC303E8 ∷ 0xC10B
    -- below zero: with exponent 0, -0, 1, -1 and -2
    ∷ 0x8081 ∷ 0xC081 ∷ 0x8181 ∷ 0xC181 ∷ 0xC281
    ∷ []

pub fractions_refused : map (λ (b : ℕ). reader (new_year (hex b))) no_fractions ≡ map (λ (b : ℕ). none) no_fractions
unfolding reader_whole
fractions_refused = refl
