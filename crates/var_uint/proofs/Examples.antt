-- Fills limit by limit, and their traces: fields of document 01 and of the oracle, in a buffer of EE. The bytes are written out, so that the definition is
-- held to them and not to itself. By computing. Assumes nothing.
use mathlib.Core.Path.{◌≡◌, refl}
use mathlib.Core.List.{List, [], ◌∷◌, map}
use Prim.Native.Nat.{ℕ, ◌-◌, ◌^◌}
use Rattle.std.specs.Prelude.{Option, Some, None}
use Rattle.encoding.specs.Digits.{low_digits, count_digits, digit_count, digits}
use Rattle.encoding.specs.Fields.{var_uint_bytes}
use Rattle.buffer.specs.Laid.{laid, placed}
use Rattle.var_uint.specs.Filled.{filled, stores, stored}

abbrev untouched : List ℕ
untouched = 0xEE ∷ 0xEE ∷ 0xEE ∷ 0xEE ∷ 0xEE ∷ []

-- what a fill of `value` at `at` answers and leaves, for each of the limits
abbrev fills : ℕ → ℕ → List ℕ → List (Option ℕ × List ℕ)
fills at value = map (λ (limit : ℕ). filled limit untouched at (var_uint_bytes value))

-- 16384 is 01 00 80: store by store, and no store more than the field has bytes
pub three_bytes : fills 1 16384 (0 ∷ 1 ∷ 2 ∷ 3 ∷ 4 ∷ (2 ^ 64 - 1) ∷ [])
    ≡ (Some 0, 0xEE ∷ 0xEE ∷ 0xEE ∷ 0xEE ∷ 0xEE ∷ [])
    ∷ (Some 1, 0xEE ∷ 0xEE ∷ 0xEE ∷ 0x80 ∷ 0xEE ∷ [])
    ∷ (Some 2, 0xEE ∷ 0xEE ∷ 0x00 ∷ 0x80 ∷ 0xEE ∷ [])
    ∷ (Some 3, 0xEE ∷ 0x01 ∷ 0x00 ∷ 0x80 ∷ 0xEE ∷ [])
    ∷ (Some 3, 0xEE ∷ 0x01 ∷ 0x00 ∷ 0x80 ∷ 0xEE ∷ [])
    ∷ (Some 3, 0xEE ∷ 0x01 ∷ 0x00 ∷ 0x80 ∷ 0xEE ∷ [])
    ∷ []
unfolding filled placed laid var_uint_bytes digits digit_count count_digits low_digits
three_bytes = refl

-- the same as a trace: each place with its byte
pub three_traced : stores 1 (var_uint_bytes 16384) ≡ (3, 0x80) ∷ (2, 0x00) ∷ (1, 0x01) ∷ []
unfolding stores var_uint_bytes digits digit_count count_digits low_digits
three_traced = refl

pub three_stored : stored untouched ((3, 0x80) ∷ (2, 0x00) ∷ []) ≡ 0xEE ∷ 0xEE ∷ 0x00 ∷ 0x80 ∷ 0xEE ∷ []
unfolding stored
three_stored = refl

-- 300 is 02 AC, up to the buffer's end
pub two_bytes : fills 3 300 (0 ∷ 1 ∷ 2 ∷ 3 ∷ [])
    ≡ (Some 0, 0xEE ∷ 0xEE ∷ 0xEE ∷ 0xEE ∷ 0xEE ∷ [])
    ∷ (Some 1, 0xEE ∷ 0xEE ∷ 0xEE ∷ 0xEE ∷ 0xAC ∷ [])
    ∷ (Some 2, 0xEE ∷ 0xEE ∷ 0xEE ∷ 0x02 ∷ 0xAC ∷ [])
    ∷ (Some 2, 0xEE ∷ 0xEE ∷ 0xEE ∷ 0x02 ∷ 0xAC ∷ [])
    ∷ []
unfolding filled placed laid var_uint_bytes digits digit_count count_digits low_digits
two_bytes = refl

-- 127 is FF: a whole field of one store
pub one_byte : fills 4 127 (0 ∷ 1 ∷ 2 ∷ [])
    ≡ (Some 0, 0xEE ∷ 0xEE ∷ 0xEE ∷ 0xEE ∷ 0xEE ∷ [])
    ∷ (Some 1, 0xEE ∷ 0xEE ∷ 0xEE ∷ 0xEE ∷ 0xFF ∷ [])
    ∷ (Some 1, 0xEE ∷ 0xEE ∷ 0xEE ∷ 0xEE ∷ 0xFF ∷ [])
    ∷ []
unfolding filled placed laid var_uint_bytes digits digit_count count_digits low_digits
one_byte = refl

-- Room for the first byte of the field alone; a place at the end of the buffer, and places past it.
pub no_store : (fills 4 300 (0 ∷ 1 ∷ 2 ∷ []) ≡ (None, untouched) ∷ (None, untouched) ∷ (None, untouched) ∷ [])
    × (fills 5 0 (0 ∷ 1 ∷ []) ≡ (None, untouched) ∷ (None, untouched) ∷ [])
    × (fills 6 0 (0 ∷ 1 ∷ []) ≡ (None, untouched) ∷ (None, untouched) ∷ [])
    × (fills (2 ^ 64 - 1) 300 (0 ∷ 1 ∷ 2 ∷ []) ≡ (None, untouched) ∷ (None, untouched) ∷ (None, untouched) ∷ [])
unfolding filled placed laid var_uint_bytes digits digit_count count_digits low_digits
no_store = (refl, refl, refl, refl)
