-- The fields as the writer puts them: document 01's modules var_uint, var_int, uint and int.
-- Assumes nothing.
use Rattle.std.specs.Prelude.{ℕ, zero, suc, ◌+◌, ◌/◌, ◌%◌, ◌^◌, ◌<◌, Bool, true, false, List, [], ◌∷◌, ◌++◌, ltb, eqb, ℤ, pos, negsuc}
use Rattle.ion.specs.Value.{Signed, signed}
use Rattle.encoding.specs.Digits.{low_digits, digit_count, digits}

-- ---- var_uint: seven bits a byte, most significant first, bit 80 on the last only; zero takes one byte

unfoldable pub var_uint_bytes : ℕ → List ℕ
var_uint_bytes n = digits 128 (n / 128) ++ ((0x80 + n % 128) ∷ [])

-- one after the other
unfoldable pub var_uints_bytes : List ℕ → List ℕ
var_uints_bytes [] = []
var_uints_bytes (n ∷ ns) = var_uint_bytes n ++ var_uints_bytes ns

-- ---- var_int: the first byte holds six bits of magnitude and the sign in bit 40; the size is the least that holds the magnitude

abbrev pub sign_bit : Bool → ℕ
sign_bit true = 0x40
sign_bit false = 0

-- the first byte and k more
unfoldable pub var_int_groups : Bool → ℕ → ℕ → List ℕ
var_int_groups s zero n = (0x80 + sign_bit s + n) ∷ []
var_int_groups s (suc k) n = (sign_bit s + n / 128 ^ suc k) ∷ (low_digits 128 k (n / 128) ++ ((0x80 + n % 128) ∷ []))

-- six bits hold n / 64 ≡ 0, and each group more holds a digit more of n / 64 in base 128
unfoldable pub var_int_bytes : Signed → List ℕ
var_int_bytes (signed s n) = var_int_groups s (digit_count 128 (n / 64)) n

abbrev pub signed_of : ℤ → Signed
signed_of (pos n) = signed false n
signed_of (negsuc n) = signed true (suc n)

-- ---- uint: `encode` gives no byte for zero, `minimal_be_bytes` gives one

unfoldable pub uint_bytes : ℕ → List ℕ
uint_bytes n = digits 256 n

-- k bytes, zeros in front
unfoldable pub fixed_bytes : ℕ → ℕ → List ℕ
fixed_bytes k n = low_digits 256 k n

-- a lent big-endian magnitude without its leading zero bytes
unfoldable pub trimmed : List ℕ → List ℕ
trimmed [] = []
trimmed (b ∷ bs) = elim (eqb b 0) [ true ↦ trimmed bs | false ↦ b ∷ bs ]

abbrev pub or_zero : List ℕ → List ℕ
or_zero [] = 0 ∷ []
or_zero (b ∷ bs) = b ∷ bs

-- ---- int: the sign in the top bit of a magnitude without leading zero bytes, with an added byte if that bit is taken;
-- nothing for zero, 80 for negative zero

abbrev pub top_bit : Bool → ℕ
top_bit true = 0x80
top_bit false = 0

unfoldable pub int_bytes : Bool → List ℕ → List ℕ
int_bytes false [] = []
int_bytes true [] = 0x80 ∷ []
int_bytes s (b ∷ bs) = elim (ltb b 0x80) [ true ↦ (top_bit s + b) ∷ bs | false ↦ top_bit s ∷ b ∷ bs ]

-- ---- what the types of arguments say

abbrev pub AllBelow : ℕ → List ℕ → Type 0
AllBelow limit [] = Unit {0}
AllBelow limit (n ∷ ns) = (n < limit) × AllBelow limit ns

abbrev pub AllU64 : List ℕ → Type 0
AllU64 ns = AllBelow (2 ^ 64) ns

abbrev pub IsI64 : ℤ → Type 0
IsI64 (pos n) = n < 2 ^ 63
IsI64 (negsuc n) = n < 2 ^ 63
