-- Lower-case hex: digits, numbers, bytes.
-- Assumes nothing.
use Rattle.std.specs.Prelude.{ℕ, ◌+◌, ◌-◌, ◌*◌, ◌/◌, ◌%◌, Bool, true, false, ◌&&◌, List, [], ◌∷◌, ◌++◌, Option, Some, None, is_some, unwrap_or, map, leb, ltb, length, replicate}
use Rattle.std.specs.List.{list_all}
use Rattle.words.specs.Numbers.{is_digit}

-- The letters a to f are the bytes 97 to 102.
unfoldable pub is_hex_letter : ℕ → Bool
is_hex_letter b = leb 97 b && leb b 102

-- The value of a digit, if a byte is one.
unfoldable pub hex_digit : ℕ → Option ℕ
hex_digit b = elim (is_digit b) [ true ↦ Some (b - 48) | false ↦ elim (is_hex_letter b) [ true ↦ Some (b - 97 + 10) | false ↦ None ] ]

abbrev pub are_hex_digits : List ℕ → Bool
are_hex_digits s = list_all (λ b. is_some (hex_digit b)) s

-- One digit or more.
unfoldable pub is_hex : List ℕ → Bool
is_hex s = are_hex_digits s && ltb 0 (length s)

-- What a byte counts as in a number: one that is no digit as 0.
abbrev pub hex_value : ℕ → ℕ
hex_value b = unwrap_or (hex_digit b) 0

-- n with the digits of a list behind it.
unfoldable pub hex_behind : ℕ → List ℕ → ℕ
hex_behind n [] = n
hex_behind n (b ∷ s) = hex_behind (n * 16 + hex_value b) s

-- A byte of each two digits.
unfoldable pub pairs : List ℕ → List ℕ
pairs [] = []
pairs (high ∷ []) = []
pairs (high ∷ low ∷ digits) = (high * 16 + low) ∷ pairs digits

-- The digits of a word behind some zeros.
unfoldable pub padded : ℕ → List ℕ → List ℕ
padded zeros s = replicate zeros 0 ++ map hex_value s

-- The bytes of a number, from the highest on. An odd first digit is a byte.
unfoldable pub hex_bytes : List ℕ → List ℕ
hex_bytes s = pairs (padded (length s % 2) s)

-- The digit of the lowest four bits of n.
unfoldable pub hex_glyph : ℕ → ℕ
hex_glyph n = elim (ltb (n % 16) 10) [ true ↦ 48 + n % 16 | false ↦ 97 + (n % 16 - 10) ]

-- Two digits for each byte.
unfoldable pub hex_text : List ℕ → List ℕ
hex_text [] = []
hex_text (b ∷ s) = hex_glyph (b / 16) ∷ hex_glyph b ∷ hex_text s

-- The digits of bytes behind l, where n bytes have room for all of them.
unfoldable pub with_hex : ℕ → List ℕ → List ℕ → List ℕ
with_hex n l bytes = elim (leb (length l + 2 * length bytes) n) [ true ↦ l ++ hex_text bytes | false ↦ l ]
