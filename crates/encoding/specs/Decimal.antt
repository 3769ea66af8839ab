-- A decimal's body: document 01's module binary/decimal.
-- Assumes nothing.
use Rattle.std.specs.Prelude.{ℕ, zero, suc, Bool, true, false, List, [], ◌∷◌, ◌++◌, ℤ, pos, negsuc}
use Rattle.encoding.specs.Fields.{var_int_bytes, signed_of, trimmed, int_bytes}

-- positive zero with exponent 0, of a magnitude without leading zero bytes
abbrev pub is_zero_decimal : Bool → List ℕ → ℤ → Bool
is_zero_decimal false [] (pos zero) = true
is_zero_decimal false [] (pos (suc n)) = false
is_zero_decimal false [] (negsuc n) = false
is_zero_decimal false (b ∷ bs) e = false
is_zero_decimal true m e = false

-- The exponent as a VarInt, then the coefficient as an Int; positive zero with exponent 0 has no body.
unfoldable pub decimal_body : Bool → List ℕ → ℤ → List ℕ
decimal_body s m e = elim (is_zero_decimal s (trimmed m) e) [ true ↦ [] | false ↦ var_int_bytes (signed_of e) ++ int_bytes s (trimmed m) ]
