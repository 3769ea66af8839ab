-- The numbers that words spell in base ten: one digit or more, within a limit, and a minus before those with a sign.
-- Assumes nothing.
use Rattle.std.specs.Prelude.{ℕ, zero, ◌+◌, ◌-◌, ◌*◌, Bool, true, false, ◌&&◌, List, [], ◌∷◌, Option, Some, None, option_map, leb, eqb, ℤ, pos, neg_ℤ, drop, get_or}

-- A digit is a byte from 48 to 57.
unfoldable pub is_digit : ℕ → Bool
is_digit b = leb 48 b && leb b 57

-- n with the digit b at its end, or none where b is no digit or the number passes `most`.
unfoldable pub digit_behind : ℕ → ℕ → ℕ → Option ℕ
digit_behind most n b = elim (is_digit b && leb (n * 10 + (b - 48)) most) [ true ↦ Some (n * 10 + (b - 48)) | false ↦ None ]

-- n with the digits of a list behind it, one after the other.
unfoldable pub digits_behind : ℕ → ℕ → List ℕ → Option ℕ
digits_behind most n [] = Some n
digits_behind most n (b ∷ s) = elim (digit_behind most n b) [ Some m ↦ digits_behind most m s | None ↦ None ]

-- A number without sign.
unfoldable pub natural : ℕ → List ℕ → Option ℕ
natural most [] = None
natural most (b ∷ s) = digits_behind most zero (b ∷ s)

-- A minus is byte 45.
unfoldable pub has_minus : List ℕ → Bool
has_minus s = eqb (get_or s 0 0) 45

-- The word behind its minus.
unfoldable pub magnitude : List ℕ → List ℕ
magnitude s = elim (has_minus s) [ true ↦ drop 1 s | false ↦ s ]

-- A number with or without minus. `most` is the largest, and the least is minus one more.
unfoldable pub signed : ℕ → List ℕ → Option ℤ
signed most s = elim (has_minus s) [ true ↦ option_map (λ n. neg_ℤ (pos n)) (natural (most + 1) (magnitude s)) | false ↦ option_map pos (natural most s) ]
