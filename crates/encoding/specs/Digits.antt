-- Digits of a number in a base: 128 for VarUInt and VarInt, 256 for the other fields.
-- Assumes nothing.
use Rattle.std.specs.Prelude.{ℕ, zero, suc, ◌/◌, ◌%◌, true, false, List, [], ◌∷◌, ◌++◌, eqb}

-- The lowest k digits of n, most significant first.
unfoldable pub low_digits : ℕ → ℕ → ℕ → List ℕ
low_digits b zero n = []
low_digits b (suc k) n = low_digits b k (n / b) ++ (n % b ∷ [])

-- How many digits n has, none for zero. The count stops at `most`.
unfoldable pub count_digits : ℕ → ℕ → ℕ → ℕ
count_digits b zero n = zero
count_digits b (suc most) n = elim (eqb n 0) [ true ↦ zero | false ↦ suc (count_digits b most (n / b)) ]

-- No number has more digits than its own size.
unfoldable pub digit_count : ℕ → ℕ → ℕ
digit_count b n = count_digits b n n

-- All digits of n, none for zero.
unfoldable pub digits : ℕ → ℕ → List ℕ
digits b n = low_digits b (digit_count b n) n
