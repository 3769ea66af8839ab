-- Annotation lists as they are lent: eight bytes a sid, least significant first.
-- A rest of fewer than eight bytes is one more sid, whose missing bytes are zero; so every slice has a meaning, and no bytes are no annotations.
-- Assumes nothing.
use Rattle.std.specs.Prelude.{ℕ, zero, suc, ◌+◌, ◌*◌, ◌/◌, List, [], ◌∷◌, ◌++◌, length, get_or}

-- the number of k bytes from `at` on, least significant first; a byte past the end is zero
unfoldable pub least_first : List ℕ → ℕ → ℕ → ℕ
least_first b at zero = 0
least_first b at (suc k) = get_or b at 0 + 256 * least_first b (at + 1) k

unfoldable pub sid_at : List ℕ → ℕ → ℕ
sid_at b i = least_first b (8 * i) 8

abbrev pub sid_count : List ℕ → ℕ
sid_count b = (length b + 7) / 8

-- the first n sids
unfoldable pub sids_up_to : List ℕ → ℕ → List ℕ
sids_up_to b zero = []
sids_up_to b (suc n) = sids_up_to b n ++ (sid_at b n ∷ [])

unfoldable pub sids_of : List ℕ → List ℕ
sids_of b = sids_up_to b (sid_count b)
