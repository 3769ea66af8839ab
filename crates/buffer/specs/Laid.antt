-- Bytes laid into a lent buffer: what every function that writes at a place answers and leaves.
-- Assumes nothing.
use Rattle.std.specs.Prelude.{ℕ, ◌+◌, true, false, List, [], ◌∷◌, ◌++◌, Option, Some, None, leb, length, take, drop}

-- `out` in the place of as many bytes of b, from `at` on
unfoldable pub laid : List ℕ → ℕ → List ℕ → List ℕ
laid b at out = take at b ++ (out ++ drop (at + length out) b)

-- How many bytes were put, and the buffer; where they do not fit, none, and the buffer as it was.
unfoldable pub placed : List ℕ → ℕ → List ℕ → Option ℕ × List ℕ
placed b at out = elim (leb (at + length out) (length b)) [ true ↦ (Some (length out), laid b at out) | false ↦ (None, b) ]

-- The same of a value's bytes, of which there is one at least: where there are none, the value is refused.
abbrev pub written : List ℕ → ℕ → List ℕ → Option ℕ × List ℕ
written b at [] = (None, b)
written b at (x ∷ xs) = placed b at (x ∷ xs)

-- how many a value's bytes are; of a value that is refused, none
abbrev pub size_of : List ℕ → Option ℕ
size_of [] = None
size_of (x ∷ xs) = Some (length (x ∷ xs))
