-- The words of a text: what single spaces part. A text has one word more than spaces, and a word may be empty.
-- Assumes nothing.
use Rattle.std.specs.Prelude.{ℕ, zero, suc, ◌+◌, List, ◌==◌, drop}
use Rattle.std.specs.List.{position_or_len, slice_split}

-- The words of a text. A space is byte 32.
abbrev pub words_of : List ℕ → List (List ℕ)
words_of s = slice_split (λ b. b == 32) s

-- The text behind its first word and the space.
abbrev pub behind_word : List ℕ → List ℕ
behind_word s = drop (position_or_len (λ b. b == 32) s + 1) s

-- The text from the word at index n on.
unfoldable pub from_word : ℕ → List ℕ → List ℕ
from_word zero s = s
from_word (suc n) s = from_word n (behind_word s)
