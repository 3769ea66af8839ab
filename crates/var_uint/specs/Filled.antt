-- A field's bytes, stored from the last to the first: document 02, Item 4.
-- Assumes nothing.
use Rattle.std.specs.Prelude.{ℕ, ◌+◌, ◌-◌, ◌≤◌, ◌<◌, List, [], ◌∷◌, ◌++◌, Option, length, drop, set}
use Rattle.buffer.specs.Laid.{placed}

-- What a fill of at most `limit` stores answers and leaves of the field `out` at `at`: the last `limit` bytes, or all if there are no more, lie at the
-- places that they have in the whole field, and every other byte is as it was. Where the field does not fit, no byte is stored. It answers how many were.
unfoldable pub filled : ℕ → List ℕ → ℕ → List ℕ → Option ℕ × List ℕ
filled limit b at out = placed b (at + (length out - limit)) (drop (length out - limit) out)

-- ---- the same as a trace

-- One store: its place and its byte.
abbrev pub Store : Type 0
Store = ℕ × ℕ

-- The stores of the field `out` at `at` in their order, the last byte's first.
unfoldable pub stores : ℕ → List ℕ → List Store
stores at [] = []
stores at (x ∷ xs) = stores (at + 1) xs ++ ((at, x) ∷ [])

-- The buffer after the stores.
unfoldable pub stored : List ℕ → List Store → List ℕ
stored b [] = b
stored b (s ∷ ss) = stored (set b s.0 s.1) ss

-- Only the first of the stores has the end flag.
abbrev pub NoEndFlag : List Store → Type 0
NoEndFlag [] = Unit {0}
NoEndFlag (s ∷ ss) = (s.1 < 0x80) × NoEndFlag ss

abbrev pub EndFlagFirst : List Store → Type 0
EndFlagFirst [] = ⊥
EndFlagFirst (s ∷ ss) = (0x80 ≤ s.1) × NoEndFlag ss
