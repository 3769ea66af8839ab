-- The sids of a wrapper, byte by byte: what a reader keeps of them between two bytes.
-- Assumes nothing.
use Rattle.std.specs.Prelude.{ℕ, ◌+◌, ◌*◌, ◌%◌, ◌^◌, Bool, false, cond, List, [], ◌∷◌, ltb, leb}

-- the groups so far with a byte more: none behind the last group
abbrev pub groups_with : ℕ → ℕ → ℕ
groups_with acc b = cond (ltb b 0x80) (acc * 128 + b % 128) 0

-- Whole VarUInts fill the bytes: `whole` where none is begun, else the groups so far make `acc`.
unfoldable pub sids_from : Bool → ℕ → List ℕ → Bool
sids_from whole acc [] = whole
sids_from whole acc (b ∷ bs) = cond (ltb (acc * 128 + b % 128) (2 ^ 64)) (sids_from (leb 0x80 b) (groups_with acc b) bs) false
