-- A short way past an int among the items of a list or an s-expression, where most ints of a log stand. What an item is, is not defined here but in `item_at`.
-- Assumes nothing.
use Rattle.std.specs.Prelude.{ℕ, ◌+◌, ◌/◌, ◌%◌, Bool, cond, ◌&&◌, List, ltb, leb, eqb, length, get_or, Option, Some, None}

-- a list's or an s-expression's
abbrev pub is_sequence : ℕ → Bool
is_sequence parent = leb 0xB0 parent && ltb parent 0xD0

-- "2 and 3: int", with 1 to 13 bytes
abbrev pub is_short_int : ℕ → Bool
is_short_int b = eqb (b / 32) 1 && (ltb 0 (b % 16) && ltb (b % 16) 14)

-- the first byte of the shortest form is not zero
abbrev pub is_shortest : List ℕ → ℕ → ℕ → Bool
is_shortest s at b = is_short_int b && (ltb (at + b % 16) (length s) && ltb 0 (get_or s (at + 1) 0))

abbrev pub end_from : List ℕ → ℕ → ℕ → Option ℕ
end_from s at b = cond (eqb b 0x20) (Some (at + 1)) (cond (is_shortest s at b) (Some (at + 1 + b % 16)) None)

-- The place behind an int in its shortest form; none where anything else stands.
unfoldable pub int_end : List ℕ → ℕ → ℕ → Option ℕ
int_end s parent at = cond (is_sequence parent && ltb at (length s)) (end_from s at (get_or s at 0)) None
