-- The type bytes that most headers have: the low four bits say a length that the type may have.
-- Assumes nothing.
use Rattle.std.specs.Prelude.{ℕ, ◌/◌, ◌%◌, Bool, cond, ◌&&◌, ltb, leb, eqb}

-- the least of them by the type code; 14 is none, where low bits say other things than lengths too
abbrev pub least_length : ℕ → ℕ
least_length t =
    cond (eqb t 1) 14 (cond (eqb t 3) 1 (cond (eqb t 4) 14 (cond (eqb t 6) 2 (cond (eqb t 13) 2 (cond (eqb t 14) 3 (cond (eqb t 15) 14 0))))))

abbrev pub usual : ℕ → Bool
usual b = leb (least_length (b / 16)) (b % 16) && ltb (b % 16) 14
