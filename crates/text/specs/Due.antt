-- What the functions on UTF-8 hold: the ranges that bytes are due from; and ASCII.
-- Assumes nothing.
use Rattle.std.specs.Prelude.{ℕ, zero, suc, Bool, true, false, ◌&&◌, List, [], ◌∷◌, Option, None, Some, ltb, replicate}
use Rattle.std.proofs.Math.Option as Math
use Rattle.ion.specs.Text.{tail, utf8_from}
use Rattle.text.specs.declared.Due.{Due}

-- `count` bytes: the next from its own range, the others from that of UTF8-tail
abbrev pub ranges : ℕ → ℕ → ℕ → List (ℕ × ℕ)
ranges zero low high = []
ranges (suc n) low high = (low, high) ∷ replicate n tail

abbrev pub due : Due → List (ℕ × ℕ)
due d = ranges d.count d.low d.high

abbrev pub tails : ℕ → Due
tails n = record { count = n; low = 0x80; high = 0xBF }

-- What is due after a byte: none where it is not right.
abbrev pub due_after : Option Due → Math.Option (List (ℕ × ℕ))
due_after None = Math.none
due_after (Some d) = Math.some (due d)

-- Whether the bytes that follow are UTF-8 with it.
abbrev pub utf8_after : Option Due → List ℕ → Bool
utf8_after None bs = false
utf8_after (Some d) bs = utf8_from (due d) bs

-- every byte is below 80
unfoldable pub ascii : List ℕ → Bool
ascii [] = true
ascii (b ∷ bs) = ltb b 0x80 && ascii bs
