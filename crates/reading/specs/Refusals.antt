-- The reader's refusals, as document 02, Item 1, numbers them.
-- Assumes nothing.
use Rattle.std.specs.Prelude.{ℕ}
use Rattle.reading.specs.declared.Refusal.{Refusal}
use Rattle.reading.specs.declared.Refusal.TheVariants.{PastTheEnd, TooDeep, NotIon, CutShort}

-- a position past the stream's end; a thirty-third open container; bytes outside the grammar; a stream that stops inside a value, pad or marker
abbrev pub number : Refusal → ℕ
number PastTheEnd = 2
number TooDeep = 4
number NotIon = 13
number CutShort = 14
