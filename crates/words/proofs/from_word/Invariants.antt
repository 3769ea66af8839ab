-- `from_word` passes words: those still to pass from the rest on are those to pass from the text's start on.
use Rattle.std.proofs.Common.{◌≡◌, ◌-◌}
use Rattle.words.specs.Words.{from_word}
use Rattle.words.proofs.from_word.Given as goal

abbrev pub invariant-loop : goal.invariant-loop
invariant-loop l = from_word (l.n - l.counter) l.rest ≡ from_word l.n l.text
