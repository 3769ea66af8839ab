-- `numbers::natural` reads digit by digit: at each index the rest is read behind the number so far, and that is within the limit.
use Rattle.std.proofs.Common.{◌≡◌, ◌≤◌, drop}
use Rattle.words.specs.Numbers.{digits_behind}
use Rattle.words.proofs.numbers.natural.Given as goal

abbrev pub invariant-loop-byte : goal.invariant-loop-byte
invariant-loop-byte l = record {
  within : l.value ≤ l.most;
  rest : digits_behind l.most l.value (drop l.byte-index l.word) ≡ digits_behind l.most 0 l.word;
}
