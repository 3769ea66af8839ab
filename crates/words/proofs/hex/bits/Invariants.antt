-- `hex::bits` keeps the lowest 64 bits: with the rest of the digits behind them they are those of the whole number.
use Rattle.std.proofs.Common.{◌≡◌, ◌%◌, ◌^◌, ◌<◌, drop}
use Rattle.words.specs.Hex.{hex_behind}
use Rattle.words.proofs.hex.bits.Given as goal

abbrev pub invariant-loop-byte : goal.invariant-loop-byte
invariant-loop-byte l = record {
  fits : l.bits < 2 ^ 64;
  rest : hex_behind l.bits (drop l.byte-index l.word) % 2 ^ 64 ≡ hex_behind 0 l.word % 2 ^ 64;
}
