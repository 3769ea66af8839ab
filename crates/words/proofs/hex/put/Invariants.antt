-- `hex::put` lays two digits for each byte: the invariant says how many bytes have theirs.
use Rattle.std.proofs.Common.{◌≡◌, ◌+◌, ◌*◌, ◌≤◌, length, take}
use Rattle.buffer.specs.Laid.{laid}
use Rattle.words.specs.Hex.{hex_text}
use Rattle.words.proofs.hex.put.Given as goal

abbrev pub invariant-loop-i : goal.invariant-loop-i
invariant-loop-i l = record {
  room : l.at + 2 * length l.bytes ≤ length l.initial.out;
  keeps : length l.out ≡ length l.initial.out;
  laid : l.out ≡ laid l.initial.out l.at (hex_text (take l.i l.bytes));
}
