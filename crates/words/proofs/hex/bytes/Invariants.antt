-- `hex::bytes` lays a byte of each two digits at the start of the buffer: the invariant says how far it has come.
use Rattle.std.proofs.Common.{◌≡◌}
use lib.Seq.{paste}
use Rattle.words.specs.Hex.{hex_bytes}
use Rattle.words.proofs.hex.bytes.Given as goal

abbrev pub invariant-loop-i : goal.invariant-loop-i
invariant-loop-i l = l.byte-items ≡ paste l.initial.byte-items 0 (hex_bytes l.digits) l.i
