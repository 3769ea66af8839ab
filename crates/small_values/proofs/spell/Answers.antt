-- `small_values::spell` meets its contract: the digits fill the bytes.
-- Assumes nothing.
use lib.ListN.{length}
use Rattle.encoding.specs.Digits.{low_digits}
use Rattle.encoding.proofs.Digits.{length-low_digits}
use Rattle.small_values.proofs.Filled.{filled}
use Rattle.small_values.proofs.spell.Goals as goal

pub returns : goal.returns
returns c = let a = c.args in
    filled a.bytes.now (low_digits 256 (length a.bytes.now) a.number) c.put_digits.result c.put_digits.new.buf
    (length-low_digits 256 (length a.bytes.now) a.number)
    (rw (← c.from.ensures) c.put_digits.ensures)
