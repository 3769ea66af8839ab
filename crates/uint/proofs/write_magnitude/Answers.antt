-- `uint::write_magnitude` meets its contract: the bytes behind the leading zeros are the trimmed magnitude.
-- Assumes nothing.
use mathlib.Core.Path.{sym, ◌∙◌, ap}
use native.Mathlib.Omega.{arith}
use Rattle.encoding.specs.Fields.{trimmed}
use Rattle.buffer.specs.Laid.{placed}
use Rattle.encoding.proofs.Trimmed.{trimmed-part, or_zero-some}
use Rattle.uint.proofs.write_magnitude.Goals as goal

pub returns : goal.returns
returns c = let a = c.args in
    let m = a.magnitude.now in
    let z = c.leading_zero_bytes-zeros in
    c.copy.ensures
    ∙ ap (placed a.buf.now a.at) (trimmed-part m z.result z.ensures ∙ sym (or_zero-some (trimmed m) (omega arith)))
