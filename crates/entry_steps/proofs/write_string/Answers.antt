-- `entry_steps::write_string` meets its contract: what is stored is what the machine leaves.
-- Assumes nothing.
use Rattle.encoding.specs.Argument.{write_string}
use Rattle.std.proofs.Common.{◌∙◌}
use Rattle.annotations.specs.Sids.{sids_of}
use Rattle.entry_steps.proofs.Entered.{written_entered}
use Rattle.entry_steps.proofs.write_string.Goals as goal

pub returns : goal.returns
returns c =
    let a = c.args in
    c.written.ensures _ ∙ written_entered (sids_of a.annotations.now) (write_string a.bytes.now) a.state.now a.buf.now _ _ c.write_string-step.ensures.call
