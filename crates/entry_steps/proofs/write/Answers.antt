-- `entry_steps::write` meets its contract: what is stored is what the machine leaves.
-- Assumes nothing.
use Rattle.std.proofs.Common.{◌∙◌}
use Rattle.annotations.specs.Sids.{sids_of}
use Rattle.entry_steps.proofs.Entered.{written_entered}
use Rattle.entry_steps.proofs.write.Goals as goal

pub returns : goal.returns
returns g c =
    let a = c.args in
    c.written.ensures _ ∙ written_entered (sids_of a.annotations.now) (g.V.WriteAsIon.argument a.value) a.state.now a.buf.now _ _ c.write-step.ensures.call
