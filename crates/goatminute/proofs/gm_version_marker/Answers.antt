-- `goatminute::gm_version_marker` meets its contract: the head is stored as the call says.
-- Assumes nothing.
use Rattle.std.proofs.Common.{refl, ◌∙◌}
use Rattle.machine.specs.Call.{version_marker}
use Rattle.entry_steps.proofs.Entered.{stepped_entered}
use Rattle.goatminute.proofs.gm_version_marker.Goals as goal

pub returns : goal.returns
returns c =
    let a = c.args in
    let l = c.version_marker-step.new.buf in
    rw c.answered.ensures
    (c.stepped.ensures l ∙ stepped_entered version_marker a.state.now a.buf.now l (λ s. refl) c.version_marker-step.result c.version_marker-step.ensures)
