-- `entry_containers::gm_abandon` meets its contract: the head is stored as the call says.
-- Assumes nothing.
use Rattle.std.proofs.Common.{refl, ◌∙◌}
use Rattle.machine.specs.Call.{abandonment}
use Rattle.entry_steps.proofs.Entered.{stepped_entered}
use Rattle.entry_containers.proofs.gm_abandon.Goals as goal

pub returns : goal.returns
returns c =
    let a = c.args in
    let l = c.abandon-step.new.buf in
    rw c.answered.ensures
    (c.stepped.ensures l ∙ stepped_entered abandonment a.state.now a.buf.now l (λ s. refl) c.abandon-step.result c.abandon-step.ensures)
