-- `entry_containers::gm_field_name` meets its contract: the head is stored as the call says.
-- Assumes nothing.
use Rattle.std.proofs.Common.{refl, ◌∙◌}
use Rattle.machine.specs.Call.{name}
use Rattle.entry_steps.proofs.Entered.{stepped_entered}
use Rattle.entry_containers.proofs.gm_field_name.Goals as goal

pub returns : goal.returns
returns c =
    let a = c.args in
    let l = c.field_name-step.new.buf in
    rw c.answered.ensures
    (c.stepped.ensures l ∙ stepped_entered (name a.sid) a.state.now a.buf.now l (λ s. refl) c.field_name-step.result c.field_name-step.ensures)
