-- `goatminute::gm_empty` meets its contract: the head is stored as the call says.
-- Assumes nothing.
use Rattle.std.proofs.Common.{refl, ◌∙◌}
use Rattle.machine.specs.Call.{emptying}
use Rattle.entry_steps.proofs.Entered.{stepped_entered}
use Rattle.goatminute.proofs.gm_empty.Goals as goal

pub returns : goal.returns
returns c =
    let a = c.args in
    let l = a.buf.now in
    rw c.answered.ensures
    (c.stepped.ensures l ∙ stepped_entered emptying a.state.now a.buf.now l (λ s. refl) c.empty-step.result c.empty-step.ensures)
