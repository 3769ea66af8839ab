-- `entry_containers::close` meets its contract: refused, or the figures are answered, and the count and the head stored.
-- Assumes nothing.
use Rattle.std.proofs.Common.{◌∙◌}
use Rattle.machine.specs.Call.{closing}
use Rattle.steps.proofs.Exits.{exit_err}
use Rattle.entry_steps.proofs.Entered.{entered_run, closed_answered, refused_answered}
use Rattle.entry_containers.proofs.close.Goals as goal

pub returns-in_err-close-clause-call : goal.returns-in_err-close-clause-call
returns-in_err-close-clause-call c =
    let a = c.args in
    rw (exit_err c.from_residual.result c.in_err-close.field-0.0 c.from_residual.ensures.1)
    (entered_run closing a.state.now a.buf.now _ c.in_err-close.ensures.call)

pub returns-in_err-close-clause-figures : goal.returns-in_err-close-clause-figures
returns-in_err-close-clause-figures c =
    let a = c.args in
    refused_answered a.state.now a.buf.now c.close.new.buf a.closed.now c.in_err-close.field-0.0 c.in_err-close.ensures.call

pub returns-clause-call : goal.returns-clause-call
returns-clause-call c =
    let a = c.args in
    rw (c.store.ensures, c.count.ensures) (entered_run closing a.state.now a.buf.now _ c.in_ok-close.ensures.call)

pub returns-clause-figures : goal.returns-clause-figures
returns-clause-figures c =
    let a = c.args in
    c.answer.ensures ∙ closed_answered a.state.now a.buf.now c.close.new.buf a.closed.now c.in_ok-close.close c.in_ok-close.ensures.call
