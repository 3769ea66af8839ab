-- `goatminute::start` meets its contract: refused, or the marker is laid and the used length stored.
-- Assumes nothing.
use Rattle.steps.proofs.Exits.{exit_err}
use Rattle.entry_steps.proofs.Start.{start_short_long, start_short, start_refused, start_put}
use Rattle.goatminute.proofs.start.Goals as goal

pub returns-then-buf-gt-LONGEST_BUFFER : goal.returns-then-buf-gt-LONGEST_BUFFER
returns-then-buf-gt-LONGEST_BUFFER c =
    let a = c.args in
    start_short_long a.state.now a.buf.now c.if-state-ne-STATE_SIZE.true c.if-buf-gt-LONGEST_BUFFER.true

pub returns-then-state-ne-STATE_SIZE : goal.returns-then-state-ne-STATE_SIZE
returns-then-state-ne-STATE_SIZE c =
    let a = c.args in
    start_short a.state.now a.buf.now c.if-state-ne-STATE_SIZE.true c.if-buf-gt-LONGEST_BUFFER.false

pub returns-in_err-used : goal.returns-in_err-used
returns-in_err-used c =
    let a = c.args in
    rw (exit_err c.from_residual.result c.in_err-used.field-0.0 c.from_residual.ensures.1)
    (start_refused a.state.now a.buf.now c.start.new.buf c.fill.new.self c.if-state-ne-STATE_SIZE.false (c.fill.ensures.after (λ y e. e))
    c.in_err-used.field-0.0 c.in_err-used.ensures)

pub returns : goal.returns
returns c =
    let a = c.args in
    rw c.store.ensures
    (start_put a.state.now a.buf.now c.start.new.buf c.fill.new.self c.if-state-ne-STATE_SIZE.false (c.fill.ensures.after (λ y e. e))
    c.in_ok-used.used c.in_ok-used.ensures)
