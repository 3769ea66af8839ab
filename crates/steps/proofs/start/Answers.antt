-- `steps::start` meets its contract: too long, refused for room, or begun with a marker.
-- Assumes nothing.
use Rattle.steps.proofs.Started.{start_long, start_copied}
use Rattle.steps.proofs.start.Goals as goal

pub returns-then-buf-gt-LONGEST_BUFFER : goal.returns-then-buf-gt-LONGEST_BUFFER
returns-then-buf-gt-LONGEST_BUFFER c = start_long c.args.buf.now c.if-buf-gt-LONGEST_BUFFER.true

pub returns : goal.returns
returns c =
    rw c.ok_or.ensures.value
    (start_copied c.args.buf.now c.if-buf-gt-LONGEST_BUFFER.false c.copy.new.buf c.copy.result c.copy.ensures)
