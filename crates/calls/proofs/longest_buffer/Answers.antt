-- `longest_buffer` has its length by the law of repeats.
-- Assumes nothing.
use Rattle.words.proofs.Repeated.{repeated}
use Rattle.calls.proofs.longest_buffer.Goals as goal

pub returns : goal.returns
returns c = repeated 2200000 238
