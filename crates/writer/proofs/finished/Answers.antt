-- `writer::finished` meets its contract: the part of that length.
-- Assumes nothing.
use Rattle.std.proofs.Common.{sym, length, arith}
use Rattle.std.proofs.lemmas.List.{length-take-le}
use Rattle.steps.proofs.Started.{finished_within}
use Rattle.writer.proofs.finished.Goals as goal

pub slice_bounds-result-end : goal.slice_bounds-result-end
slice_bounds-result-end c =
    let b = c.args.buf.now in
    sym (length-take-le c.finished_length-n.result b (omega (arith, c.finished_length-n.ensures, finished_within c.args.s (length b))))
