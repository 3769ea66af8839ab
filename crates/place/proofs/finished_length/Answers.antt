-- `place::finished_length` meets its contract: all used bytes where a version marker may stand and no name waits, and else none.
-- Assumes nothing.
use Rattle.std.proofs.Common.{sym, ◌∙◌, true, false}
use Rattle.place.proofs.Finished.{finished_is}
use Rattle.place.proofs.finished_length.Goals as goal

pub returns-then-is_err-waits : goal.returns-then-is_err-waits
returns-then-is_err-waits g c =
    finished_is (g.S.Standing.state c.args.s.now) c.args.room c.check.result c.check.ensures true
    (rw (← c.is_err.ensures.value, ← c.waits.ensures) (sym c.if-is_err-waits.true))

pub returns : goal.returns
returns g c =
    c.used.ensures ∙ finished_is (g.S.Standing.state c.args.s.now) c.args.room c.check.result c.check.ensures false
    (rw (← c.is_err.ensures.value, ← c.waits.ensures) (sym c.if-is_err-waits.false))
