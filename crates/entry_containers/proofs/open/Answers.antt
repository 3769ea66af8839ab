-- `entry_containers::open` meets its contract: refused, or the record and the head are stored.
-- Assumes nothing.
use Rattle.annotations.specs.Sids.{sids_of}
use Rattle.machine.specs.Call.{opening}
use Rattle.steps.specs.Kinds.{kind_of}
use Rattle.steps.proofs.Exits.{exit_err}
use Rattle.entry_steps.proofs.Entered.{entered_run, opened_entered}
use Rattle.entry_containers.proofs.open.Goals as goal

pub returns-in_err-opened : goal.returns-in_err-opened
returns-in_err-opened c =
    let a = c.args in
    rw (exit_err c.from_residual.result c.in_err-opened.field-0.0 c.from_residual.ensures.1)
    (entered_run (opening (sids_of a.annotations.now) (kind_of a.kind)) a.state.now a.buf.now _ c.in_err-opened.ensures.call)

pub returns : goal.returns
returns c =
    let a = c.args in
    rw (c.store.ensures, c.store_container.ensures)
    (opened_entered (sids_of a.annotations.now) (kind_of a.kind) a.state.now a.buf.now c.open.new.buf c.in_ok-opened.opened
    c.in_ok-opened.ensures.record c.in_ok-opened.ensures.call)
