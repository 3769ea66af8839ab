-- `put` meets its contract: a scalar that may stand where it does is refused by one of its own checks or for room, or put at the end of the used bytes.
-- Assumes nothing.
use Rattle.std.proofs.Common.{◌≡◌, refl, length, arith, rules}
use Rattle.annotations.specs.Sids.{sids_of}
use Rattle.machine.specs.Call.{write}
use Rattle.machine.specs.Machine.{lacks_name, refused}
use Rattle.machine.specs.Numbers.{number}
use Rattle.scalars.specs.Refused.{own_refusal}
use Rattle.steps.proofs.Run.{past-place}
use Rattle.steps.proofs.Containers.{accepted_fits}
use Rattle.steps.proofs.Members.{counted_uncut}
use Rattle.steps.proofs.Scalars.{scalar_lines, scalar_none, scalar_some, scalar_fits}
use Rattle.steps.proofs.Exits.{exit_err, was_some, was_none}
use Rattle.steps.proofs.put.Goals as goal

pub returns-in_err-put-clause-call : goal.returns-in_err-put-clause-call
returns-in_err-put-clause-call g c =
    let a = c.args in
    let s = g.S.Standing.state a.s.now in
    let an = sids_of a.annotations.now in
    let x = g.V.WriteAsIon.argument a.value in
    let why = c.in_err-put.field-0.0 in
    let none = was_none c.write.result _ why c.in_err-put.ensures.cases in
    let said : refused (number why) ≡ own_refusal x = search rules in
    rw (exit_err c.from_residual.result why c.from_residual.ensures.1)
    (scalar_none an x s a.buf.now c.write.new.buf
    (past-place (write an x) s a.buf.now (lacks_name s) (scalar_lines an x s a.buf.now) refl c.requires)
    (rw (none.0, c.used.ensures) at c.write.ensures) why said)

pub overflow_add-result : goal.overflow_add-result
overflow_add-result g c =
    let a = c.args in
    let s = g.S.Standing.state a.s.now in
    let an = sids_of a.annotations.now in
    let x = g.V.WriteAsIon.argument a.value in
    omega (
      arith,
      c.used-2.ensures,
      scalar_fits an x s a.buf.now c.write.new.buf
          (past-place (write an x) s a.buf.now (lacks_name s) (scalar_lines an x s a.buf.now) refl c.requires)
          c.in_ok-put.put (rw (was_some _ c.write.result c.in_ok-put.put c.in_ok-put.ensures.cases, c.used.ensures) at c.write.ensures),
    )

pub returns-clause-call : goal.returns-clause-call
returns-clause-call g c =
    let a = c.args in
    let s = g.S.Standing.state a.s.now in
    let an = sids_of a.annotations.now in
    let x = g.V.WriteAsIon.argument a.value in
    rw (c.used-2.ensures, c.depth.ensures)
    (scalar_some an x s a.buf.now c.write.new.buf
    (past-place (write an x) s a.buf.now (lacks_name s) (scalar_lines an x s a.buf.now) refl c.requires)
    c.in_ok-put.put (rw (was_some _ c.write.result c.in_ok-put.put c.in_ok-put.ensures.cases, c.used.ensures) at c.write.ensures))

pub returns-clause-uncut : goal.returns-clause-uncut
returns-clause-uncut g c =
    let s = g.S.Standing.state c.args.s.now in
    let b = c.args.buf.now in
    rw c.depth.ensures
    (counted_uncut s (length b) (accepted_fits s (length b) _ c.requires) (omega arith) s.depth (omega arith))
