-- `Utc::put_fraction` meets its contract: the exponent, of one byte, and the coefficient side by side.
-- Assumes nothing.
use Rattle.std.proofs.Common.{sym, arith}
use Rattle.buffer.proofs.Laid.{placed_nil}
use Rattle.timestamp.proofs.Body.{no_exponent, coefficient_room, no_coefficient, fraction_put}
use Rattle.timestamp.proofs.Utc.put_fraction.Goals as goal

pub returns-in-None : goal.returns-in-None
returns-in-None c = rw c.in-None.is (sym (placed_nil c.args.buf.now c.args.at (omega (arith, c.requires))))

pub returns-in_err-one-in-Some : goal.returns-in_err-one-in-Some
returns-in_err-one-in-Some c =
    let a = c.args in
    let x = c.in-Some.fraction in
    absurd (no_exponent a.buf.now a.at x.digits x.coefficient (rw c.in-Some.is at a.self.small.2) (rw c.in-Some.is at c.requires) _ (rw c.from.ensures at c.in_err-one-in-Some.ensures))

pub overflow_add-at : goal.overflow_add-at
overflow_add-at c =
    let a = c.args in
    let x = c.in-Some.fraction in
    omega (
      arith,
      coefficient_room a.buf.now a.at x.digits x.coefficient (rw c.in-Some.is at a.self.small.2) (rw c.in-Some.is at c.requires) _ _ (rw c.from.ensures at c.in_ok-one-in-Some.ensures),
    )

pub returns-in_err-more-in-Some : goal.returns-in_err-more-in-Some
returns-in_err-more-in-Some c =
    let a = c.args in
    let x = c.in-Some.fraction in
    absurd (no_coefficient a.buf.now a.at x.digits x.coefficient (rw c.in-Some.is at a.self.small.2) (rw c.in-Some.is at c.requires) _ _ (rw c.from.ensures at c.in_ok-one-in-Some.ensures)
    _ c.in_err-more-in-Some.ensures)

pub overflow_add-result : goal.overflow_add-result
overflow_add-result c =
    let a = c.args in
    let x = c.in-Some.fraction in
    let put =
    fraction_put a.buf.now a.at x.digits x.coefficient (rw c.in-Some.is at a.self.small.2) (rw c.in-Some.is at c.requires) _ _ (rw c.from.ensures at c.in_ok-one-in-Some.ensures)
    _ _ c.in_ok-more-in-Some.ensures in
    omega (arith, put.1)

pub returns-in_ok-more-in-Some : goal.returns-in_ok-more-in-Some
returns-in_ok-more-in-Some c =
    let a = c.args in
    let x = c.in-Some.fraction in
    rw c.in-Some.is (fraction_put a.buf.now a.at x.digits x.coefficient (rw c.in-Some.is at a.self.small.2) (rw c.in-Some.is at c.requires) _ _
    (rw c.from.ensures at c.in_ok-one-in-Some.ensures) _ _ c.in_ok-more-in-Some.ensures).0
