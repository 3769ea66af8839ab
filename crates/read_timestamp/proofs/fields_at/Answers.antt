-- `read_timestamp::fields_at` meets its contract: the fields so far are in the array; each turn adds one.
-- Assumes nothing.
use native.Mathlib.Omega.{arith}
use mathlib.Core.Path.{refl, sym, ◌∙◌}
use Rattle.std.proofs.lemmas.List.{set-get_or}
use Rattle.std.proofs.lemmas.Result.{err_from_is_err_and}
use Rattle.read_timestamp.proofs.Gathered.{gathered_none, gathered_more, gathered_no, gathered_all}
use Rattle.read_timestamp.proofs.fields_at.Goals as goal
use Rattle.read_timestamp.proofs.fields_at.Goals.{else-loop-field-test, then-loop-field-test+then-body-next}

pub loop-field-init : goal.loop-field-init
loop-field-init c = (refl, gathered_none _ _ c.requires)

pub returns-in_err-number : goal.returns-in_err-number
returns-in_err-number c =
    let p = err_from_is_err_and c.from_residual.result c.from_residual.ensures.1 in
    let l = c.loop-field in
    rw (p.1, p.2) (gathered_no c.args.body.now c.args.at l.field-items l.count l.next l.invariant.1 (omega arith) (omega arith) _ (sym c.var_uint.ensures ∙ c.in_err-number.was))

pub loop-field-preserved : goal.loop-field-preserved
loop-field-preserved c = let l = c.loop-field in
    (omega arith, rw (← l.invariant.0) (gathered_more c.args.body.now c.args.at l.field-items l.count l.next l.invariant.1 (omega arith) (omega arith) _ _ (sym c.var_uint.ensures ∙ c.in_ok-number.was)))

pub returns : goal.returns
returns c = let l = c.loop-field in
    elim c.loop-field-test.branch [
      | else-loop-field-test w ↦ rw w.f-is (gathered_all c.args.body.now c.args.at l.field-items l.count l.next l.invariant.1 (λ k. absurd (omega arith)))
      | then-loop-field-test+then-body-next w ↦
          rw (w.f-is, set-get_or) (gathered_all c.args.body.now c.args.at l.field-items l.count l.next l.invariant.1 (λ k. w.if-body-next.true))
    ]
