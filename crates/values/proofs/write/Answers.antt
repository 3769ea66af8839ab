-- What stands before the value, nothing or its wrapper, and the value behind it. Assumes nothing.
use Prim.Native.Nat.{ℕ}
use native.Mathlib.Omega.{arith}
use mathlib.Core.Path.{sym, ◌∙◌, ap}
use mathlib.Core.Logic.{inl, inr}
use Rattle.std.specs.Prelude.{Option}
use Rattle.values.proofs.Annotated.{Before, no_wrapper, unsized, value_room, no_value, value_behind, value_within}
use Rattle.values.proofs.write.Goals.{then-is_empty, else-is_empty+in_ok-size+in_ok-wrapper}
use Rattle.values.proofs.write.Goals as goal

pub returns-in_err-size : goal.returns-in_err-size
returns-in_err-size g c = let a = c.args in
    ap (λ (r : Option ℕ). (r, a.buf.now)) c.from_residual.ensures
    ∙ unsized (g.V.WriteAsIon.argument a.value) (sym c.in_err-size.was ∙ c.size.ensures) a.buf.now a.at _

pub returns-in_err-wrapper : goal.returns-in_err-wrapper
returns-in_err-wrapper g c = let a = c.args in
    ap (λ (r : Option ℕ). (r, c.write_prefix.new.buf)) c.from_residual-in_err-wrapper.ensures
    ∙ no_wrapper a.buf.now a.at a.annotations.now (sym c.is_empty.ensures ∙ c.if-is_empty.false) (g.V.WriteAsIon.argument a.value) _ (sym c.in_ok-size.was ∙ c.size.ensures) _ c.in_err-wrapper.ensures

pub overflow_add-at : goal.overflow_add-at
overflow_add-at g c =
    let a = c.args in
    let x = g.V.WriteAsIon.argument a.value in
    let before : Before a.buf.now a.at a.annotations.now x c.if-is_empty.wrapper c.if-is_empty.buf = elim c.if-is_empty.branch [
      | then-is_empty w ↦ inl (sym c.is_empty.ensures ∙ w.if-is_empty.true, (w.wrapper-is, w.buf-is))
      | else-is_empty+in_ok-size+in_ok-wrapper w ↦
          inr (sym c.is_empty.ensures ∙ w.if-is_empty.false, (_, (sym w.in_ok-size.was ∙ w.size.ensures, rw (w.wrapper-is, w.buf-is) w.in_ok-wrapper.ensures)))
    ] in
    omega (arith, value_room a.buf.now a.at a.annotations.now x _ _ before)

pub returns-in_err-body : goal.returns-in_err-body
returns-in_err-body g c =
    let a = c.args in
    let x = g.V.WriteAsIon.argument a.value in
    let before : Before a.buf.now a.at a.annotations.now x c.if-is_empty.wrapper c.if-is_empty.buf = elim c.if-is_empty.branch [
      | then-is_empty w ↦ inl (sym c.is_empty.ensures ∙ w.if-is_empty.true, (w.wrapper-is, w.buf-is))
      | else-is_empty+in_ok-size+in_ok-wrapper w ↦
          inr (sym c.is_empty.ensures ∙ w.if-is_empty.false, (_, (sym w.in_ok-size.was ∙ w.size.ensures, rw (w.wrapper-is, w.buf-is) w.in_ok-wrapper.ensures)))
    ] in
    rw c.from_residual-in_err-body.ensures (no_value a.buf.now a.at a.annotations.now x _ _ before _ c.in_err-body.ensures)

pub overflow_add-result : goal.overflow_add-result
overflow_add-result g c =
    let a = c.args in
    let x = g.V.WriteAsIon.argument a.value in
    let before : Before a.buf.now a.at a.annotations.now x c.if-is_empty.wrapper c.if-is_empty.buf = elim c.if-is_empty.branch [
      | then-is_empty w ↦ inl (sym c.is_empty.ensures ∙ w.if-is_empty.true, (w.wrapper-is, w.buf-is))
      | else-is_empty+in_ok-size+in_ok-wrapper w ↦
          inr (sym c.is_empty.ensures ∙ w.if-is_empty.false, (_, (sym w.in_ok-size.was ∙ w.size.ensures, rw (w.wrapper-is, w.buf-is) w.in_ok-wrapper.ensures)))
    ] in
    omega (arith, value_within a.buf.now a.at a.annotations.now x _ _ before c.in_ok-body.body _ c.in_ok-body.ensures)

pub returns : goal.returns
returns g c =
    let a = c.args in
    let x = g.V.WriteAsIon.argument a.value in
    let before : Before a.buf.now a.at a.annotations.now x c.if-is_empty.wrapper c.if-is_empty.buf = elim c.if-is_empty.branch [
      | then-is_empty w ↦ inl (sym c.is_empty.ensures ∙ w.if-is_empty.true, (w.wrapper-is, w.buf-is))
      | else-is_empty+in_ok-size+in_ok-wrapper w ↦
          inr (sym c.is_empty.ensures ∙ w.if-is_empty.false, (_, (sym w.in_ok-size.was ∙ w.size.ensures, rw (w.wrapper-is, w.buf-is) w.in_ok-wrapper.ensures)))
    ] in
    value_behind a.buf.now a.at a.annotations.now x _ _ before _ _ c.in_ok-body.ensures
