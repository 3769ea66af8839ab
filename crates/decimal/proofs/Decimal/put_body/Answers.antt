-- The exponent and the coefficient side by side, for both of which there is room. Assumes nothing.
use Prim.Native.Nat.{ℕ}
use native.Mathlib.Omega.{arith}
use mathlib.Core.Path.{◌≡◌, sym, ◌∙◌}
use mathlib.Core.Bool.{Bool, not}
use mathlib.Core.List.{List}
use borrow.Author.Rules.{rules}
use mir.Syntax.{w64}
use mir.Val.{of_z, to_z}
use lib.IntN.{ℤ, nat_abs}
use lib.Signed.{non_neg}
use Rattle.std.specs.Prelude.{Option}
use Rattle.ion.specs.Value.{signed}
use Rattle.encoding.specs.Fields.{var_int_bytes, signed_of}
use Rattle.encoding.proofs.Signs.{signed_of_is}
use Rattle.buffer.specs.Laid.{placed}
use Rattle.buffer.proofs.Laid.{placed_nil}
use Rattle.decimal.proofs.Decimals.{decimal_body_empty, exponent_put, exponent_count, coefficient_put, body_put, body_count}
use Rattle.decimal.proofs.Decimal.put_body.Goals as goal

-- what is put of the exponent, by its sign and its magnitude as the code has them
of_parts : (b : List ℕ) (at : ℕ) (r : Option ℕ) (l : List ℕ) (s : Bool) (n : ℕ) (e f : ℤ) → s ≡ not (non_neg f) → n ≡ nat_abs f → f ≡ e
    → ◌≡◌ {A = Option ℕ × List ℕ} (r, l) (placed b at (var_int_bytes (signed s n))) → ◌≡◌ {A = Option ℕ × List ℕ} (r, l) (placed b at (var_int_bytes (signed_of e)))
of_parts b at r l s n e f p q k h = rw (signed_of_is e, ← k, ← p, ← q) h

pub returns-then-body-eq0 : goal.returns-then-body-eq0
returns-then-body-eq0 c = let a = c.args in
    rw (decimal_body_empty a.self.coefficient.negative a.self.coefficient.magnitude.now a.self.exponent (omega (arith, c.requires.0))) (sym (placed_nil a.buf.now a.at (omega (arith, c.requires.1))))

pub returns-in_err-one : goal.returns-in_err-one
returns-in_err-one c = let a = c.args in
    let kept : to_z w64 (of_z w64 a.self.exponent) ≡ a.self.exponent = search rules in
    let first = of_parts _ _ _ _ _ _ a.self.exponent _ c.is_negative.ensures c.magnitude.ensures kept c.in_err-one.ensures in
    absurd (exponent_put a.self.coefficient.negative a.self.coefficient.magnitude.now a.self.exponent a.buf.now a.at (λ z. c.if-body-eq0.false (c.requires.0 ∙ z)) (omega (arith, c.requires)) _ first)

pub overflow_add-at : goal.overflow_add-at
overflow_add-at c = let a = c.args in
    let kept : to_z w64 (of_z w64 a.self.exponent) ≡ a.self.exponent = search rules in
    let first = of_parts _ _ _ _ _ _ a.self.exponent _ c.is_negative.ensures c.magnitude.ensures kept c.in_ok-one.ensures in
    omega (arith, exponent_count a.self.coefficient.negative a.self.coefficient.magnitude.now a.self.exponent a.buf.now a.at (λ z. c.if-body-eq0.false (c.requires.0 ∙ z)) (omega (arith, c.requires)) _ _ first)

pub returns-in_err-more : goal.returns-in_err-more
returns-in_err-more c = let a = c.args in
    let kept : to_z w64 (of_z w64 a.self.exponent) ≡ a.self.exponent = search rules in
    let first = of_parts _ _ _ _ _ _ a.self.exponent _ c.is_negative.ensures c.magnitude.ensures kept c.in_ok-one.ensures in
    absurd (coefficient_put a.self.coefficient.negative a.self.coefficient.magnitude.now a.self.exponent a.buf.now a.at (λ z. c.if-body-eq0.false (c.requires.0 ∙ z)) (omega (arith, c.requires)) _ _ first _ c.in_err-more.ensures)

pub overflow_add-result : goal.overflow_add-result
overflow_add-result c = let a = c.args in
    let kept : to_z w64 (of_z w64 a.self.exponent) ≡ a.self.exponent = search rules in
    let first = of_parts _ _ _ _ _ _ a.self.exponent _ c.is_negative.ensures c.magnitude.ensures kept c.in_ok-one.ensures in
    omega (arith, c.requires.0, body_count a.self.coefficient.negative a.self.coefficient.magnitude.now a.self.exponent a.buf.now a.at (λ z. c.if-body-eq0.false (c.requires.0 ∙ z)) (omega (arith, c.requires)) _ _ first _ _ c.in_ok-more.ensures)

pub returns : goal.returns
returns c = let a = c.args in
    let kept : to_z w64 (of_z w64 a.self.exponent) ≡ a.self.exponent = search rules in
    let first = of_parts _ _ _ _ _ _ a.self.exponent _ c.is_negative.ensures c.magnitude.ensures kept c.in_ok-one.ensures in
    body_put a.self.coefficient.negative a.self.coefficient.magnitude.now a.self.exponent a.buf.now a.at (λ z. c.if-body-eq0.false (c.requires.0 ∙ z)) (omega (arith, c.requires)) _ _ first _ _ c.in_ok-more.ensures
