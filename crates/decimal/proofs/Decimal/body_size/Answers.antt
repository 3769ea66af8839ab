-- No body for positive zero with exponent 0, else the lengths of exponent and coefficient. Assumes nothing.
use native.Mathlib.Omega.{arith}
use mathlib.Core.Bool.{false}
use borrow.Author.Rules.{rules}
use mathlib.Core.Path.{◌≡◌}
use mir.Syntax.{w64}
use mir.Val.{of_z, to_z}
use Rattle.encoding.proofs.Signs.{int_trimmed-most}
use Rattle.encoding.proofs.Sizes.{var_int-most}
use Rattle.decimal.proofs.Decimals.{size_none, size_some}
use Rattle.decimal.proofs.Decimal.body_size.Goals as goal

pub returns-then-coefficient-scale : goal.returns-then-coefficient-scale
returns-then-coefficient-scale c = let a = c.args.self in
    let kept : to_z w64 (of_z w64 a.exponent) ≡ a.exponent = search rules in
    size_none a.coefficient.negative a.coefficient.magnitude.now a.exponent _ (rw (c.magnitude-scale.ensures, kept)) _
    c.encoded_size_of-coefficient.ensures c.if-coefficient-scale.true

pub overflow_add-result : goal.overflow_add-result
overflow_add-result c = let a = c.args.self in
    omega (
      arith,
      c.encoded_size_of.ensures,
      c.encoded_size_of-coefficient.ensures,
      var_int-most false c.magnitude-scale.result (omega (arith, c.magnitude-scale.type_inv)),
      int_trimmed-most a.coefficient.negative a.coefficient.magnitude.now,
    )

pub returns : goal.returns
returns c = let a = c.args.self in
    let kept : to_z w64 (of_z w64 a.exponent) ≡ a.exponent = search rules in
    size_some a.coefficient.negative a.coefficient.magnitude.now a.exponent _ (rw (c.magnitude-scale.ensures, kept)) _ _
    c.encoded_size_of-coefficient.ensures c.encoded_size_of.ensures c.if-coefficient-scale.false
