-- None where check 8 refuses, else header and body. Assumes nothing.
use native.Mathlib.Omega.{arith}
use Rattle.decimal.proofs.Decimals.{refused, sized, value_fits}
use Rattle.decimal.proofs.Decimal.size.Goals as goal

pub returns-then-body-gt-MAX_BODY : goal.returns-then-body-gt-MAX_BODY
returns-then-body-gt-MAX_BODY c = let a = c.args.self in
    rw (refused a.coefficient.negative a.coefficient.magnitude.now a.exponent c.body_size-body.result c.body_size-body.ensures c.if-body-gt-MAX_BODY.true)

pub overflow_add-result : goal.overflow_add-result
overflow_add-result c = let a = c.args.self in
    value_fits a.coefficient.negative a.coefficient.magnitude.now a.exponent c.body_size-body.result c.body_size-body.ensures (omega arith) _ c.encoded_size_of.ensures

pub returns : goal.returns
returns c = let a = c.args.self in
    sized a.coefficient.negative a.coefficient.magnitude.now a.exponent c.body_size-body.result c.body_size-body.ensures (omega arith) _ c.encoded_size_of.ensures
