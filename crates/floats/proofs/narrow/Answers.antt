-- Each answer by its case of the exponent's field; in the last two by the trailing zeros of the digits.
-- Assumes nothing.
use Prim.Native.Nat.{◌/◌, ◌%◌, ◌^◌}
use mathlib.Core.Path.{◌≡◌, refl, sym, ◌∙◌}
use native.Mathlib.Omega.{arith}
use lib.Dec.{leb}
use Rattle.floats.proofs.Narrowing.{narrowed_fields, sign_bits, narrowed_zero, narrowed_infinity, narrowed_below, narrowed_above, narrowed_cut}
use Rattle.floats.proofs.Narrowing.{narrowed_exact, magnitude-small}
use Rattle.floats.proofs.narrow.Goals as goal

pub returns-then-magnitude-eq0 : goal.returns-then-magnitude-eq0
returns-then-magnitude-eq0 c = let b = c.args.bits in
    let t : b % 2 ^ 52 ≡ 0 = omega arith in
    rw (narrowed_fields b, c.if-magnitude-eq0.true, t, narrowed_zero (leb (2 ^ 63) b), sign_bits b (omega arith)) refl

pub returns-then-magnitude-eq-INFINITY_64 : goal.returns-then-magnitude-eq-INFINITY_64
returns-then-magnitude-eq-INFINITY_64 c = let b = c.args.bits in
    let t : b % 2 ^ 52 ≡ 0 = omega arith in
    rw (narrowed_fields b, c.if-magnitude-eq-INFINITY_64.true, t, narrowed_infinity (leb (2 ^ 63) b), sign_bits b (omega arith)) refl

pub returns-then-x-lt-LEAST : goal.returns-then-x-lt-LEAST
returns-then-x-lt-LEAST c = sym (narrowed_fields _ ∙ narrowed_below _ _ _ (omega arith) (omega arith) (λ x t. c.if-magnitude-eq0.false (omega arith)))

pub returns-then-x-gt-GREATEST : goal.returns-then-x-gt-GREATEST
returns-then-x-gt-GREATEST c = sym (narrowed_fields _ ∙ narrowed_above _ _ _ (omega arith) (omega arith) (λ x t. c.if-magnitude-eq-INFINITY_64.false (omega arith)))

pub returns-then-from-dropped : goal.returns-then-from-dropped
returns-then-from-dropped c = sym (narrowed_fields _ ∙ narrowed_cut _ _ _ _ (omega arith) (omega arith) (omega arith) c.dropped_digits-dropped.ensures (rw c.from.ensures at c.if-from-dropped.true))

pub overflow_cast-result : goal.overflow_cast-result
overflow_cast-result c = let b = c.args.bits in
    let d = c.dropped_digits-dropped in
    omega (
      arith,
      magnitude-small (leb (2 ^ 63) b) (b % 2 ^ 63 / 2 ^ 52) (b % 2 ^ 52) d.result (omega arith) (omega arith) (omega arith) d.ensures,
    )

pub overflow_add-result-4 : goal.overflow_add-result-4
overflow_add-result-4 c = let b = c.args.bits in
    let d = c.dropped_digits-dropped in
    omega (
      arith,
      magnitude-small (leb (2 ^ 63) b) (b % 2 ^ 63 / 2 ^ 52) (b % 2 ^ 52) d.result (omega arith) (omega arith) (omega arith) d.ensures,
    )

pub returns : goal.returns
returns c = let b = c.args.bits in
    rw (← sign_bits b (omega arith))
    (sym (narrowed_fields b ∙ narrowed_exact _ _ _ _ (omega arith) (omega arith) (omega arith) c.dropped_digits-dropped.ensures (rw c.from.ensures at c.if-from-dropped.false)))
