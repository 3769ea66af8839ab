-- The bytes behind the type byte, which test the room, and a store before them. Assumes nothing.
use Prim.Native.Nat.{ℕ, ◌+◌}
use mathlib.Core.Path.{◌∙◌, ap, sym}
use native.Mathlib.Omega.{arith}
use Rattle.std.specs.Prelude.{Option}
use Rattle.encoding.specs.Fields.{fixed_bytes}
use Rattle.encoding.proofs.Sizes.{length_fixed}
use Rattle.buffer.proofs.Laid.{placed_cons, placed_cons_none, placed_full, placed-some}
use Rattle.floats.proofs.write_sized.Goals as goal

pub returns-then-buf-at : goal.returns-then-buf-at
returns-then-buf-at c = let a = c.args in sym (placed_full a.buf.now a.at _ (omega arith))

pub returns-in_err-count : goal.returns-in_err-count
returns-in_err-count c = let a = c.args in
    ap (λ (r : Option ℕ). (r, c.write_fixed.new.buf)) c.from_residual.ensures
    ∙ placed_cons_none a.buf.now a.at (0x40 + a.size) (fixed_bytes a.size a.bits) _ c.in_err-count.ensures

pub overflow_add-result : goal.overflow_add-result
overflow_add-result c = let a = c.args in
    let p = placed-some a.buf.now (a.at + 1) (fixed_bytes a.size a.bits) _ _ c.in_ok-count.ensures in
    omega (arith, length_fixed a.size a.bits)

pub returns : goal.returns
returns c = let a = c.args in placed_cons a.buf.now a.at (0x40 + a.size) (fixed_bytes a.size a.bits) _ _ c.in_ok-count.ensures
