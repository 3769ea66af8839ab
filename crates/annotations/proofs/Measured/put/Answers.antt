-- The sum, and the sids behind it. By the law of two placed runs. Assumes nothing.
use Prim.Native.Nat.{ℕ}
use native.Mathlib.Omega.{arith}
use mathlib.Core.Path.{◌∙◌, ap}
use mathlib.Core.List.{◌++◌}
use Rattle.encoding.specs.Fields.{var_uint_bytes, var_uints_bytes}
use Rattle.encoding.specs.Headers.{annotation_bytes}
use Rattle.buffer.specs.Laid.{placed}
use Rattle.buffer.proofs.Laid.{placed-length, placed-room, placed-some, placed_then, placed_then_none}
use Rattle.annotations.specs.Sids.{sids_of}
use Rattle.annotations.proofs.Sids.{whole_parts}
use Rattle.annotations.proofs.Measured.put.Goals as goal

pub returns-in_err-first : goal.returns-in_err-first
returns-in_err-first c = let a = c.args in
    absurd (placed-room a.buf.now a.at (var_uint_bytes a.self.sum) _ (omega (arith, whole_parts _ a.self.sum a.self.whole a.self.sum_is a.self.whole_is)) c.in_err-first.ensures)

pub overflow_add-at : goal.overflow_add-at
overflow_add-at c = let a = c.args in
    omega (arith, placed-some a.buf.now a.at (var_uint_bytes a.self.sum) _ _ c.in_ok-first.ensures)

pub put_sids-requires : goal.put_sids-requires
put_sids-requires c = let a = c.args in
    omega (
      arith,
      whole_parts _ a.self.sum a.self.whole a.self.sum_is a.self.whole_is,
      (placed-some a.buf.now a.at (var_uint_bytes a.self.sum) _ _ c.in_ok-first.ensures).1,
      placed-length a.buf.now a.at (var_uint_bytes a.self.sum) _ _ c.in_ok-first.ensures,
    )

pub returns-in_err-rest : goal.returns-in_err-rest
returns-in_err-rest c = let a = c.args in
    let k = placed_then_none a.buf.now a.at (var_uint_bytes a.self.sum) _ _ c.in_ok-first.ensures (var_uints_bytes (sids_of a.self.annotations.now)) _ c.in_err-rest.ensures in
    absurd (omega (arith, a.self.sum_is, whole_parts _ a.self.sum a.self.whole a.self.sum_is a.self.whole_is))

pub overflow_add-result : goal.overflow_add-result
overflow_add-result c = let a = c.args in
    omega (
      arith,
      a.self.sum_is,
      whole_parts _ a.self.sum a.self.whole a.self.sum_is a.self.whole_is,
      (placed-some a.buf.now a.at (var_uint_bytes a.self.sum) _ _ c.in_ok-first.ensures).1,
      (placed-some _ _ (var_uints_bytes (sids_of a.self.annotations.now)) _ _ c.in_ok-rest.ensures).1,
    )

pub returns : goal.returns
unfolding annotation_bytes
returns c = let a = c.args in
    let an = sids_of a.self.annotations.now in
    placed_then a.buf.now a.at (var_uint_bytes a.self.sum) _ _ c.in_ok-first.ensures (var_uints_bytes an) _ _ c.in_ok-rest.ensures
    ∙ ap (λ (n : ℕ). placed a.buf.now a.at (var_uint_bytes n ++ var_uints_bytes an)) a.self.sum_is
