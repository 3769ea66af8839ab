-- The sum as a VarUInt takes ten bytes at most. Assumes nothing.
use mathlib.Core.Path.{◌≡◌, sym}
use Prim.Native.Nat.{ℕ, ◌^◌, ◌≤◌, ◌<◌}
use native.Mathlib.Omega.{arith}
use lib.ListN.{length}
use Rattle.encoding.specs.Fields.{var_uint_bytes}
use Rattle.encoding.proofs.Sizes.{var_uint-most}
use Rattle.annotations.specs.Sids.{sids_of}
use Rattle.annotations.proofs.Sids.{length-annotations}
use Rattle.annotations.proofs.Measured.of.Goals as goal

size_most : (n size : ℕ) → n < 2 ^ 64 → size ≡ length (var_uint_bytes n) → size ≤ 10
size_most n size h e = rw e (var_uint-most n h)

pub overflow_add-whole : goal.overflow_add-whole
overflow_add-whole c = let s = c.sids_size-sum in
    omega (arith, s.ensures.1, size_most s.result _ (omega arith) c.encoded_size_of.ensures)

pub invariant_of-result : goal.invariant_of-result
invariant_of-result c = let s = c.sids_size-sum in
    record {
      sum_is = s.ensures.0;
      whole_is = rw (c.encoded_size_of.ensures, s.ensures.0) (sym (length-annotations (sids_of c.args.annotations.now)));
      most = omega (arith, s.ensures.1, size_most s.result _ (omega arith) c.encoded_size_of.ensures);
    }
