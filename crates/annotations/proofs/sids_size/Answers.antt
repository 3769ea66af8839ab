-- A sid takes ten bytes at most, and eight are lent for it, so the sum stays below a word. Assumes nothing.
use mathlib.Core.Path.{◌≡◌, sym, ◌∙◌, ap}
use Prim.Native.Nat.{ℕ, ◌+◌}
use native.Mathlib.Omega.{arith}
use lib.ListN.{length}
use Rattle.encoding.specs.Fields.{var_uint_bytes}
use Rattle.annotations.specs.Sids.{sid_count}
use Rattle.annotations.proofs.Sids.{read_none, read_step, read_all, sid_bytes, sid_bytes-none, sid_bytes_all, sid_bytes-most, sums_more}
use Rattle.annotations.proofs.sids_size.Goals as goal

pub loop-bytes-init : goal.loop-bytes-init
loop-bytes-init c = let s = c.args.annotations.now in
    rw (c.into_iter-bytes-iterator.ensures.into_iter_gives, c.chunks-bytes-items.ensures.rest)
    (0, read_none s _ c.chunks-bytes-items.ensures.size, ap length (sym (sid_bytes-none s)))

pub overflow_add-sum : goal.overflow_add-sum
overflow_add-sum c = let s = c.args.annotations.now in
    let l = c.loop-bytes in
    let t = read_step l.invariant.1 _ _ _ c.in-Some.ensures.steps in
    let more = sums_more s l.invariant.0 l.sum _ l.invariant.2 (c.encoded_size_of-sum.ensures ∙ ap (λ (n : ℕ). length (var_uint_bytes n)) (c.sid.ensures ∙ t.sid)) in
    omega (arith, more, sid_bytes-most s (λ i. omega (arith, c.type_inv.annotations i)) (l.invariant.0 + 1))

pub loop-bytes-preserved : goal.loop-bytes-preserved
loop-bytes-preserved c = let s = c.args.annotations.now in
    let l = c.loop-bytes in
    let t = read_step l.invariant.1 _ _ _ c.in-Some.ensures.steps in (
      l.invariant.0 + 1,
      t.next,
      sums_more s l.invariant.0 l.sum _ l.invariant.2 (c.encoded_size_of-sum.ensures ∙ ap (λ (n : ℕ). length (var_uint_bytes n)) (c.sid.ensures ∙ t.sid)),
    )

pub returns : goal.returns
returns c = let s = c.args.annotations.now in
    let l = c.loop-bytes in
    let e : l.invariant.0 ≡ sid_count s = read_all l.invariant.1 c.in-None.ensures.steps.1.0 in (
      l.invariant.2 ∙ rw (sid_bytes_all s) (ap (λ (n : ℕ). length (sid_bytes s n)) e),
      omega (arith, sid_bytes-most s (λ i. omega (arith, c.type_inv.annotations i)) l.invariant.0),
    )
