-- Each turn places one sid more behind the others. Assumes nothing.
use Prim.Native.Nat.{ℕ, ◌+◌, ◌≤◌}
use lib.ListN.{length}
use Rattle.encoding.specs.Fields.{var_uints_bytes}
use native.Mathlib.Omega.{arith}
use mathlib.Core.Path.{◌≡◌, sym, ◌∙◌, ap}
use Rattle.buffer.specs.Laid.{placed}
use Rattle.buffer.proofs.Laid.{placed_nil}
use Rattle.annotations.specs.Sids.{sid_count, sids_of}
use Rattle.annotations.proofs.Sids.{read_none, read_step, read_all, sid_bytes, sid_bytes-none, sid_bytes_all, sids_end, sids_next, sids_put}
use Rattle.annotations.proofs.Measured.put_sids.Goals as goal

pub loop-bytes-init : goal.loop-bytes-init
loop-bytes-init c = let a = c.args in
    let s = a.self.annotations.now in
    rw (c.into_iter-bytes-iterator.ensures.into_iter_gives, c.chunks-bytes-items.ensures.rest)
    (0, read_none s _ c.chunks-bytes-items.ensures.size, rw (sid_bytes-none s) (sym (placed_nil a.buf.now a.at (omega arith))))

pub overflow_add-at : goal.overflow_add-at
overflow_add-at c = let a = c.args in
    let l = c.loop-bytes in
    omega (arith, sids_end a.buf.now a.at a.self.annotations.now (omega (arith, a.self.sum_is)) l.invariant.0 l.written l.buf l.invariant.2)

pub returns-in_err-written : goal.returns-in_err-written
returns-in_err-written c = let a = c.args in
    let l = c.loop-bytes in
    let t = read_step l.invariant.1 _ _ _ c.in-Some.ensures.steps in
    absurd (sids_put a.buf.now a.at a.self.annotations.now (omega (arith, a.self.sum_is)) l.invariant.0 l.written l.buf l.invariant.2
    t.within _ _ (c.sid.ensures ∙ t.sid) c.in_err-written.ensures)

pub overflow_add-written : goal.overflow_add-written
overflow_add-written c = let a = c.args in
    let s = a.self.annotations.now in
    let l = c.loop-bytes in
    let t = read_step l.invariant.1 _ _ _ c.in-Some.ensures.steps in
    let all : a.at + length (var_uints_bytes (sids_of s)) ≤ length a.buf.now = omega (arith, a.self.sum_is) in
    let next = sids_next a.buf.now a.at s all l.invariant.0 l.written l.buf l.invariant.2 _ _ _ (c.sid.ensures ∙ t.sid) c.in_ok-written.ensures in
    omega (arith, sids_end a.buf.now a.at s all (l.invariant.0 + 1) _ _ next)

pub loop-bytes-preserved : goal.loop-bytes-preserved
loop-bytes-preserved c = let a = c.args in
    let s = a.self.annotations.now in
    let l = c.loop-bytes in
    let t = read_step l.invariant.1 _ _ _ c.in-Some.ensures.steps in (
      l.invariant.0 + 1,
      t.next,
      sids_next a.buf.now a.at s (omega (arith, a.self.sum_is)) l.invariant.0 l.written l.buf l.invariant.2 _ _ _ (c.sid.ensures ∙ t.sid) c.in_ok-written.ensures,
    )

pub returns : goal.returns
returns c = let a = c.args in
    let s = a.self.annotations.now in
    let l = c.loop-bytes in
    let e : l.invariant.0 ≡ sid_count s = read_all l.invariant.1 c.in-None.ensures.steps.1.0 in
    l.invariant.2 ∙ rw (sid_bytes_all s) (ap (λ (n : ℕ). placed a.buf.now a.at (sid_bytes s n)) e)
