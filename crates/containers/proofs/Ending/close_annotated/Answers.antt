-- The parts reach their places, and what is freed becomes zero. Assumes nothing.
use mathlib.Core.Path.{◌≡◌, sym, ◌∙◌}
use mathlib.Core.Bool.{true}
use mathlib.Core.List.{List}
use Prim.Native.Nat.{ℕ, ◌+◌, ◌-◌, ◌^◌, ◌≤◌, ◌<◌}
use native.Mathlib.Omega.{arith}
use lib.ListN.{length, take}
use Rattle.encoding.specs.Headers.{header_bytes}
use Rattle.encoding.proofs.Headers.{header_most}
use Rattle.machine.specs.declared.Container.{Container}
use Rattle.machine.specs.Machine.{closed_bytes, container_fits, moved_bytes}
use Rattle.machine.proofs.Fit.{fit}
use Rattle.containers.specs.Containers.{closed_on, spliced}
use Rattle.containers.proofs.Closed.{closed_on_held}
use Rattle.containers.proofs.Splice.{spliced_by, spliced_full}
use Rattle.containers.proofs.Wrapped.{length_wrapped}
use Rattle.containers.proofs.Ending.close_annotated.Goals as goal

size_most : (n size : ℕ) → n < 2 ^ 64 → size ≡ length (header_bytes 0 n) → size ≤ 11
size_most n size h e = rw e (header_most 0 n h)

abbrev out_of : Container → ℕ → List ℕ → List ℕ
out_of c used b = closed_bytes c.start c.header c.code (take used b)

record Wrapped (c : Container) (used inner wrapper : ℕ) (b : List ℕ) : Type 0 where
  within : c.header + 2 ≤ used
  most : inner + wrapper ≤ 22
  whole : length (out_of c used b) ≡ wrapper + (c.header - (c.start + 2) + inner + (used - (c.header + 2)))
  closed : closed_on c used b ≡ spliced used c.start (out_of c used b) (moved_bytes c.start c.header c.code (take used b)) b

wrapped : (c : Container) (used inner wrapper : ℕ) (b : List ℕ) → container_fits used c ≡ true → c.start + 2 ≤ c.header → used ≤ length b
    → used < 2 ^ 63 → inner ≡ length (header_bytes 0 (used - (c.header + 2)))
    → wrapper ≡ length (header_bytes 0 (c.header - (c.start + 2) + inner + (used - (c.header + 2)))) → Wrapped c used inner wrapper b
wrapped c used inner wrapper b f s u l ei ew =
    let w = (fit c used f).within in
    let body = used - (c.header + 2) in
    let e : c.header + 2 + body ≡ used = omega (arith, w) in
    record {
      within = w;
      most = let i = size_most body inner (omega arith) ei in omega (arith, i, size_most _ wrapper (omega (arith, i, w)) ew);
      whole = rw e at (length_wrapped b c.start c.header c.code body inner wrapper s (omega (arith, w)) ei ew);
      closed = closed_on_held c used b f u;
    }

pub overflow_add-body : goal.overflow_add-body
overflow_add-body c = let v = c.args.self in omega (arith, (fit v.c v.used v.fits).within)

pub overflow_sub-body : goal.overflow_sub-body
overflow_sub-body c = let v = c.args.self in (fit v.c v.used v.fits).within

pub overflow_add-content-2 : goal.overflow_add-content-2
overflow_add-content-2 c = let v = c.args.self in
    omega (arith, (fit v.c v.used v.fits).within, size_most _ _ (omega arith) c.encoded_size_of-inner.ensures)

pub overflow_add-content-3 : goal.overflow_add-content-3
overflow_add-content-3 c = let v = c.args.self in
    omega (arith, (fit v.c v.used v.fits).within, size_most _ _ (omega arith) c.encoded_size_of-inner.ensures)

pub overflow_add-end : goal.overflow_add-end
overflow_add-end c =
    let a = c.args in
    let v = a.self.c in
    let k = wrapped v a.self.used _ _ a.buf.now a.self.fits (omega arith) (omega arith) (omega arith) c.encoded_size_of-inner.ensures c.encoded_size_of-wrapper.ensures in
    omega (arith, k.most, k.within)

pub overflow_add-end-2 : goal.overflow_add-end-2
overflow_add-end-2 c =
    let a = c.args in
    let v = a.self.c in
    let k = wrapped v a.self.used _ _ a.buf.now a.self.fits (omega arith) (omega arith) (omega arith) c.encoded_size_of-inner.ensures c.encoded_size_of-wrapper.ensures in
    omega (arith, k.most, k.within)

pub returns-then-buf-end : goal.returns-then-buf-end
returns-then-buf-end c =
    let a = c.args in
    let v = a.self.c in
    let k = wrapped v a.self.used _ _ a.buf.now a.self.fits (omega arith) (omega arith) (omega arith) c.encoded_size_of-inner.ensures c.encoded_size_of-wrapper.ensures in
    sym (k.closed ∙ spliced_full a.self.used v.start (out_of v a.self.used a.buf.now) a.buf.now _ (omega (arith, k.whole)))

pub returns : goal.returns
returns c =
    let a = c.args in
    let v = a.self.c in
    let k = wrapped v a.self.used _ _ a.buf.now a.self.fits (omega arith) (omega arith) (omega arith) c.encoded_size_of-inner.ensures c.encoded_size_of-wrapper.ensures in
    let m = c.lay_wrapped-moved in
    spliced_by a.self.used v.start (out_of v a.self.used a.buf.now) a.buf.now _ _ m.result (omega (arith, k.whole)) (omega arith) m.ensures.moved m.ensures.bytes
    c.clear.ensures
    ∙ sym k.closed
