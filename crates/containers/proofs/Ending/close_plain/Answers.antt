-- The body moves to its place, the header goes before it, and what is freed becomes zero.
-- By the law of two runs side by side and of zeros behind a run. Assumes nothing.
use mathlib.Core.Path.{◌≡◌, refl, sym, ◌∙◌, ap}
use mathlib.Core.Bool.{true}
use mathlib.Core.List.{List}
use Prim.Native.Nat.{ℕ, ◌+◌, ◌-◌, ◌*◌, ◌/◌, ◌^◌, ◌≤◌, ◌<◌}
use native.Mathlib.Omega.{arith}
use lib.ListN.{length, take}
use Rattle.encoding.specs.Headers.{header_bytes, framed_bytes}
use Rattle.buffer.specs.Laid.{laid}
use Rattle.encoding.proofs.Headers.{header_most, length_header, length-framed}
use Rattle.machine.specs.declared.Container.{Container}
use Rattle.machine.specs.Machine.{container_fits, moved_bytes}
use Rattle.machine.proofs.Fit.{fit}
use Rattle.containers.specs.Containers.{closed_on, spliced}
use Rattle.containers.proofs.Closed.{closed_bytes-plain, closed_on_plain, moved_plain}
use Rattle.containers.proofs.Moves.{part, length_part}
use Rattle.containers.proofs.Splice.{then_before, framed_is, spliced_by, spliced_full}
use Rattle.containers.proofs.Ending.close_plain.Goals as goal

-- the body and the bytes that the container takes in the end
abbrev body_of : Container → ℕ → List ℕ → List ℕ
body_of c used b = part b (c.start + 2) (used - (c.start + 2))

abbrev out_of : Container → ℕ → List ℕ → List ℕ
out_of c used b = framed_bytes c.code (body_of c used b)

record Plain (c : Container) (used size : ℕ) (b : List ℕ) : Type 0 where
  high : c.code / 16 * 16 ≡ c.code
  within : c.start + 2 ≤ used
  most : size ≤ 11
  counted : length (body_of c used b) ≡ used - (c.start + 2)
  whole : length (out_of c used b) ≡ size + (used - (c.start + 2))
  closed : closed_on c used b ≡ spliced used c.start (out_of c used b) (moved_bytes c.start c.start c.code (take used b)) b

plain : (c : Container) (used size : ℕ) (b : List ℕ) → container_fits used c ≡ true → c.header ≡ c.start → used ≤ length b → used < 2 ^ 64
    → size ≡ length (header_bytes 0 (used - (c.start + 2))) → Plain c used size b
plain c used size b f h u l e =
    let k = fit c used f in
    let n = used - (c.start + 2) in
    let within : c.start + 2 ≤ used = omega (arith, k.within, h) in
    let q = length_part b (c.start + 2) n (omega arith) in
    record {
      high = k.high;
      within = within;
      most = rw e (header_most 0 n (omega arith));
      counted = q;
      whole = length-framed c.code (body_of c used b) ∙ rw (q, e) refl;
      closed = closed_on_plain c used b f u h ∙ rw (closed_bytes-plain c.start c.code used b within u) refl;
    }

pub overflow_add-body : goal.overflow_add-body
overflow_add-body c = let v = c.args.self in omega (arith, (fit v.c v.used v.fits).within)

pub overflow_sub-body : goal.overflow_sub-body
overflow_sub-body c = let v = c.args.self in omega (arith, (fit v.c v.used v.fits).within)

pub overflow_add-end : goal.overflow_add-end
overflow_add-end c =
    let a = c.args in
    let v = a.self.c in
    let k = plain v a.self.used _ a.buf.now a.self.fits (omega arith) (omega arith) (omega arith) c.encoded_size_of-size.ensures in
    omega (arith, k.most, k.within)

pub overflow_add-end-2 : goal.overflow_add-end-2
overflow_add-end-2 c =
    let a = c.args in
    let v = a.self.c in
    let k = plain v a.self.used _ a.buf.now a.self.fits (omega arith) (omega arith) (omega arith) c.encoded_size_of-size.ensures in
    omega (arith, k.most, k.within)

pub returns-then-buf-end : goal.returns-then-buf-end
returns-then-buf-end c =
    let a = c.args in
    let v = a.self.c in
    let k = plain v a.self.used _ a.buf.now a.self.fits (omega arith) (omega arith) (omega arith) c.encoded_size_of-size.ensures in
    sym (k.closed ∙ spliced_full a.self.used v.start (out_of v a.self.used a.buf.now) a.buf.now _ (omega (arith, k.whole)))

pub returns : goal.returns
returns c =
    let a = c.args in
    let v = a.self.c in
    let k = plain v a.self.used _ a.buf.now a.self.fits (omega arith) (omega arith) (omega arith) c.encoded_size_of-size.ensures in
    let n = a.self.used - (v.start + 2) in
    let q = length_header v.code n in
    let m = c.move_bytes-moved in
    let both =
    then_before a.buf.now v.start (header_bytes v.code n) (body_of v a.self.used a.buf.now) (v.start + c.encoded_size_of-size.result)
    (omega (arith, q, c.encoded_size_of-size.ensures)) (omega (arith, q, k.counted, k.within, c.encoded_size_of-size.ensures))
    m.ensures.1 c.put_header.ensures in
    spliced_by a.self.used v.start (out_of v a.self.used a.buf.now) a.buf.now (v.start + c.encoded_size_of-size.result + n)
    (moved_bytes v.start v.start v.code (take a.self.used a.buf.now)) m.result (omega (arith, k.whole)) (omega arith)
    (m.ensures.0
    ∙ moved_plain v.start v.code a.self.used a.buf.now (omega (arith, k.within)) (omega arith) c.encoded_size_of-size.result
    c.encoded_size_of-size.ensures)
    (both ∙ ap (laid a.buf.now v.start) (sym (framed_is v.code n (body_of v a.self.used a.buf.now) k.counted))) c.clear.ensures
    ∙ sym k.closed
