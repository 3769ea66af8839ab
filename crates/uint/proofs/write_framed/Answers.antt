-- `uint::write_framed` meets its contract: a type byte alone, or a UInt and a store before it.
-- By what a UInt leaves where it has no room, and where it has. Assumes nothing.
use mathlib.Core.Path.{◌≡◌, sym, ◌∙◌, ap}
use mathlib.Core.List.{List, [], ◌∷◌}
use Prim.Native.Nat.{ℕ, ◌+◌, ◌*◌, ◌/◌, ◌^◌, ◌≤◌, ◌<◌}
use native.Mathlib.Omega.{arith}
use native.Mathlib.Nat.{add-zero}
use lib.ListN.{length, set}
use Rattle.std.specs.Prelude.{Option, Some, None}
use Rattle.encoding.specs.Fields.{uint_bytes}
use Rattle.encoding.specs.Headers.{framed_bytes}
use Rattle.encoding.proofs.Sizes.{uint-zero, uint-most}
use Rattle.encoding.proofs.Headers.{framed_short}
use Rattle.buffer.specs.Laid.{placed}
use Rattle.buffer.proofs.Laid.{placed_cons, placed_cons_none, placed_full, placed-some}
use borrow.Author.Rules.{rules}
use Rattle.uint.proofs.write_framed.Goals as goal

module _ (code n : ℕ) (h : n < 2 ^ 64) where
  framed : framed_bytes code (uint_bytes n) ≡ (code + length (uint_bytes n)) ∷ uint_bytes n
  framed = framed_short code (uint_bytes n) (omega (arith, uint-most n h))

  -- the type byte alone
  alone : n ≡ 0 → code ∷ [] ≡ framed_bytes code (uint_bytes n)
  alone z = rw (framed, uint-zero n z, add-zero)

  module _ (b : List ℕ) (at : ℕ) where
    -- no room for the whole
    full : length b < at + (1 + length (uint_bytes n)) → ◌≡◌ {A = Option ℕ × List ℕ} (None, b) (placed b at (framed_bytes code (uint_bytes n)))
    full k = sym (placed_full b at (framed_bytes code (uint_bytes n)) (omega (arith, ap length framed)))

    -- what the UInt leaves
    none : (l : List ℕ) → ◌≡◌ {A = Option ℕ × List ℕ} (None, l) (placed b (at + 1) (uint_bytes n)) → ◌≡◌ {A = Option ℕ × List ℕ} (None, l) (placed b at (framed_bytes code (uint_bytes n)))
    none l e = placed_cons_none b at (code + length (uint_bytes n)) (uint_bytes n) l e ∙ ap (placed b at) (sym framed)

    module _ (size : ℕ) (l : List ℕ) (e : ◌≡◌ {A = Option ℕ × List ℕ} (Some size, l) (placed b (at + 1) (uint_bytes n))) where
      most : size ≤ 8
      most = let q = placed-some b (at + 1) (uint_bytes n) size l e in omega (arith, uint-most n h)

      before : ◌≡◌ {A = Option ℕ × List ℕ} (Some (1 + size), set l at (code + size)) (placed b at (framed_bytes code (uint_bytes n)))
      before =
          let q = placed-some b (at + 1) (uint_bytes n) size l e in
          rw (framed, ← q.1) (placed_cons b at (code + size) (uint_bytes n) size l e)

pub returns-then-value-eq0 : goal.returns-then-value-eq0
returns-then-value-eq0 c = let a = c.args in
    c.put.ensures ∙ ap (placed a.buf.now a.at) (alone (a.code / 16 * 16) a.value (search rules) (omega arith))

pub returns-then-buf-at : goal.returns-then-buf-at
returns-then-buf-at c = let a = c.args in full (a.code / 16 * 16) a.value (search rules) a.buf.now a.at (omega arith)

pub returns-in_err-size : goal.returns-in_err-size
returns-in_err-size c = let a = c.args in
    ap (λ (r : Option ℕ). (r, c.write.new.buf)) c.from_residual.ensures
    ∙ none (a.code / 16 * 16) a.value (search rules) a.buf.now a.at _ c.in_err-size.ensures

pub overflow_cast-buf : goal.overflow_cast-buf
overflow_cast-buf c = let a = c.args in
    omega (arith, most (a.code / 16 * 16) a.value (search rules) a.buf.now a.at _ _ c.in_ok-size.ensures)

pub overflow_add-buf : goal.overflow_add-buf
overflow_add-buf c = let a = c.args in
    omega (arith, most (a.code / 16 * 16) a.value (search rules) a.buf.now a.at _ _ c.in_ok-size.ensures)

pub overflow_add-result : goal.overflow_add-result
overflow_add-result c = let a = c.args in
    omega (arith, most (a.code / 16 * 16) a.value (search rules) a.buf.now a.at _ _ c.in_ok-size.ensures)

pub returns : goal.returns
returns c = let a = c.args in
    before (a.code / 16 * 16) a.value (search rules) a.buf.now a.at _ _ c.in_ok-size.ensures
