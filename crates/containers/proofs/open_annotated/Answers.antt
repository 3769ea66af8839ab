-- `containers::open_annotated` meets its contract: room for the whole; the annotations are put, and the reserves before and behind them cleared.
-- Assumes nothing.
use mathlib.Core.Path.{◌≡◌, sym, ◌∙◌, ap}
use mathlib.Core.List.{List, [], ◌∷◌, ◌++◌}
use Prim.Native.Nat.{ℕ, ◌+◌, ◌-◌, ◌≤◌, ◌<◌}
use native.Mathlib.Omega.{arith}
use lib.ListN.{length, replicate, length-append}
use Rattle.encoding.specs.Headers.{annotation_bytes}
use Rattle.buffer.specs.Laid.{laid}
use Rattle.std.proofs.Common.{Option, Some, None}
use Rattle.buffer.proofs.Laid.{laid-before, laid_more, placed-some, placed_full, placed_by, no_room}
use Rattle.annotations.specs.Sids.{sids_of}
use Rattle.annotations.specs.Prefix.{placed_before}
use Rattle.annotations.proofs.Prefix.{before-some, before-none}
use Rattle.containers.proofs.open_annotated.Goals as goal

abbrev reserved : List ℕ → List ℕ
reserved A = 0 ∷ 0 ∷ (A ++ (0 ∷ 0 ∷ []))

length-reserved : (A : List ℕ) → length (reserved A) ≡ length A + 4
length-reserved A = omega (arith, length-append A (0 ∷ 0 ∷ []))

module _ (b : List ℕ) (at : ℕ) (an l : List ℕ) where
  put_some : (n : ℕ) → ◌≡◌ {A = Option ℕ × List ℕ} (Some n, l) (placed_before b (at + 2) (annotation_bytes an) 2)
      → (at + (length (annotation_bytes an) + 4) ≤ length b) × (n ≡ length (annotation_bytes an)) × (l ≡ laid b (at + 2) (annotation_bytes an))
  put_some n e =
      let w = before-some b (at + 2) (annotation_bytes an) 2 n l e in
      let v = placed-some b (at + 2) (annotation_bytes an) n l w.1 in
      (omega (arith, w.0), v.1, v.2)

  put-none : ◌≡◌ {A = Option ℕ × List ℕ} (None, l) (placed_before b (at + 2) (annotation_bytes an) 2) → (length b < at + (length (annotation_bytes an) + 4)) × (l ≡ b)
  put-none e = let w = before-none b (at + 2) (annotation_bytes an) 2 l e in (omega (arith, w.0), w.1)

-- the annotations, then the reserves before and behind them
around : (b : List ℕ) (at : ℕ) (A l m o : List ℕ) → at + (length A + 4) ≤ length b → l ≡ laid b (at + 2) A → m ≡ laid l at (replicate 2 0)
    → o ≡ laid m (at + 2 + length A) (replicate 2 0) → o ≡ laid b at (reserved A)
around b at A l m o h p q r =
    let s : m ≡ laid b at (0 ∷ 0 ∷ A) = q ∙ ap (λ (x : List ℕ). laid x at (0 ∷ 0 ∷ [])) p ∙ laid-before b at (0 ∷ 0 ∷ []) (omega arith) A (omega arith) in
    let i : at + 2 + length A ≡ at + length {A = ℕ} (0 ∷ 0 ∷ A) = omega arith in
    r ∙ ap (λ (x : List ℕ). laid x (at + 2 + length A) (0 ∷ 0 ∷ [])) s ∙ rw i (laid_more b at (0 ∷ 0 ∷ A) (omega arith) (0 ∷ 0 ∷ []))

pub returns-then-not-has_room : goal.returns-then-not-has_room
returns-then-not-has_room c = let a = c.args in
    let A = annotation_bytes (sids_of a.annotations.now) in
    let h = no_room _ a.buf.now _ c.has_room.ensures c.if-not-has_room.true in
    sym (placed_full a.buf.now a.at (reserved A) (omega (arith, h, length-reserved A)))

pub returns-in_err-noted : goal.returns-in_err-noted
returns-in_err-noted c = let a = c.args in
    let A = annotation_bytes (sids_of a.annotations.now) in
    let h = put-none a.buf.now a.at (sids_of a.annotations.now) c.write_before.new.buf c.in_err-noted.ensures in
    rw (c.from_residual.ensures, h.1) (sym (placed_full a.buf.now a.at (reserved A) (omega (arith, h.0, length-reserved A))))

pub overflow_add-header-2 : goal.overflow_add-header-2
overflow_add-header-2 c =
    let a = c.args in
    let h = put_some a.buf.now a.at (sids_of a.annotations.now) c.write_before.new.buf c.in_ok-noted.noted c.in_ok-noted.ensures in
    omega (arith, h.0, h.1)

pub overflow_add-header-3 : goal.overflow_add-header-3
overflow_add-header-3 c =
    let a = c.args in
    let h = put_some a.buf.now a.at (sids_of a.annotations.now) c.write_before.new.buf c.in_ok-noted.noted c.in_ok-noted.ensures in
    omega (arith, h.0, h.1)

pub clear-requires-2 : goal.clear-requires-2
clear-requires-2 c =
    let a = c.args in
    let h = put_some a.buf.now a.at (sids_of a.annotations.now) c.write_before.new.buf c.in_ok-noted.noted c.in_ok-noted.ensures in
    omega (arith, h.0, h.1)

pub overflow_add-result : goal.overflow_add-result
overflow_add-result c =
    let a = c.args in
    let h = put_some a.buf.now a.at (sids_of a.annotations.now) c.write_before.new.buf c.in_ok-noted.noted c.in_ok-noted.ensures in
    omega (arith, h.0, h.1)

pub returns : goal.returns
returns c =
    let a = c.args in
    let h = put_some a.buf.now a.at (sids_of a.annotations.now) c.write_before.new.buf c.in_ok-noted.noted c.in_ok-noted.ensures in
    let A = annotation_bytes (sids_of a.annotations.now) in
    let x : a.at + 2 - a.at ≡ 2 = omega arith in
    let y : (a.at + 2 + c.in_ok-noted.noted + 2) - (a.at + 2 + c.in_ok-noted.noted) ≡ 2 = omega arith in
    placed_by a.buf.now a.at (reserved A) _ _ (omega (arith, h.0, length-reserved A)) (omega (arith, h.1, length-reserved A))
    (around a.buf.now a.at A c.write_before.new.buf c.clear.new.buf c.clear-2.new.buf h.0 h.2 (rw x at c.clear.ensures) (rw (y, h.1) at c.clear-2.ensures))
