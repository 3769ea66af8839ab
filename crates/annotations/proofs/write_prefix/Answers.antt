-- `annotations::write_prefix` meets its contract: there is room for the header, the annotations and the value, and header and annotations are put.
-- By the law of two placed runs. Assumes nothing.
use mathlib.Core.Path.{◌≡◌, refl, sym, ◌∙◌, ap}
use mathlib.Core.Bool.{Bool, true}
use mathlib.Core.List.{List, ◌++◌}
use Prim.Native.Nat.{ℕ, ◌+◌, ◌≤◌}
use native.Mathlib.Omega.{arith}
use lib.Dec.{leb}
use lib.ListN.{length}
use Rattle.std.specs.Prelude.{Option, Some, None}
use Rattle.encoding.specs.Headers.{header_bytes, annotation_bytes}
use Rattle.buffer.specs.Laid.{placed}
use Rattle.buffer.proofs.Laid.{placed-length, placed-room, placed-some, placed_then, room}
use Rattle.encoding.proofs.Headers.{length_header}
use Rattle.annotations.specs.declared.Measured.{Measured}
use Rattle.annotations.specs.Sids.{sids_of}
use Rattle.annotations.specs.Prefix.{prefix_bytes, placed_before}
use Rattle.annotations.proofs.Prefix.{length_prefix, placed_before-fits}
use Rattle.annotations.proofs.write_prefix.Goals as goal

-- The annotations s are measured, and a test says that the header, of `size` bytes, they and `inner` bytes have room.
module _ (b : List ℕ) (at inner : ℕ) (s : List ℕ) (m : Measured) (same : m.annotations.now ≡ s) {size : ℕ} (sized : size ≡ length (header_bytes 0 (m.whole + inner)))
    {t : Bool} (test : t ≡ leb (at + (size + (m.whole + inner))) (length b)) (yes : t ≡ true) where
  whole : m.whole ≡ length (annotation_bytes (sids_of s))
  whole = rw same at m.whole_is

  fits : at + (length (header_bytes 0xE0 (m.whole + inner)) + m.whole) + inner ≤ length b
  fits = omega (arith, room _ b _ test yes, length_header 0xE0 (m.whole + inner), sized)

  prefix_length : length (prefix_bytes (sids_of s) inner) ≡ length (header_bytes 0xE0 (m.whole + inner)) + m.whole
  prefix_length = length_prefix (sids_of s) inner ∙ rw (← whole) refl

  -- so the header is put
  no_header : (l : List ℕ) → ◌≡◌ {A = Option ℕ × List ℕ} (None, l) (placed b at (header_bytes 0xE0 (m.whole + inner))) → ⊥
  no_header l e = placed-room b at (header_bytes 0xE0 (m.whole + inner)) l (omega (arith, fits)) e

  -- and the annotations have room behind it
  module _ {n : ℕ} {l : List ℕ} (e : ◌≡◌ {A = Option ℕ × List ℕ} (Some n, l) (placed b at (header_bytes 0xE0 (m.whole + inner)))) where
    behind : at + n + m.whole ≤ length l
    behind =
        omega (
          arith,
          fits,
          (placed-some b at (header_bytes 0xE0 (m.whole + inner)) n l e).1,
          placed-length b at (header_bytes 0xE0 (m.whole + inner)) (Some n) l e,
        )

    no_rest : (l' : List ℕ) → ◌≡◌ {A = Option ℕ × List ℕ} (None, l') (placed l (at + n) (annotation_bytes (sids_of m.annotations.now))) → ⊥
    no_rest l' f = placed-room l (at + n) (annotation_bytes (sids_of s)) l' (omega (arith, behind, whole)) (rw same at f)

    both : (k : ℕ) (l' : List ℕ) → ◌≡◌ {A = Option ℕ × List ℕ} (Some k, l') (placed l (at + n) (annotation_bytes (sids_of m.annotations.now)))
        → (n + k ≤ length b) × ◌≡◌ {A = Option ℕ × List ℕ} (Some (n + k), l') (placed_before b at (prefix_bytes (sids_of s) inner) inner)
    unfolding prefix_bytes
    both k l' f =
        let p = placed_then b at (header_bytes 0xE0 (m.whole + inner)) n l e (annotation_bytes (sids_of s)) k l' (rw same at f) in
        let q = placed-some b at (header_bytes 0xE0 (m.whole + inner) ++ annotation_bytes (sids_of s)) (n + k) l' p in (
          omega (arith, q.0, q.1),
          p ∙ (ap (λ (w : ℕ). placed b at (header_bytes 0xE0 (w + inner) ++ annotation_bytes (sids_of s))) whole
              ∙ sym (placed_before-fits b at (prefix_bytes (sids_of s) inner) inner (omega (arith, fits, prefix_length)))),
        )

pub returns-in_err-first : goal.returns-in_err-first
returns-in_err-first c = let a = c.args in
    absurd (no_header a.buf.now a.at a.inner a.annotations.now c.of-measured.result c.of-measured.ensures c.encoded_size_of-header.ensures c.has_room-2.ensures c.if-not-has_room-2.false _ c.in_err-first.ensures)

pub overflow_add-at : goal.overflow_add-at
overflow_add-at c = let a = c.args in
    omega (arith, behind a.buf.now a.at a.inner a.annotations.now c.of-measured.result c.of-measured.ensures c.encoded_size_of-header.ensures c.has_room-2.ensures c.if-not-has_room-2.false c.in_ok-first.ensures)

pub put-requires : goal.put-requires
put-requires c = let a = c.args in
    behind a.buf.now a.at a.inner a.annotations.now c.of-measured.result c.of-measured.ensures c.encoded_size_of-header.ensures c.has_room-2.ensures c.if-not-has_room-2.false c.in_ok-first.ensures

pub returns-in_err-rest : goal.returns-in_err-rest
returns-in_err-rest c = let a = c.args in
    absurd (no_rest a.buf.now a.at a.inner a.annotations.now c.of-measured.result c.of-measured.ensures c.encoded_size_of-header.ensures c.has_room-2.ensures c.if-not-has_room-2.false c.in_ok-first.ensures _ c.in_err-rest.ensures)

pub overflow_add-result : goal.overflow_add-result
overflow_add-result c = let a = c.args in
    omega (arith, (both a.buf.now a.at a.inner a.annotations.now c.of-measured.result c.of-measured.ensures c.encoded_size_of-header.ensures c.has_room-2.ensures c.if-not-has_room-2.false c.in_ok-first.ensures _ _ c.in_ok-rest.ensures).0)

pub returns : goal.returns
returns c = let a = c.args in
    (both a.buf.now a.at a.inner a.annotations.now c.of-measured.result c.of-measured.ensures c.encoded_size_of-header.ensures c.has_room-2.ensures c.if-not-has_room-2.false c.in_ok-first.ensures _ _ c.in_ok-rest.ensures).1
