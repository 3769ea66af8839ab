-- `int::write` meets its contract: by the trimmed magnitude, which has no byte, or a first byte whose top bit is free or taken.
-- By the laws of an Int's bytes. Assumes nothing.
use mathlib.Core.Path.{◌≡◌, sym, ◌∙◌, ap}
use mathlib.Core.List.{List, [], ◌∷◌}
use Prim.Native.Nat.{ℕ, suc, ◌+◌, ◌-◌, ◌*◌, ◌≤◌, ◌<◌}
use native.Mathlib.Omega.{arith}
use native.Mathlib.Numerals.{add-one}
use mathlib.Core.Bool.{Bool}
use mir.Val.{bool_byte}
use lib.ListN.{length, take, drop, get_or}
use Rattle.encoding.specs.Fields.{trimmed, int_bytes}
use Rattle.buffer.specs.Laid.{placed}
use Rattle.encoding.proofs.Trimmed.{trimmed_cons, trimmed-part, rest_part}
use Rattle.encoding.proofs.Signs.{top_bit_is, int_zero, int_negative_zero, int_clear, int_taken}
use Rattle.int.proofs.write.Goals as goal

-- the bytes that are put, by the first byte of the trimmed magnitude
module _ (s : Bool) (m : List ℕ) (r : ℕ) (h : r < length m) (e : r + length (trimmed m) ≡ length m) where
  clear : get_or m r 0 < 0x80 → (0x80 * bool_byte s + get_or m r 0) ∷ take (length m - (r + 1)) (drop (r + 1) m) ≡ int_bytes s (trimmed m)
  clear k =
      ap (λ (l : List ℕ). (0x80 * bool_byte s + get_or m r 0) ∷ l) (rest_part m (r + 1) ∙ ap (λ (n : ℕ). drop n m) (add-one r))
      ∙ rw (trimmed_cons m r h e, top_bit_is s) (sym (int_clear (get_or m r 0) (drop (suc r) m) s k))

  taken : 0x80 ≤ get_or m r 0 → 0x80 * bool_byte s ∷ take (length m - r) (drop r m) ≡ int_bytes s (trimmed m)
  taken k =
      ap (λ (l : List ℕ). 0x80 * bool_byte s ∷ l) (trimmed-part m r e)
      ∙ rw (trimmed_cons m r h e, top_bit_is s) (sym (int_taken (get_or m r 0) (drop (suc r) m) s k))

pub returns-then-int : goal.returns-then-int
returns-then-int c = let a = c.args in
    rw c.from-sign.ensures at c.put.ensures
    ∙ ap (placed a.buf.now a.at) (ap (λ (b : ℕ). b ∷ []) (top_bit_is a.int.negative)
    ∙ sym (int_negative_zero a.int.negative (trimmed a.int.magnitude.now) c.if-int.true (omega arith)))

pub returns-then-zeros-magnitude : goal.returns-then-zeros-magnitude
returns-then-zeros-magnitude c = let a = c.args in
    c.copy.ensures
    ∙ ap (placed a.buf.now a.at) (sym (int_zero a.int.negative (trimmed a.int.magnitude.now) c.if-int.false (omega arith)))

pub returns-then-first-lt-SIGN : goal.returns-then-first-lt-SIGN
returns-then-first-lt-SIGN c = let a = c.args in
    let z = c.leading_zero_bytes-zeros in
    rw c.from-sign.ensures at c.write_first.ensures
    ∙ ap (placed a.buf.now a.at) (clear a.int.negative a.int.magnitude.now z.result (omega arith) z.ensures (omega arith))

pub returns : goal.returns
returns c = let a = c.args in
    let z = c.leading_zero_bytes-zeros in
    rw c.from-sign.ensures at c.write_first-2.ensures
    ∙ ap (placed a.buf.now a.at) (taken a.int.negative a.int.magnitude.now z.result (omega arith) z.ensures (omega arith))
