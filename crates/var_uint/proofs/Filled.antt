-- The laws of a fill: none, one store more, the whole field, no room.
-- By the laws of placed bytes. Assumes nothing.
use mathlib.Core.Path.{◌≡◌, refl, ◌∙◌, ap}
use mathlib.Core.List.{List}
use Prim.Native.Nat.{ℕ, suc, ◌+◌, ◌-◌, ◌≤◌, ◌<◌}
use native.Mathlib.Omega.{arith}
use native.Mathlib.Nat.{add-zero}
use lib.ListN.{length, drop, set, get_or, length-drop}
use lib.Seq.{drop-cons, drop-length}
use Rattle.std.specs.Prelude.{Option, Some, None}
use Rattle.buffer.specs.Laid.{laid, placed}
use Rattle.buffer.proofs.Laid.{laid_cons, placed-fits, placed_full, placed_nil}
use Rattle.var_uint.specs.Filled.{filled}

module _ (b : List ℕ) (at : ℕ) (out : List ℕ) where
  -- limits that leave out as many bytes
  pub filled-same : (m n : ℕ) → length out - m ≡ length out - n → filled m b at out ≡ filled n b at out
  unfolding filled
  filled-same m n e = ap (λ (k : ℕ). placed b (at + k) (drop k out)) e

  -- a limit of 0 stores nothing, where there is room
  pub filled_none : at + length out ≤ length b → filled 0 b at out ≡ (Some 0, b)
  unfolding filled
  filled_none room =
      let e : length out - 0 ≡ length out = omega arith in
      ap (λ (k : ℕ). placed b (at + k) (drop k out)) e ∙ (ap (placed b (at + length out)) (drop-length out) ∙ placed_nil b (at + length out) room)

  -- a field that has no more bytes than that is whole
  pub filled-whole : (limit : ℕ) → length out ≤ limit → filled limit b at out ≡ placed b at out
  unfolding filled
  filled-whole limit h =
      let e : length out - limit ≡ 0 = omega arith in
      ap (λ (k : ℕ). placed b (at + k) (drop k out)) e ∙ ap (λ (k : ℕ). placed b k out) (add-zero at)

  -- with no room for the whole field nothing is stored, whatever the limit
  pub filled_full : (limit : ℕ) → length b < at + length out → filled limit b at out ≡ (None, b)
  unfolding filled
  filled_full limit h =
      let k = length out - limit in
      placed_full b (at + k) (drop k out) (omega (arith, length-drop k out))

  module _ (room : at + length out ≤ length b) where
    filled-fits : (k limit : ℕ) → length out - limit ≡ k → filled limit b at out ≡ (Some (length out - k), laid b (at + k) (drop k out))
    unfolding filled
    filled-fits k limit e =
        let l = length-drop k out in
        rw (filled, e, placed-fits b (at + k) (drop k out) (omega arith), l) refl

    -- one store more: the byte before
    pub filled_next : (made : ℕ) (l : List ℕ) (place byte : ℕ) → ◌≡◌ {A = Option ℕ × List ℕ} (Some made, l) (filled made b at out) → made < length out →
        let p = length out - (made + 1) in place ≡ at + p → byte ≡ get_or out p 0 →
        ◌≡◌ {A = Option ℕ × List ℕ} (Some (made + 1), set l place byte) (filled (made + 1) b at out)
    filled_next made l place byte e h q v =
        let p = length out - (made + 1) in
        let one : length out - made ≡ suc p = omega arith in
        let behind : at + suc p ≡ at + p + 1 = omega arith in
        let count : length out - p ≡ made + 1 = omega arith in
        let n = length-drop (suc p) out in
        let before : l ≡ laid b (at + suc p) (drop (suc p) out) = ap (λ (x : Option ℕ × List ℕ). x.1) (e ∙ filled-fits (suc p) made one) in
        rw (filled-fits p (made + 1) refl, count, drop-cons out p 0 (omega arith), before, behind, q, v)
        (ap (λ (x : List ℕ). (Some (made + 1), x)) (laid_cons b (at + p) (drop (suc p) out) (get_or out p 0) (omega arith)))
