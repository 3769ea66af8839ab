-- The laws of an annotated container's close: the two orders in which its parts reach their final places.
-- Each write is a run beside the last one, and what is still to be read lies outside the runs. Assumes nothing.
use mathlib.Core.Path.{◌≡◌, refl, sym, ◌∙◌, ap, ap₂}
use mathlib.Core.List.{List, ◌++◌, append_assoc}
use mathlib.Core.Bool.{Bool, true, false}
use Prim.Native.Nat.{ℕ, ◌+◌, ◌-◌, ◌≤◌, ◌<◌}
use native.Mathlib.Omega.{arith}
use lib.Dec.{ltb}
use borrow.Author.Tests.{ltb-true, ltb-false}
use lib.ListN.{length, take, length-append}
use Rattle.encoding.specs.Headers.{header_bytes}
use Rattle.machine.specs.Machine.{closed_bytes, length_if_moved, moved_bytes}
use Rattle.machine.proofs.Moves.{if_moved}
use Rattle.buffer.specs.Laid.{laid}
use Rattle.encoding.proofs.Sizes.{var_uint_least}
use Rattle.encoding.proofs.Headers.{header_short, header_long, length_header}
use Rattle.containers.proofs.Closed.{closed_bytes_wrapped, moved_wrapped}
use Rattle.containers.proofs.Moves.{part, length_part, part-before, part-behind}
use Rattle.containers.proofs.Splice.{then_behind, then_before, framed_is}

-- a header of one byte has a body of at most 13 bytes, and so has whatever lies in it
one_byte : (n h len : ℕ) → length (header_bytes 0 (n + h + len)) < 2 → length (header_bytes 0 len) ≡ 1
one_byte n h len l = go (ltb (n + h + len) 14) refl
  where
    go : (t : Bool) → ltb (n + h + len) 14 ≡ t → length (header_bytes 0 len) ≡ 1
    go true e = ap length (header_short 0 len (omega (arith, ltb-true (n + h + len) 14 e)))
    go false e = absurd (omega (arith, ap length (header_long 0 (n + h + len) (ltb-false (n + h + len) 14 e)), var_uint_least (n + h + len)))

module _ (b : List ℕ) (start header code len h w : ℕ)
    (s : start + 2 ≤ header) (f : header + 2 + len ≤ length b)
    (eh : h ≡ length (header_bytes 0 len)) (ew : w ≡ length (header_bytes 0 (header - (start + 2) + h + len))) where
  abbrev A : List ℕ
  A = part b (start + 2) (header - (start + 2))

  abbrev B : List ℕ
  B = part b (header + 2) len

  abbrev H : List ℕ
  H = header_bytes code len

  abbrev W : List ℕ
  W = header_bytes 0xE0 (header - (start + 2) + h + len)

  record Lengths : Type 0 where
    annotations : length A ≡ header - (start + 2)
    body : length B ≡ len
    inner : length H ≡ h
    wrapper : length W ≡ w
    after : length (H ++ B) ≡ h + len
    content : length (A ++ (H ++ B)) ≡ header - (start + 2) + h + len

  lengths : Lengths
  lengths =
      let a = length_part b (start + 2) (header - (start + 2)) (omega arith) in
      let m = length_part b (header + 2) len f in
      let i = length_header code len ∙ sym eh in
      let j : length (H ++ B) ≡ h + len = length-append H B ∙ omega arith in
      record {
        annotations = a;
        body = m;
        inner = i;
        wrapper = length_header 0xE0 (header - (start + 2) + h + len) ∙ sym ew;
        after = j;
        content = length-append A (H ++ B) ∙ omega arith;
      }

  -- the final bytes
  abbrev closed : List ℕ
  closed = closed_bytes start header code (take (header + 2 + len) b)

  whole : W ++ (A ++ (H ++ B)) ≡ closed
  whole =
      let k = lengths in
      let n : header + 2 + len - (header + 2) ≡ len = omega arith in
      sym (
      closed_bytes_wrapped header code (header + 2 + len) b (omega arith) f start s
      ∙ rw (n, framed_is code len B k.body) (framed_is 0xE0 _ (A ++ (H ++ B)) k.content)
      )

  pub length_wrapped : length closed ≡ w + (header - (start + 2) + h + len)
  length_wrapped = let k = lengths in ap length (sym whole) ∙ (length-append W (A ++ (H ++ B)) ∙ omega arith)

  -- the sum of what the two moves report
  pub moved-both : {x y : ℕ} → x ≡ length_if_moved (header + 2) (start + w + (header - (start + 2)) + h) len
      → y ≡ length_if_moved (start + 2) (start + w) (header - (start + 2))
      → x + y ≡ moved_bytes start header code (take (header + 2 + len) b)
  moved-both p q =
      let n : header + 2 + len - (header + 2) ≡ len = omega arith in
      ap₂ ◌+◌ p q ∙ rw n at (moved_wrapped header code (header + 2 + len) b (omega arith) f start h w s (rw n eh) (rw n ew))

  -- which is no more than the bytes that there are
  pub moved_few : {x y : ℕ} → x ≡ length_if_moved (header + 2) (start + w + (header - (start + 2)) + h) len
      → y ≡ length_if_moved (start + 2) (start + w) (header - (start + 2))
      → x + y ≤ length b
  moved_few p q =
      omega (
        arith,
        p,
        q,
        if_moved (start + 2) (start + w) (header - (start + 2)),
        if_moved (header + 2) (start + w + (header - (start + 2)) + h) len,
      )

  module _ (g : start + w + (header - (start + 2)) + h + len ≤ length b) where
    -- the wrapper's header before all else
    last : {l₃ l₄ : List ℕ} → l₃ ≡ laid b (start + w) (A ++ (H ++ B)) → l₄ ≡ laid l₃ start W → l₄ ≡ laid b start closed
    last e₃ e₄ =
        let k = lengths in
        then_before b start W (A ++ (H ++ B)) (start + w) (omega arith) (omega arith) e₃ e₄ ∙ ap (laid b start) whole

    -- the body first, then the inner header and the annotations before it
    pub from_the_right : {l₁ l₂ l₃ l₄ : List ℕ} → 2 ≤ w
        → l₁ ≡ laid b (start + w + (header - (start + 2)) + h) B
        → l₂ ≡ laid l₁ (start + w + (header - (start + 2))) H
        → l₃ ≡ laid l₂ (start + w) (part l₂ (start + 2) (header - (start + 2)))
        → l₄ ≡ laid l₃ start W
        → l₄ ≡ laid b start closed
    from_the_right {l₁} {l₂} {l₃} {l₄} u e₁ e₂ e₃ e₄ =
        let k = lengths in
        let i = start + w + (header - (start + 2)) in
        let q₂ : l₂ ≡ laid b i (H ++ B) = then_before b i H B (i + h) (omega arith) (omega arith) e₁ e₂ in
        let p : part l₂ (start + 2) (header - (start + 2)) ≡ A =
        rw q₂ (part-before b i (H ++ B) (omega arith) (start + 2) (header - (start + 2)) (omega arith)) in
        last (then_before b (start + w) A (H ++ B) i (omega arith) (omega arith) q₂ (e₃ ∙ ap (laid l₂ (start + w)) p)) e₄

    -- the annotations first, then the inner header and the body behind them
    pub from_the_left : {l₁ l₂ l₃ l₄ : List ℕ} → w < 2
        → l₁ ≡ laid b (start + w) A
        → l₂ ≡ laid l₁ (start + w + (header - (start + 2))) H
        → l₃ ≡ laid l₂ (start + w + (header - (start + 2)) + h) (part l₂ (header + 2) len)
        → l₄ ≡ laid l₃ start W
        → l₄ ≡ laid b start closed
    from_the_left {l₁} {l₂} {l₃} {l₄} u e₁ e₂ e₃ e₄ =
        let k = lengths in
        let o = one_byte (header - (start + 2)) h len (omega arith) in
        let i = start + w + (header - (start + 2)) in
        let j : length (A ++ H) ≡ header - (start + 2) + h = length-append A H ∙ omega arith in
        let q₂ : l₂ ≡ laid b (start + w) (A ++ H) = then_behind b (start + w) A H i (omega arith) (omega arith) e₁ e₂ in
        let p : part l₂ (header + 2) len ≡ B = rw q₂ (part-behind b (start + w) (A ++ H) (omega arith) (header + 2) len (omega arith)) in
        last (then_behind b (start + w) (A ++ H) B (i + h) (omega arith) (omega arith) q₂ (e₃ ∙ ap (laid l₂ (i + h)) p)
        ∙ ap (laid b (start + w)) (append_assoc A H B)) e₄
