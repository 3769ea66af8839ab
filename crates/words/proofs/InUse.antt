-- The bytes in use, which stand at the front of an array b of n bytes, u of them before, behind a writing to the room that is left.
-- Assumes nothing.
use mathlib.Core.Path.{◌≡◌, refl, sym, ◌∙◌, ap}
use mathlib.Core.Logic.{⊎_elim}
use mathlib.Core.List.{List, ◌++◌}
use Prim.Native.Nat.{ℕ, ◌+◌, ◌-◌, ◌*◌, ◌≤◌, ◌<◌}
use native.Mathlib.Omega.{arith}
use borrow.Author.Tests.{le-leb, lt-leb}
use borrow.Rule.Slice.PartMut.{put_mid}
use lib.ListN.{length, take}
use lib.Seq.{length-take-le, take-append-add}
use Rattle.std.specs.Prelude.{Option, unwrap_or, min}
use Rattle.std.proofs.lemmas.List.{take_min}
use Rattle.std.proofs.lemmas.Slice.{take-put_mid}
use Rattle.buffer.specs.Laid.{placed}
use Rattle.buffer.proofs.Laid.{placed_or, take-laid}
use Rattle.words.specs.Hex.{hex_text, with_hex}
use Rattle.words.proofs.HexDigits.{length_text}

pub with_hex-some : (n : ℕ) (l s : List ℕ) → length l + 2 * length s ≤ n → with_hex n l s ≡ l ++ hex_text s
unfolding with_hex
with_hex-some n l s h = rw (with_hex, le-leb (length l + 2 * length s) n h) refl

with_hex-none : (n : ℕ) (l s : List ℕ) → n < length l + 2 * length s → with_hex n l s ≡ l
unfolding with_hex
with_hex-none n l s h = rw (with_hex, lt-leb (length l + 2 * length s) n h) refl

module _ (n u : ℕ) (b s : List ℕ) (within : u ≤ n) (all : length b ≡ n) where
  -- of s the first c bytes, as many as there is room for
  pub append_some : (c k : ℕ) (front : List ℕ) → c ≡ min (n - u) (length s) → front ≡ take c s → take (u + c) (put_mid u k b front) ≡ take n (take u b ++ s)
  append_some c k front count is =
      let size : length front ≡ c = ap length is ∙ length-take-le c s (omega arith) in
      take-put_mid u k b front (u + c) (omega arith) (omega arith)
      ∙ (ap (λ (l : List ℕ). take u b ++ l) (is ∙ (ap (λ (i : ℕ). take i s) count ∙ take_min (n - u) s))
      ∙ (sym (take-append-add (take u b) s (n - u)) ∙ ap (λ (i : ℕ). take i (take u b ++ s)) (omega (arith, length-take-le u b (omega arith)))))

  -- the digits of s, where there is room for them
  pub append_digits : (r : Option ℕ) (l : List ℕ) → ◌≡◌ {A = Option ℕ × List ℕ} (r, l) (placed b u (hex_text s)) → take (u + unwrap_or r 0) l ≡ with_hex n (take u b) s
  append_digits r l put =
      let used : length (take u b) ≡ u = length-take-le u b (omega arith) in
      let size = length_text s in
      let none : u + 0 ≡ u = omega arith in
      ⊎_elim
      (λ w. ap (λ (p : Option ℕ × List ℕ). take (u + unwrap_or p.0 0) p.1) (put ∙ w.1)
      ∙ take-laid b u (hex_text s) w.0 ∙ sym (with_hex-some n (take u b) s (omega (arith, w.0))))
      (λ w. ap (λ (p : Option ℕ × List ℕ). take (u + unwrap_or p.0 0) p.1) (put ∙ w.1)
      ∙ (ap (λ (k : ℕ). take k b) none ∙ sym (with_hex-none n (take u b) s (omega (arith, w.0)))))
      (placed_or b u (hex_text s))

  pub digits_within : (r : Option ℕ) (l : List ℕ) → ◌≡◌ {A = Option ℕ × List ℕ} (r, l) (placed b u (hex_text s)) → u + unwrap_or r 0 ≤ n
  digits_within r l put =
      let put_is : (p : Option ℕ × List ℕ) → placed b u (hex_text s) ≡ p → unwrap_or r 0 ≡ unwrap_or p.0 0 =
      λ p w. ap (λ (p : Option ℕ × List ℕ). unwrap_or p.0 0) (put ∙ w) in
      ⊎_elim
      (λ w. omega (arith, w.0, put_is _ w.1))
      (λ w. omega (arith, put_is _ w.1))
      (placed_or b u (hex_text s))
