-- The laws of parts of a buffer, and of a part that moves.
-- By the laws of laid bytes. Assumes nothing.
use mathlib.Core.Path.{◌≡◌, refl, sym, ◌∙◌, ap}
use mathlib.Core.List.{List, append_assoc}
use Prim.Native.Nat.{ℕ, ◌+◌, ◌-◌, ◌≤◌}
use native.Mathlib.Omega.{arith}
use lib.ListN.{length, take, drop, length-drop, take-append-drop}
use lib.Seq.{paste, slice, take-add, drop_at, length-take-le, drop-drop}
use borrow.Author.Tests.{eq-eqb, ne_eqb}
use Rattle.machine.specs.Machine.{length_if_moved}
use Rattle.buffer.specs.Laid.{laid}
use Rattle.buffer.proofs.Laid.{laid_is, length-laid, take-before, drop-behind}

-- the count bytes from `from` on
abbrev pub part : List ℕ → ℕ → ℕ → List ℕ
part b from count = take count (drop from b)

pub length_part : (b : List ℕ) (from count : ℕ) → from + count ≤ length b → length (part b from count) ≡ count
length_part b from count h = length-take-le count (drop from b) (simp length-drop (omega arith))

part_slice : (b : List ℕ) (from count : ℕ) → from + count ≤ length b → part b from count ≡ slice from (from + count) b
part_slice b from count h = sym (ap (drop from) (take-add from count b) ∙ drop_at (take from b) (part b from count) from (length-take-le from b (omega arith)))

-- a part up to an end
pub slice-part : (b : List ℕ) (from end : ℕ) → from ≤ end → end ≤ length b → slice from end b ≡ part b from (end - from)
slice-part b from end h k =
    let e : end ≡ from + (end - from) = omega arith in
    ap (λ (n : ℕ). slice from n b) e ∙ sym (part_slice b from (end - from) (omega arith))

-- it counts as moved exactly if it lies elsewhere
pub moved_away : (from to n : ℕ) → (from ≡ to → ⊥) → n ≡ length_if_moved from to n
moved_away from to n h = rw (ne_eqb from to h, length_if_moved) refl

pub moved_nowhere : (from to n : ℕ) → from ≡ to → 0 ≡ length_if_moved from to n
moved_nowhere from to n e = rw (eq-eqb from to e, length_if_moved) refl

-- a part where it lies
pub laid_same : (b : List ℕ) (at count : ℕ) → at + count ≤ length b → b ≡ laid b at (part b at count)
laid_same b at count h =
    rw (laid_is b at (part b at count), length_part b at count h, ← (drop-drop count at b), take-append-drop count (drop at b), take-append-drop at b) refl

-- ---- a run leaves the bytes before it and behind it

module _ (b : List ℕ) (at : ℕ) (xs : List ℕ) (h : at + length xs ≤ length b) where
  pub part-before : (k m : ℕ) → k + m ≤ at → part (laid b at xs) k m ≡ part b k m
  part-before k m l =
      let n = length-laid b at xs h in
      part_slice (laid b at xs) k m (omega arith) ∙ (ap (drop k) (take-before b at xs h (k + m) l) ∙ sym (part_slice b k m (omega arith)))

  pub part-behind : (k m : ℕ) → at + length xs ≤ k → part (laid b at xs) k m ≡ part b k m
  part-behind k m l = ap (take m) (drop-behind b at xs h k l)

-- ---- a part that is copied

pub pasted : (b : List ℕ) (from to end count : ℕ) → end ≡ from + count → from + count ≤ length b → paste b to (drop from b) (end - from) ≡ laid b to (part b from count)
pasted b from to end count e h =
    let n : end - from ≡ count = omega arith in
    rw (n, laid_is b to (part b from count), length_part b from count h) (append_assoc (take to b) (part b from count) _)
