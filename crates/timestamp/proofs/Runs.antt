-- Two runs, one put behind the other, where there is room for both.
-- By the laws of placed bytes. Assumes nothing.
use Prim.Native.Nat.{ℕ, ◌+◌, ◌≤◌}
use native.Mathlib.Omega.{arith}
use mathlib.Core.Path.{◌≡◌}
use mathlib.Core.List.{List, ◌++◌}
use lib.ListN.{length, length-append}
use Rattle.std.specs.Prelude.{Option, Some, None}
use Rattle.buffer.specs.Laid.{placed}
use Rattle.buffer.proofs.Laid.{placed_then, placed-some, placed-room, placed-length}

module _ (b : List ℕ) (at : ℕ) (xs ys : List ℕ) (h : at + (length xs + length ys) ≤ length b) where
  -- the first is put
  pub first_put : (l : List ℕ) → ◌≡◌ {A = Option ℕ × List ℕ} (None, l) (placed b at xs) → ⊥
  first_put l e = placed-room b at xs l (omega arith) e

  module _ (n : ℕ) (l : List ℕ) (e : ◌≡◌ {A = Option ℕ × List ℕ} (Some n, l) (placed b at xs)) where
    pub first_count : n ≡ length xs
    first_count = (placed-some b at xs n l e).1

    pub second_room : (at + n + length ys ≤ length l) × (length l ≡ length b)
    second_room = let k = placed-length b at xs (Some n) l e in (omega (arith, first_count, k), k)

    -- and so is the second
    pub second_put : (l' : List ℕ) → ◌≡◌ {A = Option ℕ × List ℕ} (None, l') (placed l (at + n) ys) → ⊥
    second_put l' f = placed-room l (at + n) ys l' second_room.0 f

    pub both_put : (m : ℕ) (l' : List ℕ) → ◌≡◌ {A = Option ℕ × List ℕ} (Some m, l') (placed l (at + n) ys)
        → (◌≡◌ {A = Option ℕ × List ℕ} (Some (n + m), l') (placed b at (xs ++ ys))) × (n + m ≡ length xs + length ys)
    both_put m l' f =
        let whole = placed_then b at xs n l e ys m l' f in
        (whole, omega (arith, (placed-some b at (xs ++ ys) (n + m) l' whole).1, length-append xs ys))
