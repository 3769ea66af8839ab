-- What stands in a list from a place on: places against concatenations.
-- Assumes nothing.
use Prim.Native.Nat.{ℕ, ◌+◌, ◌≤◌}
use native.Mathlib.Omega.{arith}
use native.Mathlib.Nat.{add-zero}
use mathlib.Core.Path.{◌≡◌, refl, sym, ◌∙◌, ap}
use mathlib.Core.List.{List, [], ◌∷◌, ◌++◌}
use lib.ListN.{length, take, drop, get_or, length-append, length-drop}
use lib.Seq.{slice, length-take-le, take-append_seam, drop-append_seam, drop_at, get_or-drop, drop-drop, take-add}

-- from the place `at` to its end, s is l
pub record Rest (s : List ℕ) (at : ℕ) (l : List ℕ) : Type 0 where
  pub within : at ≤ length s
  pub is : drop at s ≡ l

pub rest-length : {s : List ℕ} {at : ℕ} {l : List ℕ} → Rest s at l → length s ≡ at + length l
rest-length {s} {at} {l} r = omega (arith, length-drop at s, ap length r.is, r.within)

pub rest-next : {s : List ℕ} {at : ℕ} (a b : List ℕ) (next : ℕ) → next ≡ at + length a → Rest s at (a ++ b) → Rest s next b
rest-next {s} {at} a b next e r = record {
  within = omega (arith, rest-length r, length-append a b);
  is = rw (e, ← drop-drop (length a) at s, r.is) (drop-append_seam a b);
}

pub slice-take : (s : List ℕ) (at n : ℕ) → at ≤ length s → drop at (take (at + n) s) ≡ take n (drop at s)
slice-take s at n h = rw (take-add at n s) (drop_at (take at s) (take n (drop at s)) at (length-take-le at s h))

pub rest-slice : {s : List ℕ} {at : ℕ} (a b : List ℕ) (next : ℕ) → next ≡ at + length a → Rest s at (a ++ b) → slice at next s ≡ a
rest-slice {s} {at} a b next e r = rw (e, slice-take s at (length a) r.within, r.is) (take-append_seam a b)

-- the bytes up to the end of a
pub rest_within : {s : List ℕ} {at : ℕ} (a b : List ℕ) (stop : ℕ) → stop ≡ at + length a → Rest s at (a ++ b) → Rest (take stop s) at a
rest_within {s} {at} a b stop e r = record {
  within = omega (arith, length-take-le stop s (omega (arith, rest-length r, length-append a b)));
  is = rest-slice a b stop e r;
}

pub rest_head : {s : List ℕ} {at : ℕ} {x : ℕ} {l : List ℕ} → Rest s at (x ∷ l) → get_or s at 0 ≡ x
rest_head {s} {at} {x} {l} r = ap (λ (n : ℕ). get_or s n 0) (sym (add-zero at)) ∙ sym (get_or-drop at s 0 0) ∙ ap (λ (y : List ℕ). get_or y 0 0) r.is

pub rest-tail : {s : List ℕ} {at : ℕ} {x : ℕ} {l : List ℕ} → Rest s at (x ∷ l) → Rest s (at + 1) l
rest-tail {s} {at} {x} {l} r = rest-next (x ∷ []) l (at + 1) refl r
