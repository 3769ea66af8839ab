-- A number's bytes that fill a buffer, and those in the first bytes of an array.
-- Assumes nothing.
use Prim.Native.Nat.{ℕ, ◌≤◌}
use native.Mathlib.Omega.{arith}
use native.Mathlib.Nat.{zero-add}
use mathlib.Core.Path.{◌≡◌, ◌∙◌, ap}
use mathlib.Core.List.{List, [], ◌∷◌, ◌++◌, append-nil}
use Rattle.std.specs.Prelude.{Option}
use lib.ListN.{length, take, drop, length-append}
use lib.Seq.{length-take-le, take_at, drop-length}
use Rattle.encoding.specs.Digits.{low_digits}
use Rattle.encoding.proofs.Digits.{length-low_digits}
use Rattle.buffer.specs.Laid.{laid, placed}
use Rattle.buffer.proofs.Laid.{placed-fits, laid_is}

laid_all : (b out : List ℕ) → length out ≡ length b → laid b 0 out ≡ out
laid_all b out e = laid_is b 0 out ∙ rw (zero-add (length out), e, drop-length b) (append-nil out)

pub filled : (b out : List ℕ) (n : Option ℕ) (l : List ℕ) → length out ≡ length b → ◌≡◌ {A = Option ℕ × List ℕ} (n, l) (placed b 0 out) → l ≡ out
filled b out n l e q = ap (λ (x : Option ℕ × List ℕ). x.1) (q ∙ placed-fits b 0 out (omega arith)) ∙ laid_all b out e

-- the array that a string is spelled in
abbrev pub zeros : List ℕ
zeros = 0 ∷ 0 ∷ 0 ∷ []

pub zeros_front : (n : ℕ) → n ≤ 3 → length (take n zeros) ≡ n
zeros_front n h = length-take-le n zeros h

-- l is spelled in its first n bytes
module _ (n x : ℕ) (h : n ≤ 3) (l : List ℕ) (e : l ≡ low_digits 256 (length (take n zeros)) x) where
  spelled : l ≡ low_digits 256 n x
  spelled = e ∙ ap (λ (k : ℕ). low_digits 256 k x) (zeros_front n h)

  spelled-length : length l ≡ n
  spelled-length = ap length spelled ∙ length-low_digits 256 n x

  pub within : n ≤ length (l ++ drop n zeros)
  within = omega (arith, length-append l (drop n zeros), spelled-length)

  pub front_length : length (take n (l ++ drop n zeros)) ≡ n
  front_length = length-take-le n (l ++ drop n zeros) within

  pub front : take n (l ++ drop n zeros) ≡ low_digits 256 n x
  front = take_at l (drop n zeros) n spelled-length ∙ spelled
