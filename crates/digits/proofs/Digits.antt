-- What `put_digits` leaves: none or all of the digits; and the last of them put again.
-- By the laws of placed bytes and of a store within a run. Assumes nothing.
use mathlib.Core.Path.{◌≡◌, sym, ◌∙◌, ap}
use mathlib.Core.List.{List, [], ◌∷◌, ◌++◌}
use Prim.Native.Nat.{ℕ, suc, ◌+◌, ◌/◌, ◌%◌, ◌≤◌}
use native.Mathlib.Omega.{arith}
use lib.ListN.{length, set}
use Rattle.std.specs.Prelude.{Option, Some, None}
use Rattle.encoding.specs.Digits.{low_digits}
use Rattle.encoding.proofs.Digits.{length-low_digits, low_digits_last}
use Rattle.buffer.specs.Laid.{laid, placed}
use Rattle.buffer.proofs.Laid.{laid_set, placed_full, placed-none, placed-some}

-- all of them are put
pub record AllPut (b : List ℕ) (at base size n put : ℕ) (l : List ℕ) : Type 0 where
  pub count : put ≡ size
  pub room : at + size ≤ length b
  pub digits : l ≡ laid b at (low_digits base size n)

-- none is put: other bytes, as many, have no room either
pub none_put : (b : List ℕ) (at base size n : ℕ) (l : List ℕ) → ◌≡◌ {A = Option ℕ × List ℕ} (None, l) (placed b at (low_digits base size n))
    → (ys : List ℕ) → size ≡ length ys → ◌≡◌ {A = Option ℕ × List ℕ} (None, l) (placed b at ys)
none_put b at base size n l e ys q =
    let w = length-low_digits base size n in
    let k = placed-none b at (low_digits base size n) l e in
    rw k.1 (sym (placed_full b at ys (omega arith)))

pub all_put : (b : List ℕ) (at base size n put : ℕ) (l : List ℕ) → ◌≡◌ {A = Option ℕ × List ℕ} (Some put, l) (placed b at (low_digits base size n))
    → AllPut b at base size n put l
all_put b at base size n put l e =
    let w = length-low_digits base size n in
    let k = placed-some b at (low_digits base size n) put l e in
    record { count = k.1 ∙ w; room = omega arith; digits = k.2 }

-- the last of them put again
pub laid_last : (b l : List ℕ) (at base k n p v : ℕ) → p ≡ at + k → at + suc k ≤ length b → l ≡ laid b at (low_digits base (suc k) n) →
    set l p v ≡ laid b at (low_digits base k (n / base) ++ (v ∷ []))
laid_last b l at base k n p v e h q =
    let w = length-low_digits base k (n / base) in
    ap (λ (x : List ℕ). set x p v) (q ∙ ap (laid b at) (low_digits_last base k n))
    ∙ laid_set b at (low_digits base k (n / base)) (omega arith) (n % base) [] p v (omega arith)
