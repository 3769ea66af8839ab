-- Which bodies read, by their type code.
-- Assumes nothing.
use Prim.Native.Nat.{ℕ, zero, suc, ◌/◌, ◌%◌, ◌<◌}
use native.Mathlib.Omega.{arith}
use native.Mathlib.Nat.{eq-or-lt_of_le}
use mathlib.Core.Path.{◌≡◌, refl, sym, ◌∙◌, ap}
use mathlib.Core.Bool.{Bool, true, false, ◌&&◌, ◌||◌, not, false≢true, and-false}
use mathlib.Core.List.{List}
use mathlib.Core.Logic.{⊎_elim}
use mathlib.Core.Option.{some}
use lib.Dec.{ltb, leb}
use borrow.Author.Tests.{ne_eqb, leb-true, leb-false, le-leb, lt-leb}
use Rattle.ion.specs.Value.{TypeCode, null_type, null}
use Rattle.ion.specs.Chain.{◌>>=◌}
use Rattle.ion.proofs.Tests.{both}
use Rattle.reading.specs.Scalars.{is_some, code_from, code_of, body_of, scalar_in}

-- ---- what holds of each of the sixteen type codes is computed

abbrev all : ℕ → (ℕ → Bool) → Bool
all zero p = true
all (suc n) p = p n && all n p

all_true : (n : ℕ) (p : ℕ → Bool) → all n p ≡ true → (t : ℕ) → t < n → p t ≡ true
all_true zero p e t h = absurd (omega arith)
all_true (suc n) p e t h =
    ⊎_elim (λ q. ap p q ∙ (both {a = p n} e).0) (λ l. all_true n p (both {a = p n} e).1 t l) (eq-or-lt_of_le {n = t} {m = n} (omega arith))

abbrev same : Bool → Bool → Bool
same true y = y
same false y = not y

same_true : (x y : Bool) → same x y ≡ true → x ≡ y
same_true true true e = refl
same_true true false e = absurd (false≢true e)
same_true false true e = absurd (false≢true e)
same_true false false e = refl

-- each has a null but for the annotations' and the reserved one
nulls : (t : ℕ) → t < 16 → ltb t 14 ≡ is_some (code_of t >>= λ c. null_type c >>= λ k. some (null k))
unfolding code_from
nulls t h =
    same_true (ltb t 14) (is_some (code_of t >>= λ c. null_type c >>= λ k. some (null k)))
    (all_true 16 (λ u. same (ltb u 14) (is_some (code_of u >>= λ c. null_type c >>= λ k. some (null k)))) refl t h)

-- all others than those of the scalars, 1 to 10, have none
no_scalars : (b : List ℕ) (l t : ℕ) → t < 16 → (leb 1 t && leb t 10) ≡ false → false ≡ is_some (code_of t >>= λ c. body_of c l b)
unfolding code_from body_of
no_scalars b l t h e =
    go (leb 1 t && leb t 10) (is_some (code_of t >>= λ c. body_of c l b)) e
    (all_true 16 (λ u. (leb 1 u && leb u 10) || not (is_some (code_of u >>= λ c. body_of c l b))) refl t h)
  where
    go : (x y : Bool) → x ≡ false → (x || not y) ≡ true → false ≡ y
    go true y e q = absurd (false≢true (sym e))
    go false true e q = absurd (false≢true q)
    go false false e q = refl

-- ---- a scalar by its type byte

-- the type code is none of 1 to n
abbrev pub NoneTo : ℕ → ℕ → Type 0
NoneTo k zero = Unit {0}
NoneTo k (suc n) = NoneTo k n × (k ≡ suc n → ⊥)

none_to : (k n : ℕ) → NoneTo k n → (leb 1 k && leb k n) ≡ false
none_to k zero h = go (leb 1 k) (leb k 0) refl refl
  where
    go : (x y : Bool) → leb 1 k ≡ x → leb k 0 ≡ y → (x && y) ≡ false
    go false y p q = refl
    go true false p q = refl
    go true true p q = absurd (omega (arith, leb-true 1 k p, leb-true k 0 q))
none_to k (suc n) h = go (leb k n) refl (none_to k n h.0)
  where
    go : (y : Bool) → leb k n ≡ y → (leb 1 k && y) ≡ false → (leb 1 k && leb k (suc n)) ≡ false
    go true p e = rw (le-leb k (suc n) (omega (arith, leb-true k n p))) e
    go false p e =
        let d : k ≡ suc n → ⊥ = h.1 in
        let l : n < k = leb-false k n p in
        rw (lt-leb k (suc n) (omega arith)) (and-false (leb 1 k))

module _ (kind : ℕ) (b : List ℕ) where
  pub null_reads : kind < 256 → kind % 16 ≡ 15 → ltb (kind / 16) 14 ≡ is_some (scalar_in kind b)
  unfolding scalar_in
  null_reads h e = rw (e) (nulls (kind / 16) (omega arith))

  module _ (low : kind % 16 ≡ 15 → ⊥) where
    pub body_reads : (t : ℕ) (c : TypeCode) → code_of t ≡ some c → kind / 16 ≡ t → is_some (body_of c (kind % 16) b) ≡ is_some (scalar_in kind b)
    unfolding scalar_in
    body_reads t c q e = rw (e, q, ne_eqb (kind % 16) 15 low) refl

    pub none_reads : kind < 256 → NoneTo (kind / 16) 10 → false ≡ is_some (scalar_in kind b)
    unfolding scalar_in
    none_reads h n = rw (ne_eqb (kind % 16) 15 low) (no_scalars b (kind % 16) (kind / 16) (omega arith) (none_to (kind / 16) 10 n))
