-- Cases on a test, and what a conjunction and a disjunction of tests tell.
-- Assumes nothing.
use Prim.Native.Nat.{ℕ, zero, suc, ◌≤◌}
use native.Mathlib.Omega.{arith}
use mathlib.Core.Path.{◌≡◌, refl}
use mathlib.Core.Bool.{Bool, true, false, false≢true, ◌&&◌, ◌||◌}
use mathlib.Core.Logic.{◌⊎◌, inl, inr}

pub by_cases : {X : Type 0} (b : Bool) → (b ≡ true → X) → (b ≡ false → X) → X
by_cases true f g = f refl
by_cases false f g = g refl

pub both : {a b : Bool} → (a && b) ≡ true → (a ≡ true) × (b ≡ true)
both {a = true} e = (refl, e)
both {a = false} e = absurd (false≢true e)

pub and-true : {a b : Bool} → a ≡ true → b ≡ true → (a && b) ≡ true
and-true {a = true} p q = q
and-true {a = false} p q = p

pub either : (a b : Bool) → (a || b) ≡ true → (a ≡ true) ⊎ (b ≡ true)
either true b e = inl refl
either false b e = inr e

-- k is none of the numbers below n, as a match on k leaves it
abbrev pub NoneBelow : ℕ → ℕ → Type 0
NoneBelow k zero = Unit {0}
NoneBelow k (suc n) = NoneBelow k n × (k ≡ n → ⊥)

pub none_below : (k n : ℕ) → NoneBelow k n → n ≤ k
none_below k zero h = omega arith
none_below k (suc n) h = omega (arith, h.1, none_below k n h.0)
