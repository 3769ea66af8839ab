-- What disjunctions of tests, contrary tests and answers that are there tell.
-- Assumes nothing.
use mathlib.Core.Path.{◌≡◌, refl, sym, ◌∙◌}
use mathlib.Core.Bool.{Bool, true, false, false≢true, ◌||◌}
use mathlib.Core.Option.{Option, none, some}
use Rattle.reading.specs.Scalars.{is_some}

pub contrary : {X : Type 0} {b : Bool} → b ≡ false → b ≡ true → X
contrary p q = absurd (false≢true (sym p ∙ q))

pub or_left : {a b : Bool} → (a || b) ≡ true → b ≡ false → a ≡ true
or_left {a = true} e p = refl
or_left {a = false} e p = contrary p e

pub some_of : {A : Type 0} (o : Option A) → is_some o ≡ true → (x : A) × (o ≡ some x)
some_of none e = absurd (false≢true e)
some_of (some x) e = (x, refl)
