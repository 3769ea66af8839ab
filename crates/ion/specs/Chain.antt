-- Partial answers, one after the other, with tests between them.
-- Assumes nothing.
use Rattle.std.specs.Prelude.{Bool, true, false}
use Rattle.std.proofs.Math.Option.{Option, none, some}

infixl 20 ◌>>=◌
abbrev pub ◌>>=◌ : {A B : Type 0} → Option A → (A → Option B) → Option B
none >>= f = none
some a >>= f = f a

-- the answer where the test holds
abbrev pub check : {A : Type 0} → Bool → Option A → Option A
check true x = x
check false x = none
