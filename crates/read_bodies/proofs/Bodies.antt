-- What a field at the front of a body tells of the body.
-- Assumes nothing.
use Prim.Native.Nat.{ℕ, ◌^◌, ◌<◌}
use mathlib.Core.Path.{◌≡◌, refl}
use mathlib.Core.List.{List, [], ◌∷◌}
use mathlib.Core.Option.{Option, none, some}
use native.Mathlib.Omega.{arith}
use mathlib.Core.Bool.{cond, false}
use lib.Dec.{ltb, eqb}
use lib.ListN.{length}
use borrow.Author.Tests.{ltb-true, ne_eqb}
use Rattle.std.specs.Prelude.{Result, Ok, Err, Some, None}
use Rattle.ion.specs.Value.{Signed}
use Rattle.ion.specs.Fields.{var_int}
use Rattle.ion.proofs.Tests.{by_cases}
use Rattle.reading.specs.declared.Refusal.{Refusal}
use Rattle.reading.specs.declared.Decimal.{Decimal}
use Rattle.reading.specs.Bodies.{decimal_from, decimal_in}
use Rattle.read_bodies.specs.declared.VarInt.{VarInt}
use Rattle.read_bodies.specs.Places.{signed_in, var_int_at, small}

-- ---- decimals

-- the exponent stands at the front, and the coefficient behind it
abbrev pub behind_exponent : Result VarInt Refusal → Result Decimal Refusal
behind_exponent (Ok v) = Ok (record { negative = v.negative; exponent = v.magnitude; coefficient = v.next })
behind_exponent (Err r) = Err r

pub decimal_by_exponent : (b : List ℕ) → decimal_in b ≡ cond (eqb (length b) 0) (Ok (record { negative = false; exponent = 0; coefficient = 0 })) (behind_exponent (var_int_at b 0))
unfolding decimal_in var_int_at
decimal_by_exponent [] = refl
decimal_by_exponent (x ∷ xs) = rw (ne_eqb (length (x ∷ xs)) 0 (λ e. omega arith)) (go (length (x ∷ xs)) (var_int (x ∷ xs)))
  where
    go : (size : ℕ) (o : Option (Signed × List ℕ)) → decimal_from size o ≡ behind_exponent (signed_in size o)
    go size none = refl
    go size (some e) = refl

-- ---- a number of 64 bits

pub small-number : (n v : ℕ) → small n ≡ Some v → (n ≡ v) × (n < 2 ^ 64)
small-number n v e =
    by_cases (ltb n (2 ^ 64))
    (λ p. let f : Some n ≡ Some v = rw p at e in (cc, ltb-true n (2 ^ 64) p))
    (λ p. let f : None ≡ Some v = rw p at e in absurd (cc))
