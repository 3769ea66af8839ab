-- A decimal's body reads as its coefficient and exponent.
-- Assumes nothing.
use Prim.Native.Nat.{ℕ, zero, suc}
use mathlib.Core.Path.{◌≡◌, refl, ◌∙◌}
use mathlib.Core.Bool.{Bool, true, false, false≢true}
use mathlib.Core.List.{List, [], ◌∷◌, ◌++◌}
use mathlib.Core.Option.{some, none-ne-some}
use lib.IntN.{ℤ, pos, negsuc}
use Rattle.ion.specs.Value.{Signed, signed, decimal}
use Rattle.ion.specs.Fields.{big_endian, uint, int_field, var_int, number}
use Rattle.ion.specs.Scalars.{decimal_of}
use Rattle.ion.proofs.Tests.{by_cases}
use Rattle.encoding.specs.Fields.{var_int_bytes, signed_of, trimmed, int_bytes, IsI64}
use Rattle.encoding.specs.Decimal.{is_zero_decimal, decimal_body}
use Rattle.encoding.proofs.Fields.{signed_reads, trimmed-same, int_bytes-reads}

number-signed_of : (z : ℤ) → number (signed_of z) ≡ z
number-signed_of (pos n) = refl
number-signed_of (negsuc n) = refl

decimal_front : (l r : List ℕ) (z : Signed) → var_int l ≡ some (z, r) → decimal_of l ≡ some (decimal (int_field r) (number z))
unfolding decimal_of var_int
decimal_front [] r z e = absurd (none-ne-some (z, r) e)
decimal_front (b ∷ bs) r z e = rw e

-- the empty body
zero-reads : (s : Bool) (m : List ℕ) (e : ℤ) → is_zero_decimal s m e ≡ true → decimal_of [] ≡ some (decimal (signed s (uint m)) e)
unfolding decimal_of big_endian
zero-reads false [] (pos zero) h = refl
zero-reads false [] (pos (suc n)) h = absurd (false≢true h)
zero-reads false [] (negsuc n) h = absurd (false≢true h)
zero-reads false (b ∷ bs) e h = absurd (false≢true h)
zero-reads true m e h = absurd (false≢true h)

pub decimal_body-reads : (s : Bool) (m : List ℕ) (e : ℤ) → IsI64 e → decimal_of (decimal_body s m e) ≡ some (decimal (signed s (uint m)) e)
unfolding decimal_body
decimal_body-reads s m e h =
    by_cases (is_zero_decimal s (trimmed m) e)
    (λ p. rw (p, decimal_body) (zero-reads s (trimmed m) e p ∙ rw (trimmed-same m)))
    (λ p. rw (p, decimal_body) (decimal_front (var_int_bytes (signed_of e) ++ int_bytes s (trimmed m)) (int_bytes s (trimmed m)) (signed_of e)
    (signed_reads e (int_bytes s (trimmed m)) h)
    ∙ rw (number-signed_of e, int_bytes-reads s (trimmed m), trimmed-same m)))
