-- The signs of VarInt and Int: the bit that a bool gives, the sign of a number, and the bytes of an Int by its first byte.
-- By cases on the sign. Assumes nothing.
use mathlib.Core.Path.{◌≡◌, refl, sym, ap, subst}
use mathlib.Core.List.{List, [], ◌∷◌}
use mathlib.Core.Bool.{Bool, true, false, not}
use Prim.Native.Nat.{ℕ, ◌+◌, ◌*◌, ◌≤◌, ◌<◌}
use native.Mathlib.Omega.{arith}
use lib.IntN.{ℤ, pos, negsuc, nat_abs}
use lib.Signed.{non_neg}
use mir.Val.{bool_byte}
use lib.Dec.{T, ltb}
use lib.ListN.{length}
use borrow.Author.Tests.{lt-ltb, le-ltb, ltb-true, ltb-false}
use Rattle.ion.specs.Value.{signed}
use Rattle.encoding.specs.Fields.{sign_bit, signed_of, trimmed, top_bit, int_bytes}
use Rattle.encoding.proofs.Trimmed.{trimmed_shorter}

pub sign_bit_is : (s : Bool) → 0x40 * bool_byte s ≡ sign_bit s
sign_bit_is true = refl
sign_bit_is false = refl

pub top_bit_is : (s : Bool) → 0x80 * bool_byte s ≡ top_bit s
top_bit_is true = refl
top_bit_is false = refl

pub bool_byte-most : (s : Bool) → bool_byte s ≤ 1
bool_byte-most true = omega arith
bool_byte-most false = omega arith

-- ---- the sign and the magnitude of a number

pub signed_of_is : (z : ℤ) → signed_of z ≡ signed (not (non_neg z)) (nat_abs z)
signed_of_is (pos n) = refl
signed_of_is (negsuc n) = refl

-- ---- the bytes of an Int

pub int_zero : (s : Bool) (m : List ℕ) → s ≡ false → length m ≡ 0 → int_bytes s m ≡ []
unfolding int_bytes
int_zero false [] f e = refl
int_zero true [] f e = absurd (subst T f tt)
int_zero s (b ∷ bs) f e = absurd (omega arith)

pub int_negative_zero : (s : Bool) (m : List ℕ) → s ≡ true → length m ≡ 0 → int_bytes s m ≡ top_bit s ∷ []
unfolding int_bytes
int_negative_zero true [] f e = refl
int_negative_zero false [] f e = absurd (subst T (sym f) tt)
int_negative_zero s (b ∷ bs) f e = absurd (omega arith)

module _ (b : ℕ) (bs : List ℕ) where
  -- the top bit is free
  pub int_clear : (s : Bool) → b < 0x80 → int_bytes s (b ∷ bs) ≡ (top_bit s + b) ∷ bs
  unfolding int_bytes
  int_clear true h = rw (int_bytes, lt-ltb b 0x80 h) refl
  int_clear false h = rw (int_bytes, lt-ltb b 0x80 h) refl

  -- the magnitude takes it
  pub int_taken : (s : Bool) → 0x80 ≤ b → int_bytes s (b ∷ bs) ≡ top_bit s ∷ b ∷ bs
  unfolding int_bytes
  int_taken true h = rw (int_bytes, le-ltb b 0x80 h) refl
  int_taken false h = rw (int_bytes, le-ltb b 0x80 h) refl

-- ---- how many

pub int_size-none : (s : Bool) (m : List ℕ) → length m ≡ 0 → length (int_bytes s m) ≡ bool_byte s
int_size-none true m e = ap length (int_negative_zero true m refl e)
int_size-none false m e = ap length (int_zero false m refl e)

pub int_most : (s : Bool) (m : List ℕ) → length (int_bytes s m) ≤ length m + 1
int_most s [] = rw (int_size-none s [] refl) (omega (arith, bool_byte-most s))
int_most s (b ∷ bs) = go (ltb b 0x80) refl
  where
    go : (t : Bool) → ltb b 0x80 ≡ t → length (int_bytes s (b ∷ bs)) ≤ length (b ∷ bs) + 1
    go true e = rw (int_clear b bs s (ltb-true b 0x80 e)) (omega arith)
    go false e = rw (int_taken b bs s (ltb-false b 0x80 e)) (omega arith)

-- of a lent magnitude: no sum with a few bytes more can wrap, since a slice is shorter than 2 ^ 63
pub int_trimmed-most : (s : Bool) (m : List ℕ) → length (int_bytes s (trimmed m)) ≤ length m + 1
int_trimmed-most s m = omega (arith, int_most s (trimmed m), trimmed_shorter m)
