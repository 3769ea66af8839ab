-- A lent magnitude is zero where all its bytes are leading zeros.
-- By the first byte that is not zero. Assumes nothing.
use mathlib.Core.Path.{◌≡◌, refl, sym, ◌∙◌, ap}
use mathlib.Core.Bool.{Bool, ◌&&◌}
use mathlib.Core.List.{List, [], ◌∷◌}
use mathlib.Core.Logic.{⊎_elim}
use Prim.Native.Nat.{ℕ, ◌+◌, ◌*◌, ◌<◌}
use native.Mathlib.Omega.{arith}
use native.Mathlib.Nat.{eq-zero-or-pos}
use lib.Dec.{eqb}
use lib.ListN.{length}
use borrow.Author.Tests.{eq-eqb, ne_eqb}
use Rattle.ion.specs.Fields.{big_endian, uint}
use Rattle.ion.proofs.Bytes.{none_nil}
use Rattle.encoding.specs.Fields.{trimmed}
use Rattle.encoding.proofs.Fields.{trimmed-same}
use Rattle.encoding.proofs.Trimmed.{trimmed_nil, trimmed-zero, trimmed-first}
use Rattle.int.proofs.Int.is_negative_zero.Goals as goal

big_endian_pos : (acc : ℕ) (bs : List ℕ) → 0 < acc → 0 < big_endian acc bs
unfolding big_endian
big_endian_pos acc [] p = p
big_endian_pos acc (b ∷ bs) p = big_endian_pos (acc * 256 + b) bs (omega arith)

first_pos : (b : ℕ) (bs : List ℕ) → 0 < b → 0 < uint (b ∷ bs)
unfolding big_endian
first_pos b bs p = big_endian_pos (0 * 256 + b) bs (omega arith)

uint_nil : uint [] ≡ 0
unfolding big_endian
uint_nil = refl

trimmed_pos : (m : List ℕ) → 0 < length (trimmed m) → 0 < uint (trimmed m)
trimmed_pos [] p = absurd (omega (arith, ap length trimmed_nil))
trimmed_pos (b ∷ bs) p = ⊎_elim
    (λ z. rw (trimmed-zero b bs z) (trimmed_pos bs (rw (trimmed-zero b bs z) at p)))
    (λ q. rw (trimmed-first b bs q) (first_pos b bs q))
    (eq-zero-or-pos b)

-- r leading zero bytes: they are all of the magnitude exactly if it is zero
is_zero : (m : List ℕ) (r : ℕ) → r + length (trimmed m) ≡ length m → eqb r (length m) ≡ eqb (uint m) 0
is_zero m r e = ⊎_elim
    (λ z. eq-eqb r (length m) (omega arith) ∙ sym (eq-eqb (uint m) 0 (sym (trimmed-same m) ∙ (ap uint (none_nil (trimmed m) z) ∙ uint_nil))))
    (λ p. ne_eqb r (length m) (λ q. omega arith) ∙ sym (ne_eqb (uint m) 0 (λ q. omega (arith, trimmed_pos m p, trimmed-same m))))
    (eq-zero-or-pos (length (trimmed m)))

pub returns : goal.returns
returns c = let a = c.args.self in
    ap (λ (z : Bool). a.negative && z) (is_zero a.magnitude.now c.leading_zero_bytes.result c.leading_zero_bytes.ensures)
