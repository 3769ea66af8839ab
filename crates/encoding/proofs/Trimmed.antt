-- A magnitude without its leading zero bytes is what is left behind them.
-- By going along the bytes. Assumes nothing.
use mathlib.Core.Path.{◌≡◌, refl, sym, ◌∙◌, ap}
use mathlib.Core.List.{List, [], ◌∷◌}
use mathlib.Core.Logic.{⊎_elim}
use Prim.Native.Nat.{ℕ, zero, suc, ◌+◌, ◌-◌, ◌≤◌, ◌<◌}
use native.Mathlib.Omega.{arith}
use native.Mathlib.Nat.{eq-zero-or-pos}
use borrow.Author.Tests.{eq-eqb, ne_eqb}
use lib.ListN.{length, take, drop, get_or, length-drop}
use lib.Seq.{drop-cons, drop-nil, take_all}
use Rattle.encoding.specs.Fields.{trimmed, or_zero}

pub trimmed-zero : (b : ℕ) (bs : List ℕ) → b ≡ 0 → trimmed (b ∷ bs) ≡ trimmed bs
unfolding trimmed
trimmed-zero b bs z = rw (trimmed, eq-eqb b 0 z) refl

pub trimmed-first : (b : ℕ) (bs : List ℕ) → 0 < b → trimmed (b ∷ bs) ≡ b ∷ bs
unfolding trimmed
trimmed-first b bs p = rw (trimmed, ne_eqb b 0 (λ z. omega arith)) refl

pub trimmed_nil : trimmed [] ≡ []
unfolding trimmed
trimmed_nil = refl

pub trimmed_shorter : (m : List ℕ) → length (trimmed m) ≤ length m
trimmed_shorter [] = rw trimmed_nil (omega arith)
trimmed_shorter (b ∷ bs) = ⊎_elim
    (λ z. rw (trimmed-zero b bs z) (omega (arith, trimmed_shorter bs)))
    (λ p. rw (trimmed-first b bs p) (omega arith))
    (eq-zero-or-pos b)

-- as many bytes left out as its length says
pub trimmed-drop : (m : List ℕ) (r : ℕ) → r + length (trimmed m) ≡ length m → trimmed m ≡ drop r m
trimmed-drop [] r e = trimmed_nil ∙ sym (drop-nil r)
trimmed-drop (b ∷ bs) r e = ⊎_elim (λ z. zeros (λ k q. trimmed-drop bs k q) z r e) (λ p. none p r e) (eq-zero-or-pos b)
  where
    zeros : ((k : ℕ) → k + length (trimmed bs) ≡ length bs → trimmed bs ≡ drop k bs) → b ≡ 0 → (r : ℕ)
        → r + length (trimmed (b ∷ bs)) ≡ suc (length bs) → trimmed (b ∷ bs) ≡ drop r (b ∷ bs)
    zeros f z zero e = absurd (omega (arith, trimmed_shorter bs, ap length (trimmed-zero b bs z)))
    zeros f z (suc r) e = trimmed-zero b bs z ∙ f r (omega (arith, ap length (trimmed-zero b bs z)))

    none : 0 < b → (r : ℕ) → r + length (trimmed (b ∷ bs)) ≡ suc (length bs) → trimmed (b ∷ bs) ≡ drop r (b ∷ bs)
    none p zero e = trimmed-first b bs p
    none p (suc r) e = absurd (omega (arith, ap length (trimmed-first b bs p)))

pub trimmed_cons : (m : List ℕ) (r : ℕ) → r < length m → r + length (trimmed m) ≡ length m → trimmed m ≡ get_or m r 0 ∷ drop (suc r) m
trimmed_cons m r h e = trimmed-drop m r e ∙ drop-cons m r 0 h

-- the part of a slice from r on
pub rest_part : (m : List ℕ) (r : ℕ) → take (length m - r) (drop r m) ≡ drop r m
rest_part m r = take_all (length m - r) (drop r m) (rw (length-drop r m) (omega arith))

pub trimmed-part : (m : List ℕ) (r : ℕ) → r + length (trimmed m) ≡ length m → take (length m - r) (drop r m) ≡ trimmed m
trimmed-part m r e = rest_part m r ∙ sym (trimmed-drop m r e)

pub or_zero-none : (m : List ℕ) → length m ≡ 0 → or_zero m ≡ 0 ∷ []
or_zero-none [] e = refl
or_zero-none (b ∷ bs) e = absurd (omega arith)

pub or_zero-some : (m : List ℕ) → 0 < length m → or_zero m ≡ m
or_zero-some [] p = absurd (omega arith)
or_zero-some (b ∷ bs) p = refl

-- ---- a search for the first byte that is not zero

module _ (m : List ℕ) (i : ℕ) (h : i < length m) where
  pub trimmed-next : get_or m i 0 ≡ 0 → trimmed (drop i m) ≡ trimmed (drop (suc i) m)
  trimmed-next z = rw (drop-cons m i 0 h) (trimmed-zero (get_or m i 0) (drop (suc i) m) z)

  pub trimmed-found : 0 < get_or m i 0 → trimmed (drop i m) ≡ drop i m
  trimmed-found p = rw (drop-cons m i 0 h) (trimmed-first (get_or m i 0) (drop (suc i) m) p)
