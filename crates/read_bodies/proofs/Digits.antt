-- A big-endian number at a place of a body, one digit at a time.
-- Assumes nothing.
use Prim.Native.Nat.{ℕ, ◌+◌, ◌*◌, ◌^◌, ◌≤◌, ◌<◌}
use native.Mathlib.Omega.{arith}
use mathlib.Core.Path.{◌≡◌, refl, sym, ap, ◌∙◌}
use mathlib.Core.List.{List, [], ◌∷◌}
use lib.ListN.{length, get_or, drop}
use lib.Dec.{eqb}
use borrow.Author.Tests.{lt-ltb, le-ltb, eqb-true, eqb-false, ne_eqb}
use Rattle.std.specs.List.{list_all}
use Rattle.ion.specs.Fields.{big_endian, uint}
use Rattle.ion.proofs.Bytes.{drop-next}
use Rattle.ion.proofs.Tests.{by_cases}
use Rattle.std.specs.Prelude.{Option, Some, None}
use Rattle.std.proofs.lemmas.Iterator.{YieldsList}
use Rattle.read_bodies.specs.Places.{small}

-- the number is at least what its digits so far make
pub digits_least : (acc : ℕ) (l : List ℕ) → acc ≤ big_endian acc l
unfolding big_endian
digits_least acc [] = omega arith
digits_least acc (b ∷ bs) = omega (arith, digits_least (acc * 256 + b) bs)

-- ---- what an iterator still yields

module _ {S A : Type 0} {steps : S → Option A → S → Type 0} {v : A → ℕ} {t : S} where
  pub digit_next : (left : List ℕ) → YieldsList steps v t left → (x : A) (u : S) → steps t (Some x) u → (more : List ℕ) × (left ≡ v x ∷ more) × YieldsList steps v u more
  digit_next [] e x u p = absurd (e.runs x u p)
  digit_next (b ∷ bs) e x u p = let m = e.runs.1 x u p in (bs, ap (λ k. k ∷ bs) (sym m.0), record { runs = m.1 })

  pub digit_none : (left : List ℕ) → YieldsList steps v t left → (u : S) → steps t None u → left ≡ []
  digit_none [] e u p = refl
  digit_none (b ∷ bs) e u p = absurd (e.runs.0 u p)

module _ (acc b : ℕ) {left : List ℕ} (more : List ℕ) (is : left ≡ b ∷ more) where
  pub digit_more : (n : ℕ) → n ≡ acc * 256 + b → small (big_endian acc left) ≡ small (big_endian n more)
  unfolding big_endian
  digit_more n e = ap (λ l. small (big_endian acc l)) is ∙ ap (λ k. small (big_endian k more)) (sym e)

  pub digit_past : 2 ^ 64 ≤ acc * 256 → small (big_endian acc left) ≡ None
  unfolding big_endian
  digit_past h =
      let n = acc * 256 + b in
      ap (λ l. small (big_endian acc l)) is ∙ rw (le-ltb (big_endian n more) (2 ^ 64) (omega (arith, digits_least n more))) refl

pub digits_out : (acc : ℕ) (left : List ℕ) → left ≡ [] → acc < 2 ^ 64 → small (big_endian acc left) ≡ Some acc
unfolding big_endian
digits_out acc left is h = ap (λ l. small (big_endian acc l)) is ∙ rw (lt-ltb acc (2 ^ 64) h) refl

-- ---- zero bytes

pub all_zero : (l : List ℕ) → list_all (λ b. eqb b 0) l ≡ eqb (uint l) 0
unfolding big_endian
all_zero [] = refl
all_zero (b ∷ bs) =
    by_cases (eqb b 0)
    (λ p. rw (p, eqb-true b 0 p) (all_zero bs))
    (λ p.
    let h : 0 < b = (let d : b ≡ 0 → ⊥ = eqb-false b 0 p in omega arith) in
    let k : 0 < big_endian (0 * 256 + b) bs = omega (arith, digits_least (0 * 256 + b) bs) in
    rw p (sym (ne_eqb (big_endian (0 * 256 + b) bs) 0 (λ e. omega arith))))

pub not_zero : (s : List ℕ) (i b : ℕ) → i < length s → b ≡ get_or s i 0 → 0 < b → 0 < big_endian 0 (drop i s)
unfolding big_endian
not_zero s i b inside is h = rw (drop-next s i inside, ← is) (omega (arith, digits_least (0 * 256 + b) (drop (i + 1) s)))
