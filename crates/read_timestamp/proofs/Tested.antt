-- The test of the fields, by how many there are.
-- Assumes nothing.
use Prim.Native.Nat.{ℕ, zero, suc, ◌≤◌, ◌<◌}
use native.Mathlib.Omega.{arith}
use mathlib.Core.Path.{◌≡◌, refl, sym}
use mathlib.Core.Bool.{Bool, true, false, ◌&&◌, ◌||◌, false≢true, and-true, and-false, and_assoc}
use mathlib.Core.List.{[], ◌∷◌}
use lib.Dec.{ltb, leb, eqb}
use lib.ListN.{take}
use borrow.Author.Tests.{ltb-true, ltb-false, le-leb, lt-leb}
use Rattle.ion.specs.Calendar.{days_in_month, is_day}
use Rattle.ion.specs.Scalars.{is_year, are_fields}

-- ---- dates

either_false : (a b : Bool) → (a || b) ≡ false → (a ≡ false) × (b ≡ false)
either_false false false e = (refl, refl)
either_false false true e = absurd (false≢true (sym e))
either_false true b e = absurd (false≢true (sym e))

pub date_past : (y m d : ℕ) → (ltb 10000 y || ltb 12 m) ≡ true → false ≡ (is_year y && is_day y m d)
date_past y m d e = go (ltb 10000 y) (ltb 12 m) refl refl e
  where
    month : (a b : Bool) → leb m 12 ≡ false → false ≡ (a && ((leb 1 m && leb m 12) && b))
    month a b h = rw (h) (none a (leb 1 m))
      where
        none : (a c : Bool) → false ≡ (a && ((c && false) && b))
        none true true = refl
        none true false = refl
        none false c = refl

    go : (s t : Bool) → ltb 10000 y ≡ s → ltb 12 m ≡ t → (s || t) ≡ true → false ≡ (is_year y && is_day y m d)
    go true t p q e = rw (lt-leb y 10000 (ltb-true 10000 y p)) refl
    go false true p q e = month (is_year y) (leb 1 d && leb d (days_in_month y m)) (lt-leb m 12 (ltb-true 12 m q))
    go false false p q e = absurd (false≢true e)

pub date_years : (y m : ℕ) → (ltb 10000 y || ltb 12 m) ≡ false → (y ≤ 10000) × (m ≤ 12)
date_years y m e = let b = either_false (ltb 10000 y) (ltb 12 m) e in (ltb-false 10000 y b.0, ltb-false 12 m b.1)

pub date_days : (y m d n : ℕ) → (ltb 10000 y || ltb 12 m) ≡ false → n ≡ days_in_month y m → (leb 1 m && (leb 1 d && leb d n)) ≡ (is_year y && is_day y m d)
date_days y m d n e q =
    let b = date_years y m e in
    rw (q, le-leb y 10000 b.0, le-leb m 12 b.1) (kept (leb 1 m) (leb 1 d && leb d (days_in_month y m)))
  where
    kept : (a b : Bool) → (a && b) ≡ ((a && true) && b)
    kept true b = refl
    kept false b = refl

pub ruleset a_date = (date_past, date_years, date_days)

-- ---- fields

module _ (y m d h i s : ℕ) where
  pub fields_to_month : (n : ℕ) → n < 3 → (leb 1 n && (leb y 10000 && (eqb n 1 || (leb 1 m && leb m 12)))) ≡ are_fields (take n (y ∷ m ∷ d ∷ h ∷ i ∷ s ∷ []))
  unfolding are_fields
  fields_to_month zero k = refl
  fields_to_month (suc zero) k = and-true (leb y 10000)
  fields_to_month (suc (suc zero)) k = refl
  fields_to_month (suc (suc (suc n))) k = absurd (omega arith)

  pub fields-from_day : (n : ℕ) → 3 ≤ n → n ≤ 6 →
      ((is_year y && is_day y m d) && (eqb n 3 || (leb 5 n && (ltb h 24 && (ltb i 60 && (eqb n 5 || ltb s 60))))))
      ≡ are_fields (take n (y ∷ m ∷ d ∷ h ∷ i ∷ s ∷ []))
  unfolding are_fields
  fields-from_day zero k l = absurd (omega arith)
  fields-from_day (suc zero) k l = absurd (omega arith)
  fields-from_day (suc (suc zero)) k l = absurd (omega arith)
  fields-from_day (suc (suc (suc zero))) k l = and-true (is_year y && is_day y m d)
  fields-from_day (suc (suc (suc (suc zero)))) k l = and-false (is_year y && is_day y m d)
  fields-from_day (suc (suc (suc (suc (suc zero))))) k l =
      rw (and-true (ltb i 60)) (and_assoc (is_year y) (is_day y m d) (ltb h 24 && ltb i 60))
  fields-from_day (suc (suc (suc (suc (suc (suc zero)))))) k l = and_assoc (is_year y) (is_day y m d) (ltb h 24 && (ltb i 60 && ltb s 60))
  fields-from_day (suc (suc (suc (suc (suc (suc (suc n))))))) k l = absurd (omega arith)

pub ruleset some_fields = (fields_to_month, fields-from_day)
