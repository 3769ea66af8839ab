-- The days of a month: from the table of a year that is no leap year, and at most 31.
-- By cases on the leap year. Assumes nothing.
use Prim.Native.Nat.{ℕ, zero, suc, ◌≤◌, ◌<◌}
use native.Mathlib.Omega.{arith}
use mathlib.Core.Path.{◌≡◌, refl, sym}
use mathlib.Core.Bool.{Bool, true, false, cond, ◌&&◌}
use mathlib.Core.List.{List, [], ◌∷◌}
use borrow.Author.Tests.{eqb-true, leb-true}
use lib.Dec.{eqb, leb}
use lib.ListN.{get_or, get_or-eq_default}
use Rattle.ion.specs.Calendar.{is_leap_year, days_in_month}
use Rattle.ion.proofs.Tests.{both}

-- with so many days in February
abbrev pub days_by : ℕ → List ℕ
days_by february = 0 ∷ 31 ∷ february ∷ 31 ∷ 30 ∷ 31 ∷ 30 ∷ 31 ∷ 31 ∷ 30 ∷ 31 ∷ 30 ∷ 31 ∷ []

pub days_leap : (y m : ℕ) → (eqb m 2 && is_leap_year y) ≡ true → 29 ≡ days_in_month y m
days_leap y m e = let p = both {a = eqb m 2} e in rw (eqb-true m 2 p.0, p.1)

pub days_plain : (y m : ℕ) → (eqb m 2 && is_leap_year y) ≡ false → get_or (days_by 28) m 0 ≡ days_in_month y m
days_plain y zero e = refl
days_plain y (suc zero) e = refl
days_plain y (suc (suc zero)) e = rw e
days_plain y (suc (suc (suc m))) e = refl

pub days_none : (y m : ℕ) → 12 < m → 0 ≡ days_in_month y m
days_none y m h = sym (get_or-eq_default (days_by (cond (is_leap_year y) 29 28)) 0 {n = m} (omega arith))

-- no number of the list is above `most`
abbrev all_up_to : ℕ → List ℕ → Bool
all_up_to most [] = true
all_up_to most (x ∷ xs) = leb x most && all_up_to most xs

get_d_up_to : (most : ℕ) (xs : List ℕ) → all_up_to most xs ≡ true → (i : ℕ) → get_or xs i 0 ≤ most
get_d_up_to most [] e i = omega arith
get_d_up_to most (x ∷ xs) e zero = leb-true x most (both {a = leb x most} e).0
get_d_up_to most (x ∷ xs) e (suc i) = get_d_up_to most xs (both {a = leb x most} e).1 i

pub days_most : (y m : ℕ) → days_in_month y m ≤ 31
days_most y m = at (is_leap_year y)
  where
    at : (leap : Bool) → get_or (days_by (cond leap 29 28)) m 0 ≤ 31
    at true = get_d_up_to 31 (days_by 29) refl m
    at false = get_d_up_to 31 (days_by 28) refl m
