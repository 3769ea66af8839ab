-- Days counted: those before a month, from the table of a year that is no leap year, and those before a year in closed form, by induction over the year.
-- Assumes nothing.
use Prim.Native.Nat.{ℕ, zero, suc, ◌+◌, ◌-◌, ◌*◌, ◌/◌, ◌%◌, ◌≤◌, ◌<◌}
use native.Mathlib.Nat.{mod-lt, div-add-mod', add-div_right, mul-add-div_right, div-eq_of_lt}
use native.Mathlib.Omega.{arith}
use mathlib.Core.Path.{◌≡◌, refl, sym, ◌∙◌, ap}
use mathlib.Core.Bool.{Bool, true, false, false≢true, cond, ◌&&◌}
use mathlib.Core.List.{List, [], ◌∷◌}
use borrow.Author.Tests.{eqb-true, eqb-false, ltb-true, ltb-false, leb-true}
use lib.Dec.{eqb, ltb, leb}
use lib.ListN.{get_or, get_or-eq_default}
use Rattle.ion.specs.Calendar.{is_leap_year, days_in_month, days_before_month, days_before_year}
use Rattle.ion.proofs.Tests.{by_cases, both}
use Rattle.calendar.proofs.Months.{days_by}

-- ---- a test that holds of each number below n

abbrev all_below : (ℕ → Bool) → ℕ → Bool
all_below p zero = true
all_below p (suc n) = p n && all_below p n

holds_below : (p : ℕ → Bool) (n m : ℕ) → all_below p n ≡ true → m < n → p m ≡ true
holds_below p zero m e h = absurd (omega arith)
holds_below p (suc n) m e h =
    by_cases (eqb m n)
    (λ q. rw (eqb-true m n q) (both {a = p n} e).0)
    (λ q. holds_below p n m (both {a = p n} e).1 (omega (arith, eqb-false m n q)))

-- ---- days before a month

-- with so many days in February
abbrev before_by : ℕ → ℕ → ℕ
before_by february zero = 0
before_by february (suc m) = before_by february m + get_or (days_by february) m 0

before-by : (y m : ℕ) → days_before_month y m ≡ before_by (cond (is_leap_year y) 29 28) m
unfolding days_before_month
before-by y zero = refl
before-by y (suc m) = ap (◌+ days_in_month y m) (before-by y m)

-- no month behind December has days
by_past : (february k : ℕ) → before_by february (13 + k) ≡ before_by february 13
by_past february zero = refl
by_past february (suc k) =
    let next : 13 + suc k ≡ suc (13 + k) = omega arith in
    let none : get_or (days_by february) (13 + k) 0 ≡ 0 = get_or-eq_default (days_by february) 0 {n = 13 + k} (omega arith) in
    ap (before_by february) next ∙ omega (arith, by_past february k)

abbrev plain_before : List ℕ
plain_before = 0 ∷ 0 ∷ 31 ∷ 59 ∷ 90 ∷ 120 ∷ 151 ∷ 181 ∷ 212 ∷ 243 ∷ 273 ∷ 304 ∷ 334 ∷ []

by_plain : (m : ℕ) → m ≤ 12 → get_or plain_before m 0 ≡ before_by 28 m
by_plain m h = eqb-true (get_or plain_before m 0) (before_by 28 m) (holds_below (λ m. eqb (get_or plain_before m 0) (before_by 28 m)) 13 m refl (omega arith))

by_leap : (m : ℕ) → m ≤ 12 → get_or plain_before m 0 + cond (ltb 2 m) 1 0 ≡ before_by 29 m
by_leap m h =
    eqb-true (get_or plain_before m 0 + cond (ltb 2 m) 1 0) (before_by 29 m)
    (holds_below (λ m. eqb (get_or plain_before m 0 + cond (ltb 2 m) 1 0) (before_by 29 m)) 13 m refl (omega arith))

pub year_leap : (y : ℕ) → is_leap_year y ≡ true → 366 ≡ days_before_month y 13
year_leap y e = rw (before-by y 13, e)

pub year_plain : (y : ℕ) → is_leap_year y ≡ false → 365 ≡ days_before_month y 13
year_plain y e = rw (before-by y 13, e)

pub before_past : (y m : ℕ) → 12 < m → days_before_month y 13 ≡ days_before_month y m
before_past y m h =
    let e : m ≡ 13 + (m - 13) = omega arith in
    rw (e, before-by y 13, before-by y (13 + (m - 13))) (sym (by_past (cond (is_leap_year y) 29 28) (m - 13)))

pub before_leap : (y m : ℕ) → m ≤ 12 → (ltb 2 m && is_leap_year y) ≡ true → get_or plain_before m 0 + 1 ≡ days_before_month y m
before_leap y m h e =
    let b = both {a = ltb 2 m} e in
    rw (before-by y m, b.1) (rw b.0 at (by_leap m h))

pub before_plain : (y m : ℕ) → m ≤ 12 → (ltb 2 m && is_leap_year y) ≡ false → get_or plain_before m 0 ≡ days_before_month y m
before_plain y m h e =
    by_cases (is_leap_year y)
    (λ p. by_cases (ltb 2 m)
    (λ q. absurd (false≢true (sym e ∙ rw (p, q))))
    (λ q. rw (before-by y m, p) (omega (arith, rw q at (by_leap m h)))))
    (λ p. rw (before-by y m, p) (by_plain m h))

-- at most all of the year's
by_most : (m : ℕ) → m ≤ 13 → (before_by 28 m ≤ 365) × (before_by 29 m ≤ 366)
by_most m h =
    let b = both {a = leb (before_by 28 m) 365} (holds_below (λ m. leb (before_by 28 m) 365 && leb (before_by 29 m) 366) 14 m refl (omega arith)) in
    (leb-true (before_by 28 m) 365 b.0, leb-true (before_by 29 m) 366 b.1)

before_within : (y m : ℕ) → days_before_month y m ≤ days_before_month y 13
before_within y m =
    by_cases (ltb 12 m)
    (λ p. omega (arith, before_past y m (ltb-true 12 m p)))
    (λ p.
    let h : m ≤ 13 = omega (arith, ltb-false 12 m p) in
    rw (before-by y m, before-by y 13) (by_cases (is_leap_year y) (λ q. rw q (by_most m h).1) (λ q. rw q (by_most m h).0)))

pub before_most : (y m : ℕ) → days_before_month y m ≤ 366
before_most y m =
    by_cases (is_leap_year y)
    (λ p. omega (arith, before_within y m, year_leap y p))
    (λ p. omega (arith, before_within y m, year_plain y p))

pub leap_most : (y m : ℕ) → m ≤ 12 → (ltb 2 m && is_leap_year y) ≡ true → get_or plain_before m 0 + 1 ≤ 366
leap_most y m h e = omega (arith, before_leap y m h e, before_most y m)

-- ---- days before a year

-- the numbers below y that d divides, d being suc k, are y / d rounded up: y itself adds one where d divides it
rounded_next : (k y : ℕ) → (suc y + k) / suc k ≡ (y + k) / suc k + cond (eqb (y % suc k) 0) 1 0
rounded_next k y =
    let q = y / suc k in
    let r = y % suc k in
    let lt : r < suc k = mod-lt y (omega arith) in
    let whole : y + k ≡ q * suc k + (r + k) = omega (arith, div-add-mod' y (suc k)) in
    let next : (suc y + k) / suc k ≡ q + 1 = ap (◌/ suc k) (omega arith) ∙ add-div_right y (omega arith) in
    let this : (y + k) / suc k ≡ q + (r + k) / suc k = ap (◌/ suc k) whole ∙ mul-add-div_right (omega arith) q (r + k) in
    rw (next, this)
    (by_cases (eqb r 0)
    (λ p.
    let none : (r + k) / suc k ≡ 0 = div-eq_of_lt (omega (arith, eqb-true r 0 p)) in
    rw (p, none) (omega arith))
    (λ p.
    let one : (r + k) / suc k ≡ (r - 1) / suc k + 1 = ap (◌/ suc k) (omega (arith, eqb-false r 0 p)) ∙ add-div_right (r - 1) (omega arith) in
    let none : (r - 1) / suc k ≡ 0 = div-eq_of_lt (omega arith) in
    rw (p, one, none) (omega arith)))

-- which of the three divide y
year_days : (y : ℕ) → days_before_month y 13 + cond (eqb (y % 100) 0) 1 0 ≡ 365 + cond (eqb (y % 4) 0) 1 0 + cond (eqb (y % 400) 0) 1 0
year_days y =
    by_cases (eqb (y % 4) 0)
    (λ p. by_cases (eqb (y % 100) 0)
    (λ q. by_cases (eqb (y % 400) 0) (λ r. rw (← year_leap y (rw (p, q, r)), p, q, r)) (λ r. rw (← year_plain y (rw (p, q, r)), p, q, r)))
    (λ q. by_cases (eqb (y % 400) 0)
    (λ r. absurd (omega (arith, eqb-false (y % 100) 0 q, eqb-true (y % 400) 0 r)))
    (λ r. rw (← year_leap y (rw (p, q)), p, q, r))))
    (λ p. by_cases (eqb (y % 100) 0)
    (λ q. absurd (omega (arith, eqb-false (y % 4) 0 p, eqb-true (y % 100) 0 q)))
    (λ q. by_cases (eqb (y % 400) 0)
    (λ r. absurd (omega (arith, eqb-false (y % 4) 0 p, eqb-true (y % 400) 0 r)))
    (λ r. rw (← year_plain y (rw p), p, q, r))))

pub years_counted : (y : ℕ) → days_before_year y + (y + 99) / 100 ≡ 365 * y + (y + 3) / 4 + (y + 399) / 400
unfolding days_before_year
years_counted zero = refl
years_counted (suc y) = rw (rounded_next 3 y, rounded_next 99 y, rounded_next 399 y) (omega (arith, years_counted y, year_days y))

pub years_most : (y : ℕ) → days_before_year y ≤ 366 * y
years_most y = omega (arith, years_counted y)
