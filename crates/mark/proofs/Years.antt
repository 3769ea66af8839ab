-- A minute is one of the years 1 to 9999 exactly if its year is, by the first minute of each year.
-- Assumes nothing.
use Prim.Native.Nat.{ℕ, ◌+◌, ◌-◌, ◌*◌, ◌<◌, ◌≤◌}
use native.Mathlib.Omega.{arith}
use mathlib.Core.Path.{◌≡◌, sym, ◌∙◌}
use mathlib.Core.Bool.{true}
use lib.Dec.{ltb, leb}
use borrow.Author.Tests.{leb-true, ltb-true, ltb-false, leb-false, le-leb, lt-leb, lt-ltb, le-ltb}
use Rattle.ion.specs.Calendar.{days_in_month, is_month, is_day, days_before_year, day_number, minute_number}
use Rattle.ion.proofs.Tests.{by_cases, both}
use Rattle.ion.proofs.Calendar.{month_first, year_next, year_later, in_year}
use Rattle.mark.specs.OutOfCalendar.{is_calendar_minute, YearByMinute}

first_minute : (k : ℕ) → minute_number k 1 1 0 0 ≡ (days_before_year k + 1) * 1440
unfolding minute_number day_number
first_minute k = omega (arith, month_first k)

module _ (y m d h i : ℕ) (e : is_day y m d ≡ true) (p : h < 24) (q : i < 60) where
  from_first : (days_before_year y + 1) * 1440 ≤ minute_number y m d h i
  unfolding minute_number day_number
  from_first = let a = both {a = leb 1 d} (both {a = is_month m} e).1 in omega (arith, leb-true 1 d a.0)

  to_next : minute_number y m d h i < (days_before_year (y + 1) + 1) * 1440
  unfolding minute_number day_number
  to_next =
      let a = both {a = is_month m} e in
      let k = leb-true m 12 (both {a = leb 1 m} a.0).1 in
      let l = leb-true d (days_in_month y m) (both {a = leb 1 d} a.1).1 in
      omega (arith, year_next y, in_year y m d k l)

  -- a minute is before a year exactly if its own year is
  in_earlier : (k : ℕ) → y < k → minute_number y m d h i < minute_number k 1 1 0 0
  in_earlier k lt =
      let a : y + 1 + (k - (y + 1)) ≡ k = omega arith in
      let b : days_before_year (y + 1) ≤ days_before_year k = rw a at (year_later (y + 1) (k - (y + 1))) in
      omega (arith, first_minute k, to_next)

  in_later : (k : ℕ) → k ≤ y → minute_number k 1 1 0 0 ≤ minute_number y m d h i
  in_later k le =
      let a : k + (y - k) ≡ y = omega arith in
      let b : days_before_year k ≤ days_before_year y = rw a at (year_later k (y - k)) in
      omega (arith, first_minute k, from_first)

  from_year : (k : ℕ) → leb (minute_number k 1 1 0 0) (minute_number y m d h i) ≡ leb k y
  from_year k =
      by_cases (leb k y)
      (λ t. le-leb (minute_number k 1 1 0 0) (minute_number y m d h i) (in_later k (leb-true k y t)) ∙ sym t)
      (λ t. lt-leb (minute_number k 1 1 0 0) (minute_number y m d h i) (in_earlier k (leb-false k y t)) ∙ sym t)

  before_year : (k : ℕ) → ltb (minute_number y m d h i) (minute_number k 1 1 0 0) ≡ ltb y k
  before_year k =
      by_cases (ltb y k)
      (λ t. lt-ltb (minute_number y m d h i) (minute_number k 1 1 0 0) (in_earlier k (ltb-true y k t)) ∙ sym t)
      (λ t. le-ltb (minute_number y m d h i) (minute_number k 1 1 0 0) (in_later k (ltb-false y k t)) ∙ sym t)

last_year : (y : ℕ) → ltb y 10000 ≡ leb y 9999
last_year y =
    by_cases (leb y 9999) (λ t. lt-ltb y 10000 (omega (arith, leb-true y 9999 t)) ∙ sym t)
    (λ t. le-ltb y 10000 (omega (arith, leb-false y 9999 t)) ∙ sym t)

pub year_by_minute : YearByMinute
unfolding is_calendar_minute
year_by_minute y m d h i e p q = rw (from_year y m d h i e p q 1, before_year y m d h i e p q 10000, last_year y)
