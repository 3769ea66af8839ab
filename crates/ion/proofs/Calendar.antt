-- The days before a month and before a year grow, and a year's days lie between its first and the next year's.
-- Assumes nothing.
use Prim.Native.Nat.{ℕ, zero, suc, ◌+◌, ◌-◌, ◌≤◌}
use native.Mathlib.Omega.{arith}
use native.Mathlib.Numerals.{add-one}
use mathlib.Core.Path.{◌≡◌, refl}
use Rattle.ion.specs.Calendar.{days_in_month, days_before_month, days_before_year}

pub month_next : (y m : ℕ) → days_before_month y (m + 1) ≡ days_before_month y m + days_in_month y m
unfolding days_before_month
month_next y m = rw (add-one m)

pub month_first : (y : ℕ) → days_before_month y 1 ≡ 0
unfolding days_before_month
month_first y = refl

pub year_next : (y : ℕ) → days_before_year (y + 1) ≡ days_before_year y + days_before_month y 13
unfolding days_before_year
year_next y = rw (add-one y)

pub month_later : (y m k : ℕ) → days_before_month y m ≤ days_before_month y (m + k)
unfolding days_before_month
month_later y m zero = let e : m + 0 ≡ m = omega arith in rw e (omega arith)
month_later y m (suc k) = let e : m + suc k ≡ suc (m + k) = omega arith in rw e (omega (arith, month_later y m k))

pub year_later : (y k : ℕ) → days_before_year y ≤ days_before_year (y + k)
unfolding days_before_year
year_later y zero = let e : y + 0 ≡ y = omega arith in rw e (omega arith)
year_later y (suc k) = let e : y + suc k ≡ suc (y + k) = omega arith in rw e (omega (arith, year_later y k))

pub in_year : (y m d : ℕ) → m ≤ 12 → d ≤ days_in_month y m → days_before_month y m + d ≤ days_before_month y 13
in_year y m d h k =
    let e : m + 1 + (12 - m) ≡ 13 = omega arith in
    let a : days_before_month y (m + 1) ≤ days_before_month y 13 = rw e at (month_later y (m + 1) (12 - m)) in
    omega (arith, month_next y m)
