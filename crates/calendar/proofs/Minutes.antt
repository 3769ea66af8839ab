-- The minutes of the years 1 to 9999: the first of them, and the first behind them.
-- Assumes nothing.
use native.Mathlib.Omega.{arith}
use mathlib.Core.Path.{◌≡◌, refl}
use Rattle.ion.specs.Calendar.{days_before_month, days_before_year, day_number, minute_number}
use Rattle.calendar.proofs.Counted.{years_counted}

pub first_minute : minute_number 1 1 1 0 0 ≡ 528480
unfolding minute_number day_number days_before_year days_before_month
first_minute = refl

pub limit_minute : minute_number 10000 1 1 0 0 ≡ 5259493440
unfolding minute_number day_number days_before_month
limit_minute = omega (arith, years_counted 10000)
