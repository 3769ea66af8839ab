-- The out-of-calendar mark of timestamps at the ends of the calendar: document 02, Item 2. Computation. Assumes nothing.
use Prim.Native.Nat.{ℕ, ◌^◌, ◌-◌}
use mathlib.Core.Path.{◌≡◌, refl}
use mathlib.Core.Bool.{Bool, true, false}
use mathlib.Core.List.{List, [], ◌∷◌, map}
use mathlib.Core.Option.{Option, none, some}
use lib.IntN.{ℤ, pos, negsuc}
use Rattle.ion.specs.Value.{no_fraction, timestamp}
use Rattle.ion.specs.Calendar.{days_before_month, days_before_year, day_number, minute_number}
use Rattle.mark.specs.OutOfCalendar.{is_calendar_minute, out_of_calendar, is_marked}

-- offset, UTC fields, and whether they are marked
abbrev marks : List (Option ℤ × List ℕ × Bool)
marks =
    -- the UTC year, at every precision
    (none, 0 ∷ [], true)
    ∷ (none, 1 ∷ [], false)
    ∷ (none, 9999 ∷ 12 ∷ [], false)
    ∷ (none, 10000 ∷ 1 ∷ [], true)
    ∷ (none, 0 ∷ 2 ∷ 29 ∷ [], true)
    -- a date alone has no local year
    ∷ (some (pos 1440), 9999 ∷ 12 ∷ 31 ∷ [], false)
    ∷ (some (negsuc 1439), 1 ∷ 1 ∷ 1 ∷ [], false)
    -- the first minute of the year 1, and the last of the year 9999
    ∷ (none, 1 ∷ 1 ∷ 1 ∷ 0 ∷ 0 ∷ [], false)
    ∷ (some (pos 0), 1 ∷ 1 ∷ 1 ∷ 0 ∷ 0 ∷ [], false)
    ∷ (some (negsuc 0), 1 ∷ 1 ∷ 1 ∷ 0 ∷ 0 ∷ [], true)
    ∷ (some (pos 0), 9999 ∷ 12 ∷ 31 ∷ 23 ∷ 59 ∷ 59 ∷ [], false)
    ∷ (some (pos 1), 9999 ∷ 12 ∷ 31 ∷ 23 ∷ 59 ∷ 59 ∷ [], true)
    ∷ (none, 9999 ∷ 12 ∷ 31 ∷ 23 ∷ 59 ∷ [], false)
    -- a UTC year that the offset would bring back
    ∷ (some (pos 1), 0 ∷ 12 ∷ 31 ∷ 23 ∷ 59 ∷ [], true)
    ∷ (some (negsuc 0), 10000 ∷ 1 ∷ 1 ∷ 0 ∷ 0 ∷ [], true)
    -- all 5258964960 minutes of the calendar, and one more
    ∷ (some (pos 5258964959), 1 ∷ 1 ∷ 1 ∷ 0 ∷ 0 ∷ [], false)
    ∷ (some (pos 5258964960), 1 ∷ 1 ∷ 1 ∷ 0 ∷ 0 ∷ [], true)
    ∷ (some (negsuc 5258964958), 9999 ∷ 12 ∷ 31 ∷ 23 ∷ 59 ∷ [], false)
    ∷ (some (negsuc 5258964959), 9999 ∷ 12 ∷ 31 ∷ 23 ∷ 59 ∷ [], true)
    -- before the year 0, and at the ends of signed 64 bits
    ∷ (some (negsuc 527040), 1 ∷ 1 ∷ 1 ∷ 0 ∷ 0 ∷ [], true)
    ∷ (some (pos (2 ^ 63 - 1)), 2000 ∷ 1 ∷ 1 ∷ 0 ∷ 0 ∷ [], true)
    ∷ (some (negsuc (2 ^ 63 - 1)), 2000 ∷ 1 ∷ 1 ∷ 0 ∷ 0 ∷ [], true)
    ∷ []

pub marks-answered : map (λ (c : Option ℤ × List ℕ × Bool). is_marked (timestamp c.0 c.1 no_fraction)) marks
    ≡ map (λ (c : Option ℤ × List ℕ × Bool). c.2) marks
unfolding out_of_calendar is_calendar_minute minute_number day_number days_before_year days_before_month
marks-answered = refl
