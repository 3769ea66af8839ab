-- The Gregorian calendar, and the days and minutes counted through it.
-- Assumes nothing.
use Rattle.std.specs.Prelude.{ℕ, zero, suc, ◌+◌, ◌*◌, ◌%◌, Bool, cond, ◌&&◌, ◌||◌, not, List, [], ◌∷◌, leb, eqb, get_or, ℤ, pos}

abbrev pub is_leap_year : ℕ → Bool
is_leap_year y = eqb (y % 4) 0 && (not (eqb (y % 100) 0) || eqb (y % 400) 0)

-- none for a month that is not
abbrev pub days_in_month : ℕ → ℕ → ℕ
days_in_month y m = get_or (0 ∷ 31 ∷ cond (is_leap_year y) 29 28 ∷ 31 ∷ 30 ∷ 31 ∷ 30 ∷ 31 ∷ 31 ∷ 30 ∷ 31 ∷ 30 ∷ 31 ∷ []) m 0

abbrev pub is_month : ℕ → Bool
is_month m = leb 1 m && leb m 12

abbrev pub is_day : ℕ → ℕ → ℕ → Bool
is_day y m d = is_month m && (leb 1 d && leb d (days_in_month y m))

-- The years that a timestamp in Ion text can have, and all that the writer takes.
abbrev pub is_calendar_year : ℕ → Bool
is_calendar_year y = leb 1 y && leb y 9999

-- ---- the days before a date, counted from the first of January of the year 0

unfoldable pub days_before_month : ℕ → ℕ → ℕ
days_before_month y zero = 0
days_before_month y (suc m) = days_before_month y m + days_in_month y m

unfoldable pub days_before_year : ℕ → ℕ
days_before_year zero = 0
days_before_year (suc y) = days_before_year y + days_before_month y 13

-- the day's number, one for the first of January of the year 0
unfoldable pub day_number : ℕ → ℕ → ℕ → ℕ
day_number y m d = days_before_year y + days_before_month y m + d

-- the number of the minute i of the hour h of a day
unfoldable pub minute_number : ℕ → ℕ → ℕ → ℕ → ℕ → ℕ
minute_number y m d h i = day_number y m d * 1440 + (h * 60 + i)

-- the minute of fields that have one, from the year down
abbrev pub minute_of : List ℕ → ℤ
minute_of fs = pos (minute_number (get_or fs 0 0) (get_or fs 1 0) (get_or fs 2 0) (get_or fs 3 0) (get_or fs 4 0))
