-- The out-of-calendar mark, a term of document 02, Item 2. It follows from a timestamp's offset and UTC fields: it stands beside a value and is no part
-- of it, so equality of readings does not see it.
-- Assumes nothing.
use Rattle.std.specs.Prelude.{ℕ, ◌<◌, ◌≡◌, Bool, true, false, not, ◌&&◌, ◌||◌, List, [], ◌∷◌, ltb, leb, length, get_or, ℤ, pos, negsuc, ◌+ℤ◌}
use Rattle.std.proofs.Math.Option.{Option, none, some}
use Rattle.ion.specs.Value.{Scalar, null, bool, int, float, decimal, timestamp, symbol, string, clob, blob}
use Rattle.ion.specs.Calendar.{is_day, is_calendar_year, minute_number, minute_of}

-- A minute of the years 1 to 9999, by its number.
unfoldable pub is_calendar_minute : ℤ → Bool
is_calendar_minute (pos n) = leb (minute_number 1 1 1 0 0) n && ltb n (minute_number 10000 1 1 0 0)
is_calendar_minute (negsuc n) = false

-- Of every time of day in every year from 0 on: its minute is one of these exactly if its year is. The proof is in proofs/Years.antt.
abbrev pub YearByMinute : Type 0
YearByMinute =
    (y m d h i : ℕ) → is_day y m d ≡ true → h < 24 → i < 60 → is_calendar_minute (pos (minute_number y m d h i)) ≡ is_calendar_year y

-- Local is UTC plus offset; an unknown offset shifts nothing.
abbrev pub local_minute : Option ℤ → List ℕ → ℤ
local_minute none fs = minute_of fs
local_minute (some z) fs = minute_of fs +ℤ z

-- The UTC year, or the local year where there is a time, is outside 1 to 9999. A date alone has no local year: an offset on it does not count.
unfoldable pub out_of_calendar : Option ℤ → List ℕ → Bool
out_of_calendar offset fs = not (is_calendar_year (get_or fs 0 0)) || (leb 5 (length fs) && not (is_calendar_minute (local_minute offset fs)))

-- the mark of a scalar
abbrev pub is_marked : Scalar → Bool
is_marked (null t) = false
is_marked (bool b) = false
is_marked (int z) = false
is_marked (float x) = false
is_marked (decimal c e) = false
is_marked (timestamp offset fs x) = out_of_calendar offset fs
is_marked (symbol n) = false
is_marked (string b) = false
is_marked (clob b) = false
is_marked (blob b) = false

abbrev pub none_marked : List Scalar → Bool
none_marked [] = true
none_marked (x ∷ xs) = not (is_marked x) && none_marked xs
