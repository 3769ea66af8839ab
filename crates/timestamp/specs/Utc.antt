-- A Timestamp with its UTC fields.
-- Assumes nothing.
use Rattle.std.specs.Prelude.{true, false, List, ℕ, get_or}
use Rattle.encoding.specs.Timestamp.{date, utc, is_timestamp}
use Rattle.encoding.specs.Timestamp.{Date as CalendarDate}
use Rattle.timestamp.specs.declared.Date.{Date}
use Rattle.timestamp.specs.declared.Timestamp.{Timestamp}
use Rattle.timestamp.specs.Arguments.{offset_minutes, fraction_digits, fields_of}

abbrev pub date_of : Date → CalendarDate
date_of x = date x.year x.month x.day

-- these fields, from the year down, in the place of its own
unfoldable pub with_fields : Timestamp → List ℕ → Timestamp
with_fields t fs =
    record {
      precision = t.precision;
      year = get_or fs 0 t.year;
      month = get_or fs 1 t.month;
      day = get_or fs 2 t.day;
      hour = get_or fs 3 t.hour;
      minute = get_or fs 4 t.minute;
      second = get_or fs 5 t.second;
      offset = t.offset;
      fraction = t.fraction;
    }

abbrev pub in_utc : Timestamp → Timestamp
in_utc t = with_fields t (utc (offset_minutes t.offset) (fields_of t))

-- with its UTC fields, if it passes check 7; any other as it is
unfoldable pub utc_of : Timestamp → Timestamp
utc_of t = elim (is_timestamp (offset_minutes t.offset) (fields_of t) (fraction_digits t.fraction)) [ true ↦ in_utc t | false ↦ t ]
