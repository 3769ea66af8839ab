-- What the writer takes is never out of the calendar: its UTC year by check 7, its local minute since that is the UTC minute plus the offset.
-- Assumes nothing.
use Prim.Native.Nat.{ℕ, ◌≤◌}
use native.Mathlib.Omega.{arith}
use mathlib.Core.Path.{◌≡◌, ◌∙◌, ap}
use mathlib.Core.Bool.{true, false, false≢true}
use mathlib.Core.List.{List, [], ◌∷◌}
use mathlib.Core.Option.{Option, none, some}
use lib.Dec.{leb}
use lib.ListN.{length, get_or}
use lib.IntN.{ℤ, ◌+ℤ◌, -ℤ-+ℤ_cancel}
use borrow.Author.Tests.{leb-true}
use Rattle.ion.specs.Calendar.{minute_of, is_calendar_year}
use Rattle.ion.specs.Scalars.{are_fields}
use Rattle.mark.specs.OutOfCalendar.{is_calendar_minute, local_minute, out_of_calendar}
use Rattle.ion.proofs.Tests.{by_cases}
use Rattle.mark.proofs.Years.{year_by_minute}
use Rattle.encoding.specs.Timestamp.{utc, NeverMarked}
use Rattle.encoding.proofs.Rules.{is_local_year, is_timestamp_parts, passed}
use Rattle.encoding.proofs.Calendar.{minute-of, utc_is_local_minus_offset}
use Rattle.encoding.proofs.Timestamp.{day_yes, utc_length}

first_year : (fs : List ℕ) → is_local_year fs ≡ true → is_calendar_year (get_or fs 0 0) ≡ true
first_year [] e = absurd (false≢true e)
first_year (y ∷ r) e = e

-- local fields with a minute
local-minute : (fs : List ℕ) → are_fields fs ≡ true → is_local_year fs ≡ true → 5 ≤ length fs → is_calendar_minute (minute_of fs) ≡ true
local-minute fs e k h =
    let w = minute-of fs e h in
    year_by_minute (get_or fs 0 0) (get_or fs 1 0) (get_or fs 2 0) (get_or fs 3 0) (get_or fs 4 0)
    (day_yes (get_or fs 0 0) (get_or fs 1 0) (get_or fs 2 0) w.real) w.hour w.minute
    ∙ first_year fs k

-- not marked, by the UTC year and the local minute
unmarked : (o : Option ℤ) (fs : List ℕ) → is_calendar_year (get_or fs 0 0) ≡ true → (5 ≤ length fs → is_calendar_minute (local_minute o fs) ≡ true)
    → out_of_calendar o fs ≡ false
unfolding out_of_calendar
unmarked o fs e f = by_cases (leb 5 (length fs)) (λ t. rw (e, t, f (leb-true 5 (length fs) t))) (λ t. rw (e, t))

pub never-marked : NeverMarked
never-marked none fs x e =
    let a = passed none fs x e in
    unmarked none fs (first_year fs a.year) (local-minute fs a.fields a.year)
never-marked (some z) fs x e =
    let a = passed (some z) fs x e in
    unmarked (some z) (utc (some z) fs) (is_timestamp_parts (some z) fs x e).1
    (λ h. ap is_calendar_minute (ap (λ (n : ℤ). n +ℤ z) (utc_is_local_minus_offset z fs x e) ∙ -ℤ-+ℤ_cancel (minute_of fs) z)
    ∙ local-minute fs a.fields a.year (omega (arith, utc_length (some z) fs)))
