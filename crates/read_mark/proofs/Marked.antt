-- The mark by the fields that a timestamp has: by the UTC year, with no time, and with a time.
-- By cases on the count of fields. Assumes nothing.
use Prim.Native.Nat.{ℕ, zero, suc, ◌+◌, ◌≤◌, ◌<◌}
use native.Mathlib.Omega.{arith}
use mathlib.Core.Path.{◌≡◌, refl, sym, ◌∙◌, subst}
use mathlib.Core.Bool.{true, false, false≢true, not, ◌||◌}
use mathlib.Core.List.{List, [], ◌∷◌}
use mathlib.Core.Option.{Option, none}
use borrow.Author.Tests.{ltb-true, ltb-false, leb-true, lt-leb, le-leb}
use lib.Dec.{ltb, leb}
use lib.ListN.{length, take}
use lib.Seq.{take-nil}
use lib.IntN.{ℤ, pos, ◌+ℤ◌}
use Rattle.ion.specs.Value.{Signed, signed}
use Rattle.ion.specs.Fields.{number}
use Rattle.ion.specs.Calendar.{days_in_month, is_month, is_day, is_calendar_year, minute_number}
use Rattle.ion.specs.Scalars.{is_year, offset_of, are_fields}
use Rattle.mark.specs.OutOfCalendar.{is_calendar_minute, local_minute, out_of_calendar}
use Rattle.ion.proofs.Tests.{by_cases, both}
use Rattle.reading.specs.declared.Fields.{Fields}
use Rattle.reading.specs.Told.{fields_told}
use Rattle.mark.proofs.Years.{year_by_minute}
use Rattle.calendar.proofs.Months.{days_most}

-- ---- the year

year_outside : (y : ℕ) → (ltb y 1 || ltb 9999 y) ≡ true → is_calendar_year y ≡ false
year_outside y e =
    by_cases (ltb y 1)
    (λ p. rw (lt-leb 1 y (ltb-true y 1 p)))
    (λ p.
    let q : ltb 9999 y ≡ true = rw p at e in
    rw (le-leb 1 y (ltb-false y 1 p), lt-leb y 9999 (ltb-true 9999 y q)))

pub year_inside : (y : ℕ) → (ltb y 1 || ltb 9999 y) ≡ false → (1 ≤ y) × (y ≤ 9999)
year_inside y e =
    by_cases (ltb y 1)
    (λ p. absurd (false≢true (sym e ∙ rw p)))
    (λ p. (ltb-false y 1 p, ltb-false 9999 y (rw p at e)))

-- an unknown offset is negative zero, and shifts nothing
local_shifted : (o : Signed) (y m d h i : ℕ) (r : List ℕ) → local_minute (offset_of o) (y ∷ m ∷ d ∷ h ∷ i ∷ r) ≡ pos (minute_number y m d h i) +ℤ number o
local_shifted (signed false n) y m d h i r = refl
local_shifted (signed true zero) y m d h i r = let e : minute_number y m d h i + 0 ≡ minute_number y m d h i = omega arith in rw e
local_shifted (signed true (suc n)) y m d h i r = refl

module _ (y m d h i s : ℕ) where
  abbrev six : List ℕ
  six = y ∷ m ∷ d ∷ h ∷ i ∷ s ∷ []

  pub marked_year : (o : Option ℤ) (n : ℕ) → are_fields (take n six) ≡ true → (ltb y 1 || ltb 9999 y) ≡ true → out_of_calendar o (take n six) ≡ true
  unfolding are_fields out_of_calendar
  marked_year o zero e f = absurd (false≢true e)
  marked_year o (suc n) e f = rw (year_outside y f)

  inside : (ltb y 1 || ltb 9999 y) ≡ false → is_calendar_year y ≡ true
  inside f = let b = year_inside y f in rw (le-leb 1 y b.0, le-leb y 9999 b.1)

  pub unmarked_date : (o : Option ℤ) (n : ℕ) → are_fields (take n six) ≡ true → (ltb y 1 || ltb 9999 y) ≡ false → n < 5 → out_of_calendar o (take n six) ≡ false
  unfolding are_fields out_of_calendar
  unmarked_date o zero e f k = absurd (false≢true e)
  unmarked_date o (suc zero) e f k = rw (inside f)
  unmarked_date o (suc (suc zero)) e f k = rw (inside f)
  unmarked_date o (suc (suc (suc zero))) e f k = rw (inside f)
  unmarked_date o (suc (suc (suc (suc zero)))) e f k = rw (inside f)
  unmarked_date o (suc (suc (suc (suc (suc n))))) e f k = absurd (omega arith)

  timed : (o : Option ℤ) (n : ℕ) → (ltb y 1 || ltb 9999 y) ≡ false → 5 ≤ n
      → (fs : List ℕ) × (out_of_calendar o (take n six) ≡ not (is_calendar_minute (local_minute o (y ∷ m ∷ d ∷ h ∷ i ∷ fs))))
  unfolding out_of_calendar
  timed o zero f k = absurd (omega arith)
  timed o (suc zero) f k = absurd (omega arith)
  timed o (suc (suc zero)) f k = absurd (omega arith)
  timed o (suc (suc (suc zero))) f k = absurd (omega arith)
  timed o (suc (suc (suc (suc zero)))) f k = absurd (omega arith)
  timed o (suc (suc (suc (suc (suc n))))) f k =
      let fs = take n (s ∷ []) in
      (fs, rw (inside f, le-leb 5 (length (y ∷ m ∷ d ∷ h ∷ i ∷ fs)) (omega arith)) refl)

  pub marked_time : (o : Signed) (n : ℕ) → (ltb y 1 || ltb 9999 y) ≡ false → 5 ≤ n
      → out_of_calendar (offset_of o) (take n six) ≡ not (is_calendar_minute (pos (minute_number y m d h i) +ℤ number o))
  marked_time o n f k = let t = timed (offset_of o) n f k in rw (t.1, local_shifted o y m d h i t.0) refl

  -- ---- what the fields tell where there is a time

  pub record Time : Type 0 where
    pub real : is_day y m d ≡ true
    pub month : m ≤ 12
    pub day : d ≤ 31
    pub hour : h < 24
    pub minute : i < 60

  time_of : is_day y m d ≡ true → ltb h 24 ≡ true → ltb i 60 ≡ true → Time
  time_of e f g =
      let b = both {a = is_month m} e in
      let c = both {a = leb 1 d} b.1 in
      record {
        real = e;
        month = leb-true m 12 (both {a = leb 1 m} b.0).1;
        day = omega (arith, leb-true d (days_in_month y m) c.1, days_most y m);
        hour = ltb-true h 24 f;
        minute = ltb-true i 60 g;
      }

  pub time : (n : ℕ) → are_fields (take n six) ≡ true → 5 ≤ n → Time
  unfolding are_fields
  time zero e k = absurd (omega arith)
  time (suc zero) e k = absurd (omega arith)
  time (suc (suc zero)) e k = absurd (omega arith)
  time (suc (suc (suc zero))) e k = absurd (omega arith)
  time (suc (suc (suc (suc zero)))) e k = absurd (omega arith)
  time (suc (suc (suc (suc (suc zero))))) e k =
      let a = both {a = is_year y} e in
      let b = both {a = is_day y m d} a.1 in
      let c = both {a = ltb h 24} b.1 in
      time_of b.0 c.0 c.1
  time (suc (suc (suc (suc (suc (suc n)))))) e k =
      let a = both {a = is_year y} (subst (λ (l : List ℕ). are_fields (y ∷ m ∷ d ∷ h ∷ i ∷ s ∷ l) ≡ true) (take-nil n) e) in
      let b = both {a = is_day y m d} a.1 in
      let c = both {a = ltb h 24} b.1 in
      time_of b.0 c.0 (both {a = ltb i 60} c.1).0

  pub utc_inside : (n : ℕ) → are_fields (take n six) ≡ true → (ltb y 1 || ltb 9999 y) ≡ false → 5 ≤ n → is_calendar_minute (pos (minute_number y m d h i)) ≡ true
  utc_inside n e f k =
      let t = time n e k in
      year_by_minute y m d h i t.real t.hour t.minute ∙ inside f

  -- no offset is known: the UTC year is the local one
  pub unmarked_unknown : (n : ℕ) → are_fields (take n six) ≡ true → (ltb y 1 || ltb 9999 y) ≡ false → out_of_calendar none (take n six) ≡ false
  unmarked_unknown n e f =
      by_cases (ltb n 5)
      (λ p. unmarked_date none n e f (ltb-true n 5 p))
      (λ p. let k = ltb-false n 5 p in rw ((timed none n f k).1, utc_inside n e f k) refl)

pub ruleset marks = (marked_year, unmarked_date, unmarked_unknown, marked_time)

-- ---- by the fields that are read

pub time_is : (f : Fields) → are_fields (fields_told f) ≡ true → 5 ≤ f.count → Time f.year f.month f.day f.hour f.minute f.second
time_is f e k = time f.year f.month f.day f.hour f.minute f.second f.count e k

pub calendar_time : (f : Fields) → are_fields (fields_told f) ≡ true → (ltb f.year 1 || ltb 9999 f.year) ≡ false → 5 ≤ f.count
    → is_calendar_minute (pos (minute_number f.year f.month f.day f.hour f.minute)) ≡ true
calendar_time f e g k = utc_inside f.year f.month f.day f.hour f.minute f.second f.count e g k
