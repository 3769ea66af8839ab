-- UTC is local minus offset: the day before and the day after are real days, one day number away, and the minutes counted through the calendar
-- differ by the offset. Assumes nothing.
use Prim.Native.Nat.{ℕ, zero, suc, ◌+◌, ◌-◌, ◌*◌, ◌%◌, ◌<◌, ◌≤◌}
use native.Mathlib.Omega.{arith}
use mathlib.Core.Path.{◌≡◌, refl, sym, ◌∙◌, ap, subst}
use mathlib.Core.Bool.{Bool, true, false, false≢true, cond, ◌&&◌}
use mathlib.Core.List.{List, [], ◌∷◌}
use mathlib.Core.Option.{some}
use lib.Dec.{ltb, leb}
use lib.ListN.{length, take, drop, get_or}
use lib.IntN.{ℤ, pos, negsuc, nat_abs, ◌-ℤ◌}
use borrow.Author.Tests.{ltb-true, ltb-false, leb-true, le-ltb}
use Rattle.ion.specs.Value.{Fraction}
use Rattle.ion.specs.Calendar.{is_leap_year, days_in_month, is_month, is_day, days_before_month, days_before_year, day_number, minute_number, minute_of}
use Rattle.ion.specs.Scalars.{are_fields}
use Rattle.ion.proofs.Tests.{by_cases, both}
use Rattle.ion.proofs.Calendar.{month_next, month_first, year_next, month_later, year_later, in_year}
use Rattle.encoding.specs.Timestamp.{Date, date, day_before, day_after, utc_minutes, utc_day, fields_at, utc, is_timestamp, UtcIsLocalMinusOffset, MinuteUnique}
use Rattle.encoding.proofs.Rules.{is_local_year, offset_fits, passed}

-- ---- real days

pub record RealDay (y m d : ℕ) : Type 0 where
  pub year : y ≤ 10000
  pub month_least : 1 ≤ m
  pub month_most : m ≤ 12
  pub day_least : 1 ≤ d
  pub day_most : d ≤ days_in_month y m

abbrev pub RealDate : Date → Type 0
RealDate (date y m d) = RealDay y m d

real : (y m d : ℕ) → y ≤ 10000 → 1 ≤ m → m ≤ 12 → 1 ≤ d → d ≤ days_in_month y m → RealDay y m d
real y m d a b c e f = record { year = a; month_least = b; month_most = c; day_least = e; day_most = f }

pub real_of : (y m d : ℕ) → leb y 10000 ≡ true → is_day y m d ≡ true → RealDay y m d
real_of y m d e f =
    let a = both {a = is_month m} f in
    let b = both {a = leb 1 m} a.0 in
    let c = both {a = leb 1 d} a.1 in
    real y m d (leb-true y 10000 e) (leb-true 1 m b.0) (leb-true m 12 b.1) (leb-true 1 d c.0) (leb-true d (days_in_month y m) c.1)

-- what holds of each entry of a table holds at an index of it
all_hold : (ℕ → Bool) → List ℕ → Bool
all_hold p [] = true
all_hold p (x ∷ xs) = p x && all_hold p xs

holds_at : (p : ℕ → Bool) (l : List ℕ) (i : ℕ) → all_hold p l ≡ true → i < length l → p (get_or l i 0) ≡ true
unfolding all_hold
holds_at p [] i e h = absurd (none i h)
  where
    none : (k : ℕ) → k < 0 → ⊥
    none k q = omega arith
holds_at p (x ∷ xs) zero e h = (both {a = p x} e).0
holds_at p (x ∷ xs) (suc i) e h = holds_at p xs i (both {a = p x} e).1 (omega arith)

abbrev in_month : ℕ → Bool
in_month d = leb 28 d && leb d 31

-- a month has 28 to 31 days
days_range : (y m : ℕ) → 1 ≤ m → m ≤ 12 → (28 ≤ days_in_month y m) × (days_in_month y m ≤ 31)
days_range y zero h k = absurd (none h)
  where
    none : 1 ≤ 0 → ⊥
    none q = omega arith
days_range y (suc m) h k = of_table (cond (is_leap_year y) 29 28) (february (is_leap_year y))
  where
    february : (leap : Bool) → in_month (cond leap 29 28) ≡ true
    february true = refl
    february false = refl

    of_table : (feb : ℕ) → in_month feb ≡ true →
        let l : List ℕ = 31 ∷ feb ∷ 31 ∷ 30 ∷ 31 ∷ 30 ∷ 31 ∷ 31 ∷ 30 ∷ 31 ∷ 30 ∷ 31 ∷ [] in (28 ≤ get_or l m 0) × (get_or l m 0 ≤ 31)
    of_table feb e =
        let l : List ℕ = 31 ∷ feb ∷ 31 ∷ 30 ∷ 31 ∷ 30 ∷ 31 ∷ 31 ∷ 30 ∷ 31 ∷ 30 ∷ 31 ∷ [] in
        let q = both {a = leb 28 (get_or l m 0)} (holds_at in_month l m (unfold all_hold in rw e) (omega arith)) in
        (leb-true 28 (get_or l m 0) q.0, leb-true (get_or l m 0) 31 q.1)

pub month_days : (y m : ℕ) → 1 ≤ m → m ≤ 12 → days_in_month y m ≤ 31
month_days y m h k = (days_range y m h k).1

before_real : (y m d : ℕ) → 1 ≤ y → RealDay y m d → RealDate (day_before y m d)
unfolding day_before
before_real y m d h g =
    by_cases (ltb 1 d)
    (λ p.
    let q : 1 < d = ltb-true 1 d p in
    rw (p, day_before) (real y m (d - 1) g.year g.month_least g.month_most (omega arith) (omega (arith, g.day_most))))
    (λ p. by_cases (ltb 1 m)
    (λ q.
    let r : 1 < m = ltb-true 1 m q in
    let n = days_range y (m - 1) (omega arith) (omega (arith, g.month_most)) in
    rw (p, day_before, q)
    (real y (m - 1) (days_in_month y (m - 1)) g.year (omega arith) (omega (arith, g.month_most)) (omega (arith, n.0)) (omega arith)))
    (λ q. rw (p, day_before, q) (real (y - 1) 12 31 (omega (arith, g.year)) (omega arith) (omega arith) (omega arith) (omega arith))))

after_real : (y m d : ℕ) → y ≤ 9999 → RealDay y m d → RealDate (day_after y m d)
unfolding day_after
after_real y m d h g =
    by_cases (ltb d (days_in_month y m))
    (λ p.
    let q : d < days_in_month y m = ltb-true d (days_in_month y m) p in
    rw (p, day_after) (real y m (d + 1) g.year g.month_least g.month_most (omega arith) (omega arith)))
    (λ p. by_cases (ltb m 12)
    (λ q.
    let r : m < 12 = ltb-true m 12 q in
    let n = days_range y (m + 1) (omega arith) (omega arith) in
    rw (p, day_after, q) (real y (m + 1) 1 g.year (omega arith) (omega arith) (omega arith) (omega (arith, n.0))))
    (λ q. rw (p, day_after, q) (real (y + 1) 1 1 (omega arith) (omega arith) (omega arith) (omega arith) (omega arith))))

pub utc_day_real : (t y m d : ℕ) → 1 ≤ y → y ≤ 9999 → RealDay y m d → RealDate (utc_day t y m d)
utc_day_real t y m d a b g =
    by_cases (ltb t 1440)
    (λ p. rw p (before_real y m d a g))
    (λ p. by_cases (ltb t 2880) (λ q. rw (p, q) g) (λ q. rw (p, q) (after_real y m d b g)))

-- ---- day numbers

abbrev number_of : Date → ℕ
number_of (date y m d) = day_number y m d

after-number : (y m d : ℕ) → RealDay y m d → number_of (day_after y m d) ≡ suc (day_number y m d)
unfolding day_after day_number
after-number y m d g =
    by_cases (ltb d (days_in_month y m))
    (λ p. rw (p, day_after) (omega arith))
    (λ p.
    let q : d ≡ days_in_month y m = omega (arith, g.day_most, ltb-false d (days_in_month y m) p) in
    by_cases (ltb m 12)
    (λ r. rw (p, day_after, r) (omega (arith, month_next y m)))
    (λ r.
    let e : m ≡ 12 = omega (arith, g.month_most, ltb-false m 12 r) in
    let a : days_before_month y m ≡ days_before_month y 12 = ap (days_before_month y) e in
    let b : d ≡ 31 = q ∙ ap (days_in_month y) e in
    rw (p, day_after, r) (omega (arith, year_next y, month_next y 12, month_first (y + 1), a, b))))

before-number : (y m d : ℕ) → 1 ≤ y → RealDay y m d → suc (number_of (day_before y m d)) ≡ day_number y m d
unfolding day_before day_number
before-number y m d h g =
    by_cases (ltb 1 d)
    (λ p. let q : 1 < d = ltb-true 1 d p in rw (p, day_before) (omega arith))
    (λ p.
    let q : d ≡ 1 = omega (arith, g.day_least, ltb-false 1 d p) in
    by_cases (ltb 1 m)
    (λ r.
    let l : 1 < m = ltb-true 1 m r in
    let e : m - 1 + 1 ≡ m = omega arith in
    let a : days_before_month y m ≡ days_before_month y (m - 1) + days_in_month y (m - 1) = ap (days_before_month y) (sym e) ∙ month_next y (m - 1) in
    rw (p, day_before, r) (omega arith))
    (λ r.
    let f : m ≡ 1 = omega (arith, g.month_least, ltb-false 1 m r) in
    let e : y - 1 + 1 ≡ y = omega arith in
    let a : days_before_year y ≡ days_before_year (y - 1) + days_before_month (y - 1) 13 = ap days_before_year (sym e) ∙ year_next (y - 1) in
    let b : days_before_month y m ≡ 0 = ap (days_before_month y) f ∙ month_first y in
    rw (p, day_before, r) (omega (arith, month_next (y - 1) 12))))

-- ---- minutes

abbrev minute_at : Date → ℕ → ℕ
minute_at x t = number_of x * 1440 + t % 1440

-- t minutes from the start of the day before are the minute t % 1440 of their day
utc_day_minute : (t y m d : ℕ) → 1 ≤ y → RealDay y m d → t < 4320 → minute_at (utc_day t y m d) t + 1440 ≡ day_number y m d * 1440 + t
utc_day_minute t y m d h g lt =
    by_cases (ltb t 1440)
    (λ p. rw p (omega (arith, ltb-true t 1440 p, before-number y m d h g)))
    (λ p.
    by_cases (ltb t 2880)
    (λ q. rw (p, q) (omega (arith, ltb-false t 1440 p, ltb-true t 2880 q)))
    (λ q. rw (p, q) (omega (arith, ltb-false t 2880 q, after-number y m d g))))

fields_minute : (x : Date) (t : ℕ) (r : List ℕ) → minute_of (fields_at x t r) ≡ pos (minute_at x t)
unfolding minute_number
fields_minute (date y m d) t r = ap pos (omega arith)

-- u is a minute of the calendar that lies local minus offset from the same day's start
minus_offset : (z : ℤ) (n h i u : ℕ) (fs : List ℕ) → offset_fits (some z) fs ≡ true → 1440 ≤ n → u + 1440 ≡ n + utc_minutes z h i →
    pos u ≡ pos (n + (h * 60 + i)) -ℤ z
minus_offset (pos zero) n h i u fs f big e = ap pos (omega arith)
minus_offset (pos (suc k)) n h i u fs f big e =
    let le : suc k ≤ 1439 = leb-true (suc k) 1439 (both {a = leb 5 (length fs)} f).1 in
    rw (le-ltb (n + (h * 60 + i)) (suc k) (omega arith)) (ap pos (omega arith))
minus_offset (negsuc k) n h i u fs f big e = ap pos (omega arith)

within_days : (z : ℤ) (h i : ℕ) (fs : List ℕ) → offset_fits (some z) fs ≡ true → h < 24 → i < 60 → utc_minutes z h i < 4320
within_days (pos k) h i fs f p q = omega arith
within_days (negsuc k) h i fs f p q = let le : suc k ≤ 1439 = leb-true (suc k) 1439 (both {a = leb 5 (length fs)} f).1 in omega arith

-- the parts of check 7 that fields with a minute pass
pub record WithMinute (y m d h i : ℕ) : Type 0 where
  pub real : RealDay y m d
  pub hour : h < 24
  pub minute : i < 60

pub with_minute : (y m d h i : ℕ) (r : List ℕ) → are_fields (y ∷ m ∷ d ∷ h ∷ i ∷ r) ≡ true → WithMinute y m d h i
unfolding are_fields
with_minute y m d h i [] e =
    let a = both {a = leb y 10000} e in
    let b = both {a = is_day y m d} a.1 in
    let c = both {a = ltb h 24} b.1 in
    record { real = real_of y m d a.0 b.0; hour = ltb-true h 24 c.0; minute = ltb-true i 60 c.1 }
with_minute y m d h i (s ∷ []) e =
    let a = both {a = leb y 10000} e in
    let b = both {a = is_day y m d} a.1 in
    let c = both {a = ltb h 24} b.1 in
    record { real = real_of y m d a.0 b.0; hour = ltb-true h 24 c.0; minute = ltb-true i 60 (both {a = ltb i 60} c.1).0 }
with_minute y m d h i (s ∷ x ∷ r) e = absurd (false≢true e)

pub local_year : (y : ℕ) (r : List ℕ) → is_local_year (y ∷ r) ≡ true → (1 ≤ y) × (y ≤ 9999)
local_year y r e = let a = both {a = leb 1 y} e in (leb-true 1 y a.0, leb-true y 9999 a.1)

-- the first day of the year 0 has the number one, so every minute has a day before it
day_positive : (y m d : ℕ) → RealDay y m d → 1440 ≤ day_number y m d * 1440
unfolding day_number
day_positive y m d g = omega (arith, g.day_least)

-- a known offset needs the minute
minute_given : (z : ℤ) (fs : List ℕ) → offset_fits (some z) fs ≡ true → 5 ≤ length fs
minute_given z fs e = leb-true 5 (length fs) (both {a = leb 5 (length fs)} e).0

-- fields with a minute, and those behind it
front : (fs : List ℕ) → 5 ≤ length fs → fs ≡ get_or fs 0 0 ∷ get_or fs 1 0 ∷ get_or fs 2 0 ∷ get_or fs 3 0 ∷ get_or fs 4 0 ∷ drop 5 fs
front [] h = absurd (omega arith)
front (y ∷ []) h = absurd (omega arith)
front (y ∷ m ∷ []) h = absurd (omega arith)
front (y ∷ m ∷ d ∷ []) h = absurd (omega arith)
front (y ∷ m ∷ d ∷ h ∷ []) k = absurd (omega arith)
front (y ∷ m ∷ d ∷ h ∷ i ∷ r) k = refl

local_minus_offset : (z : ℤ) (y m d h i : ℕ) (r : List ℕ) (x : Fraction) → is_timestamp (some z) (y ∷ m ∷ d ∷ h ∷ i ∷ r) x ≡ true →
    minute_of (utc (some z) (y ∷ m ∷ d ∷ h ∷ i ∷ r)) ≡ minute_of (y ∷ m ∷ d ∷ h ∷ i ∷ r) -ℤ z
local_minus_offset z y m d h i r x e =
    let fs = y ∷ m ∷ d ∷ h ∷ i ∷ r in
    let a = passed (some z) fs x e in
    let w = with_minute y m d h i r a.fields in
    let t = utc_minutes z h i in
    let q = utc_day_minute t y m d (local_year y (m ∷ d ∷ h ∷ i ∷ r) a.year).0 w.real (within_days z h i fs a.offset w.hour w.minute) in
    fields_minute (utc_day t y m d) t r
    ∙ minus_offset z (day_number y m d * 1440) h i (minute_at (utc_day t y m d) t) fs a.offset (day_positive y m d w.real) q
    ∙ unfold minute_number in refl

pub utc_is_local_minus_offset : UtcIsLocalMinusOffset
utc_is_local_minus_offset z fs x e =
    let q = front fs (minute_given z fs (passed (some z) fs x e).offset) in
    let v = subst (λ (l : List ℕ). is_timestamp (some z) l x ≡ true) q e in
    subst (λ (l : List ℕ). minute_of (utc (some z) l) ≡ minute_of l -ℤ z) (sym q)
    (local_minus_offset z (get_or fs 0 0) (get_or fs 1 0) (get_or fs 2 0) (get_or fs 3 0) (get_or fs 4 0) (drop 5 fs) x v)

-- ---- no other minute of the calendar has the same number, so the theorem leaves `utc` no choice

month_order : (y m d m' d' : ℕ) → RealDay y m d → RealDay y m' d' → m < m' → day_number y m d < day_number y m' d'
unfolding day_number
month_order y m d m' d' g g' lt =
    let e : m + 1 + (m' - (m + 1)) ≡ m' = omega arith in
    let a : days_before_month y (m + 1) ≤ days_before_month y m' = rw e at (month_later y (m + 1) (m' - (m + 1))) in
    omega (arith, month_next y m, g.day_most, g'.day_least)

year_order : (y m d y' m' d' : ℕ) → RealDay y m d → RealDay y' m' d' → y < y' → day_number y m d < day_number y' m' d'
unfolding day_number
year_order y m d y' m' d' g g' lt =
    let e : y + 1 + (y' - (y + 1)) ≡ y' = omega arith in
    let a : days_before_year (y + 1) ≤ days_before_year y' = rw e at (year_later (y + 1) (y' - (y + 1))) in
    omega (arith, year_next y, in_year y m d g.month_most g.day_most, g'.day_least)

-- two numbers that neither order
same_number : (m n : ℕ) → (m < n → ⊥) → (n < m → ⊥) → m ≡ n
same_number m n p q =
    by_cases (ltb m n)
    (λ e. absurd (p (ltb-true m n e)))
    (λ e. by_cases (ltb n m) (λ f. absurd (q (ltb-true n m f))) (λ f. omega (arith, ltb-false m n e, ltb-false n m f)))

day_order : (y m d d' : ℕ) → day_number y m d ≡ day_number y m d' → d ≡ d'
unfolding day_number
day_order y m d d' e = omega arith

unique_in_year : (y m d m' d' : ℕ) → RealDay y m d → RealDay y m' d' → day_number y m d ≡ day_number y m' d' → (m ≡ m') × (d ≡ d')
unique_in_year y m d m' d' g g' e =
    let b : m ≡ m' = same_number m m' (λ l. omega (arith, month_order y m d m' d' g g' l)) (λ l. omega (arith, month_order y m' d' m d g' g l)) in
    (b, day_order y m d d' (e ∙ ap (λ (k : ℕ). day_number y k d') (sym b)))

pub day_unique : (y m d y' m' d' : ℕ) → RealDay y m d → RealDay y' m' d' → day_number y m d ≡ day_number y' m' d' → (y ≡ y') × (m ≡ m') × (d ≡ d')
day_unique y m d y' m' d' g g' e =
    let a : y ≡ y' = same_number y y' (λ l. omega (arith, year_order y m d y' m' d' g g' l)) (λ l. omega (arith, year_order y' m' d' y m d g' g l)) in
    let u = unique_in_year y m d m' d' g (subst (λ (k : ℕ). RealDay k m' d') (sym a) g') (e ∙ ap (λ (k : ℕ). day_number k m' d') (sym a)) in
    (a, u.0, u.1)

same_minute : (y m d h i y' m' d' h' i' : ℕ) → WithMinute y m d h i → WithMinute y' m' d' h' i' → minute_number y m d h i ≡ minute_number y' m' d' h' i' →
    ◌≡◌ {A = List ℕ} (y ∷ m ∷ d ∷ h ∷ i ∷ []) (y' ∷ m' ∷ d' ∷ h' ∷ i' ∷ [])
unfolding minute_number
same_minute y m d h i y' m' d' h' i' w w' e =
    let a : day_number y m d ≡ day_number y' m' d' = omega (arith, w.hour, w.minute, w'.hour, w'.minute) in
    let t : h * 60 + i ≡ h' * 60 + i' = omega arith in
    let u = day_unique y m d y' m' d' w.real w'.real a in
    let p : h ≡ h' = omega (arith, w.minute, w'.minute) in
    let q : i ≡ i' = omega (arith, w.minute, w'.minute) in
    cc

module _ (fs : List ℕ) (e : are_fields fs ≡ true) (h : 5 ≤ length fs) where
  pub minute-of : WithMinute (get_or fs 0 0) (get_or fs 1 0) (get_or fs 2 0) (get_or fs 3 0) (get_or fs 4 0)
  minute-of =
      let v = subst (λ (l : List ℕ). are_fields l ≡ true) (front fs h) e in
      with_minute (get_or fs 0 0) (get_or fs 1 0) (get_or fs 2 0) (get_or fs 3 0) (get_or fs 4 0) (drop 5 fs) v

pub minute_unique : MinuteUnique
minute_unique fs gs e f p q same =
    ap (take 5) (front fs p)
    ∙ (same_minute (get_or fs 0 0) (get_or fs 1 0) (get_or fs 2 0) (get_or fs 3 0) (get_or fs 4 0) (get_or gs 0 0) (get_or gs 1 0) (get_or gs 2 0) (get_or gs 3 0) (get_or gs 4 0)
    (minute-of fs e p) (minute-of gs f q) (ap nat_abs same)
    ∙ sym (ap (take 5) (front gs q)))
