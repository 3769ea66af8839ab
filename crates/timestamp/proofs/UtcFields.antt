-- Local minus offset: the fields that the UTC minute makes, and the UTC year, which decides check 7 once the local rules are kept.
-- By the cases of each definition. Assumes nothing.
use Prim.Native.Nat.{ℕ, ◌≤◌}
use native.Mathlib.Omega.{arith}
use mathlib.Core.Path.{◌≡◌, refl, sym, ◌∙◌, ap}
use mathlib.Core.Bool.{true, false}
use mathlib.Core.List.{List, [], ◌∷◌}
use mathlib.Core.Option.{Option, none, some}
use Rattle.std.specs.Prelude.{Some, None}
use Rattle.std.specs.Prelude.{Option as RustOption}
use lib.ListN.{get_or}
use lib.IntN.{ℤ}
use Rattle.ion.specs.Value.{Fraction}
use Rattle.ion.specs.Calendar.{is_calendar_year}
use Rattle.encoding.specs.Timestamp.{Date, date, utc_minutes, utc_day, fields_at, utc_fields, utc, is_local_timestamp, is_timestamp}
use Rattle.encoding.proofs.Rules.{is_local_year, is_utc_year, is_timestamp-local, passed-local}
use Rattle.timestamp.specs.declared.Precision.{Precision}
use Rattle.timestamp.specs.declared.Precision.TheVariants.{Year, Month, Day, Minute, Second}
use Rattle.timestamp.specs.declared.Timestamp.{Timestamp}
use Rattle.timestamp.specs.Arguments.{offset_minutes, fraction_digits, field_count, fields_by, fields_of}
use Rattle.timestamp.specs.Utc.{with_fields, in_utc, utc_of}

-- the second stays
with_fields_second : (t : Timestamp) (x : Date) (n : ℕ) → with_fields t (fields_at x n []) ≡ with_fields t (fields_at x n (t.second ∷ []))
unfolding with_fields
with_fields_second t (date y m d) n = refl

utc_at_minute : (t : Timestamp) (p : Precision) (z : ℤ) → 5 ≤ field_count p →
    with_fields t (utc_fields (utc_minutes z t.hour t.minute) t.year t.month t.day [])
    ≡ with_fields t (utc (some z) (fields_by p t.year t.month t.day t.hour t.minute t.second))
utc_at_minute t Year z h = absurd (omega arith)
utc_at_minute t Month z h = absurd (omega arith)
utc_at_minute t Day z h = absurd (omega arith)
utc_at_minute t Minute z h = refl
utc_at_minute t Second z h =
    with_fields_second t (utc_day (utc_minutes z t.hour t.minute) t.year t.month t.day) (utc_minutes z t.hour t.minute)

with_fields-same : (t : Timestamp) (p : Precision) → t ≡ with_fields t (fields_by p t.year t.month t.day t.hour t.minute t.second)
unfolding with_fields
with_fields-same t Year = refl
with_fields-same t Month = refl
with_fields-same t Day = refl
with_fields-same t Minute = refl
with_fields-same t Second = refl

-- the first field is there, so no other year stands in for it
fields_at-first : (x : Date) (n : ℕ) (r : List ℕ) (k : ℕ) → get_or (fields_at x n r) 0 k ≡ get_or (fields_at x n r) 0 0
fields_at-first (date y m d) n r k = refl

utc_first : (p : Precision) (y m d h i s : ℕ) (z : ℤ) (k : ℕ)
    → get_or (utc (some z) (fields_by p y m d h i s)) 0 k ≡ get_or (utc (some z) (fields_by p y m d h i s)) 0 0
utc_first Year y m d h i s z k = refl
utc_first Month y m d h i s z k = refl
utc_first Day y m d h i s z k = refl
utc_first Minute y m d h i s z k = let n = utc_minutes z h i in fields_at-first (utc_day n y m d) n [] k
utc_first Second y m d h i s z k = let n = utc_minutes z h i in fields_at-first (utc_day n y m d) n (s ∷ []) k

fields-first : (p : Precision) (y m d h i s k : ℕ) → is_local_year (fields_by p y m d h i s) ≡ true → is_calendar_year (get_or (fields_by p y m d h i s) 0 k) ≡ true
fields-first Year y m d h i s k e = e
fields-first Month y m d h i s k e = e
fields-first Day y m d h i s k e = e
fields-first Minute y m d h i s k e = e
fields-first Second y m d h i s k e = e

first_year : (p : Precision) (y m d h i s : ℕ) (o : Option ℤ) (k : ℕ) → is_local_year (fields_by p y m d h i s) ≡ true →
    is_calendar_year (get_or (utc o (fields_by p y m d h i s)) 0 k) ≡ is_utc_year o (fields_by p y m d h i s)
first_year p y m d h i s none k e = fields-first p y m d h i s k e
first_year p y m d h i s (some z) k e = ap is_calendar_year (utc_first p y m d h i s z k)

module _ (t : Timestamp) where
  abbrev offset_is : Option ℤ
  offset_is = offset_minutes t.offset

  abbrev fraction_is : Fraction
  fraction_is = fraction_digits t.fraction

  -- of a timestamp that keeps the local rules the UTC year decides; check 7 refuses any other
  pub by_utc_year : is_local_timestamp offset_is (fields_of t) fraction_is ≡ true →
      is_calendar_year (in_utc t).year ≡ is_timestamp offset_is (fields_of t) fraction_is
  unfolding with_fields
  by_utc_year e =
      first_year t.precision t.year t.month t.day t.hour t.minute t.second offset_is t.year
      (passed-local offset_is (fields_of t) fraction_is e).year
      ∙ sym (is_timestamp-local offset_is (fields_of t) fraction_is ∙ rw e)

  pub not_local : is_local_timestamp offset_is (fields_of t) fraction_is ≡ false → is_timestamp offset_is (fields_of t) fraction_is ≡ false
  not_local e = is_timestamp-local offset_is (fields_of t) fraction_is ∙ rw e

  pub utc_known : (z : ℤ) → t.offset ≡ Some z → 5 ≤ field_count t.precision →
      with_fields t (utc_fields (utc_minutes z t.hour t.minute) t.year t.month t.day [])
      ≡ in_utc t
  utc_known z e h = utc_at_minute t t.precision z h ∙ ap (λ (o : RustOption ℤ). with_fields t (utc (offset_minutes o) (fields_of t))) (sym e)

  pub utc_unknown : t.offset ≡ None → t ≡ in_utc t
  utc_unknown e = with_fields-same t t.precision ∙ ap (λ (o : RustOption ℤ). with_fields t (utc (offset_minutes o) (fields_of t))) (sym e)

  pub utc_of_valid : is_timestamp (offset_minutes t.offset) (fields_of t) (fraction_digits t.fraction) ≡ true
      → in_utc t ≡ utc_of t
  unfolding utc_of
  utc_of_valid e = rw (e, utc_of)

  pub utc_of_other : is_timestamp (offset_minutes t.offset) (fields_of t) (fraction_digits t.fraction) ≡ false → t ≡ utc_of t
  unfolding utc_of
  utc_of_other e = rw (e, utc_of)
