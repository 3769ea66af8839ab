-- The UTC fields of a timestamp that keeps the local rules of check 7 are small, and they are those that its body has.
-- By the fields of the grammar, which they are. Assumes nothing.
use Prim.Native.Nat.{ℕ, ◌<◌}
use native.Mathlib.Omega.{arith}
use mathlib.Core.Path.{◌≡◌, refl}
use mathlib.Core.Bool.{true}
use mathlib.Core.List.{List, [], ◌∷◌}
use mathlib.Core.Option.{Option, none, some}
use lib.IntN.{ℤ}
use Rattle.ion.specs.Value.{Fraction, no_fraction, fraction}
use Rattle.ion.specs.Scalars.{are_fields}
use Rattle.encoding.specs.Timestamp.{Date, date, utc_minutes, utc_day, fields_at, utc, is_local_timestamp, timestamp_body}
use Rattle.encoding.proofs.Rules.{offset_fits, fraction_fits, Passed, passed-local}
use Rattle.encoding.proofs.Timestamp.{fields-moved, fields-small}
use Rattle.encoding.proofs.TimestampLength.{offset-fits, fraction-fits}
use Rattle.timestamp.specs.declared.Precision.{Precision}
use Rattle.timestamp.specs.declared.Precision.TheVariants.{Year, Month, Day, Minute, Second}
use Rattle.timestamp.specs.declared.Timestamp.{Timestamp}
use Rattle.timestamp.specs.Arguments.{offset_minutes, fraction_digits, fields_by, fields_of}
use Rattle.timestamp.specs.Utc.{with_fields, in_utc}
use Rattle.timestamp.specs.Small.{SmallOffset, SmallFields, SmallFraction, Small, body_of}

-- ---- each part

fields-below : (fs : List ℕ) → are_fields fs ≡ true → SmallFields fs
fields-below [] e = tt
fields-below (y ∷ ns) e = let s = fields-small y ns e in (omega (arith, s.0), s.1)

offset_small : (o : Option ℤ) (fs : List ℕ) → offset_fits o fs ≡ true → SmallOffset o
offset_small none fs e = tt
offset_small (some z) fs e = omega (arith, offset-fits z fs e)

fraction_small : (x : Fraction) (fs : List ℕ) → fraction_fits x fs ≡ true → SmallFraction x
fraction_small no_fraction fs e = tt
fraction_small (fraction k c) fs e = let f = fraction-fits k c fs e in (f.0, omega (arith, f.1), f.2)

-- another year in the place of the first field
year_in : (y m d h i s : ℕ) (p : Precision) (y' : ℕ) → SmallFields (fields_by p y m d h i s) → y' < 16384 → SmallFields (fields_by p y' m d h i s)
year_in y m d h i s Year y' k l = (l, k.1)
year_in y m d h i s Month y' k l = (l, k.1)
year_in y m d h i s Day y' k l = (l, k.1)
year_in y m d h i s Minute y' k l = (l, k.1)
year_in y m d h i s Second y' k l = (l, k.1)

year_of : (y m d h i s : ℕ) (p : Precision) → SmallFields (fields_by p y m d h i s) → y < 16384
year_of y m d h i s Year k = k.0
year_of y m d h i s Month k = k.0
year_of y m d h i s Day k = k.0
year_of y m d h i s Minute k = k.0
year_of y m d h i s Second k = k.0

-- ---- in the place of the local ones

module _ (t : Timestamp) where
  -- the fields of t once fs stand in their place
  abbrev fields_with : Precision → List ℕ → List ℕ
  fields_with p fs = let u = with_fields t fs in fields_by p u.year u.month u.day u.hour u.minute u.second

  abbrev local_fields : Precision → List ℕ
  local_fields p = fields_by p t.year t.month t.day t.hour t.minute t.second

  minute_with : (x : Date) (n : ℕ) → fields_with Minute (fields_at x n []) ≡ fields_at x n []
  unfolding with_fields
  minute_with (date y m d) n = refl

  second_with : (x : Date) (n s : ℕ) → fields_with Second (fields_at x n (s ∷ [])) ≡ fields_at x n (s ∷ [])
  unfolding with_fields
  second_with (date y m d) n s = refl

  fields_with-local : (p : Precision) → fields_with p (local_fields p) ≡ local_fields p
  unfolding with_fields
  fields_with-local Year = refl
  fields_with-local Month = refl
  fields_with-local Day = refl
  fields_with-local Minute = refl
  fields_with-local Second = refl

  fields_with_utc : (p : Precision) (o : Option ℤ) → fields_with p (utc o (local_fields p)) ≡ utc o (local_fields p)
  unfolding with_fields
  fields_with_utc p none = fields_with-local p
  fields_with_utc Year (some z) = refl
  fields_with_utc Month (some z) = refl
  fields_with_utc Day (some z) = refl
  fields_with_utc Minute (some z) = let n = utc_minutes z t.hour t.minute in minute_with (utc_day n t.year t.month t.day) n
  fields_with_utc Second (some z) = let n = utc_minutes z t.hour t.minute in second_with (utc_day n t.year t.month t.day) n t.second

  module _ (e : is_local_timestamp (offset_minutes t.offset) (fields_of t) (fraction_digits t.fraction) ≡ true) where
    keeps : Passed (offset_minutes t.offset) (fields_of t) (fraction_digits t.fraction)
    keeps = passed-local (offset_minutes t.offset) (fields_of t) (fraction_digits t.fraction) e

    pub utc_small : Small (in_utc t)
    unfolding with_fields
    utc_small =
        let o = offset_minutes t.offset in
        let a = keeps in (
          offset_small o (fields_of t) a.offset,
          rw (fields_with_utc t.precision o) (fields-below (utc o (fields_of t)) (fields-moved o (fields_of t) a.fields a.year)),
          fraction_small (fraction_digits t.fraction) (fields_of t) a.fraction,
        )

    -- with the UTC year alone
    pub utc_year_small : Small (with_fields t ((with_fields t (utc (offset_minutes t.offset) (fields_of t))).year ∷ []))
    unfolding with_fields
    utc_year_small =
        let l = fields-below (fields_of t) keeps.fields in
        let y = with_fields t (utc (offset_minutes t.offset) (fields_of t)) in
        let u = utc_small in (
          u.0,
          year_in t.year t.month t.day t.hour t.minute t.second t.precision y.year l (year_of y.year y.month y.day y.hour y.minute y.second y.precision u.1),
          u.2,
        )

  pub utc_body : body_of (in_utc t)
      ≡ timestamp_body (offset_minutes t.offset) (fields_of t) (fraction_digits t.fraction)
  unfolding timestamp_body with_fields body_of
  utc_body = rw (fields_with_utc t.precision (offset_minutes t.offset))
