-- Check 7's local rules from their tests in field order, and what each tells once it is passed.
-- By cases on the precision. Assumes nothing.
use Prim.Native.Nat.{ℕ, ◌≤◌, ◌<◌}
use mathlib.Core.Path.{◌≡◌, refl, sym, ◌∙◌, subst}
use mathlib.Core.Bool.{Bool, true, ◌&&◌, ◌||◌, and_assoc, and-true}
use mathlib.Core.Option.{Option, some}
use Rattle.std.specs.Prelude.{Some}
use Rattle.std.specs.Prelude.{Option as RustOption}
use borrow.Author.Tests.{leb-true, ltb-true, le-ltb}
use lib.Dec.{leb, ltb}
use lib.ListN.{length}
use lib.IntN.{ℤ, nat_abs}
use Rattle.ion.specs.Value.{Fraction}
use Rattle.ion.specs.Calendar.{days_in_month, is_month}
use Rattle.ion.proofs.Tests.{both}
use Rattle.encoding.specs.Timestamp.{is_local_timestamp}
use Rattle.encoding.proofs.Rules.{offset_fits, fraction_fits, is_local_timestamp-rules}
use Rattle.timestamp.specs.declared.Precision.{Precision}
use Rattle.timestamp.specs.declared.Precision.TheVariants.{Year, Month, Day, Minute, Second}
use Rattle.timestamp.specs.declared.Timestamp.{Timestamp}
use Rattle.timestamp.specs.Arguments.{offset_minutes, fraction_digits, field_count, fields_by, fields_of}

pub length-fields_by : (p : Precision) (y m d h i s : ℕ) → length (fields_by p y m d h i s) ≡ field_count p
length-fields_by Year y m d h i s = refl
length-fields_by Month y m d h i s = refl
length-fields_by Day y m d h i s = refl
length-fields_by Minute y m d h i s = refl
length-fields_by Second y m d h i s = refl

-- the tests from the year down, each where the count of fields reaches it
pub is_local_timestamp_tests : (p : Precision) (y m d h i s : ℕ) (o : Option ℤ) (x : Fraction) →
    ((leb 1 y && leb y 9999)
    && ((ltb (field_count p) 2 || is_month m)
    && ((ltb (field_count p) 3 || (leb 1 d && leb d (days_in_month y m)))
    && ((ltb (field_count p) 5 || (ltb h 24 && ltb i 60))
    && ((ltb (field_count p) 6 || ltb s 60) && (offset_fits o (fields_by p y m d h i s) && fraction_fits x (fields_by p y m d h i s)))))))
    ≡ is_local_timestamp o (fields_by p y m d h i s) x
is_local_timestamp_tests Year y m d h i s o x = sym (is_local_timestamp-rules o (fields_by Year y m d h i s) x ∙ simp (and-true, and_assoc))
is_local_timestamp_tests Month y m d h i s o x = sym (is_local_timestamp-rules o (fields_by Month y m d h i s) x ∙ simp (and-true, and_assoc))
is_local_timestamp_tests Day y m d h i s o x = sym (is_local_timestamp-rules o (fields_by Day y m d h i s) x ∙ simp (and-true, and_assoc))
is_local_timestamp_tests Minute y m d h i s o x = sym (is_local_timestamp-rules o (fields_by Minute y m d h i s) x ∙ simp (and-true, and_assoc))
is_local_timestamp_tests Second y m d h i s o x = sym (is_local_timestamp-rules o (fields_by Second y m d h i s) x ∙ simp (and-true, and_assoc))

-- what a timestamp that keeps them tells, as far as its fields go
pub record Valid (p : Precision) (y m d h i s : ℕ) (o : Option ℤ) (x : Fraction) : Type 0 where
  pub year : (1 ≤ y) × (y ≤ 9999)
  pub month : 2 ≤ field_count p → (1 ≤ m) × (m ≤ 12)
  pub day : 3 ≤ field_count p → (1 ≤ d) × (d ≤ days_in_month y m)
  pub time : 5 ≤ field_count p → (h < 24) × (i < 60)
  pub second : 6 ≤ field_count p → s < 60
  pub offset : offset_fits o (fields_by p y m d h i s) ≡ true
  pub fraction : fraction_fits x (fields_by p y m d h i s) ≡ true

from_field : (k n : ℕ) (b : Bool) → (ltb n k || b) ≡ true → k ≤ n → b ≡ true
from_field k n b e h = rw (le-ltb n k h) at e

pub valid : (p : Precision) (y m d h i s : ℕ) (o : Option ℤ) (x : Fraction) → is_local_timestamp o (fields_by p y m d h i s) x ≡ true → Valid p y m d h i s o x
valid p y m d h i s o x e =
    let n = field_count p in
    let a = both {a = leb 1 y && leb y 9999} (is_local_timestamp_tests p y m d h i s o x ∙ e) in
    let ys = both {a = leb 1 y} a.0 in
    let b = both {a = ltb n 2 || is_month m} a.1 in
    let c = both {a = ltb n 3 || (leb 1 d && leb d (days_in_month y m))} b.1 in
    let f = both {a = ltb n 5 || (ltb h 24 && ltb i 60)} c.1 in
    let g = both {a = ltb n 6 || ltb s 60} f.1 in
    let r = both {a = offset_fits o (fields_by p y m d h i s)} g.1 in
    record {
      year = (leb-true 1 y ys.0, leb-true y 9999 ys.1);
      month = λ k. let q = both {a = leb 1 m} (from_field 2 n (is_month m) b.0 k) in (leb-true 1 m q.0, leb-true m 12 q.1);
      day = λ k.
          let q = both {a = leb 1 d} (from_field 3 n (leb 1 d && leb d (days_in_month y m)) c.0 k) in
          (leb-true 1 d q.0, leb-true d (days_in_month y m) q.1);
      time = λ k. let q = both {a = ltb h 24} (from_field 5 n (ltb h 24 && ltb i 60) f.0 k) in (ltb-true h 24 q.0, ltb-true i 60 q.1);
      second = λ k. ltb-true s 60 (from_field 6 n (ltb s 60) g.0 k);
      offset = r.0;
      fraction = r.1;
    }

-- a known offset needs the minute
pub offset_known : (p : Precision) (y m d h i s : ℕ) (z : ℤ) → offset_fits (some z) (fields_by p y m d h i s) ≡ true → (5 ≤ field_count p) × (nat_abs z ≤ 1439)
offset_known p y m d h i s z e =
    let k = both {a = leb 5 (field_count p)} (rw (length-fields_by p y m d h i s) at e) in
    (leb-true 5 (field_count p) k.0, leb-true (nat_abs z) 1439 k.1)

module _ (t : Timestamp) (e : is_local_timestamp (offset_minutes t.offset) (fields_of t) (fraction_digits t.fraction) ≡ true) where
  pub year_between : (1 ≤ t.year) × (t.year ≤ 9999)
  year_between = (valid t.precision t.year t.month t.day t.hour t.minute t.second (offset_minutes t.offset) (fraction_digits t.fraction) e).year

  -- where the offset is known
  pub known : (z : ℤ) → t.offset ≡ Some z → (5 ≤ field_count t.precision) × (nat_abs z ≤ 1439) × (t.hour < 24) × (t.minute < 60)
  known z q =
      let w =
      valid t.precision t.year t.month t.day t.hour t.minute t.second (some z) (fraction_digits t.fraction)
      (subst (λ (o : RustOption ℤ). is_local_timestamp (offset_minutes o) (fields_of t) (fraction_digits t.fraction) ≡ true) q e) in
      let k = offset_known t.precision t.year t.month t.day t.hour t.minute t.second z w.offset in
      (k.0, k.1, (w.time k.0).0, (w.time k.0).1)
