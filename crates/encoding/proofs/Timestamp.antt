-- A timestamp's body reads as its offset, its UTC fields and its fraction: part by part, in the order of the body.
-- Assumes nothing.
use Prim.Native.Nat.{ℕ, zero, suc, ◌+◌, ◌/◌, ◌%◌, ◌^◌, ◌<◌, ◌≤◌}
use native.Mathlib.Nat.{pow-le-pow_left}
use native.Mathlib.Omega.{arith}
use mathlib.Core.Path.{◌≡◌, refl, ◌∙◌, ap, subst}
use mathlib.Core.Bool.{true, false, false≢true}
use mathlib.Core.List.{List, [], ◌∷◌, ◌++◌, append_assoc, append-nil}
use mathlib.Core.Option.{Option, none, some, none-ne-some}
use lib.Dec.{ltb, leb, eqb}
use lib.ListN.{length, drop}
use lib.IntN.{ℤ, pos, negsuc}
use borrow.Author.Tests.{ltb-true, leb-true, eqb-true, lt-ltb, le-leb}
use Rattle.ion.specs.Value.{Signed, signed, Fraction, no_fraction, fraction, timestamp}
use Rattle.ion.specs.Chain.{◌>>=◌}
use Rattle.ion.specs.Fields.{int_field, groups, var_uint, var_uints, var_int}
use Rattle.ion.specs.Calendar.{is_day, days_in_month}
use Rattle.ion.specs.Scalars.{offset_of, is_year, are_fields, is_coefficient, fraction_of, fraction_at, timestamp_of}
use Rattle.ion.proofs.Tests.{both, and-true}
use Rattle.ion.proofs.Fields.{var_uint_append}
use Rattle.ion.proofs.Coefficients.{coefficient_of_length}
use Rattle.encoding.specs.Fields.{var_uint_bytes, var_uints_bytes, var_int_bytes, signed_of, uint_bytes, int_bytes, AllBelow, AllU64}
use Rattle.encoding.specs.Timestamp.{Date, date, utc_minutes, utc_day, fields_at, utc, is_timestamp, offset_bytes, fraction_bytes, timestamp_body}
use Rattle.encoding.specs.Timestamp.{UtcKeepsSeconds, UtcAreFields}
use Rattle.encoding.proofs.Fields.{var_uint_bytes-reads, var_int_bytes-reads, signed_reads, uint_bytes-reads, int_bytes-reads}
use Rattle.encoding.proofs.Fractions.{fraction_bytes_is}
use Rattle.encoding.proofs.Rules.{is_local_year, offset_fits, fraction_fits, passed}
use Rattle.encoding.proofs.Calendar.{RealDay, RealDate, real_of, month_days, utc_day_real, with_minute, local_year}

-- ---- the UTC fields are fields of the grammar

pub day_yes : (y m d : ℕ) → RealDay y m d → is_day y m d ≡ true
day_yes y m d g =
    and-true (and-true (le-leb 1 m g.month_least) (le-leb m 12 g.month_most))
    (and-true (le-leb 1 d g.day_least) (le-leb d (days_in_month y m) g.day_most))

minute_fields : (x : Date) (t : ℕ) → RealDate x → are_fields (fields_at x t []) ≡ true
unfolding are_fields
minute_fields (date y m d) t g =
    and-true (le-leb y 10000 g.year)
    (and-true (day_yes y m d g) (and-true (lt-ltb (t % 1440 / 60) 24 (omega arith)) (lt-ltb (t % 1440 % 60) 60 (omega arith))))

second_fields : (x : Date) (t s : ℕ) → RealDate x → ltb s 60 ≡ true → are_fields (fields_at x t (s ∷ [])) ≡ true
unfolding are_fields
second_fields (date y m d) t s g e =
    and-true (le-leb y 10000 g.year)
    (and-true (day_yes y m d g) (and-true (lt-ltb (t % 1440 / 60) 24 (omega arith)) (and-true (lt-ltb (t % 1440 % 60) 60 (omega arith)) e)))

second_of : (y m d h i s : ℕ) → are_fields (y ∷ m ∷ d ∷ h ∷ i ∷ s ∷ []) ≡ true → ltb s 60 ≡ true
unfolding are_fields
second_of y m d h i s e = (both {a = ltb i 60} (both {a = ltb h 24} (both {a = is_day y m d} (both {a = is_year y} e).1).1).1).1

-- the day of the local fields, moved
utc-day : (z : ℤ) (y m d h i : ℕ) (r : List ℕ) → are_fields (y ∷ m ∷ d ∷ h ∷ i ∷ r) ≡ true → is_local_year (y ∷ m ∷ d ∷ h ∷ i ∷ r) ≡ true →
    RealDate (utc_day (utc_minutes z h i) y m d)
utc-day z y m d h i r e k =
    let l = local_year y (m ∷ d ∷ h ∷ i ∷ r) k in
    utc_day_real (utc_minutes z h i) y m d l.0 l.1 (with_minute y m d h i r e).real

pub fields-moved : (o : Option ℤ) (fs : List ℕ) → are_fields fs ≡ true → is_local_year fs ≡ true → are_fields (utc o fs) ≡ true
fields-moved none fs e k = e
fields-moved (some z) [] e k = e
fields-moved (some z) (y ∷ []) e k = e
fields-moved (some z) (y ∷ m ∷ []) e k = e
fields-moved (some z) (y ∷ m ∷ d ∷ []) e k = e
fields-moved (some z) (y ∷ m ∷ d ∷ h ∷ []) e k = e
fields-moved (some z) (y ∷ m ∷ d ∷ h ∷ i ∷ []) e k =
    minute_fields (utc_day (utc_minutes z h i) y m d) (utc_minutes z h i) (utc-day z y m d h i [] e k)
fields-moved (some z) (y ∷ m ∷ d ∷ h ∷ i ∷ s ∷ []) e k =
    second_fields (utc_day (utc_minutes z h i) y m d) (utc_minutes z h i) s (utc-day z y m d h i (s ∷ []) e k) (second_of y m d h i s e)
fields-moved (some z) (y ∷ m ∷ d ∷ h ∷ i ∷ s ∷ x ∷ r) e k = absurd (false≢true (unfold are_fields in e))

pub utc_are_fields : UtcAreFields
utc_are_fields o fs x e = let a = passed o fs x e in fields-moved o fs a.fields a.year

fields_at-length : (x : Date) (t : ℕ) (r : List ℕ) → length (fields_at x t r) ≡ 5 + length r
fields_at-length (date y m d) t r = omega arith

pub utc_length : (o : Option ℤ) (fs : List ℕ) → length (utc o fs) ≡ length fs
utc_length none fs = refl
utc_length (some z) [] = refl
utc_length (some z) (y ∷ []) = refl
utc_length (some z) (y ∷ m ∷ []) = refl
utc_length (some z) (y ∷ m ∷ d ∷ []) = refl
utc_length (some z) (y ∷ m ∷ d ∷ h ∷ []) = refl
utc_length (some z) (y ∷ m ∷ d ∷ h ∷ i ∷ r) = fields_at-length (utc_day (utc_minutes z h i) y m d) (utc_minutes z h i) r ∙ omega arith

below_minute : (x : Date) (t : ℕ) (r : List ℕ) → drop 5 (fields_at x t r) ≡ r
below_minute (date y m d) t r = refl

seconds_kept : (z : ℤ) (fs : List ℕ) → drop 5 (utc (some z) fs) ≡ drop 5 fs
seconds_kept z [] = refl
seconds_kept z (y ∷ []) = refl
seconds_kept z (y ∷ m ∷ []) = refl
seconds_kept z (y ∷ m ∷ d ∷ []) = refl
seconds_kept z (y ∷ m ∷ d ∷ h ∷ []) = refl
seconds_kept z (y ∷ m ∷ d ∷ h ∷ i ∷ r) = below_minute (utc_day (utc_minutes z h i) y m d) (utc_minutes z h i) r

pub utc_keeps_seconds : UtcKeepsSeconds
utc_keeps_seconds z fs = (utc_length (some z) fs, seconds_kept z fs)

day_small : (y m d : ℕ) → RealDay y m d → (ns : List ℕ) → AllBelow 128 ns → AllBelow 128 (m ∷ d ∷ ns)
day_small y m d g ns h = (omega (arith, g.month_most), (omega (arith, g.day_most, month_days y m g.month_least g.month_most), h))

-- at most five fields below the year, of seven bits each
pub fields-small : (y : ℕ) (ns : List ℕ) → are_fields (y ∷ ns) ≡ true → (y ≤ 10000) × AllBelow 128 ns × (length ns ≤ 5)
unfolding are_fields
fields-small y [] e = (leb-true y 10000 e, tt, omega arith)
fields-small y (m ∷ []) e =
    let a = both {a = is_year y} e in
    (leb-true y 10000 a.0, (omega (arith, leb-true m 12 (both {a = leb 1 m} a.1).1), tt), omega arith)
fields-small y (m ∷ d ∷ []) e =
    let a = both {a = is_year y} e in
    let g = real_of y m d a.0 a.1 in
    (g.year, day_small y m d g [] tt, omega arith)
fields-small y (m ∷ d ∷ h ∷ []) e = absurd (false≢true e)
fields-small y (m ∷ d ∷ h ∷ i ∷ []) e =
    let w = with_minute y m d h i [] (unfold are_fields in e) in
    (w.real.year, day_small y m d w.real (h ∷ i ∷ []) (omega (arith, w.hour), (omega (arith, w.minute), tt)), omega arith)
fields-small y (m ∷ d ∷ h ∷ i ∷ s ∷ []) e =
    let w = with_minute y m d h i (s ∷ []) (unfold are_fields in e) in
    let q : s < 60 = ltb-true s 60 (second_of y m d h i s (unfold are_fields in e)) in
    (w.real.year, day_small y m d w.real (h ∷ i ∷ s ∷ []) (omega (arith, w.hour), (omega (arith, w.minute), (omega arith, tt))), omega arith)
fields-small y (m ∷ d ∷ h ∷ i ∷ s ∷ x ∷ r) e = absurd (false≢true e)

below_more : (m n : ℕ) → m ≤ n → (l : List ℕ) → AllBelow m l → AllBelow n l
below_more m n k [] h = tt
below_more m n k (x ∷ l) h = (omega (arith, h.0), below_more m n k l h.1)

-- at most six fields, each far below 64 bits
fields_u64 : (fs : List ℕ) → are_fields fs ≡ true → AllU64 fs × (length fs ≤ 6)
fields_u64 [] e = absurd (false≢true (unfold are_fields in e))
fields_u64 (y ∷ ns) e =
    let s = fields-small y ns e in
    ((omega (arith, s.0), below_more 128 (2 ^ 64) (omega arith) ns s.1), omega (arith, s.2))

-- ---- the parts of the body

abbrev offset_signed : Option ℤ → Signed
offset_signed none = signed true 0
offset_signed (some z) = signed_of z

offset_reads : (o : Option ℤ) (fs r : List ℕ) → offset_fits o fs ≡ true → var_int (offset_bytes o ++ r) ≡ some (offset_signed o, r)
offset_reads none fs r e = var_int_bytes-reads true 0 r refl
offset_reads (some (pos n)) fs r e = signed_reads (pos n) r (omega (arith, leb-true n 1439 (both {a = leb 5 (length fs)} e).1))
offset_reads (some (negsuc n)) fs r e = signed_reads (negsuc n) r (omega (arith, leb-true (suc n) 1439 (both {a = leb 5 (length fs)} e).1))

offset-is : (o : Option ℤ) → offset_of (offset_signed o) ≡ o
offset-is none = refl
offset-is (some (pos n)) = refl
offset-is (some (negsuc n)) = refl

next_field : (n k : ℕ) (l r : List ℕ) → var_uint l ≡ some (n, r) → var_uints (suc k) l ≡ (var_uints k r >>= λ y. some (n ∷ y.0, y.1))
unfolding var_uints var_uint groups
next_field n k [] r e = absurd (none-ne-some (n, r) e)
next_field n k (b ∷ bs) r e = rw e

front_field : (u : ℕ) (r : List ℕ) → u < 2 ^ 64 → var_uint (var_uint_bytes u ++ r) ≡ some (u, r)
front_field u r h = var_uint_append (var_uint_bytes u) u [] r (var_uint_bytes-reads u h)

-- all the fields that are asked for, with bytes behind them; and fewer, with none
fields_then : (us r : List ℕ) → AllU64 us → var_uints (length us) (var_uints_bytes us ++ r) ≡ some (us, r)
unfolding var_uints var_uints_bytes
fields_then [] r h = refl
fields_then (u ∷ us) r h =
    let l = var_uints_bytes us ++ r in
    rw (append_assoc, next_field u (length us) (var_uint_bytes u ++ l) l (front_field u l h.0), fields_then us r h.1)

fields-alone : (us : List ℕ) (n : ℕ) → AllU64 us → length us ≤ n → var_uints n (var_uints_bytes us) ≡ some (us, [])
unfolding var_uints var_uints_bytes
fields-alone [] zero h k = refl
fields-alone [] (suc n) h k = refl
fields-alone (u ∷ us) zero h k = absurd (none (length us) k)
  where
    none : (j : ℕ) → suc j ≤ 0 → ⊥
    none j q = omega arith
fields-alone (u ∷ us) (suc n) h k =
    let l = var_uints_bytes us in
    rw (next_field u n (var_uint_bytes u ++ l) l (front_field u l h.0), fields-alone us n h.1 (omega arith))

fields_read : (us : List ℕ) (x : Fraction) → AllU64 us → length us ≤ 6 → fraction_fits x us ≡ true →
    var_uints 6 (var_uints_bytes us ++ fraction_bytes x) ≡ some (us, fraction_bytes x)
fields_read us no_fraction h k e = rw append-nil (fields-alone us 6 h k)
fields_read us (fraction j c) h k e =
    let q : length us ≡ 6 = eqb-true (length us) 6 (both {a = eqb (length us) 6} e).0 in
    let l = fraction_bytes (fraction j c) in
    subst (λ (n : ℕ). var_uints n (var_uints_bytes us ++ l) ≡ some (us, l)) q (fields_then us l h)

fraction_utc : (x : Fraction) (us fs : List ℕ) → length us ≡ length fs → fraction_fits x fs ≡ true → fraction_fits x us ≡ true
fraction_utc no_fraction us fs q e = refl
fraction_utc (fraction k c) us fs q e = rw q e

-- ---- the fraction

fraction_front : (l r : List ℕ) (z : Signed) → var_int l ≡ some (z, r) → fraction_at l ≡ fraction_of z (int_field r)
unfolding fraction_at var_int
fraction_front [] r z e = absurd (none-ne-some (z, r) e)
fraction_front (b ∷ bs) r z e = rw e

-- 18 digits take no more than 18 bytes
coefficient_of_digits : (k c : ℕ) → k ≤ 18 → c < 10 ^ k → is_coefficient c ≡ true
coefficient_of_digits k c h lt = coefficient_of_length c k (omega arith) (omega (arith, pow-le-pow_left {n = 10} {m = 256} (omega arith) k))

digits_read : (k c : ℕ) → k < 18 → c < 10 ^ suc k → fraction_at (fraction_bytes (fraction (suc k) c)) ≡ some (fraction (suc k) c)
unfolding fraction_of
digits_read k c h lt =
    let u = int_bytes false (uint_bytes c) in
    let v : int_field u ≡ signed false c = int_bytes-reads false (uint_bytes c) ∙ ap (signed false) (uint_bytes-reads c) in
    ap fraction_at (fraction_bytes_is (suc k) c (omega arith))
    ∙ fraction_front (var_int_bytes (signed true (suc k)) ++ u) u (signed true (suc k)) (var_int_bytes-reads true (suc k) u (le-leb (suc k) (2 ^ 63) (omega arith)))
    ∙ rw (v, coefficient_of_digits (suc k) c (omega arith) lt, lt-ltb c (10 ^ suc k) lt)

fraction_reads : (x : Fraction) (fs : List ℕ) → fraction_fits x fs ≡ true → fraction_at (fraction_bytes x) ≡ some x
fraction_reads no_fraction fs e = unfold fraction_at in refl
fraction_reads (fraction zero c) fs e = absurd (false≢true (both {a = eqb (length fs) 6} e).1)
fraction_reads (fraction (suc k) c) fs e =
    let a = both {a = leb (suc k) 18} (both {a = leb 1 (suc k)} (both {a = eqb (length fs) 6} e).1).1 in
    digits_read k c (leb-true (suc k) 18 a.0) (ltb-true c (10 ^ suc k) a.1)

-- ---- the body

body_parts : (b r us fr : List ℕ) (g : Signed) (x : Fraction) →
    var_int b ≡ some (g, r) → var_uints 6 r ≡ some (us, fr) → are_fields us ≡ true → fraction_at fr ≡ some x → timestamp_of b ≡ some (timestamp (offset_of g) us x)
unfolding timestamp_of
body_parts b r us fr g x p q s t = rw (p, q, s, t)

pub timestamp_body-reads : (o : Option ℤ) (fs : List ℕ) (x : Fraction) → is_timestamp o fs x ≡ true →
    timestamp_of (timestamp_body o fs x) ≡ some (timestamp o (utc o fs) x)
unfolding timestamp_body
timestamp_body-reads o fs x e =
    let a = passed o fs x e in
    let us = utc o fs in
    let g : are_fields us ≡ true = utc_are_fields o fs x e in
    let s = fields_u64 us g in
    body_parts (offset_bytes o ++ (var_uints_bytes us ++ fraction_bytes x)) (var_uints_bytes us ++ fraction_bytes x) us (fraction_bytes x) (offset_signed o) x
    (offset_reads o fs (var_uints_bytes us ++ fraction_bytes x) a.offset)
    (fields_read us x s.0 s.1 (fraction_utc x us fs (utc_length o fs) a.fraction)) g (fraction_reads x fs a.fraction)
    ∙ ap (λ (q : Option ℤ). some (timestamp q us x)) (offset-is o)
