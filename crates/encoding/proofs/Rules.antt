-- Check 7 by the fields of the grammar: a timestamp that the writer takes has fields that the grammar has, with a year of 1 to 9999, an offset
-- and a fraction that fit them, and a UTC year of 1 to 9999. By cases on how many fields there are. Assumes nothing.
use Prim.Native.Nat.{ℕ, ◌^◌}
use native.Mathlib.Omega.{arith}
use mathlib.Core.Path.{◌≡◌, refl, sym, ◌∙◌, ap}
use mathlib.Core.Bool.{Bool, true, false, ◌&&◌, and_assoc, and-true, and-false}
use mathlib.Core.List.{List, [], ◌∷◌, ◌++◌}
use mathlib.Core.Option.{Option, none, some}
use lib.Dec.{ltb, leb, eqb}
use lib.ListN.{length, get_or}
use lib.IntN.{ℤ, nat_abs}
use borrow.Author.Tests.{leb-true, le-leb, lt-leb}
use Rattle.ion.specs.Value.{Fraction, no_fraction, fraction}
use Rattle.ion.specs.Calendar.{is_month, is_day, is_calendar_year}
use Rattle.ion.specs.Scalars.{is_year, are_fields}
use Rattle.ion.proofs.Tests.{by_cases, both}
use Rattle.encoding.specs.Timestamp.{TimestampRule, field_rules, offset_rules, fraction_rules, local_rules, utc_year_rules, first_bad}
use Rattle.encoding.specs.Timestamp.{is_none, is_precision, utc, is_local_timestamp, is_timestamp}

-- year 1 to 9999
abbrev pub is_local_year : List ℕ → Bool
is_local_year [] = false
is_local_year (y ∷ r) = is_calendar_year y

-- unknown, or -1439 to 1439 minutes at minute or second precision
abbrev pub offset_fits : Option ℤ → List ℕ → Bool
offset_fits none fs = true
offset_fits (some z) fs = leb 5 (length fs) && leb (nat_abs z) 1439

-- second precision may carry 1 to 18 digits, with a coefficient below ten to that count
abbrev pub fraction_fits : Fraction → List ℕ → Bool
fraction_fits no_fraction fs = true
fraction_fits (fraction k c) fs = eqb (length fs) 6 && (leb 1 k && (leb k 18 && ltb c (10 ^ k)))

-- with no offset known it is the local one
abbrev pub is_utc_year : Option ℤ → List ℕ → Bool
is_utc_year none fs = true
is_utc_year (some z) fs = is_calendar_year (get_or (utc (some z) fs) 0 0)

-- ---- the rules together

abbrev pub all_hold : List TimestampRule → Bool
all_hold [] = true
all_hold (r ∷ rs) = r.holds && all_hold rs

pub none_bad : (rs : List TimestampRule) → is_none (first_bad rs) ≡ all_hold rs
none_bad [] = refl
none_bad (r ∷ rs) = by_cases r.holds (λ e. rw e (none_bad rs)) (λ e. rw e)

pub all_hold_append : (rs ts : List TimestampRule) → all_hold (rs ++ ts) ≡ (all_hold rs && all_hold ts)
all_hold_append [] ts = refl
all_hold_append (r ∷ rs) ts = rw (all_hold_append rs ts, and_assoc)

pub offset-rules : (o : Option ℤ) (fs : List ℕ) → is_none (first_bad (offset_rules o fs)) ≡ offset_fits o fs
offset-rules none fs = refl
offset-rules (some z) fs = none_bad (offset_rules (some z) fs) ∙ and-true (offset_fits (some z) fs)

pub fraction-rules : (x : Fraction) (fs : List ℕ) → is_none (first_bad (fraction_rules x fs)) ≡ fraction_fits x fs
fraction-rules no_fraction fs = refl
fraction-rules (fraction k c) fs = none_bad (fraction_rules (fraction k c) fs) ∙ simp (and-true, and_assoc)

pub utc_year-rules : (o : Option ℤ) (fs : List ℕ) → is_none (first_bad (utc_year_rules o fs)) ≡ is_utc_year o fs
utc_year-rules none fs = refl
utc_year-rules (some z) fs = none_bad (utc_year_rules (some z) fs) ∙ and-true (is_utc_year (some z) fs)

pub is_local_timestamp-rules : (o : Option ℤ) (fs : List ℕ) (x : Fraction) →
    is_local_timestamp o fs x ≡ (is_precision (length fs) && (all_hold (field_rules fs) && (offset_fits o fs && fraction_fits x fs)))
unfolding is_local_timestamp
is_local_timestamp-rules o fs x =
    let os = offset_rules o fs in
    let xs = fraction_rules x fs in
    ap (λ (b : Bool). is_precision (length fs) && b)
    (none_bad (local_rules o fs x)
    ∙ all_hold_append (field_rules fs) (os ++ xs)
    ∙ rw (all_hold_append os xs, ← offset-rules o fs, ← fraction-rules x fs, none_bad os, none_bad xs))

-- the local rules, then the UTC year
pub is_timestamp-local : (o : Option ℤ) (fs : List ℕ) (x : Fraction) → is_timestamp o fs x ≡ (is_local_timestamp o fs x && is_utc_year o fs)
unfolding is_timestamp is_local_timestamp
is_timestamp-local o fs x =
    let ls = local_rules o fs x in
    let us = utc_year_rules o fs in
    ap (λ (b : Bool). is_precision (length fs) && b)
    (none_bad (ls ++ us) ∙ all_hold_append ls us ∙ rw (← none_bad ls, ← none_bad us, utc_year-rules o fs))
    ∙ sym (and_assoc (is_precision (length fs)) (is_none (first_bad ls)) (is_utc_year o fs))

-- a year that the writer takes is one that the grammar has
year_first : (y : ℕ) (b : Bool) → ((is_year y && b) && (leb 1 y && leb y 9999)) ≡ ((leb 1 y && leb y 9999) && b)
year_first y b = at (leb 1 y && leb y 9999) (is_year y) (λ e. le-leb y 10000 (omega (arith, leb-true y 9999 (both {a = leb 1 y} e).1)))
  where
    at : (l a : Bool) → (l ≡ true → a ≡ true) → ((a && b) && l) ≡ (l && b)
    at true a h = rw (h refl) (and-true b)
    at false a h = and-false (a && b)

field-rules : (fs : List ℕ) → (is_precision (length fs) && all_hold (field_rules fs)) ≡ (are_fields fs && is_local_year fs)
unfolding are_fields
field-rules [] = refl
field-rules (y ∷ []) = sym (rw (← and-true (is_year y)) (year_first y true))
field-rules (y ∷ m ∷ []) = sym (year_first y (is_month m) ∙ simp and-true)
field-rules (y ∷ m ∷ d ∷ []) = sym (year_first y (is_day y m d) ∙ simp (and-true, and_assoc))
field-rules (y ∷ m ∷ d ∷ h ∷ []) = refl
field-rules (y ∷ m ∷ d ∷ h ∷ i ∷ []) = sym (year_first y (is_day y m d && (ltb h 24 && ltb i 60)) ∙ simp (and-true, and_assoc))
field-rules (y ∷ m ∷ d ∷ h ∷ i ∷ s ∷ []) = sym (year_first y (is_day y m d && (ltb h 24 && (ltb i 60 && ltb s 60))) ∙ simp (and-true, and_assoc))
field-rules (y ∷ m ∷ d ∷ h ∷ i ∷ s ∷ x ∷ r) = let n = length (y ∷ m ∷ d ∷ h ∷ i ∷ s ∷ x ∷ r) in rw (le-leb 1 n (omega arith), lt-leb n 6 (omega arith))

pub is_local_timestamp-are_fields : (o : Option ℤ) (fs : List ℕ) (x : Fraction) →
    is_local_timestamp o fs x ≡ (are_fields fs && (is_local_year fs && (offset_fits o fs && fraction_fits x fs)))
is_local_timestamp-are_fields o fs x =
    let r = offset_fits o fs && fraction_fits x fs in
    is_local_timestamp-rules o fs x
    ∙ sym (and_assoc (is_precision (length fs)) (all_hold (field_rules fs)) r)
    ∙ rw (field-rules fs) (and_assoc (are_fields fs) (is_local_year fs) r)

-- what a timestamp that keeps the local rules tells
pub record Passed (o : Option ℤ) (fs : List ℕ) (x : Fraction) : Type 0 where
  pub fields : are_fields fs ≡ true
  pub year : is_local_year fs ≡ true
  pub offset : offset_fits o fs ≡ true
  pub fraction : fraction_fits x fs ≡ true

pub passed-local : (o : Option ℤ) (fs : List ℕ) (x : Fraction) → is_local_timestamp o fs x ≡ true → Passed o fs x
passed-local o fs x e =
    let a = both {a = are_fields fs} (sym (is_local_timestamp-are_fields o fs x) ∙ e) in
    let b = both {a = is_local_year fs} a.1 in
    let c = both {a = offset_fits o fs} b.1 in
    record { fields = a.0; year = b.0; offset = c.0; fraction = c.1 }

-- and one that passes check 7
pub is_timestamp_parts : (o : Option ℤ) (fs : List ℕ) (x : Fraction) → is_timestamp o fs x ≡ true → (is_local_timestamp o fs x ≡ true) × (is_utc_year o fs ≡ true)
is_timestamp_parts o fs x e = both {a = is_local_timestamp o fs x} (sym (is_timestamp-local o fs x) ∙ e)

pub passed : (o : Option ℤ) (fs : List ℕ) (x : Fraction) → is_timestamp o fs x ≡ true → Passed o fs x
passed o fs x e = passed-local o fs x (is_timestamp_parts o fs x e).0
