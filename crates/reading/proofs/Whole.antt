-- What a body's answer tells is the scalar, whole: the parts that `decimal_in`, `timestamp_in` and `symbol_in` name, put together, are what the grammar reads.
-- Assumes nothing.
use Prim.Native.Nat.{ℕ, zero, suc, ◌+◌, ◌-◌, ◌*◌, ◌%◌, ◌^◌}
use native.Mathlib.Omega.{arith}
use mathlib.Core.Path.{◌≡◌, refl, sym, ◌∙◌, ap}
use mathlib.Core.Bool.{Bool, true, false, false≢true, ◌&&◌}
use mathlib.Core.List.{List, [], ◌∷◌, ◌++◌, append_assoc}
use mathlib.Core.Option.{Option, none, some}
use lib.Dec.{ltb, eqb}
use lib.ListN.{length, drop, length-append}
use lib.Seq.{drop_at}
use borrow.Author.Tests.{eqb-true}
use Rattle.std.specs.Prelude as Std
use Rattle.std.specs.Prelude.{Result, Ok, Err, Some, None}
use Rattle.ion.specs.Value.{Signed, signed, Fraction, no_fraction, fraction, decimal, timestamp}
use Rattle.ion.specs.Chain.{◌>>=◌, check}
use Rattle.ion.specs.Fields.{uint, int_field, groups, in_u64, var_uint, var_uints, is_i64, give_sign, var_int, number}
use Rattle.ion.specs.Fields.{is_negative as sign_at}
use Rattle.ion.specs.Scalars.{offset_of, are_fields, is_coefficient, fraction_of, fraction_at, decimal_of, timestamp_of, scalar_of}
use Rattle.ion.proofs.Tests.{by_cases}
use Rattle.reading.specs.declared.Refusal.{Refusal}
use Rattle.reading.specs.declared.Fraction as Answer
use Rattle.reading.specs.declared.Timestamp.{Timestamp}
use Rattle.reading.specs.Told.{decimal_told, offset_told, fields_told, fraction_told, timestamp_told, KnownTold, timestamp_shown, mark_shown}
use Rattle.reading.specs.Told.{DecimalWhole, TimestampWhole, MarkWhole, SymbolWhole}
use Rattle.reading.specs.Bodies.{magnitude, decimal_from, decimal_in, known_offset, six_fields, stamped, fractioned, exponent_from, fraction_from, fields_from}
use Rattle.reading.specs.Bodies.{offset_from, timestamp_in, mark_in, shown_with, shown_in, symbol_in}

-- ---- the bytes behind a field end the body

module _ {A : Type 0} where
  abbrev Ends : List ℕ → Option (A × List ℕ) → Type 0
  Ends b none = Unit {0}
  Ends b (some x) = (l : List ℕ) × (b ≡ l ++ x.1)

  ends_next : (c : ℕ) (bs : List ℕ) (x : Option (A × List ℕ)) → Ends bs x → Ends (c ∷ bs) x
  ends_next c bs none h = tt
  ends_next c bs (some x) h = (c ∷ h.0, ap (c ∷◌) h.1)

  ends_check : (b : List ℕ) (t : Bool) (x : A × List ℕ) → Ends b (some x) → Ends b (check t (some x))
  ends_check b true x h = h
  ends_check b false x h = tt

-- behind a part of the bytes
ends_behind : {A : Type 0} (b l r : List ℕ) (x : Option (A × List ℕ)) → b ≡ l ++ r → Ends r x → Ends b x
ends_behind b l r none e h = tt
ends_behind b l r (some x) e h = (l ++ h.0, e ∙ ap (λ (y : List ℕ). l ++ y) h.1 ∙ sym (append_assoc l h.0 x.1))

-- and stand where the length of the rest says
ends_at : (b l r : List ℕ) → b ≡ l ++ r → drop (length b - length r) b ≡ r
ends_at b l r e = rw e (drop_at l r (length (l ++ r) - length r) (omega (arith, length-append l r)))

groups_ends : (acc : ℕ) (b : List ℕ) → Ends b (groups acc b)
unfolding groups
groups_ends acc [] = tt
groups_ends acc (c ∷ bs) =
    by_cases (ltb c 0x80)
    (λ p. rw (p, groups) (ends_next c bs (groups (acc * 128 + c) bs) (groups_ends (acc * 128 + c) bs)))
    (λ p. rw (p, groups) (c ∷ [], refl))

var_uint_ends : (b : List ℕ) → Ends b (var_uint b)
unfolding var_uint
var_uint_ends b = on (groups 0 b) (groups_ends 0 b)
  where
    on : (x : Option (ℕ × List ℕ)) → Ends b x → Ends b (in_u64 x)
    on none h = tt
    on (some x) h = ends_check b (ltb x.0 (2 ^ 64)) x h

var_int_ends : (b : List ℕ) → Ends b (var_int b)
unfolding var_int
var_int_ends [] = tt
var_int_ends (c ∷ bs) =
    by_cases (ltb c 0x80)
    (λ p. rw (p, var_int) (on (groups (c % 64) bs) (ends_next c bs (groups (c % 64) bs) (groups_ends (c % 64) bs))))
    (λ p. rw (p, var_int) (on (some (c % 64, bs)) (c ∷ [], refl)))
  where
    on : (x : Option (ℕ × List ℕ)) → Ends (c ∷ bs) x → Ends (c ∷ bs) (give_sign (sign_at c) x)
    on none h = tt
    on (some x) h = ends_check (c ∷ bs) (is_i64 (signed (sign_at c) x.0)) (signed (sign_at c) x.0, x.1) h

var_uints_ends : (n : ℕ) (b : List ℕ) → Ends b (var_uints n b)
unfolding var_uints
var_uints_ends zero b = ([], refl)
var_uints_ends (suc n) [] = ([], refl)
var_uints_ends (suc n) (c ∷ bs) = first (var_uint (c ∷ bs)) (var_uint_ends (c ∷ bs)) (λ r. var_uints_ends n r)
  where
    rest : (k : ℕ) (x : Option (List ℕ × List ℕ)) → Ends (c ∷ bs) x → Ends (c ∷ bs) (x >>= λ y. some (k ∷ y.0, y.1))
    rest k none h = tt
    rest k (some y) h = h

    first : (x : Option (ℕ × List ℕ)) → Ends (c ∷ bs) x → ((r : List ℕ) → Ends r (var_uints n r))
        → Ends (c ∷ bs) (x >>= λ x. var_uints n x.1 >>= λ y. some (x.0 ∷ y.0, y.1))
    first none h go = tt
    first (some x) h go = rest x.0 (var_uints n x.1) (ends_behind (c ∷ bs) h.0 x.1 (var_uints n x.1) h.1 (go x.1))

-- ---- decimals

pub decimal_whole : DecimalWhole
unfolding scalar_of decimal_of decimal_in int_field
decimal_whole [] = refl
decimal_whole (c ∷ bs) = on (var_int (c ∷ bs)) (var_int_ends (c ∷ bs))
  where
    on : (x : Option (Signed × List ℕ)) → Ends (c ∷ bs) x
        → (x >>= λ e. some (decimal (int_field e.1) (number e.0))) ≡ decimal_told (c ∷ bs) (decimal_from (length (c ∷ bs)) x)
    on none h = refl
    on (some (signed s n, r)) h = ap (λ (l : List ℕ). some (decimal (int_field l) (number (signed s n)))) (sym (ends_at (c ∷ bs) h.0 r h.1))

-- ---- symbols

pub symbol_whole : SymbolWhole
unfolding scalar_of symbol_in
symbol_whole b = by_cases (ltb (uint b) (2 ^ 64)) (λ p. rw p) (λ p. rw p)

-- ---- timestamps

-- the fields that a calendar time can have are six at most
fields_same : (f : List ℕ) → are_fields f ≡ true → fields_told (six_fields f) ≡ f
unfolding are_fields
fields_same [] e = refl
fields_same (y ∷ []) e = refl
fields_same (y ∷ m ∷ []) e = refl
fields_same (y ∷ m ∷ d ∷ []) e = refl
fields_same (y ∷ m ∷ d ∷ h ∷ []) e = refl
fields_same (y ∷ m ∷ d ∷ h ∷ i ∷ []) e = refl
fields_same (y ∷ m ∷ d ∷ h ∷ i ∷ s ∷ []) e = refl
fields_same (y ∷ m ∷ d ∷ h ∷ i ∷ s ∷ x ∷ r) e = absurd (false≢true e)

-- the number that a fraction's digits make is the coefficient's magnitude
abbrev Fractions : Signed → Option Fraction → Type 0
Fractions c none = Unit {0}
Fractions c (some no_fraction) = Unit {0}
Fractions c (some (fraction k n)) = n ≡ magnitude c

fractions-check : (c : Signed) (t : Bool) (x : Fraction) → (t ≡ true → Fractions c (some x)) → Fractions c (check t (some x))
fractions-check c true x h = h refl
fractions-check c false x h = tt

fraction_same : (e c : Signed) → Fractions c (fraction_of e c)
unfolding fraction_of
fraction_same (signed false e) (signed s c) = fractions-check (signed s c) (eqb c 0) no_fraction (λ p. tt)
fraction_same (signed true zero) (signed s c) = fractions-check (signed s c) (eqb c 0) no_fraction (λ p. tt)
fraction_same (signed true (suc e)) (signed false c) =
    fractions-check (signed false c) (is_coefficient c && ltb c (10 ^ suc e)) (fraction (suc e) c) (λ p. refl)
fraction_same (signed true (suc e)) (signed true c) = fractions-check (signed true c) (eqb c 0) (fraction (suc e) 0) (λ p. sym (eqb-true c 0 p))

offset_same : (o : Signed) → offset_of o ≡ offset_told (known_offset o)
offset_same (signed false n) = refl
offset_same (signed true zero) = refl
offset_same (signed true (suc n)) = refl

module _ (b : List ℕ) (o : Signed) (f : List ℕ) (is : are_fields f ≡ true) where
  stamped-told : (x : Fraction) (y : Std.Option Answer.Fraction) → x ≡ fraction_told b y
      → some (timestamp (offset_of o) f x) ≡ timestamp_told b (stamped o f y)
  stamped-told x y e = cc (offset_same o, fields_same f is, e)

  fractioned-told : (r : List ℕ) (x : Option Fraction) → drop (length b - length r) b ≡ r → Fractions (int_field r) x
      → (x >>= λ y. some (timestamp (offset_of o) f y)) ≡ timestamp_told b (fractioned (length b) o f (length r) x)
  fractioned-told r none d h = refl
  fractioned-told r (some no_fraction) d h = stamped-told no_fraction None refl
  fractioned-told r (some (fraction k n)) d h =
      stamped-told (fraction k n) (Some (record { digits = k; coefficient = length b - length r })) (rw (d, h) refl)

  exponent_told : (x : Option (Signed × List ℕ)) → Ends b x
      → ((x >>= λ e. fraction_of e.0 (int_field e.1)) >>= λ y. some (timestamp (offset_of o) f y)) ≡ timestamp_told b (exponent_from (length b) o f x)
  exponent_told none h = refl
  exponent_told (some e) h =
      fractioned-told e.1 (fraction_of e.0 (int_field e.1)) (ends_at b h.0 e.1 h.1) (fraction_same e.0 (int_field e.1))

  fraction_whole : (l r : List ℕ) → b ≡ l ++ r → (fraction_at r >>= λ y. some (timestamp (offset_of o) f y)) ≡ timestamp_told b (fraction_from (length b) o f r)
  unfolding fraction_at
  fraction_whole l [] e = stamped-told no_fraction None refl
  fraction_whole l (c ∷ cs) e = exponent_told (var_int (c ∷ cs)) (ends_behind b l (c ∷ cs) (var_int (c ∷ cs)) e (var_int_ends (c ∷ cs)))

fields-whole : (b : List ℕ) (o : Signed) (x : Option (List ℕ × List ℕ)) → Ends b x
    → (x >>= λ f. check (are_fields f.0) (fraction_at f.1 >>= λ y. some (timestamp (offset_of o) f.0 y))) ≡ timestamp_told b (fields_from (length b) o x)
fields-whole b o none h = refl
fields-whole b o (some f) h = by_cases (are_fields f.0) (λ p. rw p (fraction_whole b o f.0 p h.0 f.1 h.1)) (λ p. rw p)

pub timestamp_whole : TimestampWhole
unfolding scalar_of timestamp_of timestamp_in
timestamp_whole b = on (var_int b) (var_int_ends b)
  where
    on : (x : Option (Signed × List ℕ)) → Ends b x
        → (x >>= λ o. var_uints 6 o.1 >>= λ f. check (are_fields f.0) (fraction_at f.1 >>= λ y. some (timestamp (offset_of o.0) f.0 y)))
        ≡ timestamp_told b (offset_from (length b) x)
    on none h = refl
    on (some o) h = fields-whole b o.0 (var_uints 6 o.1) (ends_behind b h.0 o.1 (var_uints 6 o.1) h.1 (var_uints_ends 6 o.1))

pub mark_whole : MarkWhole
unfolding shown_in scalar_of
mark_whole b = by_answer (timestamp_in b) (timestamp_whole b)
  where
    by_answer : (t : Result Timestamp Refusal) → timestamp_of b ≡ timestamp_told b t
        → mark_shown (shown_with (mark_in (timestamp_of b)) t) ≡ mark_in (timestamp_told b (timestamp_shown (shown_with (mark_in (timestamp_of b)) t)))
    by_answer (Ok t) e = ap mark_in e
    by_answer (Err r) e = refl

-- the offset is said to be known exactly where there is one
stamped_known : (o : Signed) (f : List ℕ) (x : Std.Option Answer.Fraction) → KnownTold (stamped o f x)
stamped_known (signed false n) f x = refl
stamped_known (signed true zero) f x = refl
stamped_known (signed true (suc n)) f x = refl

pub timestamp_known : (b : List ℕ) → KnownTold (timestamp_in b)
unfolding timestamp_in
timestamp_known b = by_offset (var_int b)
  where
    by_fraction : (o : Signed) (f : List ℕ) (n : ℕ) (x : Option Fraction) → KnownTold (fractioned (length b) o f n x)
    by_fraction o f n none = tt
    by_fraction o f n (some no_fraction) = stamped_known o f None
    by_fraction o f n (some (fraction k c)) = stamped_known o f (Some (record { digits = k; coefficient = length b - n }))

    by_exponent : (o : Signed) (f : List ℕ) (x : Option (Signed × List ℕ)) → KnownTold (exponent_from (length b) o f x)
    by_exponent o f none = tt
    by_exponent o f (some e) = by_fraction o f (length e.1) (fraction_of e.0 (int_field e.1))

    by_rest : (o : Signed) (f r : List ℕ) → KnownTold (fraction_from (length b) o f r)
    by_rest o f [] = stamped_known o f None
    by_rest o f (c ∷ cs) = by_exponent o f (var_int (c ∷ cs))

    by_fields : (o : Signed) (x : Option (List ℕ × List ℕ)) → KnownTold (fields_from (length b) o x)
    by_fields o none = tt
    by_fields o (some f) = by_cases (are_fields f.0) (λ p. rw p (by_rest o f.0 f.1)) (λ p. rw p tt)

    by_offset : (x : Option (Signed × List ℕ)) → KnownTold (offset_from (length b) x)
    by_offset none = tt
    by_offset (some o) = by_fields o.0 (var_uints 6 o.1)

-- ---- by the cases of the answer
