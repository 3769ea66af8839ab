-- What C is given tells what the grammar reads: a timestamp's numbers the scalar, an item's first number its name.
-- Assumes nothing.
use Prim.Native.Nat.{ℕ, zero, suc, ◌≤◌, ◌<◌, ◌^◌}
use native.Mathlib.Omega.{arith}
use mathlib.Core.Path.{◌≡◌, refl, sym, ◌∙◌, ap}
use mathlib.Core.Bool.{Bool, true, false, cond, ◌&&◌, ◌||◌, not}
use mathlib.Core.List.{List, [], ◌∷◌}
use mathlib.Core.Option.{Option, none, some}
use lib.Dec.{ltb, leb, eqb}
use lib.ListN.{length, get_or, drop}
use lib.Seq.{slice}
use Rattle.std.specs.Prelude as Std
use Rattle.std.specs.Prelude.{Result, Ok, Err, Some, None, unwrap_or}
use Rattle.ion.specs.Value.{Signed, signed, Fraction, no_fraction, fraction, Scalar}
use Rattle.ion.specs.Chain.{check}
use Rattle.ion.specs.Fields.{int_field, var_uints, var_int}
use Rattle.ion.specs.Scalars.{offset_of, are_fields, is_coefficient, fraction_of, timestamp_of, scalar_of}
use Rattle.ion.proofs.Tests.{by_cases}
use Rattle.reading.specs.Refusals.{number}
use Rattle.reading.specs.declared.Refusal.{Refusal}
use Rattle.reading.specs.declared.Refusal.TheVariants.{PastTheEnd, TooDeep, NotIon, CutShort}
use Rattle.reading.specs.declared.Number.{Number}
use Rattle.reading.specs.declared.Name.{Name}
use Rattle.reading.specs.declared.Wrapped.{Wrapped}
use Rattle.reading.specs.declared.Item.{Item}
use Rattle.reading.specs.declared.Offset.{Offset}
use Rattle.reading.specs.declared.Fraction as Answer
use Rattle.reading.specs.declared.Timestamp.{Timestamp}
use Rattle.reading.specs.declared.Shown.{Shown}
use Rattle.reading.specs.Headers.{var_uint_at}
use Rattle.reading.specs.Scalars.{is_some}
use Rattle.reading.specs.Told.{offset_told, fields_told, fraction_told, timestamp_told, KnownTold}
use Rattle.reading.specs.Bodies.{fractioned, exponent_from, fraction_from, fields_from, offset_from, timestamp_in, mark_in, shown_with, shown_in}
use Rattle.reading.specs.Items.{has_names, name_of, name_at, head_in, unwrapped, opens, reads, falls, most_open, Found, judged, named, item_at}
use Rattle.reading.specs.Walk.{name_shown}
use Rattle.reading.proofs.Whole.{timestamp_whole, timestamp_known}
use Rattle.read_answers.specs.Answers.{laid, Answered, bit, item_numbers, offset_shown, fraction_shown, timestamp_numbers, timestamp_answer}
use Rattle.read_answers.specs.Told.{offset_in, fields_in, fraction_in, timestamp_numbers_told, timestamp_answer_told, HasDigit, DigitTold, name_in}
use Rattle.read_answers.specs.Told.{TimestampNumbersWhole, KnownNumberTold, MarkNumberWhole, FractionHasDigit, NameNumberTold}
use Rattle.read_answers.proofs.Laid.{laid_at}

-- ---- a fraction has a digit

-- the digits of a fraction are as many as its exponent says
abbrev Digits : Option Fraction → Type 0
Digits none = Unit {0}
Digits (some no_fraction) = Unit {0}
Digits (some (fraction k n)) = (j : ℕ) × (k ≡ suc j)

digits_check : (t : Bool) (x : Fraction) → Digits (some x) → Digits (check t (some x))
digits_check true x h = h
digits_check false x h = tt

digits_of : (e c : Signed) → Digits (fraction_of e c)
unfolding fraction_of
digits_of (signed false e) (signed s c) = digits_check (eqb c 0) no_fraction tt
digits_of (signed true zero) (signed s c) = digits_check (eqb c 0) no_fraction tt
digits_of (signed true (suc e)) (signed false c) = digits_check (is_coefficient c && ltb c (10 ^ suc e)) (fraction (suc e) c) (e, refl)
digits_of (signed true (suc e)) (signed true c) = digits_check (eqb c 0) (fraction (suc e) 0) (e, refl)

pub fraction_has_digit : FractionHasDigit
unfolding timestamp_in
fraction_has_digit b = by_offset (var_int b)
  where
    by_fraction : (o : Signed) (f : List ℕ) (n : ℕ) (x : Option Fraction) → Digits x → DigitTold (fractioned (length b) o f n x)
    by_fraction o f n none h = tt
    by_fraction o f n (some no_fraction) h = tt
    by_fraction o f n (some (fraction k c)) h = h

    by_exponent : (o : Signed) (f : List ℕ) (x : Option (Signed × List ℕ)) → DigitTold (exponent_from (length b) o f x)
    by_exponent o f none = tt
    by_exponent o f (some e) = by_fraction o f (length e.1) (fraction_of e.0 (int_field e.1)) (digits_of e.0 (int_field e.1))

    by_rest : (o : Signed) (f r : List ℕ) → DigitTold (fraction_from (length b) o f r)
    by_rest o f [] = tt
    by_rest o f (c ∷ cs) = by_exponent o f (var_int (c ∷ cs))

    by_fields : (o : Signed) (x : Option (List ℕ × List ℕ)) → DigitTold (fields_from (length b) o x)
    by_fields o none = tt
    by_fields o (some f) = by_cases (are_fields f.0) (λ p. rw p (by_rest o f.0 f.1)) (λ p. rw p tt)

    by_offset : (x : Option (Signed × List ℕ)) → DigitTold (offset_from (length b) x)
    by_offset none = tt
    by_offset (some o) = by_fields o.0 (var_uints 6 o.1)

-- ---- a timestamp's numbers

bit_told : (x : Bool) → eqb (bit x) 1 ≡ x
bit_told true = refl
bit_told false = refl

offset_same : (o : Std.Option Offset) → offset_told o ≡ offset_of (signed (eqb (bit (offset_shown o).negative) 1) (offset_shown o).minutes)
offset_same None = refl
offset_same (Some o) = ap (λ (s : Bool). offset_of (signed s o.minutes)) (sym (bit_told o.negative))

fraction_same : (b : List ℕ) (x : Std.Option Answer.Fraction) → HasDigit x
    → fraction_told b x ≡ fraction_in (fraction_shown (length b) x).digits (drop (fraction_shown (length b) x).coefficient b)
fraction_same b None h = refl
fraction_same b (Some f) h = rw (h.1) refl

module _ (b lent : List ℕ) (x : Shown) where
  abbrev numbers : List ℕ
  numbers = timestamp_numbers (length b) x

  -- each number stands at its place in the slice
  lent_at : (k : ℕ) → k < 13 → k < length lent → get_or (laid 0 numbers lent) k 0 ≡ get_or numbers k 0
  lent_at k h r = laid_at numbers lent k h r

  offset_lent : 3 ≤ length lent → offset_told x.timestamp.offset ≡ offset_in (laid 0 numbers lent)
  offset_lent room = rw (lent_at 1 (omega arith) (omega arith), lent_at 2 (omega arith) (omega arith)) (offset_same x.timestamp.offset)

  fields_lent : 12 ≤ length lent → fields_told x.timestamp.fields ≡ fields_in (laid 0 numbers lent)
  fields_lent room =
      rw (
        lent_at 3 (omega arith) (omega arith),
        lent_at 4 (omega arith) (omega arith),
        lent_at 5 (omega arith) (omega arith),
        lent_at 6 (omega arith) (omega arith),
        lent_at 7 (omega arith) (omega arith),
        lent_at 8 (omega arith) (omega arith),
        lent_at 9 (omega arith) (omega arith),
      ) refl

  fraction_lent : 12 ≤ length lent → HasDigit x.timestamp.fraction
      → fraction_told b x.timestamp.fraction ≡ fraction_in (get_or (laid 0 numbers lent) 10 0) (drop (get_or (laid 0 numbers lent) 11 0) b)
  fraction_lent room d = rw (lent_at 10 (omega arith) (omega arith), lent_at 11 (omega arith) (omega arith)) (fraction_same b x.timestamp.fraction d)

  numbers_same : 12 ≤ length lent → HasDigit x.timestamp.fraction → timestamp_told b (Ok x.timestamp) ≡ some (timestamp_numbers_told b (laid 0 numbers lent))
  numbers_same room d = cc (offset_lent (omega arith), fields_lent room, fraction_lent room d)

  known_same : 3 ≤ length lent → KnownTold (Ok x.timestamp) → get_or (laid 0 numbers lent) 0 0 ≡ bit (is_some (offset_in (laid 0 numbers lent)))
  known_same room k = rw (← offset_lent room, lent_at 0 (omega arith) (omega arith)) (ap bit k)

  mark_same : 13 ≤ length lent → get_or (laid 0 numbers lent) 12 0 ≡ bit x.marked
  mark_same room = lent_at 12 (omega arith) (omega arith)

-- no refusal has the number 0
refused_told : (b lent : List ℕ) (r : Refusal) → timestamp_answer_told b (number r, lent) ≡ none
refused_told b lent PastTheEnd = refl
refused_told b lent TooDeep = refl
refused_told b lent NotIon = refl
refused_told b lent CutShort = refl

refused_not : {X : Type 0} (r : Refusal) → number r ≡ 0 → X
refused_not PastTheEnd e = cc
refused_not TooDeep e = cc
refused_not NotIon e = cc
refused_not CutShort e = cc

module _ (b lent : List ℕ) (mark : Bool) where
  abbrev answer : Result Timestamp Refusal → Answered
  answer t = timestamp_answer (length b) (shown_with mark t) lent

  whole_of : 12 ≤ length lent → (t : Result Timestamp Refusal) → DigitTold t → timestamp_told b t ≡ timestamp_answer_told b (answer t)
  whole_of room (Ok t) d = numbers_same b lent (record { timestamp = t; marked = mark }) room d
  whole_of room (Err r) d = sym (refused_told b lent r)

  known_of : 3 ≤ length lent → (t : Result Timestamp Refusal) → KnownTold t → (answer t).0 ≡ 0 → get_or (answer t).1 0 0 ≡ bit (is_some (offset_in (answer t).1))
  known_of room (Ok t) k e = known_same b lent (record { timestamp = t; marked = mark }) room k
  known_of room (Err r) k e = refused_not r e

  mark_of : 13 ≤ length lent → (t : Result Timestamp Refusal) → (answer t).0 ≡ 0 → get_or (answer t).1 12 0 ≡ bit mark
  mark_of room (Ok t) e = mark_same b lent (record { timestamp = t; marked = mark }) room
  mark_of room (Err r) e = refused_not r e

pub timestamp_numbers_whole : TimestampNumbersWhole
unfolding shown_in
timestamp_numbers_whole b lent room = timestamp_whole b ∙ whole_of b lent (mark_in (timestamp_of b)) room (timestamp_in b) (fraction_has_digit b)

pub known_number_told : KnownNumberTold
unfolding shown_in
known_number_told b lent room e = known_of b lent (mark_in (timestamp_of b)) room (timestamp_in b) (timestamp_known b) e

pub mark_number_whole : MarkNumberWhole
unfolding shown_in scalar_of
mark_number_whole b lent room e =
    mark_of b lent (mark_in (timestamp_of b)) room (timestamp_in b) e
    ∙ ap (λ (x : Option Scalar). bit (mark_in x)) (timestamp_numbers_whole b lent (omega arith))

-- ---- an item's name

-- a name is read where the holder's items have names
name_same : (s : List ℕ) (parent at : ℕ) (n : Name) → name_at s parent at ≡ Ok n → name_shown n.value ≡ name_in parent (unwrap_or n.value 0)
name_same s parent at n e = by_parent (has_names parent) e
  where
    by_number : (x : Result Number Refusal) → name_of x ≡ Ok n → name_shown n.value ≡ some (unwrap_or n.value 0)
    by_number (Err r) e = cc
    by_number (Ok k) e = let v : Some k.value ≡ n.value = cc in rw (← v) refl

    by_parent : (x : Bool) → cond x (name_of (var_uint_at NotIon s at)) (Ok (record { value = None; next = at })) ≡ Ok n
        → name_shown n.value ≡ cond x (some (unwrap_or n.value 0)) none
    by_parent true e = by_number (var_uint_at NotIon s at) e
    by_parent false e = let v : None ≡ n.value = cc in rw (← v) refl

-- what is known of an item beside its places: its name, and that it reads
abbrev pub Told : List ℕ → ℕ → Item → Type 0
Told s parent i = (name_shown i.name ≡ name_in parent (unwrap_or i.name 0)) × (reads i.held.header.kind (slice i.held.header.start i.held.header.stop s) ≡ true)

module _ (s : List ℕ) (parent least depth at : ℕ) (i : Item) where
  judged_told : (n : Std.Option ℕ) → name_shown n ≡ name_in parent (unwrap_or n 0) → (x : Result Wrapped Refusal)
      → judged s parent least depth n x ≡ Ok (Some i) → Told s parent i
  judged_told n h (Err r) e = cc
  judged_told n h (Ok w) e = by_tests (falls parent least w.header.kind n) (reads w.header.kind (slice w.header.start w.header.stop s)) refl (opens w.header.kind && leb most_open depth) e
    where
      by_tests : (x y : Bool) → reads w.header.kind (slice w.header.start w.header.stop s) ≡ y → (z : Bool)
          → cond {A = Found} (x || not y) (Err NotIon) (cond z (Err TooDeep) (Ok (Some (record { name = n; held = w })))) ≡ Ok (Some i)
          → Told s parent i
      by_tests true y q z e = cc
      by_tests false false q z e = cc
      by_tests false true q true e = cc
      by_tests false true q false e =
          let name≡ : n ≡ i.name = cc in
          let held≡ : w ≡ i.held = cc in
          rw (← name≡, ← held≡) (h, q)

  pub item_told : item_at s parent least depth at ≡ Ok (Some i) → Told s parent i
  unfolding item_at
  item_told e = by_place (ltb (length s) at) (eqb at (length s)) e
    where
      by_name : (n : Result Name Refusal) → name_at s parent at ≡ n → named s parent least depth n ≡ Ok (Some i) → Told s parent i
      by_name (Err r) q e = cc
      by_name (Ok n) q e = judged_told n.value (name_same s parent at n q) (unwrapped s (head_in s parent n.next)) e

      by_place : (x y : Bool) → cond x (Err PastTheEnd) (cond y (Ok None) (named s parent least depth (name_at s parent at))) ≡ Ok (Some i) → Told s parent i
      by_place true y e = cc
      by_place false true e = cc
      by_place false false e = by_name (name_at s parent at) refl e

pub name_number_told : NameNumberTold
name_number_told s lent parent least depth at i room e =
    rw (e, laid_at (item_numbers at (Some i)) lent 0 (omega arith) (omega arith)) (item_told s parent least depth at i e).0
