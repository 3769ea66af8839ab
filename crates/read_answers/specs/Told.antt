-- What the numbers tell that C is given, by their places in the lent slice: those about a timestamp's body, put together, are the scalar, and the first
-- of an item is its name. The statements; the proofs are in proofs/Told.antt.
-- Assumes nothing.
use Rattle.std.specs.Prelude as Std
use Rattle.std.specs.Prelude.{ℕ, zero, suc, ℤ, ◌≡◌, ◌≤◌, cond, List, [], ◌∷◌, eqb, length, take, drop, get_or, Result, Ok, Err, Some, None}
use Rattle.std.proofs.Math.Option.{Option, none, some}
use Rattle.ion.specs.Value as Ion
use Rattle.ion.specs.Value.{timestamp_code, signed, no_fraction, fraction, Scalar, timestamp}
use Rattle.ion.specs.Fields.{int_field}
use Rattle.ion.specs.Scalars.{offset_of, scalar_of}
use Rattle.reading.specs.declared.Refusal.{Refusal}
use Rattle.reading.specs.declared.Item.{Item}
use Rattle.reading.specs.declared.Fraction.{Fraction}
use Rattle.reading.specs.declared.Timestamp.{Timestamp}
use Rattle.reading.specs.Scalars.{is_some}
use Rattle.reading.specs.Bodies.{magnitude, timestamp_in, mark_in, shown_in}
use Rattle.reading.specs.Items.{has_names, item_at}
use Rattle.reading.specs.Walk.{name_shown}
use Rattle.read_answers.specs.Answers.{Answered, bit, item_answer, timestamp_answer}

-- ---- a timestamp's thirteen numbers

-- the sign and the minutes: negative zero is the unknown offset
abbrev pub offset_in : List ℕ → Option ℤ
offset_in ns = offset_of (signed (eqb (get_or ns 1 0) 1) (get_or ns 2 0))

-- as many of the six fields as the count says
abbrev pub fields_in : List ℕ → List ℕ
fields_in ns = take (get_or ns 3 0) (get_or ns 4 0 ∷ get_or ns 5 0 ∷ get_or ns 6 0 ∷ get_or ns 7 0 ∷ get_or ns 8 0 ∷ get_or ns 9 0 ∷ [])

-- the digits that a fraction has, 0 where there is none, and the bytes of their coefficient
abbrev pub fraction_in : ℕ → List ℕ → Ion.Fraction
fraction_in zero bs = no_fraction
fraction_in (suc k) bs = fraction (suc k) (magnitude (int_field bs))

-- the scalar that the numbers about the body b make
abbrev pub timestamp_numbers_told : List ℕ → List ℕ → Scalar
timestamp_numbers_told b ns = timestamp (offset_in ns) (fields_in ns) (fraction_in (get_or ns 10 0) (drop (get_or ns 11 0) b))

-- the same of an answer: behind a refusal's number there is none
abbrev pub timestamp_answer_told : List ℕ → Answered → Option Scalar
timestamp_answer_told b a = cond (eqb a.0 0) (some (timestamp_numbers_told b a.1)) none

-- what `gm_read_timestamp` answers about the body b, with this slice lent
abbrev pub timestamp_lent : List ℕ → List ℕ → Answered
timestamp_lent b lent = timestamp_answer (length b) (shown_in b) lent

-- What is answered about any body tells the scalar of the grammar, whole; of a body that is none it tells none.
abbrev pub TimestampNumbersWhole : Type 0
TimestampNumbersWhole = (b lent : List ℕ) → 12 ≤ length lent → scalar_of timestamp_code b ≡ timestamp_answer_told b (timestamp_lent b lent)

-- The first number is 1 exactly if the offset that the sign and the minutes tell is known.
abbrev pub KnownNumberTold : Type 0
KnownNumberTold =
    (b lent : List ℕ) → 3 ≤ length lent → (timestamp_lent b lent).0 ≡ 0
    → get_or (timestamp_lent b lent).1 0 0 ≡ bit (is_some (offset_in (timestamp_lent b lent).1))

-- The thirteenth is the mark of the scalar that is told.
abbrev pub MarkNumberWhole : Type 0
MarkNumberWhole =
    (b lent : List ℕ) → 13 ≤ length lent → (timestamp_lent b lent).0 ≡ 0
    → get_or (timestamp_lent b lent).1 12 0 ≡ bit (mark_in (timestamp_answer_told b (timestamp_lent b lent)))

-- ---- the digits of a fraction

-- there is one at least
abbrev pub HasDigit : Std.Option Fraction → Type 0
HasDigit None = Unit {0}
HasDigit (Some f) = (k : ℕ) × (f.digits ≡ suc k)

abbrev pub DigitTold : Result Timestamp Refusal → Type 0
DigitTold (Ok t) = HasDigit t.fraction
DigitTold (Err r) = Unit {0}

-- A fraction that a body has is one of a digit at least: so 0 digits say that there is none.
abbrev pub FractionHasDigit : Type 0
FractionHasDigit = (b : List ℕ) → DigitTold (timestamp_in b)

-- ---- an item's name

-- the name that a number is, in a struct
abbrev pub name_in : ℕ → ℕ → Option ℕ
name_in parent name = cond (has_names parent) (some name) none

-- An item's name is the first number, where its holder's items have names, and else it has none.
abbrev pub NameNumberTold : Type 0
NameNumberTold =
    (s lent : List ℕ) (parent least depth at : ℕ) (i : Item) → 1 ≤ length lent → item_at s parent least depth at ≡ Ok (Some i)
    → name_shown i.name ≡ name_in parent (get_or (item_answer at (item_at s parent least depth at) lent).1 0 0)
