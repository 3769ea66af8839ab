-- What a host is answered: 0 and numbers at the front of a lent slice, or the refusal's number, and the slice as it was.
-- Assumes nothing.
use Rattle.std.specs.Prelude as Std
use Rattle.std.specs.Prelude.{ℕ, ◌+◌, Bool, true, false, cond, List, [], ◌∷◌, ltb, length, set, Result, Ok, Err, Some, None, is_some, unwrap_or}
use Rattle.reading.specs.Refusals.{number}
use Rattle.reading.specs.declared.Refusal.{Refusal}
use Rattle.reading.specs.declared.Number.{Number}
use Rattle.reading.specs.declared.Item.{Item}
use Rattle.reading.specs.declared.Stopped.{Stopped}
use Rattle.reading.specs.declared.Decimal.{Decimal}
use Rattle.reading.specs.declared.Offset.{Offset}
use Rattle.reading.specs.declared.Fraction.{Fraction}
use Rattle.reading.specs.declared.Shown.{Shown}

abbrev pub stored : ℕ → ℕ → List ℕ → List ℕ
stored i n lent = cond (ltb i (length lent)) (set lent i n) lent

-- the numbers, one behind the other from the place i on, as many of them as the slice holds
unfoldable pub laid : ℕ → List ℕ → List ℕ → List ℕ
laid i [] lent = lent
laid i (n ∷ ns) lent = laid (i + 1) ns (stored i n lent)

abbrev pub Answered : Type 0
Answered = ℕ × List ℕ

abbrev pub accepts : List ℕ → List ℕ → Answered
accepts ns lent = (0, laid 0 ns lent)

abbrev pub refuses : Refusal → List ℕ → Answered
refuses r lent = (number r, lent)

-- by the numbers of what reads
abbrev pub answered_by : {T : Type 0} → (T → List ℕ) → Result T Refusal → List ℕ → Answered
answered_by numbers (Ok x) lent = accepts (numbers x) lent
answered_by numbers (Err r) lent = refuses r lent

abbrev pub bit : Bool → ℕ
bit false = 0
bit true = 1

-- a type byte that begins nothing: there is no item more
abbrev pub no_more : ℕ
no_more = 0xFF

-- name, 0 where there is none; sids' start and stop, type byte, body's start and stop
abbrev pub item_numbers : ℕ → Std.Option Item → List ℕ
item_numbers at None = 0 ∷ at ∷ at ∷ no_more ∷ at ∷ at ∷ []
item_numbers at (Some i) =
    let w = i.held in
    let h = w.header in
    unwrap_or i.name 0 ∷ w.sids ∷ w.sids_end ∷ h.kind ∷ h.start ∷ h.stop ∷ []

abbrev pub item_answer : ℕ → Result (Std.Option Item) Refusal → List ℕ → Answered
item_answer at item lent = answered_by (item_numbers at) item lent

-- A refusal has its place here: where the item begins that does not read.
abbrev pub reading_answer : Result (Unit {0}) Stopped → List ℕ → Answered
reading_answer (Ok x) lent = (0, lent)
reading_answer (Err x) lent = (number x.refusal, laid 0 (x.place ∷ []) lent)

-- a sid and the place behind it
abbrev pub number_answer : Result Number Refusal → List ℕ → Answered
number_answer n lent = answered_by (λ n. n.value ∷ n.next ∷ []) n lent

-- the exponent's sign and magnitude, the coefficient's place
abbrev pub decimal_answer : Result Decimal Refusal → List ℕ → Answered
decimal_answer d lent = answered_by (λ d. bit d.negative ∷ d.exponent ∷ d.coefficient ∷ []) d lent

-- an unknown offset is negative zero
abbrev pub offset_shown : Std.Option Offset → Offset
offset_shown o = unwrap_or o (record { negative = true; minutes = 0 })

-- with no fraction there are no digits, and the coefficient's place is the end of the body
abbrev pub fraction_shown : ℕ → Std.Option Fraction → Fraction
fraction_shown size x = unwrap_or x (record { digits = 0; coefficient = size })

-- Whether the offset is known, its sign and minutes; the count of fields, and six fields; the fraction's digits, and its coefficient's place; the mark.
abbrev pub timestamp_numbers : ℕ → Shown → List ℕ
timestamp_numbers size x =
    let t = x.timestamp in
    let o = offset_shown t.offset in
    let f = t.fields in
    let s = fraction_shown size t.fraction in
    bit (is_some t.offset) ∷ bit o.negative ∷ o.minutes ∷ f.count ∷ f.year ∷ f.month ∷ f.day ∷ f.hour ∷ f.minute ∷ f.second ∷ s.digits ∷ s.coefficient ∷ bit x.marked ∷ []

-- of a body of `size` bytes
abbrev pub timestamp_answer : ℕ → Result Shown Refusal → List ℕ → Answered
timestamp_answer size x lent = answered_by (timestamp_numbers size) x lent

abbrev pub symbol_answer : Result ℕ Refusal → List ℕ → Answered
symbol_answer sid lent = answered_by (λ n. n ∷ []) sid lent
