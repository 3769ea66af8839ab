-- What asking for the next small value again and again yields.
-- Assumes nothing.
use Rattle.std.specs.Prelude.{ℕ, zero, suc, ◌+◌, ◌-◌, ◌^◌, ◌≤◌, ◌≡◌, ◌↔◌, Bool, true, cond, Option, Some, None, List, [], ◌∷◌, ◌++◌, ltb, leb, length}
use Rattle.ion.specs.Value.{Value, value}
use Rattle.ion.specs.Grammar.{Reads}
use Rattle.encoding.specs.Digits.{low_digits}
use Rattle.encoding.specs.Fields.{AllBelow}
use Rattle.reading.specs.Walk.{stream_events, shows, walk}
use Rattle.unpadded.specs.Rule.{is_one_value}
use Rattle.small_values.specs.Order.{◌∈◌, Lists}
use Rattle.small_values.specs.Set.{SmallValue}

-- The strings of n bytes have the numbers that they are as big-endian numbers, below this one; those of more than three bytes are not asked for.
unfoldable pub limit : ℕ → ℕ
limit n = cond (leb n 3) (256 ^ n) 0

-- the first number from x on, among k, whose string of n bytes passes the test; the one behind them where none does
unfoldable pub first_from : (List ℕ → Bool) → ℕ → ℕ → ℕ → ℕ
first_from t zero n x = x
first_from t (suc k) n x = cond (t (low_digits 256 n x)) x (first_from t k n (x + 1))

abbrev pub next_by : (List ℕ → Bool) → ℕ → ℕ → ℕ
next_by t n x = first_from t (limit n - x) n x

-- The number of the next small value of n bytes, from x on; where there is none, the limit, or x if that is past it.
unfoldable pub next_of : ℕ → ℕ → ℕ
next_of n x = next_by is_one_value n x

-- The same, or none.
unfoldable pub next_value : ℕ → ℕ → Option ℕ
next_value n x = cond (ltb (next_of n x) (limit n)) (Some (next_of n x)) None

abbrev pub behind_next : (ℕ → List (List ℕ)) → ℕ → ℕ → List (List ℕ)
behind_next go n y = cond (ltb y (limit n)) (low_digits 256 n y ∷ go (y + 1)) []

-- the strings of n bytes, from x on, that the next ones are; k bounds how many
unfoldable pub yields_from : (ℕ → ℕ → ℕ) → ℕ → ℕ → ℕ → List (List ℕ)
yields_from next zero n x = []
yields_from next (suc k) n x = behind_next (λ y. yields_from next k n y) n (next n x)

abbrev pub of_size : ℕ → List (List ℕ)
of_size n = yields_from next_of (limit n) n 0

-- From zero on, of one, two and three bytes.
unfoldable pub small_values : List (List ℕ)
small_values = of_size 1 ++ (of_size 2 ++ of_size 3)

-- These are the small values, each once and in order, and nothing else. The proof is in proofs/Listed.antt, as are those of the next two.
abbrev pub SmallValuesListed : Type 0
SmallValuesListed = Lists SmallValue small_values

-- The reader agrees: it walks each to its end and shows the one value that it reads as, by the grammar.
abbrev pub ReaderAgrees : Type 0
ReaderAgrees =
    (b : List ℕ) → b ∈ small_values → (v : Value) × (Reads b (value v ∷ []) × (walk b 0 ≡ shows (stream_events (value v ∷ []))))

-- Of every string of at most three bytes: what the reader answers of its items tells whether it is there.
abbrev pub ToldByReader : Type 0
ToldByReader = (b : List ℕ) → length b ≤ 3 → AllBelow 256 b → (b ∈ small_values) ↔ (is_one_value b ≡ true)
