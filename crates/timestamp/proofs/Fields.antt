-- The fields of a timestamp as VarUInts: one behind the other, of one byte each but for the year.
-- By what each write puts behind those before it. Assumes nothing.
use Prim.Native.Nat.{ℕ, zero, suc, ◌+◌, ◌-◌, ◌%◌, ◌≤◌, ◌<◌}
use native.Mathlib.Omega.{arith}
use mathlib.Core.Path.{◌≡◌, refl, ◌∙◌}
use mathlib.Core.List.{List, [], ◌∷◌, append-nil}
use lib.ListN.{length, take, get_or}
use lib.Seq.{length-take-le, take-take, get_or-take}
use Rattle.std.proofs.lemmas.List.{take_more}
use Rattle.encoding.specs.Fields.{var_uint_bytes, var_uints_bytes, AllBelow}
use Rattle.std.specs.Prelude.{Option, Some, None}
use Rattle.buffer.specs.Laid.{placed}
use Rattle.buffer.proofs.Laid.{placed_then, placed-some, placed-room, placed-length}
use Rattle.encoding.proofs.Sizes.{var_uint-size-small}
use Rattle.encoding.proofs.Fields.{var_uints_snoc}
use Rattle.encoding.proofs.TimestampLength.{length_fields}
use Rattle.timestamp.specs.declared.Precision.{Precision}
use Rattle.timestamp.specs.declared.Precision.TheVariants.{Year, Month, Day, Minute, Second}
use Rattle.timestamp.specs.declared.Timestamp.{Timestamp}
use Rattle.timestamp.specs.Arguments.{field_count, fields_by, fields_of}
use Rattle.timestamp.specs.Small.{SmallFields}

-- the year, and those below it
pub fields_by-below : (p : Precision) (y m d h i s : ℕ) → fields_by p y m d h i s ≡ y ∷ take (field_count p - 1) (m ∷ d ∷ h ∷ i ∷ s ∷ [])
fields_by-below Year y m d h i s = refl
fields_by-below Month y m d h i s = refl
fields_by-below Day y m d h i s = refl
fields_by-below Minute y m d h i s = refl
fields_by-below Second y m d h i s = refl

pub length-below : (p : Precision) (m d h i s : ℕ) → length (take (field_count p - 1) (m ∷ d ∷ h ∷ i ∷ s ∷ [])) ≡ field_count p - 1
length-below Year m d h i s = refl
length-below Month m d h i s = refl
length-below Day m d h i s = refl
length-below Minute m d h i s = refl
length-below Second m d h i s = refl

pub field_count_between : (p : Precision) → (1 ≤ field_count p) × (field_count p ≤ 6)
field_count_between Year = omega arith
field_count_between Month = omega arith
field_count_between Day = omega arith
field_count_between Minute = omega arith
field_count_between Second = omega arith

all_below-at : (limit : ℕ) (ns : List ℕ) (i : ℕ) → AllBelow limit ns → i < length ns → get_or ns i 0 < limit
all_below-at limit [] i k h = absurd (omega arith)
all_below-at limit (n ∷ ns) zero k h = k.0
all_below-at limit (n ∷ ns) (suc i) k h = all_below-at limit ns i k.1 (omega arith)

all_below-take : (limit : ℕ) (ns : List ℕ) (i : ℕ) → AllBelow limit ns → AllBelow limit (take i ns)
all_below-take limit [] zero k = tt
all_below-take limit [] (suc i) k = tt
all_below-take limit (n ∷ ns) zero k = tt
all_below-take limit (n ∷ ns) (suc i) k = (k.0, all_below-take limit ns i k.1)

module _ (t : Timestamp) (small : SmallFields (fields_of t)) where
  abbrev count : ℕ
  count = field_count t.precision

  fields-split : fields_of t ≡ t.year ∷ take (count - 1) (t.month ∷ t.day ∷ t.hour ∷ t.minute ∷ t.second ∷ [])
  fields-split = fields_by-below t.precision t.year t.month t.day t.hour t.minute t.second

  pub small_year : t.year < 16384
  small_year = (rw fields-split at small).0

  pub length_of_fields : length (var_uints_bytes (fields_of t)) ≡ length (var_uint_bytes t.year) + (count - 1)
  length_of_fields =
      rw fields-split
      (length_fields t.year (take (count - 1) (t.month ∷ t.day ∷ t.hour ∷ t.minute ∷ t.second ∷ [])) (rw fields-split at small).1
      ∙ rw (length-below t.precision t.month t.day t.hour t.minute t.second))

-- n and l are how many bytes are put and the buffer, once the year y and the first i of the fields ns below it are put into b from at on
abbrev pub Put : List ℕ → ℕ → ℕ → List ℕ → ℕ → ℕ → List ℕ → Type 0
Put b at y ns i n l = ◌≡◌ {A = Option ℕ × List ℕ} (Some n, l) (placed b at (var_uints_bytes (y ∷ take i ns)))

pub year_put : (b : List ℕ) (at y : ℕ) (ns : List ℕ) (n m : ℕ) (l : List ℕ) →
    m ≡ n → ◌≡◌ {A = Option ℕ × List ℕ} (Some n, l) (placed b at (var_uint_bytes y)) → Put b at y ns 0 m l
unfolding var_uints_bytes
year_put b at y ns n m l q e = rw (q, append-nil (var_uint_bytes y)) e

module _ (b : List ℕ) (at : ℕ) (t : Timestamp) (k : ℕ) (e : k ≡ field_count t.precision) where
  -- the fields below the year, whether they count or not
  abbrev below : List ℕ
  below = t.month ∷ t.day ∷ t.hour ∷ t.minute ∷ t.second ∷ []

  fields-are : fields_of t ≡ t.year ∷ take (k - 1) below
  fields-are = rw e (fields_by-below t.precision t.year t.month t.day t.hour t.minute t.second)

  pub at_most_five : k - 1 ≤ 5
  at_most_five = let c = field_count_between t.precision in omega (arith, c.1, e)

  module _ (small : SmallFields (fields_of t)) (room : at + length (var_uints_bytes (fields_of t)) ≤ length b) where
    low : AllBelow 128 (take (k - 1) below)
    low = (rw fields-are at small).1

    length-upto : (i : ℕ) → i ≤ k - 1 → length (take i below) ≡ i
    length-upto i h = length-take-le i below (omega (arith, at_most_five))

    low-upto : (i : ℕ) → i ≤ k - 1 → AllBelow 128 (take i below)
    low-upto i h = rw (take-take i (k - 1) below h) at (all_below-take 128 (take (k - 1) below) i low)

    all_room : at + (length (var_uint_bytes t.year) + (k - 1)) ≤ length b
    all_room =
        let q = length_fields t.year (take (k - 1) below) low in
        let r = rw fields-are at room in
        omega (arith, q, r, length-upto (k - 1) (omega arith))

    pub put_room : (i n : ℕ) (l : List ℕ) → i ≤ k - 1 → Put b at t.year below i n l → (at + n + (k - 1) ≤ length b + i) × (length l ≡ length b)
    put_room i n l h f =
        let xs = var_uints_bytes (t.year ∷ take i below) in
        let q = length_fields t.year (take i below) (low-upto i h) in
        let r = length-upto i h in
        let p = placed-some b at xs n l f in
        (omega (arith, all_room, q, r, p.1), placed-length b at xs (Some n) l f)

    -- there is room for the year
    pub no_year : (l : List ℕ) → ◌≡◌ {A = Option ℕ × List ℕ} (None, l) (placed b at (var_uint_bytes t.year)) → ⊥
    no_year l e = placed-room b at (var_uint_bytes t.year) l (omega (arith, all_room)) e

    -- the next one of them, behind those; p is its place
    module _ (i n : ℕ) (l : List ℕ) (h : i < k - 1) (f : Put b at t.year below i n l) (p : ℕ) (q : p ≡ at + n) where
      next : ℕ
      next = get_or below i 0

      next-small : next < 128
      unfolding next
      next-small =
          rw (get_or-take (k - 1) below i 0 h) at
          (all_below-at 128 (take (k - 1) below) i low (rw (length-upto (k - 1) (omega arith)) h))

      next-is : next % 128 ≡ next
      next-is = omega (arith, next-small)

      next-length : length (var_uint_bytes next) ≡ 1
      next-length = var_uint-size-small next next-small

      pub no_next : (l' : List ℕ) → ◌≡◌ {A = Option ℕ × List ℕ} (None, l') (placed l p (var_uint_bytes (get_or below i 0 % 128))) → ⊥
      unfolding next
      no_next l' f' =
          let c = put_room i n l (omega arith) f in
          placed-room l p (var_uint_bytes next) l' (omega (arith, c.0, c.1, next-length, q)) (rw next-is at f')

      pub next_put : (m r : ℕ) (l' : List ℕ) → m ≡ n + 1 →
          ◌≡◌ {A = Option ℕ × List ℕ} (Some r, l') (placed l p (var_uint_bytes (get_or below i 0 % 128))) → Put b at t.year below (i + 1) m l'
      unfolding next
      next_put m r l' v f' =
          let xs = var_uints_bytes (t.year ∷ take i below) in
          let g = rw (next-is, q) at f' in
          let w : m ≡ n + r = omega (arith, v, (placed-some l (at + n) (var_uint_bytes next) r l' g).1, next-length) in
          rw (w, take_more below i 0 (omega (arith, at_most_five)), var_uints_snoc (t.year ∷ take i below) next)
          (placed_then b at xs n l f (var_uint_bytes next) r l' g)
