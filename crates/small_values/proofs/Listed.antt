-- The strings that asking for the next yields are the small values; and the reader agrees on them.
-- Assumes nothing.
use Prim.Native.Nat.{ℕ, ◌≤◌}
use native.Mathlib.Omega.{arith}
use mathlib.Core.Path.{◌≡◌, refl}
use mathlib.Core.Logic.{◌⊎◌, inl, inr, ⊎_elim}
use mathlib.Core.Bool.{true, false≢true}
use mathlib.Core.List.{List, [], ◌∷◌, ◌++◌}
use lib.ListN.{length}
use Rattle.ion.specs.Value.{Value, value}
use Rattle.encoding.specs.Fields.{AllBelow}
use Rattle.reading.specs.Items.{item_at}
use Rattle.reading.specs.Walk.{tree_depth, stream_depth}
use Rattle.reading_grammar.proofs.Walked.{higher_within, reading_is_walked}
use Rattle.unpadded.specs.Rule.{is_one_value}
use Rattle.unpadded_grammar.proofs.Exact.{found_is_one, one_is_found}
use Rattle.unpadded_grammar.proofs.Depth.{shallow}
use Rattle.small_values.specs.Order.{Lists}
use Rattle.small_values.specs.Set.{SmallValue}
use Rattle.small_values.specs.Listing.{next_of, next_by, of_size, small_values, SmallValuesListed, ReaderAgrees, ToldByReader}
use Rattle.small_values.proofs.Order.{lists_join, lists_same}
use Rattle.small_values.proofs.Yields.{listed}

-- ---- by size

-- the strings of n bytes that pass
abbrev Sized : ℕ → List ℕ → Type 0
Sized n b = (length b ≡ n) × (AllBelow 256 b × (is_one_value b ≡ true))

abbrev Passing : List ℕ → Type 0
Passing b = Sized 1 b ⊎ (Sized 2 b ⊎ Sized 3 b)

next_is : (n x : ℕ) → next_of n x ≡ next_by is_one_value n x
unfolding next_of
next_is n x = refl

sized : (n : ℕ) → n ≤ 3 → Lists (Sized n) (of_size n)
sized n h = listed is_one_value next_of next_is n h

passing_listed : Lists Passing small_values
unfolding small_values
passing_listed =
    lists_join (of_size 1) (of_size 2 ++ of_size 3) (sized 1 (omega arith))
    (lists_join (of_size 2) (of_size 3) (sized 2 (omega arith)) (sized 3 (omega arith)) (λ b c u v. omega (arith, u.0, v.0)))
    (λ b c u v. ⊎_elim (λ w. omega (arith, u.0, w.0)) (λ w. omega (arith, u.0, w.0)) v)

-- ---- those that pass are the small values

-- nothing is no value
nothing : is_one_value [] ≡ true → ⊥
unfolding is_one_value item_at
nothing e = false≢true e

passing : (b : List ℕ) → length b ≤ 3 → AllBelow 256 b → is_one_value b ≡ true → Passing b
passing [] h a e = absurd (nothing e)
passing (x ∷ []) h a e = inl (refl, (a, e))
passing (x ∷ y ∷ []) h a e = inr (inl (refl, (a, e)))
passing (x ∷ y ∷ z ∷ []) h a e = inr (inr (refl, (a, e)))
passing (x ∷ y ∷ z ∷ w ∷ b) h a e = absurd (omega arith)

-- of one size
small : (n : ℕ) (b : List ℕ) → n ≤ 3 → Sized n b → SmallValue b
small n b h u = record { size = omega (arith, u.0); bytes = u.1.0; value = found_is_one b u.1.1 }

passing_small : (b : List ℕ) → Passing b → SmallValue b
passing_small b u = ⊎_elim (small 1 b (omega arith)) (⊎_elim (small 2 b (omega arith)) (small 3 b (omega arith))) u

found : (b : List ℕ) → SmallValue b → is_one_value b ≡ true
found b s = one_is_found b s.value (omega (arith, shallow b s.value, s.size))

small_passing : (b : List ℕ) → SmallValue b → Passing b
small_passing b s = passing b s.size s.bytes (found b s)

pub small_values_listed : SmallValuesListed
small_values_listed = lists_same small_values passing_small small_passing passing_listed

-- ---- the reader

one_depth : (v : Value) → tree_depth v ≤ 32 → stream_depth (value v ∷ []) ≤ 32
unfolding stream_depth
one_depth v h = higher_within (tree_depth v) 0 32 h (omega arith)

pub reader_agrees : ReaderAgrees
reader_agrees b u =
    let s = small_values_listed.only b u in
    let w = s.value in
    (w.one, (w.reading, reading_is_walked b 0 (value w.one ∷ []) (omega arith) w.reading (one_depth w.one (omega (arith, shallow b w, s.size)))))

pub told_by_reader : ToldByReader
told_by_reader b h a = (λ u. found b (small_values_listed.only b u), λ e. passing_listed.all b (passing b h a e))
