-- Numbers are laid one by one, and each stands at its place in the slice. Assumes nothing.
use Prim.Native.Nat.{ℕ, zero, suc, ◌+◌, ◌≤◌, ◌<◌}
use native.Mathlib.Omega.{arith}
use mathlib.Core.Path.{◌≡◌, refl, ◌∙◌}
use mathlib.Core.Logic.{◌≢◌}
use mathlib.Core.List.{List, [], ◌∷◌}
use lib.Dec.{ltb}
use lib.ListN.{length, get_or, drop, drop_of_length-le}
use borrow.Author.Tests.{lt-ltb}
use Rattle.std.proofs.lemmas.List.{length-set, get_or-set_same, get_or-set_other}
use Rattle.ion.proofs.Tests.{by_cases}
use Rattle.ion.proofs.Bytes.{drop-next}
use Rattle.read_answers.specs.Answers.{stored, laid}

module _ (ns l : List ℕ) (i : ℕ) where
  pub laid_one : i < length ns → laid i (drop i ns) l ≡ laid (i + 1) (drop (i + 1) ns) (stored i (get_or ns i 0) l)
  unfolding laid
  laid_one h = rw (drop-next ns i h) refl

  pub laid_all : length ns ≤ i → laid i (drop i ns) l ≡ l
  unfolding laid
  laid_all h = rw (drop_of_length-le ns {i = i} h) refl

-- ---- what stands where, of a slice of any length

stored_length : (i n : ℕ) (l : List ℕ) → length (stored i n l) ≡ length l
stored_length i n l = by_cases (ltb i (length l)) (λ p. rw p (length-set l i n)) (λ p. rw p refl)

stored_here : (i n : ℕ) (l : List ℕ) → i < length l → get_or (stored i n l) i 0 ≡ n
stored_here i n l h = rw (lt-ltb i (length l) h) (get_or-set_same l i n 0 h)

stored_elsewhere : (i n k : ℕ) (l : List ℕ) → k ≢ i → get_or (stored i n l) k 0 ≡ get_or l k 0
stored_elsewhere i n k l h = by_cases (ltb i (length l)) (λ p. rw p (get_or-set_other l i k n 0 h)) (λ p. rw p refl)

laid_before : (ns : List ℕ) (i k : ℕ) (l : List ℕ) → k < i → get_or (laid i ns l) k 0 ≡ get_or l k 0
unfolding laid
laid_before [] i k l h = refl
laid_before (n ∷ ns) i k l h = laid_before ns (i + 1) k (stored i n l) (omega arith) ∙ stored_elsewhere i n k l (λ e. omega arith)

laid_from : (ns : List ℕ) (i j k : ℕ) (l : List ℕ) → j ≡ i + k → k < length ns → j < length l → get_or (laid i ns l) j 0 ≡ get_or ns k 0
unfolding laid
laid_from [] i j k l e h r = absurd (omega arith)
laid_from (n ∷ ns) i j zero l e h r =
    let z : j ≡ i = omega arith in
    rw z (laid_before ns (i + 1) i (stored i n l) (omega arith) ∙ stored_here i n l (omega arith))
laid_from (n ∷ ns) i j (suc k) l e h r = laid_from ns (i + 1) j k (stored i n l) (omega arith) (omega arith) (omega (arith, stored_length i n l))

-- the number k stands at the place k, if the slice has that place
pub laid_at : (ns l : List ℕ) (k : ℕ) → k < length ns → k < length l → get_or (laid 0 ns l) k 0 ≡ get_or ns k 0
laid_at ns l k h r = laid_from ns 0 k k l (omega arith) h r

pub ruleset a_number = (laid_one, laid_all)
