-- The sids that fill the bytes, taken byte by byte: the running state decides what the grammar's list of VarUInts does.
-- Assumes nothing.
use Prim.Native.Nat.{ℕ, zero, suc, ◌+◌, ◌*◌, ◌%◌, ◌^◌, ◌≤◌, ◌<◌}
use native.Mathlib.Omega.{arith}
use native.Mathlib.Numerals.{add-one}
use mathlib.Core.Path.{◌≡◌, refl, ◌∙◌, ap}
use mathlib.Core.Bool.{Bool, true, false, cond}
use mathlib.Core.List.{List, [], ◌∷◌}
use mathlib.Core.Option.{Option, none, some}
use lib.Dec.{ltb, leb}
use lib.ListN.{length, drop, get_or}
use lib.Seq.{drop-cons, drop-length}
use borrow.Author.Tests.{lt-ltb, le-ltb, le-leb, lt-leb, ltb-true, ltb-false}
use Rattle.ion.specs.Chain.{◌>>=◌, check}
use Rattle.ion.specs.Fields.{groups, in_u64, var_uint, var_uints}
use Rattle.reading.specs.Scalars.{is_some, sids_of}
use Rattle.read_items.specs.Sids.{groups_with, sids_from}

-- ---- the grammar's VarUInts against the running state

-- the groups behind a byte, by its end bit
behind : ℕ → ℕ → List ℕ → Bool → Option (ℕ × List ℕ)
behind acc b bs x = elim x [ true ↦ groups (acc * 128 + b) bs | false ↦ some (acc * 128 + b % 128, bs) ]

-- groups that pass 64 bits stay past them
groups-past : (acc : ℕ) (l : List ℕ) → 2 ^ 64 ≤ acc → in_u64 (groups acc l) ≡ none
unfolding groups behind
groups-past acc [] h = refl
groups-past acc (b ∷ bs) h = go (groups-past (acc * 128 + b) bs (omega arith)) (ltb b 0x80)
  where
    go : in_u64 (groups (acc * 128 + b) bs) ≡ none → (x : Bool) → in_u64 (behind acc b bs x) ≡ none
    go k true = k
    go k false = rw (le-ltb (acc * 128 + b % 128) (2 ^ 64) (omega arith)) refl

-- the sids behind one whose groups so far are given
rest : ℕ → Option (ℕ × List ℕ) → Option (List ℕ × List ℕ)
rest n o = o >>= λ x. var_uints n x.1 >>= λ y. some (x.0 ∷ y.0, y.1)

module _ (n : ℕ) (fill : (l : List ℕ) → length l ≤ n → is_some (var_uints n l) ≡ sids_from true 0 l) where
  last_group : (v : ℕ) (l : List ℕ) → length l ≤ n → is_some (rest n (in_u64 (some (v, l)))) ≡ cond (ltb v (2 ^ 64)) (sids_from true 0 l) false
  unfolding rest
  last_group v l h = go (ltb v (2 ^ 64))
    where
      held : (o : Option (List ℕ × List ℕ)) → is_some {A = List ℕ × List ℕ} (o >>= λ y. some (v ∷ y.0, y.1)) ≡ is_some o
      held none = refl
      held (some y) = refl

      go : (x : Bool) → is_some (rest n (check x (some (v, l)))) ≡ cond x (sids_from true 0 l) false
      go true = held (var_uints n l) ∙ fill l h
      go false = refl

  sids_begun : (acc : ℕ) (l : List ℕ) → length l ≤ n + 1 → is_some (rest n (in_u64 (groups acc l))) ≡ sids_from false acc l
  unfolding groups sids_from behind rest
  sids_begun acc [] h = refl
  sids_begun acc (b ∷ bs) h = by_end (ltb b 0x80) refl (sids_begun (acc * 128 + b) bs (omega arith))
    where
      inside : (x : Bool) → ltb (acc * 128 + b) (2 ^ 64) ≡ x → is_some (rest n (in_u64 (groups (acc * 128 + b) bs))) ≡ sids_from false (acc * 128 + b) bs →
          is_some (rest n (in_u64 (groups (acc * 128 + b) bs))) ≡ cond x (sids_from false (acc * 128 + b) bs) false
      inside true q k = k
      inside false q k = ap (λ o. is_some (rest n o)) (groups-past (acc * 128 + b) bs (ltb-false (acc * 128 + b) (2 ^ 64) q))

      by_end : (x : Bool) → ltb b 0x80 ≡ x → is_some (rest n (in_u64 (groups (acc * 128 + b) bs))) ≡ sids_from false (acc * 128 + b) bs →
          is_some (rest n (in_u64 (behind acc b bs x)))
          ≡ cond (ltb (acc * 128 + b % 128) (2 ^ 64)) (sids_from (leb 0x80 b) (cond x (acc * 128 + b % 128) 0) bs) false
      by_end true q k =
          let low : b < 0x80 = ltb-true b 0x80 q in
          let same : b % 128 ≡ b = omega arith in
          rw (lt-leb 0x80 b low, same) (inside (ltb (acc * 128 + b) (2 ^ 64)) refl k)
      by_end false q k = rw (le-leb 0x80 b (ltb-false b 0x80 q)) (last_group (acc * 128 + b % 128) bs (omega arith))

sids_fill : (n : ℕ) (l : List ℕ) → length l ≤ n → is_some (var_uints n l) ≡ sids_from true 0 l
unfolding var_uints var_uint sids_from rest
sids_fill zero [] h = refl
sids_fill zero (b ∷ bs) h = absurd (omega arith)
sids_fill (suc n) [] h = refl
sids_fill (suc n) (b ∷ bs) h = sids_begun n (sids_fill n) 0 (b ∷ bs) (omega arith)

pub sids_are : (l : List ℕ) → is_some (sids_of l) ≡ sids_from true 0 l
unfolding sids_of
sids_are l = held (var_uints (length l) l) ∙ sids_fill (length l) l (omega arith)
  where
    held : (o : Option (List ℕ × List ℕ)) → is_some (o >>= λ x. some x.0) ≡ is_some o
    held none = refl
    held (some x) = refl

-- ---- the running state at a place

module _ (whole : Bool) (acc : ℕ) (l : List ℕ) (i : ℕ) where
  module _ (inside : i < length l) where
    pub sids_past : 2 ^ 57 ≤ acc → sids_from whole acc (drop i l) ≡ false
    unfolding sids_from
    sids_past h = rw (drop-cons l i 0 inside, le-ltb (acc * 128 + get_or l i 0 % 128) (2 ^ 64) (omega arith)) refl

    pub sids_more : acc < 2 ^ 57 → sids_from whole acc (drop i l) ≡ sids_from (leb 0x80 (get_or l i 0)) (groups_with acc (get_or l i 0)) (drop (i + 1) l)
    unfolding sids_from
    sids_more h = rw (drop-cons l i 0 inside, lt-ltb (acc * 128 + get_or l i 0 % 128) (2 ^ 64) (omega arith), add-one i) refl

  pub sids_end : i ≡ length l → sids_from whole acc (drop i l) ≡ whole
  unfolding sids_from
  sids_end e = rw (e, drop-length l) refl

pub ruleset a_byte = (sids_are, sids_past, sids_more, sids_end)
