-- The laws of the words of a text. Assumes nothing.
use Rattle.std.proofs.Common.{◌≡◌, ℕ, suc, ◌≤◌, Bool, true, false, cond, ltb, List, length, refl, arith}
use Rattle.std.specs.Prelude.{Some, None}
use Rattle.std.specs.List.{position, position_or_len}
use borrow.Author.Tests.{ltb-false}
use Rattle.words.specs.Words.{behind_word, from_word}

module _ (p : ℕ → Bool) (s : List ℕ) where
  pub found : (i : ℕ) → position p s ≡ Some i → position_or_len p s ≡ i
  found i = go (ltb (position_or_len p s) (length s))
    where
      go : (t : Bool) → cond t (Some (position_or_len p s)) None ≡ Some i → position_or_len p s ≡ i
      go true e = cc
      go false e = let z : ◌≡◌ {A = ℕ} 0 1 = cc in absurd (omega arith)

  pub not_found : position p s ≡ None → length s ≤ position_or_len p s
  not_found = go (ltb (position_or_len p s) (length s)) refl
    where
      go : (t : Bool) → ltb (position_or_len p s) (length s) ≡ t → cond t (Some (position_or_len p s)) None ≡ None → length s ≤ position_or_len p s
      go true q e = let z : ◌≡◌ {A = ℕ} 0 1 = cc in absurd (omega arith)
      go false q e = ltb-false (position_or_len p s) (length s) q

pub from_step : (n k : ℕ) (s t : List ℕ) → k ≡ suc n → t ≡ behind_word s → from_word n t ≡ from_word k s
unfolding from_word
from_step n k s t e f = rw (e, f) refl

pub from_none : (n : ℕ) (s : List ℕ) → n ≡ 0 → from_word n s ≡ s
unfolding from_word
from_none n s e = rw e refl
