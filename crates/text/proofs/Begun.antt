-- Where a byte stands among the alternatives of UTF8-char, whose first bytes ascend. Assumes nothing.
use Prim.Native.Nat.{ℕ, zero, suc, ◌≤◌, ◌<◌}
use mathlib.Core.Path.{◌≡◌, refl}
use mathlib.Core.Bool.{and-false}
use mathlib.Core.List.{List, [], ◌∷◌}
use mathlib.Core.Option.{none, some}
use borrow.Author.Tests.{le-leb, lt-leb}
use lib.Dec.{leb}
use lib.ListN.{drop}
use Rattle.ion.specs.Text.{begun}

-- b lies above the first bytes of k alternatives
abbrev Above : ℕ → List (List (ℕ × ℕ)) → ℕ → Type 0
Above zero cs b = Unit {0}
Above (suc k) [] b = Unit {0}
Above (suc k) ([] ∷ cs) b = Above k cs b
Above (suc k) ((r ∷ rs) ∷ cs) b = (r.1 < b) × Above k cs b

pub begun_above : (k : ℕ) (cs : List (List (ℕ × ℕ))) (b : ℕ) → Above k cs b → begun cs b ≡ begun (drop k cs) b
unfolding begun
begun_above zero cs b h = refl
begun_above (suc k) [] b h = refl
begun_above (suc k) ([] ∷ cs) b h = begun_above k cs b h
begun_above (suc k) ((r ∷ rs) ∷ cs) b h = rw (lt-leb b r.1 h.0, and-false (leb r.0 b), begun) (begun_above k cs b h.1)

-- and below the first bytes of all
abbrev Below : List (List (ℕ × ℕ)) → ℕ → Type 0
Below [] b = Unit {0}
Below ([] ∷ cs) b = Below cs b
Below ((r ∷ rs) ∷ cs) b = (b < r.0) × Below cs b

pub begun-below : (cs : List (List (ℕ × ℕ))) (b : ℕ) → Below cs b → begun cs b ≡ none
unfolding begun
begun-below [] b h = refl
begun-below ([] ∷ cs) b h = begun-below cs b h
begun-below ((r ∷ rs) ∷ cs) b h = rw (lt-leb r.0 b h.0, begun) (begun-below cs b h.1)

pub begun_in : (r : ℕ × ℕ) (rs : List (ℕ × ℕ)) (cs : List (List (ℕ × ℕ))) (b : ℕ) → r.0 ≤ b → b ≤ r.1 → begun ((r ∷ rs) ∷ cs) b ≡ some rs
unfolding begun
begun_in r rs cs b l h = rw (le-leb r.0 b l, le-leb b r.1 h, begun)
