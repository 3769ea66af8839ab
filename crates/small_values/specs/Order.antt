-- The order of byte strings that document 02, Item 12, asks for, and what it is to list the strings of a set in it.
-- Assumes nothing.
use Rattle.std.specs.Prelude.{ℕ, ◌≡◌, ◌⊎◌, Bool, true, false, ◌&&◌, ◌||◌, List, [], ◌∷◌, ltb, eqb, length}

-- of strings of one length, by the first bytes that differ
unfoldable pub by_bytes : List ℕ → List ℕ → Bool
by_bytes [] c = false
by_bytes (x ∷ b) [] = false
by_bytes (x ∷ b) (y ∷ c) = ltb x y || (eqb x y && by_bytes b c)

-- "shorter first and then by bytes"
unfoldable pub precedes : List ℕ → List ℕ → Bool
precedes b c = ltb (length b) (length c) || (eqb (length b) (length c) && by_bytes b c)

infix 30 ◌∈◌
abbrev pub ◌∈◌ : List ℕ → List (List ℕ) → Type 0
b ∈ [] = ⊥
b ∈ (c ∷ l) = (b ≡ c) ⊎ (b ∈ l)

-- each precedes all that follow it, so none is there twice
abbrev pub Ordered : List (List ℕ) → Type 0
Ordered [] = Unit {0}
Ordered (b ∷ l) = ((c : List ℕ) → c ∈ l → precedes b c ≡ true) × Ordered l

-- All strings of a set and nothing else, each once, in that order.
pub record Lists (P : List ℕ → Type 0) (l : List (List ℕ)) : Type 0 where
  pub ordered : Ordered l
  pub all : (b : List ℕ) → P b → b ∈ l
  pub only : (b : List ℕ) → b ∈ l → P b

-- There is one such list at most. The proof is in proofs/Order.antt.
abbrev pub OneList : Type 1
OneList = (P : List ℕ → Type 0) (l m : List (List ℕ)) → Lists P l → Lists P m → l ≡ m
