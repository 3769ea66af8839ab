-- What accepted calls can have written: arguments of their types that pass the checks, sids of 64 bits, and values that a length can count.
-- Predicates over the trees, for the theorems that what is written reads back. Assumes nothing.
use Prim.Native.Nat.{ℕ, ◌^◌, ◌<◌}
use mathlib.Core.Path.{◌≡◌}
use mathlib.Core.Bool.{Bool, false}
use mathlib.Core.List.{List, [], ◌∷◌}
use lib.ListN.{length}
use Rattle.ion.specs.Value.{Tree, scalar, sequence, struct, Members, no_members, member, Fields, no_fields, field, Item, marker, value}
use Rattle.encoding.specs.Fields.{AllU64}
use Rattle.encoding.specs.Argument.{Argument, argument_checks, Typed}
use Rattle.encoding.specs.Stream.{tree_bytes}

-- none of the tests holds
abbrev pub NoneHolds : List (Bool × ℕ) → Type 0
NoneHolds [] = Unit {0}
NoneHolds (x ∷ xs) = (x.0 ≡ false) × NoneHolds xs

unfoldable mutual
  pub Writable : Tree Argument → Type 0
  Writable (scalar an a) = AllU64 an × Typed a × NoneHolds (argument_checks a)
  Writable (sequence an k vs) = AllU64 an × WritableMembers vs
  Writable (struct an fs) = AllU64 an × WritableFields fs

  pub WritableMembers : Members Argument → Type 0
  WritableMembers no_members = Unit {0}
  WritableMembers (member v vs) = Writable v × WritableMembers vs

  pub WritableFields : Fields Argument → Type 0
  WritableFields no_fields = Unit {0}
  WritableFields (field k v fs) = (k < 2 ^ 64) × Writable v × WritableFields fs

abbrev pub WritableItem : Item Argument → Type 0
WritableItem marker = Unit {0}
WritableItem (value t) = Writable t × (length (tree_bytes t) < 2 ^ 64)

abbrev pub WritableItems : List (Item Argument) → Type 0
WritableItems [] = Unit {0}
WritableItems (i ∷ is) = WritableItem i × WritableItems is
