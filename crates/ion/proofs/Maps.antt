-- The same tree over other leaves: the readings of what was written are the trees of arguments, each argument replaced by the value that it names.
-- Recursion over the trees. Assumes nothing.
use mathlib.Core.List.{List, [], ◌∷◌}
use Rattle.ion.specs.Value.{Tree, scalar, sequence, struct, Members, no_members, member, Fields, no_fields, field, Item, marker, value}

unfoldable mutual
  pub map_tree : {S T : Type 0} → (S → T) → Tree S → Tree T
  map_tree f (scalar an s) = scalar an (f s)
  map_tree f (sequence an k vs) = sequence an k (map_members f vs)
  map_tree f (struct an fs) = struct an (map_fields f fs)

  pub map_members : {S T : Type 0} → (S → T) → Members S → Members T
  map_members f no_members = no_members
  map_members f (member v vs) = member (map_tree f v) (map_members f vs)

  pub map_fields : {S T : Type 0} → (S → T) → Fields S → Fields T
  map_fields f no_fields = no_fields
  map_fields f (field k v fs) = field k (map_tree f v) (map_fields f fs)

unfoldable pub map_items : {S T : Type 0} → (S → T) → List (Item S) → List (Item T)
map_items f [] = []
map_items f (marker ∷ is) = marker ∷ map_items f is
map_items f (value t ∷ is) = value (map_tree f t) ∷ map_items f is
