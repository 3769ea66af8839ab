-- The bytes of what was written, whole: the definition of demand 2. The leaves of the trees are the arguments of the scalar calls.
-- Assumes nothing.
use Rattle.std.specs.Prelude.{ℕ, List, [], ◌∷◌, ◌++◌}
use Rattle.ion.specs.Value.{struct_code, sequence_code, Tree, scalar, sequence, struct, Members, no_members, member, Fields, no_fields, field, Item, marker, value}
use Rattle.encoding.specs.Fields.{var_uint_bytes}
use Rattle.encoding.specs.Headers.{type_byte, framed_bytes, annotated_bytes, marker_bytes}
use Rattle.encoding.specs.Argument.{Argument, argument_bytes}

unfoldable mutual
  pub tree_bytes : Tree Argument → List ℕ
  tree_bytes (scalar an a) = annotated_bytes an (argument_bytes a)
  tree_bytes (sequence an k vs) = annotated_bytes an (framed_bytes (type_byte (sequence_code k)) (members_bytes vs))
  tree_bytes (struct an fs) = annotated_bytes an (framed_bytes (type_byte struct_code) (fields_bytes fs))

  pub members_bytes : Members Argument → List ℕ
  members_bytes no_members = []
  members_bytes (member v vs) = tree_bytes v ++ members_bytes vs

  pub fields_bytes : Fields Argument → List ℕ
  fields_bytes no_fields = []
  fields_bytes (field k v fs) = var_uint_bytes k ++ (tree_bytes v ++ fields_bytes fs)

abbrev pub item_bytes : Item Argument → List ℕ
item_bytes marker = marker_bytes
item_bytes (value t) = tree_bytes t

unfoldable pub stream_bytes : List (Item Argument) → List ℕ
stream_bytes [] = []
stream_bytes (i ∷ is) = item_bytes i ++ stream_bytes is
