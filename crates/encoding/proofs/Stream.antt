-- What the writer puts reads as what it was given.
-- Assumes nothing.
use Prim.Native.Nat.{ℕ, ◌^◌, ◌<◌}
use native.Mathlib.Omega.{arith}
use mathlib.Core.List.{List, [], ◌∷◌, ◌++◌}
use lib.ListN.{length, length-append}
use Rattle.ion.specs.Value.{struct_code, sequence_code, Tree, scalar, sequence, struct, Members, no_members, member, Fields, no_fields, field, Item, marker, value}
use Rattle.ion.specs.Grammar.{one, members, fields, stream, ◌⟶◌, members_end, members-next, fields_end, fields-next, stream_end, stream_marker, stream_next}
use Rattle.ion.proofs.Maps.{map_tree, map_members, map_fields, map_items}
use Rattle.encoding.specs.Fields.{var_uint_bytes}
use Rattle.encoding.specs.Headers.{type_byte, framed_bytes, annotated_bytes}
use Rattle.encoding.specs.Argument.{Argument, argument_bytes, meaning}
use Rattle.encoding.specs.Stream.{tree_bytes, members_bytes, fields_bytes, stream_bytes}
use Rattle.encoding.proofs.Writable.{Writable, WritableMembers, WritableFields, WritableItems}
use Rattle.encoding.proofs.Fields.{var_uint_bytes-reads}
use Rattle.encoding.proofs.Headers.{framed_longer, sequence_reads, struct_reads, annotated-reads, annotated_longer}
use Rattle.encoding.proofs.Argument.{argument_bytes-reads}

-- a body is no longer than what frames it
body_short : (an : List ℕ) (t : ℕ) (body : List ℕ) → length (annotated_bytes an (framed_bytes t body)) < 2 ^ 64 → length body < 2 ^ 64
body_short an t body h = omega (arith, annotated_longer an (framed_bytes t body), framed_longer t body)

mutual
  unfolding tree_bytes Writable map_tree

  pub tree_bytes_reads : (t : Tree Argument) → Writable t → length (tree_bytes t) < 2 ^ 64 → tree_bytes t ⟶ one (map_tree meaning t)
  tree_bytes_reads (scalar an a) ok h = annotated-reads an (argument_bytes a) (scalar an (meaning a)) ok.0 h (argument_bytes-reads an a ok.1 ok.2)
  tree_bytes_reads (sequence an k vs) ok h =
      let n : length (members_bytes vs) < 2 ^ 64 = body_short an (type_byte (sequence_code k)) (members_bytes vs) h in
      annotated-reads an (framed_bytes (type_byte (sequence_code k)) (members_bytes vs)) (sequence an k (map_members meaning vs)) ok.0 h
      (sequence_reads an (members_bytes vs) k (map_members meaning vs) n (members_bytes_reads vs ok.1 n))
  tree_bytes_reads (struct an fs) ok h =
      let n : length (fields_bytes fs) < 2 ^ 64 = body_short an (type_byte struct_code) (fields_bytes fs) h in
      annotated-reads an (framed_bytes (type_byte struct_code) (fields_bytes fs)) (struct an (map_fields meaning fs)) ok.0 h
      (struct_reads an (fields_bytes fs) (map_fields meaning fs) n (fields_bytes_reads fs ok.1 n))

  pub members_bytes_reads : (vs : Members Argument) → WritableMembers vs → length (members_bytes vs) < 2 ^ 64 → members_bytes vs ⟶ members (map_members meaning vs)
  members_bytes_reads no_members ok h = members_end
  members_bytes_reads (member v vs) ok h =
      members-next (tree_bytes_reads v ok.0 (omega (arith, length-append (tree_bytes v) (members_bytes vs))))
      (members_bytes_reads vs ok.1 (omega (arith, length-append (tree_bytes v) (members_bytes vs))))

  pub fields_bytes_reads : (fs : Fields Argument) → WritableFields fs → length (fields_bytes fs) < 2 ^ 64 → fields_bytes fs ⟶ fields (map_fields meaning fs)
  fields_bytes_reads no_fields ok h = fields_end
  fields_bytes_reads (field k v fs) ok h =
      fields-next (var_uint_bytes k) (var_uint_bytes-reads k ok.0)
      (tree_bytes_reads v ok.1 (omega (arith, length-append (var_uint_bytes k) (tree_bytes v ++ fields_bytes fs), length-append (tree_bytes v) (fields_bytes fs))))
      (fields_bytes_reads fs ok.2
      (omega (arith, length-append (var_uint_bytes k) (tree_bytes v ++ fields_bytes fs), length-append (tree_bytes v) (fields_bytes fs))))

pub stream_bytes-reads : (is : List (Item Argument)) → WritableItems is → stream_bytes is ⟶ stream (map_items meaning is)
unfolding stream_bytes map_items
stream_bytes-reads [] ok = stream_end
stream_bytes-reads (marker ∷ is) ok = stream_marker (stream_bytes-reads is ok.1)
stream_bytes-reads (value t ∷ is) ok = stream_next (tree_bytes_reads t ok.0.0 ok.0.1) (stream_bytes-reads is ok.1)
