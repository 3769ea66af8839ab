-- What one value more, at the end of a container or of the items, does to the bytes, and that it stays writable.
-- Assumes nothing.
use Prim.Native.Nat.{ℕ, suc, ◌^◌, ◌<◌}
use mathlib.Core.Path.{◌≡◌, refl, sym, ◌∙◌, ap}
use mathlib.Core.List.{List, [], ◌∷◌, ◌++◌, append_assoc, append-nil}
use Rattle.ion.specs.Value.{Tree, Members, no_members, member, Fields, no_fields, field, Item}
use Rattle.encoding.specs.Fields.{var_uint_bytes}
use Rattle.encoding.specs.Argument.{Argument}
use Rattle.encoding.specs.Stream.{tree_bytes, members_bytes, fields_bytes, item_bytes, stream_bytes}
use Rattle.encoding.proofs.Writable.{Writable, WritableMembers, WritableFields, WritableItem, WritableItems}
use Rattle.machine.specs.Model.{add_member, add_field}
use Rattle.machine.specs.Counts.{how_many, how_many_pairs}

pub members_bytes_add : (vs : Members Argument) (t : Tree Argument) → members_bytes (add_member vs t) ≡ members_bytes vs ++ tree_bytes t
unfolding tree_bytes
members_bytes_add no_members t = append-nil (tree_bytes t)
members_bytes_add (member x xs) t =
    ap (λ (l : List ℕ). tree_bytes x ++ l) (members_bytes_add xs t) ∙ sym (append_assoc (tree_bytes x) (members_bytes xs) (tree_bytes t))

pub fields_bytes_add : (fs : Fields Argument) (k : ℕ) (t : Tree Argument) → fields_bytes (add_field fs k t) ≡ fields_bytes fs ++ (var_uint_bytes k ++ tree_bytes t)
unfolding tree_bytes
fields_bytes_add no_fields k t = rw append-nil
fields_bytes_add (field j x xs) k t = rw (fields_bytes_add xs k t, append_assoc, append_assoc)

pub stream_bytes_add : (is : List (Item Argument)) (i : Item Argument) → stream_bytes (is ++ (i ∷ [])) ≡ stream_bytes is ++ item_bytes i
unfolding stream_bytes
stream_bytes_add [] i = append-nil (item_bytes i)
stream_bytes_add (j ∷ is) i = rw (stream_bytes_add is i, append_assoc)

-- and it is one more
pub how_many_add : {S : Type 0} (vs : Members S) (t : Tree S) → how_many (add_member vs t) ≡ suc (how_many vs)
how_many_add no_members t = refl
how_many_add (member x xs) t = ap suc (how_many_add xs t)

pub how_many_pairs_add : {S : Type 0} (fs : Fields S) (k : ℕ) (t : Tree S) → how_many_pairs (add_field fs k t) ≡ suc (how_many_pairs fs)
how_many_pairs_add no_fields k t = refl
how_many_pairs_add (field j x xs) k t = ap suc (how_many_pairs_add xs k t)

pub writable_add_member : (vs : Members Argument) (t : Tree Argument) → WritableMembers vs → Writable t → WritableMembers (add_member vs t)
unfolding Writable
writable_add_member no_members t o p = (p, tt)
writable_add_member (member x xs) t o p = (o.0, writable_add_member xs t o.1 p)

pub writable_add_field : (fs : Fields Argument) (k : ℕ) (t : Tree Argument) → WritableFields fs → k < 2 ^ 64 → Writable t → WritableFields (add_field fs k t)
unfolding Writable
writable_add_field no_fields k t o h p = (h, p, tt)
writable_add_field (field j x xs) k t o h p = (o.0, o.1, writable_add_field xs k t o.2 h p)

pub writable_add_item : (is : List (Item Argument)) (i : Item Argument) → WritableItems is → WritableItem i → WritableItems (is ++ (i ∷ []))
writable_add_item [] i o p = (p, tt)
writable_add_item (j ∷ is) i o p = (o.0, writable_add_item is i o.1 p)
