-- Both theorems at small streams: a reading is walked, a walk is a reading, and where the walk is refused there is none.
-- Computation. Assumes nothing.
use Prim.Native.Nat.{ℕ, ◌≤◌}
use native.Mathlib.Omega.{arith}
use mathlib.Core.Path.{◌≡◌, refl}
use mathlib.Core.Bool.{true, false}
use mathlib.Core.List.{List, [], ◌∷◌}
use mathlib.Core.Option.{none, some}
use lib.IntN.{pos}
use lib.ListN.{drop}
use Rattle.ion.specs.Value.{ion_null, ion_list, ion_struct, Scalar, null, bool, int, list, scalar, sequence, struct, no_members, member, no_fields, field}
use Rattle.ion.specs.Value.{Item, value}
use Rattle.ion.specs.Value as Ion
use Rattle.ion.specs.Grammar.{Reads}
use Rattle.ion.proofs.Readings.{reader_whole}
use Rattle.ion.proofs.Exact.{exactly}
use Rattle.reading.specs.declared.Refusal.TheVariants.{NotIon}
use Rattle.reading.specs.Items.{most_open}
use Rattle.reading.specs.Walk.{Event, marker, leaf, begins, ends, tree_events, stream_events, tree_depth, stream_depth, shows, walk}
use Rattle.reading.proofs.Examples.{walk_whole}
use Rattle.reading_grammar.proofs.Walked.{reading_is_walked, refused_is_no_reading}
use Rattle.reading_grammar.proofs.Read.{walk_is_reading}

-- a marker; a list with one annotation, of an int and a struct; a pad; a null
abbrev bytes : List ℕ
bytes = 0xE0 ∷ 0x01 ∷ 0x00 ∷ 0xEA ∷ 0xE8 ∷ 0x81 ∷ 0x84 ∷ 0xB5 ∷ 0x21 ∷ 0x01 ∷ 0xD2 ∷ 0x8A ∷ 0x11 ∷ 0x00 ∷ 0x0F ∷ []

abbrev items : List (Item Scalar)
items =
    Ion.marker
    ∷ value (sequence (4 ∷ []) list (member (scalar [] (int (pos 1))) (member (struct [] (field 10 (scalar [] (bool true)) no_fields)) no_members)))
    ∷ value (scalar [] (null ion_null))
    ∷ []

abbrev events : List Event
events =
    marker ∷ begins none (4 ∷ []) ion_list ∷ leaf none [] (int (pos 1)) ∷ begins none [] ion_struct ∷ leaf (some 10) [] (bool true) ∷ ends
    ∷ ends ∷ leaf none [] (null ion_null) ∷ []

bytes_read : Reads bytes items
unfolding reader_whole
bytes_read = (exactly bytes items).1 refl

-- the walk shows the reading, by the first theorem
example_is_walked : walk bytes 0 ≡ shows events
unfolding stream_events tree_events stream_depth tree_depth
example_is_walked = reading_is_walked bytes 0 items (omega arith) bytes_read (omega arith)

-- a sorted struct with a name twice, behind two bytes that are not read
abbrev sorted_bytes : List ℕ
sorted_bytes = 0x11 ∷ 0x11 ∷ 0xD1 ∷ 0x84 ∷ 0x8A ∷ 0x11 ∷ 0x8A ∷ 0x10 ∷ []

-- it has a reading, by the second theorem, and the walk shows its events
example_is_reading : (is : List (Item Scalar))
    × (Reads (drop 2 sorted_bytes) is
    × (begins none [] ion_struct ∷ leaf (some 10) [] (bool true) ∷ leaf (some 10) [] (bool false) ∷ ends ∷ [] ≡ stream_events is))
unfolding walk_whole
example_is_reading = let r = walk_is_reading sorted_bytes 2 refl in (r.1.0, (r.1.1.0, r.1.1.1.1))

-- where a name falls there is no reading
abbrev falling_bytes : List ℕ
falling_bytes = 0xD1 ∷ 0x84 ∷ 0x8B ∷ 0x11 ∷ 0x8A ∷ 0x10 ∷ []

example_is_no_reading : (is : List (Item Scalar)) → Reads falling_bytes is → stream_depth is ≤ most_open → ⊥
unfolding walk_whole
example_is_no_reading is r le = refused_is_no_reading falling_bytes 0 is NotIon 4 (omega arith) refl r le
