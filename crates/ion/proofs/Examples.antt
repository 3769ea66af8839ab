-- Streams through the reader: examples of the Ion 1.0 binary document, pads, sorted structs, annotations, and bytes that have no reading.
-- Computation. Assumes nothing.
use Prim.Native.Nat.{ℕ, ◌-◌, ◌^◌}
use mathlib.Core.Path.{refl}
use mathlib.Core.Bool.{true, false}
use mathlib.Core.List.{List, [], ◌∷◌}
use Rattle.ion.specs.Value.{ion_null, ion_struct, Scalar, null, bool, string, SequenceType, list, sexp, scalar, sequence, struct}
use Rattle.ion.specs.Value.{Members, no_members, member, no_fields, field, Item, marker, value}
use Rattle.ion.proofs.Readings.{scalars, reader_whole, AllRead, NoneRead}

-- one list or s-expression; true and false as its members
abbrev sequence_of : SequenceType → Members Scalar → List (Item Scalar)
sequence_of k vs = value (sequence [] k vs) ∷ []

abbrev both : Members Scalar
both = member (scalar [] (bool true)) (member (scalar [] (bool false)) no_members)

-- true and false under two names
abbrev both_named : ℕ → ℕ → List (Item Scalar)
both_named j k = value (struct [] (field j (scalar [] (bool true)) (field k (scalar [] (bool false)) no_fields))) ∷ []

-- {name: "a"}
abbrev named : List (Item Scalar)
named = value (struct [] (field 4 (scalar [] (string (0x61 ∷ []))) no_fields)) ∷ []

pub examples_read : AllRead
    -- no byte; markers
    ((0x0, [])
    ∷ (0xE00100EA0F, marker ∷ scalars (null ion_null ∷ []))
    ∷ (0xE00100EA11E00100EA, marker ∷ value (scalar [] (bool true)) ∷ marker ∷ [])
    -- pads of four bytes and one, and one with its length behind; pads round values
    ∷ (0x03FFFFFF000E820102, [])
    ∷ (0x01FF110001FF1000, scalars (bool true ∷ bool false ∷ []))
    -- lists and s-expressions: empty, with two members, with pads first, between and last, with an overlong length
    ∷ (0xB0, sequence_of list no_members)
    ∷ (0xC0, sequence_of sexp no_members)
    ∷ (0xB21110, sequence_of list both)
    ∷ (0xC21110, sequence_of sexp both)
    ∷ (0xB6001101FF1000, sequence_of list both)
    ∷ (0xC6001101FF1000, sequence_of sexp both)
    ∷ (0xBE000081DF, sequence_of list (member (scalar [] (null ion_struct)) no_members))
    ∷ (0xCE000081DF, sequence_of sexp (member (scalar [] (null ion_struct)) no_members))
    ∷ (0xB1C0, sequence_of list (member (sequence [] sexp no_members) no_members))
    -- an empty struct, and one with a pad of two bytes; one field with a pad of three bytes, and of one
    ∷ (0xD0, value (struct [] no_fields) ∷ [])
    ∷ (0xD38001AC, value (struct [] no_fields) ∷ [])
    ∷ (0xD784816180020102, named)
    ∷ (0xD58481618000, named)
    -- names in any order; the greatest
    ∷ (0xD485118410, both_named 5 4)
    ∷ (0xDE00848411FF10, both_named 4 127)
    ∷ (0xDD8411017F7F7F7F7F7F7F7FFF10, both_named 4 (2 ^ 64 - 1))
    -- annotations: one, two, one with overlong numbers
    ∷ (0xE5818AD28411, value (struct (10 ∷ []) (field 4 (scalar [] (bool true)) no_fields)) ∷ [])
    ∷ (0xE4828A8C11, value (scalar (10 ∷ 12 ∷ []) (bool true)) ∷ [])
    ∷ (0xEE00850082008A11, value (scalar (10 ∷ []) (bool true)) ∷ [])
    ∷ (0xE3818AB0, value (sequence (10 ∷ []) list no_members) ∷ [])
    ∷ [])
unfolding reader_whole
examples_read = refl

-- Sorted structs: names that rise, a name twice, the greatest names; an overlong length; a pad's name does not count, nor does a pad alone.
pub sorted_read : AllRead
    ((0xD18484118510, both_named 4 5)
    ∷ (0xD18484118410, both_named 4 4)
    ∷ (0xD196017F7F7F7F7F7F7F7FFE11017F7F7F7F7F7F7F7FFF10, both_named (2 ^ 64 - 2) (2 ^ 64 - 1))
    ∷ (0xD1008484118510, both_named 4 5)
    ∷ (0xD186851180008610, both_named 5 6)
    ∷ (0xD1868511FF008510, both_named 5 5)
    ∷ (0xD1828000, value (struct [] no_fields) ∷ [])
    ∷ [])
unfolding reader_whole
sorted_read = refl

pub examples_refused : NoneRead
    -- sorted: with no body, names that fall, the greatest names falling, a name below that before a pad
    (0xD180 ∷ 0xD18485118410 ∷ 0xD196017F7F7F7F7F7F7F7FFF11017F7F7F7F7F7F7F7FFE10 ∷ 0xD186851180008410
    -- a name and an annotation past 64 bits
    ∷ 0xDB0200000000000000008011 ∷ 0xEC8A0200000000000000008011
    -- wrappers with no sid, round a pad, round a wrapper, round two values, round none
    ∷ 0xE28020 ∷ 0xE3818A00 ∷ 0xE6818AE3818B20 ∷ 0xE4818A2020 ∷ 0xE2818A
    -- a marker of another version, and markers inside a list and a wrapper
    ∷ 0xE00101EA ∷ 0xB4E00100EA ∷ 0xE6818AE00100EA
    -- cut short: a value, a pad, a marker, a length, a struct
    ∷ 0x21 ∷ 0x02FF ∷ 0xE00100 ∷ 0x2E01 ∷ 0xD38411
    -- a value past its parent's end; a pad with no name before it; a name with no value
    ∷ 0xB12101 ∷ 0xD18100 ∷ 0xD3841184
    ∷ [])
unfolding reader_whole
examples_refused = refl
