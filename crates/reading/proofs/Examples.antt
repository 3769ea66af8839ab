-- The definitions of the reader on streams of bytes, with the answers that document 02, Item 1, gives: each rule once, by computing.
-- Assumes nothing.
use Prim.Native.Nat.{ℕ}
use mathlib.Core.Path.{◌≡◌, refl}
use mathlib.Core.Bool.{true}
use mathlib.Core.List.{List, [], ◌∷◌}
use mathlib.Core.Option.{none, some}
use lib.IntN.{pos}
use lib.Ieee.{of_bits}
use Rattle.ion.specs.Value.{bool, int, ion_list, ion_struct}
use Rattle.ion.specs.Fields.{groups, var_uint, var_uints, big_endian, var_int, int_field}
use Rattle.ion.specs.Text.{begun, utf8_from, utf8}
use Rattle.ion.specs.Scalars.{float_of, decimal_of, timestamp_of, are_fields, is_coefficient, fraction_of, fraction_at, scalar_of}
use Rattle.reading.specs.declared.Refusal.TheVariants.{PastTheEnd, TooDeep, NotIon, CutShort}
use Rattle.std.specs.Prelude.{Ok}
use Rattle.reading.specs.Headers.{var_uint_from, var_uint_at, header_at, marked, marker_at, top_header_at}
use Rattle.reading.specs.Scalars.{code_from, body_of, scalar_in, sids_of}
use Rattle.reading.specs.Items.{wrapped_at, item_at}
use Rattle.reading.specs.Walk.{marker, leaf, begins, ends, Ending, refused, Walk, walk_from, walk_in, walk}

-- the walk with all that it calls, to be unfolded by one name
unfoldable pub walk_whole : List ℕ → ℕ → Walk
unfolding walk_in walk_from item_at wrapped_at sids_of var_uints var_uint groups scalar_in body_of code_from header_at top_header_at marker_at marked
    var_uint_at var_uint_from scalar_of big_endian utf8 utf8_from begun float_of of_bits decimal_of timestamp_of are_fields is_coefficient fraction_of
    fraction_at var_int int_field
walk_whole s at = walk s at

abbrev ending : List ℕ → Ending
ending s = (walk s 0).1

abbrev whole : Ending
whole = Ok tt

-- a marker, a list of an int with a name's struct behind it
shown : walk (0xE0 ∷ 0x01 ∷ 0x00 ∷ 0xEA ∷ 0xB2 ∷ 0x21 ∷ 0x05 ∷ 0xE5 ∷ 0x81 ∷ 0x8A ∷ 0xD2 ∷ 0x84 ∷ 0x11 ∷ []) 0
    ≡ (
      marker ∷ begins none [] ion_list ∷ leaf none [] (int (pos 5)) ∷ ends ∷ begins none (10 ∷ []) ion_struct ∷ leaf (some 4) [] (bool true)
          ∷ ends ∷ [],
      whole,
    )
unfolding walk_whole
shown = refl

-- the end of a stream reads as nothing
nothing : ending ([]) ≡ whole
unfolding walk_whole
nothing = refl

-- at a header, 13 before 14: the reserved code; lengths that a type never has, also as the last byte
reserved_code : ending (0xF0 ∷ []) ≡ refused NotIon 0
unfolding walk_whole
reserved_code = refl

bool_of_two : ending (0x12 ∷ []) ≡ refused NotIon 0
unfolding walk_whole
bool_of_two = refl

float_of_one : ending (0x41 ∷ []) ≡ refused NotIon 0
unfolding walk_whole
float_of_one = refl

float_by_length_field : ending (0x4E ∷ 0x84 ∷ []) ≡ refused NotIon 0
unfolding walk_whole
float_by_length_field = refl

null_wrapper : ending (0xEF ∷ []) ≡ refused NotIon 0
unfolding walk_whole
null_wrapper = refl

negative_int_of_none : ending (0x30 ∷ []) ≡ refused NotIon 0
unfolding walk_whole
negative_int_of_none = refl

negative_int_of_none_long : ending (0x3E ∷ 0x80 ∷ []) ≡ refused NotIon 0
unfolding walk_whole
negative_int_of_none_long = refl

timestamp_of_one : ending (0x61 ∷ []) ≡ refused NotIon 0
unfolding walk_whole
timestamp_of_one = refl

timestamp_of_one_long : ending (0x6E ∷ 0x81 ∷ []) ≡ refused NotIon 0
unfolding walk_whole
timestamp_of_one_long = refl

wrapper_of_two : ending (0xE2 ∷ []) ≡ refused NotIon 0
unfolding walk_whole
wrapper_of_two = refl

wrapper_of_two_long : ending (0xEE ∷ 0x82 ∷ []) ≡ refused NotIon 0
unfolding walk_whole
wrapper_of_two_long = refl

sorted_of_none : ending (0xD1 ∷ 0x80 ∷ []) ≡ refused NotIon 0
unfolding walk_whole
sorted_of_none = refl

sorted_of_one : ending (0xD1 ∷ 0x81 ∷ []) ≡ refused NotIon 0
unfolding walk_whole
sorted_of_one = refl

struct_of_one : ending (0xDE ∷ 0x81 ∷ []) ≡ refused NotIon 0
unfolding walk_whole
struct_of_one = refl

-- 14: the stream stops in a length field, in a body, in a pad, in a marker
length_field_cut : ending (0x2E ∷ []) ≡ refused CutShort 0
unfolding walk_whole
length_field_cut = refl

length_field_cut_later : ending (0x2E ∷ 0x00 ∷ []) ≡ refused CutShort 0
unfolding walk_whole
length_field_cut_later = refl

body_cut : ending (0x22 ∷ 0x01 ∷ []) ≡ refused CutShort 0
unfolding walk_whole
body_cut = refl

wrapper_cut : ending (0xE5 ∷ 0x81 ∷ 0x00 ∷ []) ≡ refused CutShort 0
unfolding walk_whole
wrapper_cut = refl

pad_cut : ending (0x01 ∷ []) ≡ refused CutShort 0
unfolding walk_whole
pad_cut = refl

marker_cut : ending (0xE0 ∷ 0x01 ∷ 0x00 ∷ []) ≡ refused CutShort 0
unfolding walk_whole
marker_cut = refl

-- another byte in a marker is 13 as soon as it is there
marker_wrong : ending (0xE0 ∷ 0x02 ∷ []) ≡ refused NotIon 0
unfolding walk_whole
marker_wrong = refl

-- a body that the stream cuts is 14 before its content is judged
body_cut_before_content : ending (0x82 ∷ 0x81 ∷ []) ≡ refused CutShort 0
unfolding walk_whole
body_cut_before_content = refl

list_cut_before_content : ending (0xB2 ∷ 0xF0 ∷ []) ≡ refused CutShort 0
unfolding walk_whole
list_cut_before_content = refl

-- in stream order, by the place of the item
stream_order : ending (0x11 ∷ 0xF0 ∷ []) ≡ refused NotIon 1
unfolding walk_whole
stream_order = refl

-- a length past 64 bits is 13, one within them that the stream cuts is 14; leading zero groups are allowed
length-past_64_bits : ending (0x2E ∷ 0x02 ∷ 0x00 ∷ 0x00 ∷ 0x00 ∷ 0x00 ∷ 0x00 ∷ 0x00 ∷ 0x00 ∷ 0x00 ∷ 0x80 ∷ []) ≡ refused NotIon 0
unfolding walk_whole
length-past_64_bits = refl

length_of_64_bits : ending (0x2E ∷ 0x01 ∷ 0x7F ∷ 0x7F ∷ 0x7F ∷ 0x7F ∷ 0x7F ∷ 0x7F ∷ 0x7F ∷ 0x7F ∷ 0xFF ∷ []) ≡ refused CutShort 0
unfolding walk_whole
length_of_64_bits = refl

leading_zero-groups : ending (0x2E ∷ 0x00 ∷ 0x00 ∷ 0x00 ∷ 0x00 ∷ 0x00 ∷ 0x00 ∷ 0x00 ∷ 0x00 ∷ 0x00 ∷ 0x00 ∷ 0x00 ∷ 0x00 ∷ 0x81 ∷ 0x05 ∷ []) ≡ whole
unfolding walk_whole
leading_zero-groups = refl

-- inside a container nothing is 14: past its end, or running out in it, is 13, by the place of the item
past_the_parent : ending (0xB1 ∷ 0x21 ∷ 0x01 ∷ []) ≡ refused NotIon 1
unfolding walk_whole
past_the_parent = refl

length_field_past_the_parent : ending (0xB1 ∷ 0x2E ∷ []) ≡ refused NotIon 1
unfolding walk_whole
length_field_past_the_parent = refl

name_past_the_parent : ending (0xD2 ∷ 0x00 ∷ 0x11 ∷ []) ≡ refused NotIon 1
unfolding walk_whole
name_past_the_parent = refl

name_without_value : ending (0xD1 ∷ 0x82 ∷ 0x00 ∷ 0x84 ∷ []) ≡ refused NotIon 2
unfolding walk_whole
name_without_value = refl

-- a marker stands at top level only
marker-inside : ending (0xB4 ∷ 0xE0 ∷ 0x01 ∷ 0x00 ∷ 0xEA ∷ []) ≡ refused NotIon 1
unfolding walk_whole
marker-inside = refl

-- a wrapper: at least one sid, its sids end where the sum says, exactly one value fills the rest, no pad, no wrapper
wrapper : ending (0xE3 ∷ 0x81 ∷ 0x8A ∷ 0x11 ∷ []) ≡ whole
unfolding walk_whole
wrapper = refl

wrapper_without_sid : ending (0xE3 ∷ 0x80 ∷ 0x11 ∷ 0x11 ∷ []) ≡ refused NotIon 0
unfolding walk_whole
wrapper_without_sid = refl

wrapper_sum_in_a_sid : ending (0xE5 ∷ 0x81 ∷ 0x0A ∷ 0x8A ∷ 0x11 ∷ 0x11 ∷ []) ≡ refused NotIon 0
unfolding walk_whole
wrapper_sum_in_a_sid = refl

wrapper_short_of_its_end : ending (0xE4 ∷ 0x81 ∷ 0x8A ∷ 0x11 ∷ 0x11 ∷ []) ≡ refused NotIon 0
unfolding walk_whole
wrapper_short_of_its_end = refl

wrapper-past_its_end : ending (0xE4 ∷ 0x81 ∷ 0x8A ∷ 0x22 ∷ 0x01 ∷ []) ≡ refused NotIon 0
unfolding walk_whole
wrapper-past_its_end = refl

wrapper_of_a_pad : ending (0xE4 ∷ 0x81 ∷ 0x8A ∷ 0x00 ∷ 0x00 ∷ []) ≡ refused NotIon 0
unfolding walk_whole
wrapper_of_a_pad = refl

wrapper_of_a_wrapper : ending (0xE6 ∷ 0x81 ∷ 0x8A ∷ 0xE3 ∷ 0x81 ∷ 0x8A ∷ 0x11 ∷ []) ≡ refused NotIon 0
unfolding walk_whole
wrapper_of_a_wrapper = refl

wrapper_of_a_null : ending (0xE3 ∷ 0x81 ∷ 0x8A ∷ 0xBF ∷ []) ≡ whole
unfolding walk_whole
wrapper_of_a_null = refl

-- pads at top level, in sequences, in structs behind a name
pads : ending (0x00 ∷ 0x0E ∷ 0x81 ∷ 0x01 ∷ 0x11 ∷ []) ≡ whole
unfolding walk_whole
pads = refl

pads_inside : ending (0xB3 ∷ 0x00 ∷ 0x01 ∷ 0x11 ∷ []) ≡ whole
unfolding walk_whole
pads_inside = refl

pad_in_a_struct : ending (0xD4 ∷ 0x8A ∷ 0x00 ∷ 0x8B ∷ 0x11 ∷ []) ≡ whole
unfolding walk_whole
pad_in_a_struct = refl

-- sorted: names may repeat but not fall; a pad's neither breaks the order nor sets it
sorted_names : ending (0xD1 ∷ 0x84 ∷ 0x8A ∷ 0x11 ∷ 0x8A ∷ 0x10 ∷ []) ≡ whole
unfolding walk_whole
sorted_names = refl

sorted-falls : ending (0xD1 ∷ 0x84 ∷ 0x8B ∷ 0x11 ∷ 0x8A ∷ 0x10 ∷ []) ≡ refused NotIon 4
unfolding walk_whole
sorted-falls = refl

sorted_pad_below : ending (0xD1 ∷ 0x86 ∷ 0x8B ∷ 0x11 ∷ 0x80 ∷ 0x00 ∷ 0x8B ∷ 0x10 ∷ []) ≡ whole
unfolding walk_whole
sorted_pad_below = refl

sorted_pad_above : ending (0xD1 ∷ 0x86 ∷ 0x8A ∷ 0x11 ∷ 0xFF ∷ 0x00 ∷ 0x8A ∷ 0x10 ∷ []) ≡ whole
unfolding walk_whole
sorted_pad_above = refl

unsorted_falls : ending (0xD4 ∷ 0x8B ∷ 0x11 ∷ 0x8A ∷ 0x10 ∷ []) ≡ whole
unfolding walk_whole
unsorted_falls = refl

-- scalars
decimal_negative_zero_exponent : ending (0x52 ∷ 0xC0 ∷ 0x00 ∷ []) ≡ whole
unfolding walk_whole
decimal_negative_zero_exponent = refl

symbol_leading_zeros : ending (0x7A ∷ 0x00 ∷ 0x00 ∷ 0xFF ∷ 0xFF ∷ 0xFF ∷ 0xFF ∷ 0xFF ∷ 0xFF ∷ 0xFF ∷ 0xFF ∷ []) ≡ whole
unfolding walk_whole
symbol_leading_zeros = refl

symbol_past_64_bits : ending (0x79 ∷ 0x01 ∷ 0x00 ∷ 0x00 ∷ 0x00 ∷ 0x00 ∷ 0x00 ∷ 0x00 ∷ 0x00 ∷ 0x00 ∷ []) ≡ refused NotIon 0
unfolding walk_whole
symbol_past_64_bits = refl

negative_zero : ending (0x31 ∷ 0x00 ∷ []) ≡ refused NotIon 0
unfolding walk_whole
negative_zero = refl

not_utf8 : ending (0x81 ∷ 0x80 ∷ []) ≡ refused NotIon 0
unfolding walk_whole
not_utf8 = refl

-- thirty-two containers may be open; the thirty-third is 4, a null or a wrapper is none
deep_32 : ending (0xBE ∷ 0xB0 ∷ 0xBE ∷ 0xAE ∷ 0xBE ∷ 0xAC ∷ 0xBE ∷ 0xAA ∷ 0xBE ∷ 0xA8 ∷ 0xBE ∷ 0xA6 ∷ 0xBE ∷ 0xA4 ∷ 0xBE ∷ 0xA2 ∷ 0xBE
    ∷ 0xA0 ∷ 0xBE ∷ 0x9E ∷ 0xBE ∷ 0x9C ∷ 0xBE ∷ 0x9A ∷ 0xBE ∷ 0x98 ∷ 0xBE ∷ 0x96 ∷ 0xBE ∷ 0x94 ∷ 0xBE ∷ 0x92 ∷ 0xBE ∷ 0x90 ∷ 0xBE ∷ 0x8E
    ∷ 0xBD ∷ 0xBC ∷ 0xBB ∷ 0xBA ∷ 0xB9 ∷ 0xB8 ∷ 0xB7 ∷ 0xB6 ∷ 0xB5 ∷ 0xB4 ∷ 0xB3 ∷ 0xB2 ∷ 0xB1 ∷ 0xB0 ∷ [])
    ≡ whole
unfolding walk_whole
deep_32 = refl

deep_33 : ending (0xBE ∷ 0xB2 ∷ 0xBE ∷ 0xB0 ∷ 0xBE ∷ 0xAE ∷ 0xBE ∷ 0xAC ∷ 0xBE ∷ 0xAA ∷ 0xBE ∷ 0xA8 ∷ 0xBE ∷ 0xA6 ∷ 0xBE ∷ 0xA4 ∷ 0xBE
    ∷ 0xA2 ∷ 0xBE ∷ 0xA0 ∷ 0xBE ∷ 0x9E ∷ 0xBE ∷ 0x9C ∷ 0xBE ∷ 0x9A ∷ 0xBE ∷ 0x98 ∷ 0xBE ∷ 0x96 ∷ 0xBE ∷ 0x94 ∷ 0xBE ∷ 0x92 ∷ 0xBE ∷ 0x90
    ∷ 0xBE ∷ 0x8E ∷ 0xBD ∷ 0xBC ∷ 0xBB ∷ 0xBA ∷ 0xB9 ∷ 0xB8 ∷ 0xB7 ∷ 0xB6 ∷ 0xB5 ∷ 0xB4 ∷ 0xB3 ∷ 0xB2 ∷ 0xB1 ∷ 0xB0 ∷ [])
    ≡ refused TooDeep 51
unfolding walk_whole
deep_33 = refl

deep_null : ending (0xBE ∷ 0xB2 ∷ 0xBE ∷ 0xB0 ∷ 0xBE ∷ 0xAE ∷ 0xBE ∷ 0xAC ∷ 0xBE ∷ 0xAA ∷ 0xBE ∷ 0xA8 ∷ 0xBE ∷ 0xA6 ∷ 0xBE ∷ 0xA4 ∷ 0xBE
    ∷ 0xA2 ∷ 0xBE ∷ 0xA0 ∷ 0xBE ∷ 0x9E ∷ 0xBE ∷ 0x9C ∷ 0xBE ∷ 0x9A ∷ 0xBE ∷ 0x98 ∷ 0xBE ∷ 0x96 ∷ 0xBE ∷ 0x94 ∷ 0xBE ∷ 0x92 ∷ 0xBE ∷ 0x90
    ∷ 0xBE ∷ 0x8E ∷ 0xBD ∷ 0xBC ∷ 0xBB ∷ 0xBA ∷ 0xB9 ∷ 0xB8 ∷ 0xB7 ∷ 0xB6 ∷ 0xB5 ∷ 0xB4 ∷ 0xB3 ∷ 0xB2 ∷ 0xB1 ∷ 0xBF ∷ [])
    ≡ whole
unfolding walk_whole
deep_null = refl

deep_wrapped : ending (0xBE ∷ 0xB8 ∷ 0xBE ∷ 0xB6 ∷ 0xBE ∷ 0xB4 ∷ 0xBE ∷ 0xB2 ∷ 0xBE ∷ 0xB0 ∷ 0xBE ∷ 0xAE ∷ 0xBE ∷ 0xAC ∷ 0xBE ∷ 0xAA ∷ 0xBE
    ∷ 0xA8 ∷ 0xBE ∷ 0xA6 ∷ 0xBE ∷ 0xA4 ∷ 0xBE ∷ 0xA2 ∷ 0xBE ∷ 0xA0 ∷ 0xBE ∷ 0x9E ∷ 0xBE ∷ 0x9C ∷ 0xBE ∷ 0x9A ∷ 0xBE ∷ 0x98 ∷ 0xBE ∷ 0x96
    ∷ 0xBE ∷ 0x94 ∷ 0xBE ∷ 0x92 ∷ 0xBE ∷ 0x90 ∷ 0xBE ∷ 0x8E ∷ 0xBD ∷ 0xBC ∷ 0xBB ∷ 0xBA ∷ 0xB9 ∷ 0xB8 ∷ 0xB7 ∷ 0xB6 ∷ 0xB5 ∷ 0xB4 ∷ 0xE3
    ∷ 0x81 ∷ 0x8A ∷ 0xB0 ∷ [])
    ≡ refused TooDeep 54
unfolding walk_whole
deep_wrapped = refl

-- 4 is last at a header
deep_13_before_4 : ending (0xBE ∷ 0xB2 ∷ 0xBE ∷ 0xB0 ∷ 0xBE ∷ 0xAE ∷ 0xBE ∷ 0xAC ∷ 0xBE ∷ 0xAA ∷ 0xBE ∷ 0xA8 ∷ 0xBE ∷ 0xA6 ∷ 0xBE ∷ 0xA4
    ∷ 0xBE ∷ 0xA2 ∷ 0xBE ∷ 0xA0 ∷ 0xBE ∷ 0x9E ∷ 0xBE ∷ 0x9C ∷ 0xBE ∷ 0x9A ∷ 0xBE ∷ 0x98 ∷ 0xBE ∷ 0x96 ∷ 0xBE ∷ 0x94 ∷ 0xBE ∷ 0x92 ∷ 0xBE
    ∷ 0x90 ∷ 0xBE ∷ 0x8E ∷ 0xBD ∷ 0xBC ∷ 0xBB ∷ 0xBA ∷ 0xB9 ∷ 0xB8 ∷ 0xB7 ∷ 0xB6 ∷ 0xB5 ∷ 0xB4 ∷ 0xB3 ∷ 0xB2 ∷ 0xB1 ∷ 0xB1 ∷ [])
    ≡ refused NotIon 51
unfolding walk_whole
deep_13_before_4 = refl

-- a position inside a value is read from there, at the end it is nothing, past it 2
from-inside : walk (0xB2 ∷ 0x21 ∷ 0x05 ∷ []) 1 ≡ (leaf none [] (int (pos 5)) ∷ [], whole)
unfolding walk_whole
from-inside = refl

from_the_end : walk (0x11 ∷ []) 1 ≡ ([], whole)
unfolding walk_whole
from_the_end = refl

from-past_the_end : walk (0x11 ∷ []) 2 ≡ ([], refused PastTheEnd 2)
unfolding walk_whole
from-past_the_end = refl

-- what comes before a refusal is shown, also inside a container that does not end
shown_before_a_refusal : walk (0x11 ∷ 0xF0 ∷ []) 0 ≡ (leaf none [] (bool true) ∷ [], refused NotIon 1)
unfolding walk_whole
shown_before_a_refusal = refl

shown_inside_a_refused_list : walk (0xB2 ∷ 0x11 ∷ 0x41 ∷ []) 0 ≡ (begins none [] ion_list ∷ leaf none [] (bool true) ∷ [], refused NotIon 2)
unfolding walk_whole
shown_inside_a_refused_list = refl
