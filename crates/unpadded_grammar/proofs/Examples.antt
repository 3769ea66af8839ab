-- The rule at small values, and the derivations of two: pads at top level and inside, marks, markers, more than one value. Computation.
-- Assumes nothing.
use Prim.Native.Nat.{ℕ}
use native.Mathlib.Omega.{arith}
use mathlib.Core.Path.{◌≡◌, refl, ◌∙◌}
use mathlib.Core.Bool.{Bool, true, false}
use mathlib.Core.Option.{Option}
use mathlib.Core.List.{List, [], ◌∷◌, map}
use Rattle.ion.specs.Value.{ion_null, null_code, list, Scalar, null, scalar, sequence, no_members, member, Item, value}
use Rattle.ion.specs.Fields.{big_endian, groups, var_uint, var_uints, var_int}
use Rattle.ion.specs.Text.{begun, utf8_from, utf8}
use Rattle.ion.specs.Scalars.{decimal_of, are_fields, fraction_at, timestamp_of, scalar_of}
use Rattle.ion.specs.Grammar.{short, Reads, pad, is-null, is-sequence, is_bare, members_end, members_pad, members-next, stream_end, stream_next}
use Rattle.mark.specs.OutOfCalendar.{out_of_calendar}
use Rattle.reading.specs.Headers.{var_uint_from, var_uint_at, header_at, marked, marker_at, top_header_at}
use Rattle.reading.specs.Scalars.{code_from, body_of, scalar_in, sids_of}
use Rattle.reading.specs.Items.{wrapped_at, item_at}
use Rattle.unpadded.specs.Rule.{unpadded_from, is_one_value}
use Rattle.reading_grammar.proofs.Tests.{contrary}
use Rattle.unpadded_grammar.specs.Pads.{has_no_pad}
use Rattle.unpadded_grammar.specs.Exact.{OneValue}
use Rattle.unpadded_grammar.proofs.Depth.{shallow}
use Rattle.unpadded_grammar.proofs.Exact.{found_is_one, one_is_found, same_pads}

-- the whole of the definition, to be unfolded by two names
unfoldable pub scalar_whole : ℕ → List ℕ → Option Scalar
unfolding scalar_in body_of code_from scalar_of big_endian decimal_of timestamp_of are_fields fraction_at var_int var_uints var_uint groups utf8 utf8_from begun
scalar_whole k b = scalar_in k b

unfoldable pub rule_whole : List ℕ → Bool
unfolding is_one_value unpadded_from item_at wrapped_at sids_of header_at top_header_at marker_at marked var_uint_at var_uint_from out_of_calendar
rule_whole s = is_one_value s

abbrev ones : List (List ℕ)
ones =
    (0x0F ∷ [])
    ∷ (0xB0 ∷ [])
    ∷ (0xB1 ∷ 0x0F ∷ [])
    ∷ (0xB2 ∷ 0xB1 ∷ 0x0F ∷ [])
    ∷ (0xC2 ∷ 0x0F ∷ 0x11 ∷ [])
    ∷ (0xD2 ∷ 0x80 ∷ 0x0F ∷ [])
    -- sorted
    ∷ (0xD1 ∷ 0x82 ∷ 0x80 ∷ 0x0F ∷ [])
    -- the length behind the type byte
    ∷ (0xBE ∷ 0x81 ∷ 0x0F ∷ [])
    -- the year 1
    ∷ (0x62 ∷ 0x80 ∷ 0x81 ∷ [])
    -- annotated
    ∷ (0xE3 ∷ 0x81 ∷ 0x84 ∷ 0x0F ∷ [])
    ∷ []

abbrev others : List (List ℕ)
others =
    []
    -- a pad, at top level or inside
    ∷ (0x00 ∷ [])
    ∷ (0x0F ∷ 0x00 ∷ [])
    ∷ (0xB1 ∷ 0x00 ∷ [])
    ∷ (0xB2 ∷ 0x0F ∷ 0x00 ∷ [])
    ∷ (0xB2 ∷ 0x00 ∷ 0x0F ∷ [])
    ∷ (0xB2 ∷ 0xB1 ∷ 0x00 ∷ [])
    ∷ (0xC1 ∷ 0x00 ∷ [])
    ∷ (0xD2 ∷ 0x80 ∷ 0x00 ∷ [])
    ∷ (0xD1 ∷ 0x82 ∷ 0x80 ∷ 0x00 ∷ [])
    ∷ (0xBE ∷ 0x81 ∷ 0x00 ∷ [])
    ∷ (0xE4 ∷ 0x81 ∷ 0x84 ∷ 0xB1 ∷ 0x00 ∷ [])
    -- the year 0, at top level and inside
    ∷ (0x62 ∷ 0x80 ∷ 0x80 ∷ [])
    ∷ (0xB3 ∷ 0x62 ∷ 0x80 ∷ 0x80 ∷ [])
    -- a version marker, cut or whole, alone or before a value
    ∷ (0xE0 ∷ 0x01 ∷ 0x00 ∷ [])
    ∷ (0xE0 ∷ 0x01 ∷ 0x00 ∷ 0xEA ∷ [])
    ∷ (0xE0 ∷ 0x01 ∷ 0x00 ∷ 0xEA ∷ 0x0F ∷ [])
    -- two values; a list that is cut
    ∷ (0x0F ∷ 0x0F ∷ [])
    ∷ (0xB2 ∷ 0x0F ∷ [])
    ∷ []

ones-found : map (λ (b : List ℕ). is_one_value b) ones ≡ map (λ (b : List ℕ). true) ones
unfolding rule_whole scalar_whole
ones-found = refl

others_refused : map (λ (b : List ℕ). is_one_value b) others ≡ map (λ (b : List ℕ). false) others
unfolding rule_whole scalar_whole
others_refused = refl

-- ---- a list of a null, and a list of a pad

abbrev null_list : List ℕ
null_list = 0xB1 ∷ 0x0F ∷ []

abbrev pad_list : List ℕ
pad_list = 0xB1 ∷ 0x00 ∷ []

null_list_reads : Reads null_list (value (sequence [] list (member (scalar [] (null ion_null)) no_members)) ∷ [])
null_list_reads =
    stream_next {p = null_list} {b = []}
    (is_bare (is-sequence list {h = 0xB1 ∷ []} {body = 0x0F ∷ []} (short (omega arith))
    (members-next {p = 0x0F ∷ []} {b = []} (is_bare (is-null null_code refl)) members_end)))
    stream_end

pad_list_reads : Reads pad_list (value (sequence [] list no_members) ∷ [])
pad_list_reads =
    stream_next {p = pad_list} {b = []}
    (is_bare (is-sequence list {h = 0xB1 ∷ []} {body = 0x00 ∷ []} (short (omega arith))
    (members_pad {p = 0x00 ∷ []} {b = []} (pad {h = 0x00 ∷ []} [] (short (omega arith))) members_end)))
    stream_end

null_list_no_pad : has_no_pad null_list_reads ≡ true
unfolding has_no_pad null_list_reads
null_list_no_pad = refl

pad_list_pad : has_no_pad pad_list_reads ≡ false
unfolding has_no_pad pad_list_reads
pad_list_pad = refl

-- any reading of the list of a pad has it
pad_list_always : (is : List (Item Scalar)) (q : Reads pad_list is) → has_no_pad q ≡ false
pad_list_always is q = same_pads pad_list is (value (sequence [] list no_members) ∷ []) q pad_list_reads ∙ pad_list_pad

-- the first is one value, the other is none
null_list_one : OneValue null_list
unfolding rule_whole scalar_whole
null_list_one = found_is_one null_list refl

pad_list_none : OneValue pad_list → ⊥
unfolding rule_whole scalar_whole
pad_list_none w = contrary refl (one_is_found pad_list w (omega (arith, shallow pad_list w)))
