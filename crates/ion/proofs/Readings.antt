-- How the examples are said: bytes as one number in base 16, and which of them the reader answers. By `exactly` that is what the grammar says.
-- Computation. Assumes nothing.
use Prim.Native.Nat.{ℕ, zero, suc, ◌/◌, ◌%◌}
use mathlib.Core.Path.{◌≡◌, refl}
use mathlib.Core.Bool.{true, false}
use mathlib.Core.List.{List, [], ◌∷◌, map}
use mathlib.Core.Option.{Option, none, some}
use lib.Dec.{eqb}
use lib.Ieee.{of_bits}
use Rattle.ion.specs.Value.{Scalar, Item, value, scalar}
use Rattle.ion.specs.Fields.{big_endian, int_field, groups, var_uint, var_uints, var_int}
use Rattle.ion.specs.Text.{begun, utf8_from, utf8}
use Rattle.ion.specs.Scalars.{float_of, decimal_of, are_fields, is_coefficient, fraction_of, fraction_at, timestamp_of, scalar_of}
use Rattle.ion.proofs.Reader.{find_code, cut, length_of, framed, shape_of, plain, sorted_at, bool_at, bits_at, float_at, body_at, shape_at, shape}
use Rattle.ion.proofs.Reader.{sids_of, bare_of, inner_of, wrapper_of, value_of, is_pad, next_member, next_field, read_members}
use Rattle.ion.proofs.Reader.{after_marker, next_item, or_else, read_stream, reader}

-- the bytes of a number, before those in `after`; at most k of them
unfoldable pub bytes_before : ℕ → ℕ → List ℕ → List ℕ
bytes_before zero n after = after
bytes_before (suc k) n after = elim (eqb n 0) [ true ↦ after | false ↦ bytes_before k (n / 256) (n % 256 ∷ after) ]

-- The bytes that a number shows in base 16: at most 64, the first not zero, and none for zero.
abbrev pub hex : ℕ → List ℕ
hex n = bytes_before 64 n []

hex_shows : hex 0x0102FF00 ≡ 0x01 ∷ 0x02 ∷ 0xFF ∷ 0x00 ∷ []
unfolding bytes_before
hex_shows = refl

-- a stream of scalars without annotations
abbrev pub scalars : List Scalar → List (Item Scalar)
scalars [] = []
scalars (s ∷ ss) = value (scalar [] s) ∷ scalars ss

-- the reader with all that it calls, to be unfolded by one name
unfoldable pub reader_whole : List ℕ → Option (List (Item Scalar))
unfolding bytes_before reader read_stream next_item or_else after_marker read_members next_member next_field is_pad value_of wrapper_of inner_of bare_of sids_of
    shape shape_at body_at plain sorted_at bool_at bits_at float_at framed length_of cut shape_of find_code scalar_of decimal_of timestamp_of are_fields
    is_coefficient fraction_of fraction_at float_of of_bits big_endian int_field groups var_uint var_uints var_int begun utf8_from utf8
reader_whole b = reader b

-- the bytes on the left are read as the items on the right
abbrev pub AllRead : List (ℕ × List (Item Scalar)) → Type 0
AllRead cs = map (λ (c : ℕ × List (Item Scalar)). reader (hex c.0)) cs ≡ map (λ (c : ℕ × List (Item Scalar)). some c.1) cs

-- each is a scalar, alone
abbrev pub AllScalars : List (ℕ × Scalar) → Type 0
AllScalars cs = map (λ (c : ℕ × Scalar). reader (hex c.0)) cs ≡ map (λ (c : ℕ × Scalar). some (scalars (c.1 ∷ []))) cs

-- the bytes have no reading
abbrev pub NoneRead : List ℕ → Type 0
NoneRead bs = map (λ (b : ℕ). reader (hex b)) bs ≡ map (λ (b : ℕ). none) bs
