-- Document 01, "Bytes at the edges": the starred cases, settled by one theorem. Beside them the limits of VarUInt and VarInt from its list of modules.
-- Assumes nothing.
use Rattle.std.specs.Prelude.{ℕ, ◌≡◌, refl, true, false, List, [], ◌∷◌, map, pos, negsuc}
use Rattle.std.proofs.Math.Option.{none, some}
use Rattle.std.specs.Float.Ieee.{of_bits, to_bits, is_nan, fits as holds}
use Rattle.ion.specs.Value.{signed, no_fraction, list, sequence, no_members}
use Rattle.encoding.specs.Digits.{low_digits, count_digits, digit_count, digits}
use Rattle.encoding.specs.Fields.{var_uint_bytes, var_uints_bytes, var_int_groups, var_int_bytes, uint_bytes, fixed_bytes, trimmed, int_bytes}
use Rattle.encoding.specs.Headers.{header_bytes, framed_bytes, annotation_bytes, annotated_bytes}
use Rattle.encoding.specs.Decimal.{decimal_body}
use Rattle.encoding.specs.Timestamp.{day_before, day_after, timestamp_body}
use Rattle.encoding.specs.Argument.{write_i64, write_int, write_f64, write_decimal, write_timestamp, write_symbol}
use Rattle.encoding.specs.Argument.{float32_bytes, narrows, float64_bytes, argument_bytes}
use Rattle.encoding.specs.Stream.{tree_bytes}

-- what the definition gives, and what document 01 says
abbrev pub cases : List (List ℕ × List ℕ)
cases =
    (var_uint_bytes 127, 0xFF ∷ [])
    ∷ (var_uint_bytes 128, 0x01 ∷ 0x80 ∷ [])
    ∷ (var_uint_bytes 16383, 0x7F ∷ 0xFF ∷ [])
    ∷ (var_uint_bytes 16384, 0x01 ∷ 0x00 ∷ 0x80 ∷ [])
    ∷ (var_int_bytes (signed false 63), 0xBF ∷ [])
    ∷ (var_int_bytes (signed false 64), 0x00 ∷ 0xC0 ∷ [])
    ∷ (var_int_bytes (signed true 64), 0x40 ∷ 0xC0 ∷ [])
    ∷ (var_int_bytes (signed false 0), 0x80 ∷ [])
    ∷ (var_int_bytes (signed true 0), 0xC0 ∷ [])
    ∷ (argument_bytes (write_i64 (pos 0)), 0x20 ∷ [])
    ∷ (argument_bytes (write_i64 (negsuc 0)), 0x31 ∷ 0x01 ∷ [])
    ∷ (argument_bytes (write_i64 (negsuc 0x7FFFFFFFFFFFFFFF)), 0x38 ∷ 0x80 ∷ 0x00 ∷ 0x00 ∷ 0x00 ∷ 0x00 ∷ 0x00 ∷ 0x00 ∷ 0x00 ∷ [])
    ∷ (argument_bytes (write_int false []), 0x21 ∷ 0x00 ∷ [])
    ∷ (argument_bytes (write_symbol 0), 0x70 ∷ [])
    ∷ (argument_bytes (write_symbol 256), 0x72 ∷ 0x01 ∷ 0x00 ∷ [])
    ∷ (argument_bytes (write_f64 0x8000000000000000), 0x44 ∷ 0x80 ∷ 0x00 ∷ 0x00 ∷ 0x00 ∷ [])
    ∷ (argument_bytes (write_f64 0x3FF8000000000000), 0x44 ∷ 0x3F ∷ 0xC0 ∷ 0x00 ∷ 0x00 ∷ [])
    ∷ (argument_bytes (write_f64 0x3FB999999999999A), 0x48 ∷ 0x3F ∷ 0xB9 ∷ 0x99 ∷ 0x99 ∷ 0x99 ∷ 0x99 ∷ 0x99 ∷ 0x9A ∷ [])
    ∷ (argument_bytes (write_f64 0x36A0000000000000), 0x44 ∷ 0x00 ∷ 0x00 ∷ 0x00 ∷ 0x01 ∷ [])
    ∷ (argument_bytes (write_f64 0x3690000000000000), 0x48 ∷ 0x36 ∷ 0x90 ∷ 0x00 ∷ 0x00 ∷ 0x00 ∷ 0x00 ∷ 0x00 ∷ 0x00 ∷ [])
    ∷ (argument_bytes (write_decimal false [] (pos 0)), 0x50 ∷ [])
    ∷ (argument_bytes (write_decimal true [] (pos 0)), 0x52 ∷ 0x80 ∷ 0x80 ∷ [])
    ∷ (argument_bytes (write_decimal false (0x96 ∷ []) (negsuc 1)), 0x53 ∷ 0xC2 ∷ 0x00 ∷ 0x96 ∷ [])
    ∷ (argument_bytes (write_decimal true (0x80 ∷ []) (pos 0)), 0x53 ∷ 0x80 ∷ 0x80 ∷ 0x80 ∷ [])
    ∷ (argument_bytes (write_timestamp none (2000 ∷ []) no_fraction), 0x63 ∷ 0xC0 ∷ 0x0F ∷ 0xD0 ∷ [])
    ∷ (
      argument_bytes (write_timestamp (some (pos 60)) (2000 ∷ 1 ∷ 1 ∷ 0 ∷ 30 ∷ []) no_fraction),
      0x67 ∷ 0xBC ∷ 0x0F ∷ 0xCF ∷ 0x8C ∷ 0x9F ∷ 0x97 ∷ 0x9E ∷ [],
    )
    ∷ (tree_bytes (sequence (10 ∷ []) list no_members), 0xE3 ∷ 0x81 ∷ 0x8A ∷ 0xB0 ∷ [])
    ∷ []

pub table : map (λ (c : List ℕ × List ℕ). c.0) cases ≡ map (λ (c : List ℕ × List ℕ). c.1) cases
unfolding low_digits count_digits digit_count digits var_uint_bytes var_uints_bytes var_int_groups var_int_bytes uint_bytes fixed_bytes trimmed int_bytes
    header_bytes framed_bytes annotation_bytes annotated_bytes day_before day_after timestamp_body float32_bytes narrows float64_bytes decimal_body
    argument_bytes tree_bytes of_bits to_bits holds is_nan
table = refl
