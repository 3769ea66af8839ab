-- The machine with all that it calls, to be unfolded by one name where calls are computed.
-- Assumes nothing.
use Prim.Native.Nat.{ℕ}
use mathlib.Core.List.{List}
use lib.Ieee.{of_bits, to_bits, is_nan}
use lib.Ieee.{fits as holds}
use Rattle.ion.specs.Fields.{big_endian}
use Rattle.ion.specs.Text.{begun, utf8_from, utf8}
use Rattle.ion.specs.Scalars.{float_of, are_fields}
use Rattle.encoding.specs.Digits.{low_digits, count_digits, digit_count, digits}
use Rattle.encoding.specs.Fields.{var_uint_bytes, var_uints_bytes, var_int_groups, var_int_bytes, uint_bytes, fixed_bytes, trimmed, int_bytes}
use Rattle.encoding.specs.Headers.{header_bytes, framed_bytes, annotation_bytes, annotated_bytes}
use Rattle.encoding.specs.Decimal.{decimal_body}
use Rattle.encoding.specs.Timestamp.{day_before, day_after, is_timestamp, timestamp_body}
use Rattle.encoding.specs.Argument.{float32_bytes, narrows, float64_bytes, argument_bytes, meaning}
use Rattle.machine.specs.Call.{Call}
use Rattle.machine.specs.Machine.{closed_bytes, moved_bytes, splice, container_fits, containers_fit, fits, verdict, start_verdict, started}
use Rattle.machine.specs.Machine.{finished_length, run}
use Rattle.machine.specs.Demands.{joined, model_after}

unfoldable pub machine_whole : List Call → List ℕ → List ℕ
unfolding verdict start_verdict finished_length fits container_fits containers_fit splice closed_bytes moved_bytes run joined model_after meaning
    argument_bytes annotated_bytes annotation_bytes framed_bytes header_bytes float32_bytes narrows float64_bytes fixed_bytes uint_bytes trimmed
    int_bytes decimal_body timestamp_body is_timestamp are_fields day_before day_after var_int_bytes var_int_groups var_uints_bytes var_uint_bytes digits
    digit_count count_digits low_digits big_endian begun utf8_from utf8 float_of of_bits to_bits holds is_nan
machine_whole cs b = joined cs (started b)
