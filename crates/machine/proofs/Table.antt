-- The table's numbers are those of the code's refusals: no line of a call or a start has another, and each refusal is met by a call.
-- By the lines of each call; computation for the calls that meet them. Assumes nothing.
use Prim.Native.Nat.{ℕ, ◌<◌}
use native.Mathlib.Omega.{arith}
use mathlib.Core.Path.{◌≡◌, refl}
use mathlib.Core.Bool.{Bool, true, false}
use mathlib.Core.List.{List, [], ◌∷◌, ◌++◌}
use mathlib.Core.Option.{none}
use lib.ListN.{replicate, length-replicate}
use lib.IntN.{pos}
use borrow.Author.Tests.{lt-ltb}
use Rattle.ion.specs.Value.{no_fraction, list}
use Rattle.ion.specs.Fields.{big_endian}
use Rattle.ion.specs.Text.{begun, utf8_from, utf8}
use Rattle.encoding.specs.Digits.{count_digits, digit_count}
use Rattle.encoding.specs.Fields.{var_int_groups, var_int_bytes, trimmed, int_bytes}
use Rattle.encoding.specs.Decimal.{decimal_body}
use Rattle.encoding.specs.Timestamp.{is_timestamp}
use Rattle.encoding.specs.Headers.{annotated_bytes}
use Rattle.encoding.specs.Argument.{Argument, write_null, write_bool, write_i64, write_int, write_f32, write_f64, write_decimal, write_timestamp, write_symbol}
use Rattle.encoding.specs.Argument.{write_string, write_clob, write_blob, argument_bytes, argument_checks}
use Rattle.machine.specs.declared.Refusal.TheVariants.{BufferTooLong, StateUnfit, Misplaced, TooDeep, NegativeZero}
use Rattle.machine.specs.declared.Refusal.TheVariants.{NotUtf8, BadTimestamp, DecimalTooLong, NoRoom}
use Rattle.machine.specs.Call.{Call, sequence_type, write, name, opening, closing, abandonment, version_marker, taking, emptying}
use Rattle.machine.specs.Machine.{Config, config, longest_buffer, container_fits, containers_fit, fits, splice, checks, refused, verdict}
use Rattle.machine.specs.Machine.{empty_state, start_verdict, started}
use Rattle.machine.specs.Counts.{after_all}
use Rattle.machine.specs.Numbers.{AllNumbered, EachNumbered, EachMet}

-- ---- no other number

numbered_append : (xs ys : List (Bool × ℕ)) → AllNumbered xs → AllNumbered ys → AllNumbered (xs ++ ys)
numbered_append [] ys h k = k
numbered_append (x ∷ xs) ys h k = (h.0, numbered_append xs ys h.1 k)

argument_numbered : (a : Argument) → AllNumbered (argument_checks a)
argument_numbered (write_null t) = tt
argument_numbered (write_bool x) = tt
argument_numbered (write_i64 z) = tt
argument_numbered (write_int s m) = ((NegativeZero, refl), tt)
argument_numbered (write_f32 b) = tt
argument_numbered (write_f64 b) = tt
argument_numbered (write_decimal s m e) = ((DecimalTooLong, refl), tt)
argument_numbered (write_timestamp o fs x) = ((BadTimestamp, refl), tt)
argument_numbered (write_symbol n) = tt
argument_numbered (write_string b) = ((NotUtf8, refl), tt)
argument_numbered (write_clob b) = tt
argument_numbered (write_blob b) = tt

-- `own` between the lines of the place and that of the room, whatever these test
around : (room : Bool) (own : List (Bool × ℕ)) → AllNumbered own → AllNumbered ((false, 1) ∷ (false, 2) ∷ (false, 3) ∷ (own ++ ((room, 10) ∷ [])))
around room own h = ((BufferTooLong, refl), ((StateUnfit, refl), ((Misplaced, refl), numbered_append own ((room, 10) ∷ []) h ((NoRoom, refl), tt))))

checks_numbered : (c : Call) (w : Config) → AllNumbered (checks c w)
checks_numbered (write an a) w = around _ (argument_checks a) (argument_numbered a)
checks_numbered (name n) w = around false [] tt
checks_numbered (opening an k) w = around false ((false, 4) ∷ []) ((TooDeep, refl), tt)
checks_numbered closing w = around false [] tt
checks_numbered abandonment w = around false [] tt
checks_numbered version_marker w = around false [] tt
checks_numbered taking w = tt
checks_numbered emptying w = around false [] tt

pub each_numbered : EachNumbered
each_numbered = (checks_numbered, λ b. ((BufferTooLong, refl), ((NoRoom, refl), tt)))

-- ---- each is met

-- a buffer of n bytes
too_long : (n : ℕ) → longest_buffer < n → (c : Call) × (w : Config) × (verdict c w ≡ refused 1)
unfolding verdict
too_long n h = (version_marker, config (empty_state 0) (replicate n 0), rw (length-replicate {A = ℕ} n 0, lt-ltb longest_buffer n h))

-- no byte of a buffer, and nothing open
abbrev nothing : Config
nothing = config (empty_state 0) []

pub each_met : EachMet
unfolding after_all verdict start_verdict fits container_fits containers_fit splice big_endian begun utf8_from utf8 is_timestamp decimal_body
    trimmed int_bytes var_int_bytes var_int_groups
    digit_count count_digits argument_bytes annotated_bytes
each_met BufferTooLong = too_long 16777216 (omega arith)
each_met StateUnfit = (version_marker, config (empty_state 1) [], refl)
each_met Misplaced = (closing, nothing, refl)
each_met TooDeep =
    let c = opening [] (sequence_type list) in
    (c, after_all (replicate 32 c) (started (replicate 100 0)), refl)
each_met NegativeZero = (write [] (write_int true []), nothing, refl)
each_met NotUtf8 = (write [] (write_string (0xFF ∷ [])), nothing, refl)
each_met BadTimestamp = (write [] (write_timestamp none (0 ∷ []) no_fraction), nothing, refl)
each_met DecimalTooLong = (write [] (write_decimal false (replicate 32 1) (pos 0)), nothing, refl)
each_met NoRoom = (write [] (write_bool true), nothing, refl)
