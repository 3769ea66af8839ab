-- Demands 2 and 3 of one list of calls, computed: every kind of call stands in it, refused ones too, with arguments at the limits of their types.
-- The bytes are those of the original Rust for the values that are left. Assumes nothing.
use Prim.Native.Nat.{ℕ}
use native.Mathlib.Omega.{arith}
use mathlib.Core.Path.{◌≡◌, refl, sym, ◌∙◌, subst₂}
use mathlib.Core.Bool.{true, false}
use mathlib.Core.List.{List, [], ◌∷◌, ◌++◌}
use mathlib.Core.Option.{none, some}
use lib.ListN.{replicate}
use lib.IntN.{pos, negsuc}
use Rattle.ion.specs.Value.{ion_list, not_anumber, infinite, signed, no_fraction, fraction, Scalar, null, bool, int, float, decimal, timestamp, symbol}
use Rattle.ion.specs.Value.{string, clob, blob}
use Rattle.ion.specs.Value.{list, sexp, scalar, sequence, struct, no_members, member, no_fields, field, Item, marker, value}
use Rattle.encoding.specs.Argument.{write_null, write_bool, write_i64, write_int, write_f32, write_f64, write_decimal, write_timestamp, write_symbol}
use Rattle.encoding.specs.Argument.{write_string, write_clob, write_blob}
use Rattle.encoding.specs.Stream.{stream_bytes}
use Rattle.machine.specs.Call.{sequence_type, struct_type, Call, write, name, opening, closing, abandonment, version_marker, taking, emptying, AllTyped}
use Rattle.machine.specs.Machine.{accepted, refused}
use Rattle.machine.specs.Machine.{started}
use Rattle.machine.specs.Demands.{joined, spelled, written, Run, ReadsOnlyAs}
use Rattle.machine.specs.Counts.{Counted, tree_counts, counts_from, counts, no_answers, answers_after}
use Rattle.machine.proofs.Whole.{machine_whole}
use Rattle.machine.proofs.Demands.{demand2, demand3}
use Rattle.machine.proofs.Counts.{members-answered}
use Rattle.machine.proofs.Examples.{verdicts}

-- the greatest sid
abbrev pub most : ℕ
most = 0xFFFFFFFFFFFFFFFF

-- a value, and a struct with names and values at the limits; what stands between is refused or abandoned
abbrev pub struct_begun : List Call
struct_begun =
    write [] (write_null ion_list)
    ∷ opening (most ∷ []) struct_type
    ∷ write [] (write_bool true)
    ∷ name most
    ∷ name 4
    ∷ write (10 ∷ []) (write_i64 (negsuc 0x7FFFFFFFFFFFFFFF))
    ∷ name 5
    ∷ opening [] (sequence_type list)
    ∷ write [] (write_int true (0 ∷ 0xFF ∷ []))
    ∷ write [] (write_int true [])
    ∷ write [] (write_f32 0xFFFFFFFF)
    ∷ write [] (write_f64 0x7FF0000000000000)
    ∷ write [] (write_f64 0xFFFFFFFFFFFFFFFF)
    ∷ write [] (write_decimal true (0x80 ∷ []) (negsuc 0x7FFFFFFFFFFFFFFF))
    ∷ write [] (write_decimal false (replicate 33 1) (pos 0))
    ∷ version_marker
    ∷ closing
    ∷ []

abbrev pub struct_ended : List Call
struct_ended =
    name 6
    ∷ opening (12 ∷ []) (sequence_type sexp)
    ∷ write [] (write_bool false)
    ∷ abandonment
    ∷ write [] (write_timestamp (some (pos 1439)) (1 ∷ 1 ∷ 2 ∷ 0 ∷ 0 ∷ 0 ∷ []) (fraction 18 999999999999999999))
    ∷ name 7
    ∷ closing
    ∷ write [] (write_timestamp none (2001 ∷ 2 ∷ 29 ∷ []) no_fraction)
    ∷ write [] (write_symbol most)
    ∷ closing
    ∷ []

-- taken and emptied; a marker and more values
abbrev pub behind : List Call
behind =
    taking
    ∷ emptying
    ∷ version_marker
    ∷ write [] (write_string (0xC3 ∷ 0xA9 ∷ []))
    ∷ write [] (write_string (0xFF ∷ []))
    ∷ write [] (write_clob (0xFF ∷ []))
    ∷ write [] (write_blob (0 ∷ []))
    ∷ opening [] (sequence_type sexp)
    ∷ write [] (write_bool true)
    ∷ closing
    ∷ write [] (write_blob (replicate 200 0))
    ∷ abandonment
    ∷ []

abbrev pub limits : List Call
limits = struct_begun ++ (struct_ended ++ behind)

abbrev pub nines : List ℕ
nines = replicate 140 9

answers : verdicts limits (started nines)
    ≡ accepted ∷ accepted ∷ refused 3 ∷ accepted ∷ refused 3 ∷ accepted ∷ accepted ∷ accepted ∷ accepted ∷ refused 5 ∷ accepted ∷ accepted ∷ accepted
    ∷ accepted ∷ refused 8 ∷ refused 3 ∷ accepted ∷ accepted ∷ accepted ∷ accepted ∷ accepted ∷ accepted ∷ accepted ∷ refused 3 ∷ refused 7 ∷ accepted
    ∷ accepted ∷ accepted ∷ accepted ∷ accepted ∷ accepted ∷ refused 6 ∷ accepted ∷ accepted ∷ accepted ∷ accepted ∷ accepted ∷ refused 10 ∷ refused 3 ∷ []
unfolding verdicts machine_whole
answers = refl

abbrev pub bytes : List ℕ
bytes =
    0xE0 ∷ 0x01 ∷ 0x00 ∷ 0xEA ∷ 0xBF ∷ 0xEE ∷ 0xE6 ∷ 0x8A ∷ 0x01 ∷ 0x7F ∷ 0x7F ∷ 0x7F ∷ 0x7F ∷ 0x7F ∷ 0x7F ∷ 0x7F
    ∷ 0x7F ∷ 0xFF ∷ 0xDE ∷ 0xD9 ∷ 0x01 ∷ 0x7F ∷ 0x7F ∷ 0x7F ∷ 0x7F ∷ 0x7F ∷ 0x7F ∷ 0x7F ∷ 0x7F ∷ 0xFF ∷ 0xEB ∷ 0x81
    ∷ 0x8A ∷ 0x38 ∷ 0x80 ∷ 0x00 ∷ 0x00 ∷ 0x00 ∷ 0x00 ∷ 0x00 ∷ 0x00 ∷ 0x00 ∷ 0x85 ∷ 0xBE ∷ 0xA2 ∷ 0x31 ∷ 0xFF ∷ 0x44
    ∷ 0xFF ∷ 0xFF ∷ 0xFF ∷ 0xFF ∷ 0x44 ∷ 0x7F ∷ 0x80 ∷ 0x00 ∷ 0x00 ∷ 0x48 ∷ 0xFF ∷ 0xFF ∷ 0xFF ∷ 0xFF ∷ 0xFF ∷ 0xFF
    ∷ 0xFF ∷ 0xFF ∷ 0x5C ∷ 0x41 ∷ 0x00 ∷ 0x00 ∷ 0x00 ∷ 0x00 ∷ 0x00 ∷ 0x00 ∷ 0x00 ∷ 0x00 ∷ 0x80 ∷ 0x80 ∷ 0x80 ∷ 0x86
    ∷ 0x6E ∷ 0x91 ∷ 0x0B ∷ 0x9F ∷ 0x81 ∷ 0x81 ∷ 0x81 ∷ 0x80 ∷ 0x81 ∷ 0x80 ∷ 0xD2 ∷ 0x0D ∷ 0xE0 ∷ 0xB6 ∷ 0xB3 ∷ 0xA7
    ∷ 0x63 ∷ 0xFF ∷ 0xFF ∷ 0x87 ∷ 0x78 ∷ 0xFF ∷ 0xFF ∷ 0xFF ∷ 0xFF ∷ 0xFF ∷ 0xFF ∷ 0xFF ∷ 0xFF ∷ 0xE0 ∷ 0x01 ∷ 0x00
    ∷ 0xEA ∷ 0x82 ∷ 0xC3 ∷ 0xA9 ∷ 0x91 ∷ 0xFF ∷ 0xA1 ∷ 0x00 ∷ 0xC1 ∷ 0x11 ∷ []

abbrev pub items : List (Item Scalar)
items =
    marker
    ∷ value (scalar [] (null ion_list))
    ∷ value (struct (most ∷ [])
    (field most (scalar (10 ∷ []) (int (negsuc 0x7FFFFFFFFFFFFFFF)))
    (field 5 (sequence [] list
    (member (scalar [] (int (negsuc 254)))
    (member (scalar [] (float not_anumber))
    (member (scalar [] (float (infinite false)))
    (member (scalar [] (float not_anumber))
    (member (scalar [] (decimal (signed true 0x80) (negsuc 0x7FFFFFFFFFFFFFFF)))
    no_members))))))
    (field 6 (scalar [] (timestamp (some (pos 1439)) (1 ∷ 1 ∷ 1 ∷ 0 ∷ 1 ∷ 0 ∷ []) (fraction 18 999999999999999999)))
    (field 7 (scalar [] (symbol most))
    no_fields)))))
    ∷ marker
    ∷ value (scalar [] (string (0xC3 ∷ 0xA9 ∷ [])))
    ∷ value (scalar [] (clob (0xFF ∷ [])))
    ∷ value (scalar [] (blob (0 ∷ [])))
    ∷ value (sequence [] sexp (member (scalar [] (bool true)) no_members))
    ∷ []

-- ---- what the demands say of them

pub run : Run limits nines
unfolding verdicts machine_whole
run = record { starts = refl; ends = refl }

typed_both : (l r : List Call) → AllTyped l → AllTyped r → AllTyped (l ++ r)
typed_both [] r h k = k
typed_both (c ∷ l) r h k = (h.0, typed_both l r h.1 k)

pub typed : AllTyped limits
typed = typed_both struct_begun (struct_ended ++ behind) (omega arith) (typed_both struct_ended behind (omega arith) (omega arith))

pub joined_bytes : joined limits (started nines) ≡ bytes
unfolding verdicts machine_whole
joined_bytes = refl

pub spelled-items : spelled limits nines ≡ items
unfolding verdicts machine_whole
spelled-items = refl

-- the encoding of what was written is these bytes
pub instance2 : stream_bytes (written limits nines) ≡ bytes
instance2 = sym (demand2 limits nines run) ∙ joined_bytes

-- these bytes read as these items, and as nothing else
pub instance3 : ReadsOnlyAs bytes items
instance3 = subst₂ ReadsOnlyAs joined_bytes spelled-items (demand3 limits nines run typed)

-- what its closings answer of members is what these items have: the list in the struct five, the struct four pairs, the s-expression one
abbrev pub counted : List Counted
counted = (2 ∷ 1 ∷ [], 5) ∷ (2 ∷ [], 4) ∷ (7 ∷ [], 1) ∷ []

pub instance_counts : counts items ≡ counted
unfolding counts_from tree_counts
instance_counts = refl

pub instance_answers : (answers_after limits (started nines) no_answers).outside ≡ counted
instance_answers = members-answered limits nines run typed items (rw joined_bytes instance3.reading) ∙ instance_counts
