-- Runs of calls, computed by the definitions: bytes, refusals and their order.
-- Assumes nothing.
use Prim.Native.Nat.{ℕ, ◌+◌}
use mathlib.Core.Path.{◌≡◌, refl}
use mathlib.Core.Bool.{true, false}
use mathlib.Core.List.{List, [], ◌∷◌, ◌++◌, map}
use mathlib.Core.Option.{some}
use lib.ListN.{take, replicate}
use lib.IntN.{pos}
use Rattle.ion.specs.Value.{no_fraction, list}
use Rattle.encoding.specs.Digits.{low_digits, count_digits, digit_count, digits}
use Rattle.encoding.specs.Fields.{var_uint_bytes}
use Rattle.encoding.specs.Headers.{header_bytes, framed_bytes}
use Rattle.encoding.specs.Argument.{write_bool, write_i64, write_int, write_decimal, write_timestamp, write_string}
use Rattle.machine.specs.Call.{sequence_type, struct_type, Call, write, name, opening, closing, abandonment, version_marker, taking, emptying}
use Rattle.machine.specs.Machine.{Config, closed_bytes, moved_bytes, Figures, splice, container_fits, containers_fit, fits, Verdict, accepted}
use Rattle.machine.specs.Machine.{refused, verdict, after, start_verdict, started, run}
use Rattle.machine.specs.Demands.{joined}
use Rattle.machine.specs.Counts.{no_answers, answers_after}
use Rattle.machine.proofs.Whole.{machine_whole}

-- the answers to a list of calls
unfoldable pub verdicts : List Call → Config → List Verdict
verdicts [] w = []
verdicts (c ∷ cs) w = verdict c w ∷ verdicts cs (after c w)

-- a struct with an annotation, a value without a name, which is refused, an emptying; an abandoned list, and an int; over a buffer that holds nines
calls : List Call
calls =
    opening (10 ∷ []) struct_type ∷ name 4 ∷ write [] (write_bool true) ∷ write [] (write_bool true) ∷ closing ∷ emptying
    ∷ opening [] (sequence_type list) ∷ write [] (write_bool false) ∷ abandonment ∷ write [] (write_i64 (pos 7)) ∷ version_marker ∷ taking ∷ []

nines : List ℕ
nines = replicate 40 9

calls-joined : joined calls (started nines) ≡ 0xE0 ∷ 0x01 ∷ 0x00 ∷ 0xEA ∷ 0xE5 ∷ 0x81 ∷ 0x8A ∷ 0xD2 ∷ 0x84 ∷ 0x11 ∷ 0x21 ∷ 0x07 ∷ 0xE0 ∷ 0x01 ∷ 0x00 ∷ 0xEA ∷ []
unfolding calls nines machine_whole
calls-joined = refl

calls-verdicts : verdicts calls (started nines)
    ≡ accepted ∷ accepted ∷ accepted ∷ refused 3 ∷ accepted ∷ accepted ∷ accepted ∷ accepted ∷ accepted ∷ accepted ∷ accepted ∷ accepted
    ∷ []
unfolding verdicts calls nines machine_whole
calls-verdicts = refl

-- what each call answers of a container, its size, how many members it has and how many bytes moved: only the closing does
unfoldable pub figures : List Call → Config → List Figures
figures [] w = []
figures (c ∷ cs) w = (run c w).figures ∷ figures cs (after c w)

abbrev figure : ℕ → ℕ → ℕ → Figures
figure size members moved = record { size = size; members = members; moved = moved }

-- of a call that answers nothing of a container
abbrev none-answered : Figures
none-answered = figure 0 0 0

-- the struct's two bytes move by two, its annotation part of two by one
calls-figures : figures calls (started nines) ≡ replicate 4 none-answered ++ (figure 6 1 4 ∷ replicate 7 none-answered)
unfolding figures calls nines machine_whole
calls-figures = refl

-- a list of 128 bytes: its header grows by one byte over the reserve
long : List Call
long = opening [] (sequence_type list) ∷ (replicate 128 (write [] (write_bool true)) ++ (closing ∷ []))

long_joined : take 8 (joined long (started (replicate 135 9))) ≡ 0xE0 ∷ 0x01 ∷ 0x00 ∷ 0xEA ∷ 0xBE ∷ 0x01 ∷ 0x80 ∷ 0x11 ∷ []
unfolding long machine_whole
long_joined = refl

-- in a struct with no name waiting every fault is 3; outside, each argument's own number; with no room, 10 last
refusals : verdicts (opening [] struct_type ∷ write [] (write_int true []) ∷ write [] (write_string (0xFF ∷ [])) ∷ closing
    ∷ write [] (write_int true (0 ∷ [])) ∷ write [] (write_string (0xFF ∷ []))
    ∷ write [] (write_timestamp (some (pos 0)) (2000 ∷ []) no_fraction) ∷ write [] (write_decimal false (replicate 32 1) (pos 0))
    ∷ write [] (write_decimal false (replicate 31 1) (pos 0)) ∷ closing ∷ abandonment ∷ name 4 ∷ [])
    (started (replicate 6 9))
    ≡ accepted ∷ refused 3 ∷ refused 3 ∷ accepted ∷ refused 5 ∷ refused 6 ∷ refused 7 ∷ refused 8 ∷ refused 10 ∷ refused 3 ∷ refused 3 ∷ refused 3 ∷ []
unfolding verdicts machine_whole
refusals = refl

-- 32 may be open
deep : verdicts (replicate 33 (opening [] (sequence_type list))) (started (replicate 100 9)) ≡ replicate 32 accepted ++ (refused 4 ∷ [])
unfolding verdicts verdict start_verdict fits container_fits containers_fit splice
deep = refl

-- starts: too small a buffer
starts : start_verdict (9 ∷ 9 ∷ 9 ∷ []) ∷ start_verdict (9 ∷ 9 ∷ 9 ∷ 9 ∷ []) ∷ [] ≡ refused 10 ∷ accepted ∷ []
unfolding start_verdict
starts = refl

-- ---- how many members

-- a list: a bool; a struct with two pairs, a closing of it refused while a name waits; a list that is abandoned, with a closed one in it;
-- an int that is refused; a bool. A last closing is refused, since none is open
members : List Call
members =
    opening [] (sequence_type list) ∷ write [] (write_bool true)
    ∷ opening [] struct_type ∷ name 4 ∷ write [] (write_bool true) ∷ name 5 ∷ closing ∷ write [] (write_bool true) ∷ closing
    ∷ opening [] (sequence_type list) ∷ opening [] (sequence_type list) ∷ write [] (write_bool true) ∷ closing ∷ abandonment
    ∷ write [] (write_int true []) ∷ write [] (write_bool false) ∷ closing ∷ closing ∷ []

members-figures : figures members (started nines)
    ≡ replicate 8 none-answered
    ++ (figure 5 2 4 ∷ replicate 3 none-answered ++ (figure 2 1 1 ∷ replicate 3 none-answered ++ (figure 8 3 7 ∷ none-answered ∷ [])))
unfolding members figures nines machine_whole
members-figures = refl

-- without what was abandoned: the struct is the second member of the list, which is the item behind the marker
members_answers : answers_after members (started nines) no_answers ≡ record { items = 2; outside = (1 ∷ 1 ∷ [], 2) ∷ (1 ∷ [], 3) ∷ []; inside = [] }
unfolding answers_after members nines machine_whole
members_answers = refl

members-joined : joined members (started nines) ≡ 0xE0 ∷ 0x01 ∷ 0x00 ∷ 0xEA ∷ 0xB7 ∷ 0x11 ∷ 0xD4 ∷ 0x84 ∷ 0x11 ∷ 0x85 ∷ 0x11 ∷ 0x10 ∷ []
unfolding members nines machine_whole
members-joined = refl

-- A list at 4 with a list in it at 8, ten bytes used: the outer one holds two bytes up to the inner one, which holds none.
abbrev counting : ℕ → ℕ → Config
counting outside inside = record {
  state = record {
    used = 10;
    depth = 2;
    waiting = false;
    containers = record { start = 4; header = 4; code = 0xB0; members = outside } ∷ record { start = 8; header = 8; code = 0xB0; members = inside } ∷ [];
  };
  buffer = nines;
}

-- As many members as bytes fit, one more does not. The outer one's bytes end where the inner one starts, not where the used ones end.
-- What fits is answered as it stands.
members_fit : verdict closing (counting 2 0) ∷ verdict closing (counting 3 0) ∷ verdict closing (counting 2 1) ∷ [] ≡ accepted ∷ refused 2 ∷ refused 2 ∷ []
unfolding nines verdict fits container_fits containers_fit closed_bytes framed_bytes header_bytes
members_fit = refl

members-given : figures (closing ∷ closing ∷ []) (counting 2 0) ≡ figure 1 0 0 ∷ figure 4 3 3 ∷ []
unfolding figures nines machine_whole
members-given = refl

-- ---- how many bytes moved

-- a list at 4, closed: with a body of n bytes, and with an annotation part of a bytes before it
abbrev plain : ℕ → ℕ
plain n = moved_bytes 4 4 0xB0 (replicate (6 + n) 0)

abbrev annotated : ℕ → ℕ → ℕ
annotated a n = moved_bytes 4 (6 + a) 0xB0 (replicate (8 + a + n) 0)

-- the header has one byte up to 13, two up to 127, then three; two were reserved
moved_plain : map plain (0 ∷ 1 ∷ 13 ∷ 14 ∷ 127 ∷ 128 ∷ []) ≡ 0 ∷ 1 ∷ 13 ∷ 0 ∷ 0 ∷ 128 ∷ []
unfolding moved_bytes header_bytes var_uint_bytes digits digit_count count_digits low_digits
moved_plain = refl

-- the wrapper's header has one byte: both move; two: the body moves if its own header has one
moved-annotated : map (annotated 2) (0 ∷ 10 ∷ 11 ∷ 13 ∷ 14 ∷ 123 ∷ []) ≡ 2 ∷ 12 ∷ 11 ∷ 13 ∷ 0 ∷ 0 ∷ []
unfolding moved_bytes header_bytes var_uint_bytes digits digit_count count_digits low_digits
moved-annotated = refl

-- it has three: both move, unless the body's header has one, so that growth and shrinking cancel
moved_widely : map (annotated 2) (124 ∷ 128 ∷ []) ++ (annotated 113 13 ∷ annotated 114 13 ∷ annotated 113 14 ∷ annotated 127 0 ∷ [])
    ≡ 126 ∷ 130 ∷ 13 ∷ 114 ∷ 127 ∷ 127 ∷ []
unfolding moved_bytes header_bytes var_uint_bytes digits digit_count count_digits low_digits
moved_widely = refl
