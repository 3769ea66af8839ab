-- Demands 2 and 3 and the answered counts of one list of calls through the entry points, computed: the calls of the machine's instance as a host makes them,
-- on slices and a buffer that hold something else. Assumes nothing.
use Prim.Native.Nat.{ℕ, zero, suc}
use native.Mathlib.Omega.{arith}
use mathlib.Core.Path.{◌≡◌, refl, sym, ◌∙◌, subst₂}
use mathlib.Core.List.{List, [], ◌∷◌}
use lib.ListN.{replicate}
use lib.IntN.{pos, negsuc}
use Rattle.buffer.specs.Laid.{laid, placed}
use Rattle.encoding.specs.Stream.{stream_bytes}
use Rattle.annotations.specs.Sids.{least_first, sid_at, sids_up_to, sids_of}
use Rattle.machine.specs.Demands.{ReadsOnlyAs}
use Rattle.machine.specs.Counts.{counts, no_answers}
use Rattle.machine.proofs.Whole.{machine_whole}
use Rattle.machine.proofs.Instances.{most, nines, bytes, items, counted}
use Rattle.state_bytes.specs.StateBytes.{state_size, state_of, containers_from, stored_head, stored_container, stored_members, entered, numbers_laid, answered}
use Rattle.entry_numbers.specs.Lent.{type_coded, precision_numbered, offset_lent, fraction_lent}
use Rattle.entry_numbers.specs.EntryCall.{gm_write_null, gm_write_bool, gm_write_i64, gm_write_int, gm_write_f32, gm_write_f64, gm_write_decimal, gm_write_timestamp}
use Rattle.entry_numbers.specs.EntryCall.{gm_write_symbol}
use Rattle.entry_numbers.specs.EntryCall.{gm_write_string, gm_write_clob, gm_write_blob, gm_field_name, gm_open_list, gm_open_sexp, gm_open_struct}
use Rattle.entry_numbers.specs.EntryCall.{gm_close, gm_abandon, gm_version_marker, gm_finished, gm_empty, TimestampNumbers, AllU8, TimestampTyped, HostCall}
use Rattle.entry_steps.specs.Entries.{start_entered}
use Rattle.entry_lists.specs.Demands.{Lent, lent_after, lent_started, lent_joined, lent_model_after, lent_spelling, lent_written, LentRun, lent_answers_after}
use Rattle.entry_lists.proofs.Demands.{entry_demand2, entry_demand3}
use Rattle.entry_lists.proofs.Counts.{entry_members-answered}

-- ---- the calls

-- a sid of eight bytes FF
abbrev ff : List ℕ
ff = replicate 8 0xFF

abbrev thirty_three : List ℕ
thirty_three = replicate 33 1

abbrev two_hundred : List ℕ
two_hundred = replicate 200 1

pub ones_typed : (n : ℕ) → AllU8 (replicate n 1)
ones_typed zero = tt
ones_typed (suc n) = (omega arith, ones_typed n)

-- 0001-01-02T00:00:00.999999999999999999+23:59, the numbers that say yes at their greatest
abbrev earliest : TimestampNumbers
earliest = record {
  precision = 0xFF;
  year = 1;
  month = 1;
  day = 2;
  hour = 0;
  minute = 0;
  second = 0;
  known = 0xFF;
  offset = pos 1439;
  given = 0xFF;
  digits = 18;
  coefficient = 999999999999999999;
}

-- 2001-02-29, and numbers at their greatest that mean nothing
abbrev no_day : TimestampNumbers
no_day = record {
  precision = 2;
  year = 2001;
  month = 2;
  day = 29;
  hour = 0xFFFFFFFF;
  minute = 0xFFFFFFFF;
  second = 0xFFFFFFFF;
  known = 0;
  offset = negsuc 0x7FFFFFFF;
  given = 0;
  digits = 0xFFFFFFFF;
  coefficient = most;
}

pub earliest_typed : TimestampTyped earliest
earliest_typed = omega arith

pub no_day_typed : TimestampTyped no_day
no_day_typed = omega arith

abbrev pub host_limits : List HostCall
host_limits =
    record { entry = gm_write_null [] 11; typed = omega arith }
    ∷ record { entry = gm_open_struct ff; typed = omega arith }
    ∷ record { entry = gm_write_bool [] 1; typed = omega arith }
    ∷ record { entry = gm_field_name most; typed = omega arith }
    ∷ record { entry = gm_field_name 4; typed = omega arith }
    ∷ record { entry = gm_write_i64 (10 ∷ 0 ∷ 0 ∷ 0 ∷ 0 ∷ 0 ∷ 0 ∷ 0 ∷ []) (negsuc 0x7FFFFFFFFFFFFFFF); typed = omega arith }
    ∷ record { entry = gm_field_name 5; typed = omega arith }
    ∷ record { entry = gm_open_list []; typed = omega arith }
    ∷ record { entry = gm_write_int [] 1 (0 ∷ 0xFF ∷ []); typed = omega arith }
    ∷ record { entry = gm_write_int [] 0xFF []; typed = omega arith }
    ∷ record { entry = gm_write_f32 [] 0xFFFFFFFF; typed = omega arith }
    ∷ record { entry = gm_write_f64 [] 0x7FF0000000000000; typed = omega arith }
    ∷ record { entry = gm_write_f64 [] 0xFFFFFFFFFFFFFFFF; typed = omega arith }
    ∷ record { entry = gm_write_decimal [] 1 (0x80 ∷ []) (negsuc 0x7FFFFFFFFFFFFFFF); typed = omega arith }
    ∷ record { entry = gm_write_decimal [] 0 thirty_three (pos 0); typed = (omega arith, omega arith, (ones_typed 33, omega arith), omega arith) }
    ∷ record { entry = gm_version_marker; typed = omega arith }
    ∷ record { entry = gm_close; typed = omega arith }
    ∷ record { entry = gm_field_name 6; typed = omega arith }
    ∷ record { entry = gm_open_sexp (12 ∷ []); typed = omega arith }
    ∷ record { entry = gm_write_bool [] 0; typed = omega arith }
    ∷ record { entry = gm_abandon; typed = omega arith }
    ∷ record { entry = gm_write_timestamp [] earliest; typed = (omega arith, earliest_typed) }
    ∷ record { entry = gm_field_name 7; typed = omega arith }
    ∷ record { entry = gm_close; typed = omega arith }
    ∷ record { entry = gm_write_timestamp [] no_day; typed = (omega arith, no_day_typed) }
    ∷ record { entry = gm_write_symbol [] most; typed = omega arith }
    ∷ record { entry = gm_close; typed = omega arith }
    ∷ record { entry = gm_finished; typed = omega arith }
    ∷ record { entry = gm_empty; typed = omega arith }
    ∷ record { entry = gm_version_marker; typed = omega arith }
    ∷ record { entry = gm_write_string [] (0xC3 ∷ 0xA9 ∷ []); typed = omega arith }
    ∷ record { entry = gm_write_string [] (0xFF ∷ []); typed = omega arith }
    ∷ record { entry = gm_write_clob [] (0xFF ∷ []); typed = omega arith }
    ∷ record { entry = gm_write_blob [] (0 ∷ []); typed = omega arith }
    ∷ record { entry = gm_open_sexp []; typed = omega arith }
    ∷ record { entry = gm_write_bool [] 0xFF; typed = omega arith }
    ∷ record { entry = gm_close; typed = omega arith }
    ∷ record { entry = gm_write_blob [] two_hundred; typed = (omega arith, (ones_typed 200, omega arith)) }
    ∷ record { entry = gm_abandon; typed = omega arith }
    ∷ []

abbrev pub sevens : List ℕ
sevens = replicate state_size 7

-- what is lent for the answers
abbrev eights : List ℕ
eights = replicate 9 8

-- ---- what the demands say of them

-- what is computed of them
pub record Limits : Type 0 where
  pub run : LentRun host_limits sevens nines
  pub joined : lent_joined host_limits (lent_started sevens nines) ≡ bytes
  pub spelled : (lent_spelling host_limits sevens nines).items ≡ items
  pub answered : (lent_answers_after (λ w. eights) host_limits (lent_started sevens nines) no_answers).outside ≡ counted

pub limits : Limits
unfolding lent_joined lent_model_after lent_answers_after answered numbers_laid placed start_entered entered state_of containers_from stored_head
    stored_container stored_members laid sids_of sids_up_to sid_at least_first type_coded precision_numbered offset_lent fraction_lent machine_whole
limits = record { run = record { starts = refl; ends = refl }; joined = refl; spelled = refl; answered = refl }

entry_instance2 : stream_bytes (lent_written host_limits sevens nines) ≡ bytes
entry_instance2 = sym (entry_demand2 host_limits sevens nines limits.run) ∙ limits.joined

entry_instance3 : ReadsOnlyAs bytes items
entry_instance3 = subst₂ ReadsOnlyAs limits.joined limits.spelled (entry_demand3 host_limits sevens nines limits.run)

-- how many members these items have is what the closings answer: the list, the struct around it, the s-expression
entry_instance_counts : counts items ≡ counted
entry_instance_counts =
    sym (entry_members-answered (λ w. eights) (λ w. omega arith) host_limits sevens nines limits.run items (rw limits.joined entry_instance3.reading))
    ∙ limits.answered

-- ---- what a closing answers in the slice that is lent for it: E4 81 8A B1 10 is five bytes long, and has one member; 10 moves, and 81 8A do

abbrev held : Lent
held = lent_after (gm_write_bool [] 0) (lent_after (gm_open_list (10 ∷ [])) (lent_started sevens nines))

-- whole; a slice of eleven bytes holds the first two numbers, one of seven the first, one of three none; with none open the closing is refused
record Answers : Type 0 where
  whole : answered held.state held.buffer (replicate 13 9) ≡ 5 ∷ 0 ∷ 0 ∷ 0 ∷ 1 ∷ 0 ∷ 0 ∷ 0 ∷ 3 ∷ 0 ∷ 0 ∷ 0 ∷ 9 ∷ []
  two : answered held.state held.buffer (replicate 11 9) ≡ 5 ∷ 0 ∷ 0 ∷ 0 ∷ 1 ∷ 0 ∷ 0 ∷ 0 ∷ 9 ∷ 9 ∷ 9 ∷ []
  first : answered held.state held.buffer (replicate 7 9) ≡ 5 ∷ 0 ∷ 0 ∷ 0 ∷ 9 ∷ 9 ∷ 9 ∷ []
  short : answered held.state held.buffer (9 ∷ 9 ∷ 9 ∷ []) ≡ 9 ∷ 9 ∷ 9 ∷ []
  refused : let w = lent_started sevens nines in answered w.state w.buffer (9 ∷ 9 ∷ 9 ∷ 9 ∷ []) ≡ 9 ∷ 9 ∷ 9 ∷ 9 ∷ []

answers : Answers
unfolding answered numbers_laid placed entered start_entered state_of containers_from stored_head stored_container stored_members laid sids_of
    sids_up_to sid_at least_first machine_whole
answers = record { whole = refl; two = refl; first = refl; short = refl; refused = refl }
