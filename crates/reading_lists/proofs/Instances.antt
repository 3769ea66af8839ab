-- Reading back, of the machine's instance and of the same calls as a host makes them: what the walk shows of their joined bytes, written out.
-- Assumes nothing.
use Prim.Native.Nat.{ℕ, zero, suc}
use native.Mathlib.Omega.{arith}
use mathlib.Core.Path.{◌≡◌, refl, sym, ◌∙◌, ap, subst, subst₂}
use mathlib.Core.Bool.{true, false, false≢true}
use mathlib.Core.List.{List, [], ◌∷◌, ◌++◌}
use mathlib.Core.Option.{none, some}
use lib.ListN.{replicate}
use lib.IntN.{ℤ, pos, negsuc}
use Rattle.ion.specs.Value.{list, Scalar, Item, ion_list, ion_sexp, ion_struct, not_anumber, infinite, signed, no_fraction, fraction, null, bool, int}
use Rattle.ion.specs.Value.{float, decimal, timestamp, symbol, string, clob, blob}
use Rattle.ion.specs.Value.{scalar, value, tree_leaves, leaves}
use Rattle.ion.specs.Value as Ion
use Rattle.ion.specs.Calendar.{days_before_month, days_before_year, day_number, minute_number}
use Rattle.mark.specs.OutOfCalendar.{is_calendar_minute, out_of_calendar, none_marked}
use Rattle.ion.specs.Grammar.{Reads}
use Rattle.ion.proofs.Readings.{reader_whole}
use Rattle.ion.proofs.Exact.{exactly}
use Rattle.encoding.specs.Argument.{write_timestamp}
use Rattle.machine.specs.Call.{Call, sequence_type, write, opening, closing, AllTyped}
use Rattle.machine.specs.Machine.{accepted, refused, started}
use Rattle.machine.specs.Demands.{joined, spelled, Run}
use Rattle.machine.proofs.Whole.{machine_whole}
use Rattle.machine.proofs.Demands.{demand3}
use Rattle.machine.proofs.Examples.{verdicts}
use Rattle.machine.proofs.Instances.{most, nines, limits, run, typed, bytes, joined_bytes, items, spelled-items, instance3}
use Rattle.entry_lists.proofs.Instances.{host_limits, sevens}
use Rattle.entry_lists.proofs.Instances.{limits as host}
use Rattle.reading.specs.Items.{most_open}
use Rattle.reading.specs.Walk.{Event, marker, leaf, begins, ends, tree_events, stream_events, tree_depth, stream_depth, shows, walk}
use Rattle.reading.proofs.Examples.{walk_whole}
use Rattle.reading_lists.proofs.ReadBack.{read_back, host_read_back}
use Rattle.reading_lists.proofs.Unmarked.{read_unmarked, host_read_unmarked}

abbrev pub events : List Event
events =
    marker
    ∷ leaf none [] (null ion_list)
    ∷ begins none (most ∷ []) ion_struct
    ∷ leaf (some most) (10 ∷ []) (int (negsuc 0x7FFFFFFFFFFFFFFF))
    ∷ begins (some 5) [] ion_list
    ∷ leaf none [] (int (negsuc 254))
    ∷ leaf none [] (float not_anumber)
    ∷ leaf none [] (float (infinite false))
    ∷ leaf none [] (float not_anumber)
    ∷ leaf none [] (decimal (signed true 0x80) (negsuc 0x7FFFFFFFFFFFFFFF))
    ∷ ends
    ∷ leaf (some 6) [] (timestamp (some (pos 1439)) (1 ∷ 1 ∷ 1 ∷ 0 ∷ 1 ∷ 0 ∷ []) (fraction 18 999999999999999999))
    ∷ leaf (some 7) [] (symbol most)
    ∷ ends
    ∷ marker
    ∷ leaf none [] (string (0xC3 ∷ 0xA9 ∷ []))
    ∷ leaf none [] (clob (0xFF ∷ []))
    ∷ leaf none [] (blob (0 ∷ []))
    ∷ begins none [] ion_sexp
    ∷ leaf none [] (bool true)
    ∷ ends
    ∷ []

events_are : stream_events items ≡ events
unfolding stream_events tree_events
events_are = refl

-- the walk over these bytes shows these items
abbrev Shown : List ℕ → List (Item Scalar) → Type 0
Shown b is = walk b 0 ≡ shows (stream_events is)

read_back_shown : walk bytes 0 ≡ shows events
read_back_shown = subst₂ Shown joined_bytes spelled-items (read_back limits nines run typed) ∙ ap shows events_are

host_read_back_shown : walk bytes 0 ≡ shows events
host_read_back_shown = subst₂ Shown host.joined host.spelled (host_read_back host_limits sevens nines host.run) ∙ ap shows events_are

-- the same by computing, without the theorem
computed : walk bytes 0 ≡ shows events
unfolding walk_whole
computed = refl

-- ---- 32 containers open at once: of 33 openings and 33 closings one each is refused

abbrev deep : List Call
deep = replicate 33 (opening [] (sequence_type list)) ++ replicate 33 closing

abbrev deep_events : List Event
deep_events = marker ∷ (replicate 32 (begins none [] ion_list) ++ replicate 32 ends)

-- what is computed of them
record Deep : Type 0 where
  depth : stream_depth (spelled deep nines) ≡ most_open
  run : Run deep nines
  events : stream_events (spelled deep nines) ≡ deep_events
  shown : walk (joined deep (started nines)) 0 ≡ shows deep_events

deepest : Deep
unfolding tree_depth stream_depth tree_events stream_events walk_whole machine_whole
deepest = record { depth = refl; run = record { starts = refl; ends = refl }; events = refl; shown = refl }

all_typed : (n m : ℕ) → AllTyped (replicate n (opening [] (sequence_type list)) ++ replicate m closing)
all_typed zero zero = tt
all_typed zero (suc m) = (tt, all_typed zero m)
all_typed (suc n) m = (tt, all_typed n m)

deep_read_back_shown : walk (joined deep (started nines)) 0 ≡ shows deep_events
deep_read_back_shown = read_back deep nines deepest.run (all_typed 33 33) ∙ ap shows deepest.events

-- ---- no timestamp is marked

-- of the calls above and of a host's, by the theorems
limits_unmarked : none_marked (leaves items) ≡ true
limits_unmarked = read_unmarked limits nines run typed items (rw joined_bytes instance3.reading)

host_limits_unmarked : none_marked (leaves items) ≡ true
host_limits_unmarked = host_read_unmarked host_limits sevens nines host.run items (rw host.joined instance3.reading)

abbrev last_minute : List ℕ
last_minute = 9999 ∷ 12 ∷ 31 ∷ 23 ∷ 59 ∷ []

-- the last local minute of the calendar at the offsets 0 and -1: the second is refused, since its UTC minute is the first of the year 10000
abbrev last_minutes : List Call
last_minutes = write [] (write_timestamp (some (pos 0)) last_minute no_fraction) ∷ write [] (write_timestamp (some (negsuc 0)) last_minute no_fraction) ∷ []

-- a timestamp behind a marker
abbrev one_timestamp : ℤ → List ℕ → List (Item Scalar)
one_timestamp z fs = Ion.marker ∷ value (scalar [] (timestamp (some z) fs no_fraction)) ∷ []

abbrev last_items : List (Item Scalar)
last_items = one_timestamp (pos 0) last_minute

-- what is computed of them
record LastMinutes : Type 0 where
  answers : verdicts last_minutes (started nines) ≡ accepted ∷ refused 7 ∷ []
  run : Run last_minutes nines
  spelled : spelled last_minutes nines ≡ last_items

lasts : LastMinutes
unfolding verdicts machine_whole
lasts = record { answers = refl; run = record { starts = refl; ends = refl }; spelled = refl }

last_unmarked : none_marked (leaves last_items) ≡ true
last_unmarked =
    read_unmarked last_minutes nines lasts.run (omega arith) last_items
    (subst (Reads (joined last_minutes (started nines))) lasts.spelled (demand3 last_minutes nines lasts.run (omega arith)).reading)

-- the refused one has a reading, and its mark is seen: no run leaves its bytes
abbrev marked_bytes : List ℕ
marked_bytes = 0xE0 ∷ 0x01 ∷ 0x00 ∷ 0xEA ∷ 0x67 ∷ 0xC1 ∷ 0x4E ∷ 0x90 ∷ 0x81 ∷ 0x81 ∷ 0x80 ∷ 0x80 ∷ []

abbrev marked_items : List (Item Scalar)
marked_items = one_timestamp (negsuc 0) (10000 ∷ 1 ∷ 1 ∷ 0 ∷ 0 ∷ [])

marked_read : Reads marked_bytes marked_items
unfolding reader_whole
marked_read = (exactly marked_bytes marked_items).1 refl

-- by its UTC year; one minute west of the first UTC minute of the year 1 by its local year
record Marked : Type 0 where
  by_utc : none_marked (leaves marked_items) ≡ false
  by_local : none_marked (leaves (one_timestamp (negsuc 0) (1 ∷ 1 ∷ 1 ∷ 0 ∷ 0 ∷ []))) ≡ false

marked_seen : Marked
unfolding leaves tree_leaves out_of_calendar is_calendar_minute minute_number day_number days_before_year days_before_month
marked_seen = record { by_utc = refl; by_local = refl }

marked_not_written : (cs : List Call) (b : List ℕ) → Run cs b → AllTyped cs → joined cs (started b) ≡ marked_bytes → ⊥
marked_not_written cs b r t e = false≢true (sym marked_seen.by_utc ∙ read_unmarked cs b r t marked_items (rw e marked_read))
