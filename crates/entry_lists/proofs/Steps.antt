-- A call over lent bytes does what the machine does over the state that they spell.
-- Assumes nothing.
use Prim.Native.Nat.{ℕ, ◌+◌, ◌-◌, ◌^◌, ◌<◌, ◌≤◌}
use native.Mathlib.Omega.{arith}
use mathlib.Core.Path.{◌≡◌, refl, ◌∙◌, ap}
use mathlib.Core.Bool.{Bool, true, false}
use mathlib.Core.List.{List, [], ◌∷◌, ◌++◌}
use lib.Dec.{eqb, ltb, leb}
use lib.ListN.{length, get_or, set, length-append}
use lib.Seq.{get_or-set_same}
use borrow.Author.Tests.{ne_eqb, ltb-false, leb-false, not-false}
use Rattle.ion.proofs.Tests.{by_cases}
use Rattle.encoding.specs.Headers.{annotation_bytes, annotated_bytes, marker_bytes}
use Rattle.encoding.specs.Fields.{var_uint_bytes}
use Rattle.encoding.specs.Argument.{Argument, write_null, write_bool, write_i64, write_int, write_f32, write_f64, write_decimal, write_timestamp, write_symbol}
use Rattle.encoding.specs.Argument.{write_string, write_clob, write_blob, argument_bytes, argument_checks}
use Rattle.encoding.proofs.Writable.{NoneHolds}
use Rattle.machine.specs.declared.State.{State}
use Rattle.machine.specs.declared.Container.{Container}
use Rattle.machine.specs.Call.{Call, ContainerType, write, name, opening, closing, abandonment, version_marker, taking, emptying}
use Rattle.machine.specs.Machine.{most_open, longest_buffer, Config, no_container, open_containers, counted, reserve, header_place, container_code}
use Rattle.machine.specs.Machine.{closed_innermost, live, splice, effect, fits, lines, checks, Verdict, accepted, refused, first_failing, verdict}
use Rattle.machine.specs.Machine.{is_accepted, if_accepted, after, run}
use Rattle.machine.proofs.Splice.{length-splice}
use Rattle.machine.proofs.Steps.{none_failing}
use Rattle.steps.proofs.Members.{members_few}
use Rattle.state_bytes.specs.StateBytes.{state_size, state_of, stored_container, stored_count, number_of, stored_state, stored_by, stored_if, entered}
use Rattle.state_bytes.proofs.Laws.{state_is, length_containers}
use Rattle.entry_lists.specs.Demands.{Lent, config_of}
use Rattle.entry_lists.proofs.Bytes.{length_head, state_head, length_container, state_container, length_count, state_count}

-- What every call after an accepted start is lent.
pub record Sound (w : Lent) : Type 0 where
  pub size : length w.state ≡ state_size
  pub short : length w.buffer ≤ longest_buffer
  pub fit : (state_of w.state).used ≤ length w.buffer
  pub depth : (state_of w.state).depth ≤ most_open

-- what is lent spells the machine's config
pub record Spells (w : Lent) (m : Config) : Type 0 where
  pub sound : Sound w
  pub config : config_of w ≡ m

-- ---- no line has the number 0

abbrev Numbered : List (Bool × ℕ) → Type 0
Numbered [] = Unit {0}
Numbered (x ∷ xs) = (0 < x.1) × Numbered xs

numbered_append : (l r : List (Bool × ℕ)) → Numbered l → Numbered r → Numbered (l ++ r)
numbered_append [] r h k = k
numbered_append (x ∷ l) r h k = (h.0, numbered_append l r h.1 k)

numbered_argument : (a : Argument) → Numbered (argument_checks a)
numbered_argument (write_null t) = tt
numbered_argument (write_bool x) = tt
numbered_argument (write_i64 z) = tt
numbered_argument (write_int s m) = omega arith
numbered_argument (write_f32 b) = tt
numbered_argument (write_f64 b) = tt
numbered_argument (write_decimal s m e) = omega arith
numbered_argument (write_timestamp o fs x) = omega arith
numbered_argument (write_symbol n) = tt
numbered_argument (write_string b) = omega arith
numbered_argument (write_clob b) = tt
numbered_argument (write_blob b) = tt

numbered_checks : (c : Call) (w : Config) → Numbered (checks c w)
numbered_checks (write an a) w = (omega arith, (omega arith, (omega arith, numbered_append (argument_checks a) _ (numbered_argument a) (omega arith))))
numbered_checks (name n) w = omega arith
numbered_checks (opening an k) w = omega arith
numbered_checks closing w = omega arith
numbered_checks abandonment w = omega arith
numbered_checks version_marker w = omega arith
numbered_checks taking w = tt
numbered_checks emptying w = omega arith

pub number-accepts : (l : List (Bool × ℕ)) → Numbered l → eqb (number_of (first_failing l)) 0 ≡ is_accepted (first_failing l)
number-accepts [] h = refl
number-accepts (x ∷ xs) h =
    by_cases x.0
    (λ p. rw p (ne_eqb x.1 0 (not_zero x.1 h.0)))
    (λ p. rw p (number-accepts xs h.1))
  where
    not_zero : (n : ℕ) → 0 < n → n ≡ 0 → ⊥
    not_zero n k e = omega arith

-- the answer
pub answer_is : (c : Call) (w : Lent) → eqb (entered c w.state w.buffer).number 0 ≡ is_accepted (verdict c (config_of w))
unfolding entered run verdict
answer_is c w = number-accepts (checks c (config_of w)) (numbered_checks c (config_of w))

-- ---- what an accepted call leaves

-- by a call in the place of its entry point
abbrev pub lent_by : Call → Lent → Lent
lent_by c w = record { state = (entered c w.state w.buffer).state; buffer = (entered c w.state w.buffer).buffer }

holds_right : (l r : List (Bool × ℕ)) → NoneHolds (l ++ r) → NoneHolds r
holds_right [] r h = h
holds_right (x ∷ l) r h = holds_right l r h.1

-- the line 2
pub fits_line : (w : Config) (misplaced : Bool) (own : List (Bool × ℕ)) (used : ℕ) → NoneHolds (lines w misplaced own used)
    → fits w.state (length w.buffer) ≡ true
fits_line w misplaced own used h = not-false (fits w.state (length w.buffer)) h.1.0

-- the line 10
room-line : (w : Config) (misplaced : Bool) (own : List (Bool × ℕ)) (used : ℕ) → NoneHolds (lines w misplaced own used) → used ≤ length w.buffer
room-line w misplaced own used h = ltb-false (length w.buffer) used (holds_right own ((ltb (length w.buffer) used, 10) ∷ []) h.1.1.1).0

-- Of the state y, the buffer l and the bytes t: they are in their bounds, and the bytes spell y.
record Left (w : Lent) (y : State) (l t : List ℕ) : Type 0 where
  size : length t ≡ state_size
  spelled : state_of t ≡ y
  room : y.used ≤ length w.buffer
  depth : y.depth ≤ most_open
  same : length l ≡ length w.buffer

abbrev LeftBy : Call → Lent → Type 0
LeftBy c w = Left w (effect c (config_of w)).state (effect c (config_of w)).buffer (stored_by c (effect c (config_of w)).state w.state)

-- a header lies within what is reserved
header_within : (p : ℕ) (an : List ℕ) → header_place p an ≤ p + length (reserve an)
header_within p [] = omega arith
header_within p (a ∷ an) = rw (length-append (annotation_bytes (a ∷ an)) (0 ∷ 0 ∷ [])) (omega arith)

module _ (w : Lent) (s : Sound w) where
  -- a state y with the containers that the bytes t hold, its head stored
  head_left : (y : State) (l t : List ℕ) → length t ≡ state_size → (state_of t).containers ≡ y.containers → y.used ≤ length w.buffer
      → y.depth ≤ most_open → length l ≡ length w.buffer
      → Left w y l (stored_state y t)
  head_left y l t h e room d k = record {
    size = length_head t y.used y.depth y.waiting h;
    spelled = state_head t y.used y.depth y.waiting h (omega (arith, s.short)) (omega arith) ∙ rw e;
    room = room;
    depth = d;
    same = k;
  }

  -- a put by a call that opens nothing: t are the bytes with the containers cs
  put_left : (p : ℕ) (out : List ℕ) (d : ℕ) (wt : Bool) (cs : List Container) (t : List ℕ) → length t ≡ state_size → (state_of t).containers ≡ cs
      → p + length out ≤ length w.buffer → d ≤ most_open
      → let y : State = record { used = p + length out; depth = d; waiting = wt; containers = cs } in
      Left w y (splice (state_of w.state).used p out w.buffer) (stored_state y t)
  put_left p out d wt cs t h e room k = head_left _ _ t h e room k (length-splice (state_of w.state).used p out w.buffer (omega arith) s.fit room)

  -- it counts in the innermost of the first d containers
  counted_left : (p : ℕ) (out : List ℕ) (d : ℕ) → fits (state_of w.state) (length w.buffer) ≡ true
      → p + length out ≤ length w.buffer → d ≤ (state_of w.state).depth
      → let cs = counted (state_of w.state).containers d in let y : State = record { used = p + length out; depth = d; waiting = false; containers = cs } in
      Left w y (splice (state_of w.state).used p out w.buffer) (stored_state y (stored_count d cs w.state))
  counted_left p out d f room k =
      let m : d ≤ most_open = omega (arith, s.depth) in
      put_left p out d false _ _
      (length_count w.state s.size _ d m)
      (state_count w.state s.size d m (λ j h. omega (arith, members_few (state_of w.state) (length w.buffer) f j (omega arith), s.short)))
      room
      m

  -- or counts nowhere
  kept_left : (p : ℕ) (out : List ℕ) (d : ℕ) (wt : Bool) → p + length out ≤ length w.buffer → d ≤ most_open
      → let y : State = record { used = p + length out; depth = d; waiting = wt; containers = (state_of w.state).containers } in
      Left w y (splice (state_of w.state).used p out w.buffer) (stored_state y w.state)
  kept_left p out d wt room k = put_left p out d wt _ w.state s.size refl room k

  opening_left : (an : List ℕ) (k : ContainerType) → NoneHolds (checks (opening an k) (config_of w)) → LeftBy (opening an k) w
  opening_left an k h =
      let d : (state_of w.state).depth < most_open = leb-false most_open (state_of w.state).depth h.1.1.1.0 in
      let room : (state_of w.state).used + length (reserve an) ≤ length w.buffer =
      room-line (config_of w) _ ((leb most_open (state_of w.state).depth, 4) ∷ []) _ h in
      let c : Container =
      record {
        start = (state_of w.state).used;
        header = header_place (state_of w.state).used an;
        code = container_code k;
        members = 0;
      } in
      let i : (state_of w.state).depth + 1 - 1 ≡ (state_of w.state).depth = omega arith in
      let n : length (state_of w.state).containers ≡ most_open = rw (state_is w.state s.size) (length_containers w.state 0 most_open) in
      let g : get_or (set (state_of w.state).containers (state_of w.state).depth c) (state_of w.state).depth no_container ≡ c =
      get_or-set_same (state_of w.state).containers (state_of w.state).depth c no_container (omega arith) in
      let f : c.header < 2 ^ 32 = omega (arith, header_within (state_of w.state).used an, room, s.short) in
      rw (i, g)
      (head_left _ _ (stored_container (state_of w.state).depth c w.state)
      (length_container w.state (state_of w.state).depth c s.size d)
      (state_container w.state (state_of w.state).depth c s.size d (omega (arith, s.fit, s.short)) f (omega arith))
      room
      (omega arith)
      (length-splice (state_of w.state).used (state_of w.state).used (reserve an) w.buffer s.fit s.fit room))

  left : (c : Call) → NoneHolds (checks c (config_of w)) → LeftBy c w
  left (write an a) h =
      counted_left _ (annotated_bytes an (argument_bytes a)) _ (fits_line (config_of w) _ (argument_checks a) _ h)
      (room-line (config_of w) _ (argument_checks a) _ h) (omega arith)
  left (name n) h = kept_left _ (var_uint_bytes n) _ true (room-line (config_of w) _ [] _ h) s.depth
  left (opening an k) h = opening_left an k h
  left closing h =
      counted_left _ (closed_innermost (open_containers (state_of w.state)) (live (config_of w))) _ (fits_line (config_of w) _ [] _ h)
      (room-line (config_of w) _ [] _ h) (omega arith)
  left abandonment h = kept_left _ [] _ _ (room-line (config_of w) _ [] _ h) (omega (arith, s.depth))
  left version_marker h = kept_left _ marker_bytes _ _ (room-line (config_of w) _ [] _ h) s.depth
  left taking h = record { size = s.size; spelled = refl; room = s.fit; depth = s.depth; same = refl }
  left emptying h = head_left _ _ w.state s.size refl (omega arith) s.depth refl

  -- ---- one call

  -- what is left, as lent bytes
  abbrev left_as : Verdict → Call → Lent
  left_as v c = record {
    state = stored_if v c (if_accepted v (effect c (config_of w)) (config_of w)).state w.state;
    buffer = (if_accepted v (effect c (config_of w)) (config_of w)).buffer;
  }

  after_is : (c : Call) → lent_by c w ≡ left_as (verdict c (config_of w)) c
  unfolding entered run
  after_is c = refl

  by_verdict : (c : Call) (v : Verdict) → verdict c (config_of w) ≡ v → Spells (left_as v c) (if_accepted v (effect c (config_of w)) (config_of w))
  by_verdict c accepted e =
      let k = left c (none_failing (checks c (config_of w)) (unfold verdict in e)) in
      record {
        sound =
            record {
              size = k.size;
              short = omega (arith, k.same, s.short);
              fit = rw (k.spelled, k.same) k.room;
              depth = rw k.spelled k.depth;
            };
        config = ap (λ (x : State). record { state = x; buffer = (effect c (config_of w)).buffer }) k.spelled;
      }
  by_verdict c (refused n) e = record { sound = s; config = refl }

  -- what a call leaves
  pub call_spells : (c : Call) → Spells (lent_by c w) (after c (config_of w))
  call_spells c = rw (after_is c) (by_verdict c (verdict c (config_of w)) refl)
