-- The writer as a machine over a state and a lent buffer: document 01's "Modules" (container_writers, writer) and "Checks by place".
-- What each call answers, and what it leaves in the state and in every byte of the buffer.
-- Assumes nothing.
use Rattle.std.specs.Prelude.{ℕ, zero, suc, ◌+◌, ◌-◌, max, Bool, true, false, not, ◌&&◌, ◌||◌, List, [], ◌∷◌, ◌++◌, ltb, leb, eqb, length, take, drop, replicate, get_or, set}
use Rattle.std.proofs.Math.Seq.{slice}
use Rattle.machine.specs.declared.State.{State}
use Rattle.machine.specs.declared.Container.{Container}
use Rattle.ion.specs.Value.{list_code, sexp_code, struct_code, annotation_code, list, sexp}
use Rattle.encoding.specs.Fields.{var_uint_bytes}
use Rattle.encoding.specs.Headers.{type_byte, header_bytes, framed_bytes, annotation_bytes, annotated_bytes, marker_bytes}
use Rattle.encoding.specs.Argument.{argument_bytes, argument_checks}
use Rattle.machine.specs.Call.{ContainerType, sequence_type, struct_type}
use Rattle.machine.specs.Call.{Call, write, name, opening, closing, abandonment, version_marker, taking, emptying}

-- a state, and the buffer that is lent with it
pub record Config : Type 0 where
  pub state : State
  pub buffer : List ℕ

abbrev pub config : State → List ℕ → Config
config s b = record { state = s; buffer = b }

-- how many containers may be open, and how long a buffer may be
abbrev pub most_open : ℕ
most_open = 32

abbrev pub longest_buffer : ℕ
longest_buffer = 16777215

-- ---- the open containers

abbrev pub no_container : Container
no_container = record { start = 0; header = 0; code = 0; members = 0 }

-- the first n records of the array, the last of them, which is the innermost, first
abbrev pub innermost_first : List Container → ℕ → List Container
innermost_first l zero = []
innermost_first l (suc n) = get_or l n no_container ∷ innermost_first l n

abbrev pub open_containers : State → List Container
open_containers s = innermost_first s.containers s.depth

abbrev pub is_open : List Container → Bool
is_open [] = false
is_open (c ∷ cs) = true

-- the innermost is a struct
abbrev pub in_struct : List Container → Bool
in_struct [] = false
in_struct (c ∷ cs) = eqb c.code (type_byte struct_code)

abbrev pub outer : List Container → List Container
outer [] = []
outer (c ∷ cs) = cs

-- one member more (document 02, Item 3): a scalar, or an inner container that is closed; in a struct with its name
abbrev pub with_member : Container → Container
with_member c = record { start = c.start; header = c.header; code = c.code; members = c.members + 1 }

-- the innermost of the first n records has one member more; with none open there is none to count it
abbrev pub counted : List Container → ℕ → List Container
counted l zero = l
counted l (suc n) = set l n (with_member (get_or l n no_container))

abbrev pub innermost_members : List Container → ℕ
innermost_members [] = 0
innermost_members (c ∷ cs) = c.members

-- ---- the bytes that an opening reserves, and that a closing puts in their place

abbrev pub container_code : ContainerType → ℕ
container_code (sequence_type list) = type_byte list_code
container_code (sequence_type sexp) = type_byte sexp_code
container_code struct_type = type_byte struct_code

-- two zero bytes; with annotations two zero bytes, the annotations, and two more
abbrev pub reserve : List ℕ → List ℕ
reserve [] = 0 ∷ 0 ∷ []
reserve (a ∷ an) = 0 ∷ 0 ∷ (annotation_bytes (a ∷ an) ++ (0 ∷ 0 ∷ []))

-- where the header's reserve lies in a container that starts at p
abbrev pub header_place : ℕ → List ℕ → ℕ
header_place p [] = p
header_place p (a ∷ an) = p + 2 + length (annotation_bytes (a ∷ an))

-- The body lies behind the header's reserve, the annotations between the two reserves. The wrapper's length counts the final inner header.
unfoldable pub closed_bytes : ℕ → ℕ → ℕ → List ℕ → List ℕ
closed_bytes start header code live =
    elim (eqb header start) [
      | true ↦ framed_bytes code (drop (header + 2) live)
      | false ↦ framed_bytes (type_byte annotation_code) (slice (start + 2) header live ++ framed_bytes code (drop (header + 2) live))
    ]

-- with none open there is nothing to close, and the call is refused
abbrev pub closed_innermost : List Container → List ℕ → List ℕ
closed_innermost [] live = []
closed_innermost (c ∷ cs) live = closed_bytes c.start c.header c.code live

-- ---- how many bytes a closing moves (document 02, Item 10)

-- the length n of a part, if it lies elsewhere than it lay
abbrev pub length_if_moved : ℕ → ℕ → ℕ → ℕ
length_if_moved from to n = elim (eqb from to) [ true ↦ 0 | false ↦ n ]

-- The body's length if the body moves, plus the length of the annotation part, sum and sids, if that moves. The body lay behind the header's reserve,
-- and lies behind the header; the annotation part lay behind the wrapper's reserve, and lies behind the wrapper's header. Headers do not count.
unfoldable pub moved_bytes : ℕ → ℕ → ℕ → List ℕ → ℕ
moved_bytes start header code live =
    let body = drop (header + 2) live in
    let inner = header_bytes code (length body) in
    let noted = slice (start + 2) header live in
    let wrapper = header_bytes (type_byte annotation_code) (length (noted ++ (inner ++ body))) in
    elim (eqb header start) [
      | true ↦ length_if_moved (header + 2) (start + length inner) (length body)
      | false ↦
          length_if_moved (header + 2) (start + length (wrapper ++ (noted ++ inner))) (length body)
          + length_if_moved (start + 2) (start + length wrapper) (length noted)
    ]

abbrev pub innermost_moved : List Container → List ℕ → ℕ
innermost_moved [] live = 0
innermost_moved (c ∷ cs) live = moved_bytes c.start c.header c.code live

abbrev pub innermost_start : List Container → ℕ → ℕ
innermost_start [] used = used
innermost_start (c ∷ cs) used = c.start

-- ---- what an accepted call changes

-- The used bytes
abbrev pub live : Config → List ℕ
live w = take w.state.used w.buffer

-- The used bytes of b from p on, up to `used`, make way for `out`: what is freed becomes zero, and no other byte alters.
unfoldable pub splice : ℕ → ℕ → List ℕ → List ℕ → List ℕ
splice used p out b = (take p b ++ out) ++ (replicate (used - (p + length out)) 0 ++ drop (max used (p + length out)) b)

-- What an accepted call that writes, closes or abandons changes: `out` takes the place of the used bytes from `place` on;
-- how many containers are open then, whether a name waits, and the records.
pub record Change : Type 0 where
  pub place : ℕ
  pub out : List ℕ
  pub depth : ℕ
  pub waiting : Bool
  pub containers : List Container

abbrev pub put : Config → Change → Config
put w x = record {
  state = record { used = x.place + length x.out; depth = x.depth; waiting = x.waiting; containers = x.containers };
  buffer = splice w.state.used x.place x.out w.buffer;
}

-- `out` at the end of the used bytes, with the records cs
abbrev pub at_end : State → List ℕ → Bool → List Container → Change
at_end s out waits cs = record { place = s.used; out = out; depth = s.depth; waiting = waits; containers = cs }

-- an opening sets the record at the depth; it is no member of the outer container before it is closed
abbrev pub opening_of : State → List ℕ → ContainerType → Change
opening_of s an k = record {
  place = s.used;
  out = reserve an;
  depth = s.depth + 1;
  waiting = false;
  containers = set s.containers s.depth (record { start = s.used; header = header_place s.used an; code = container_code k; members = 0 });
}

-- `out` in the place of the innermost container, with the records cs: a closing and an abandonment lower the depth
abbrev pub in_place : State → List ℕ → Bool → List Container → Change
in_place s out waits cs = record {
  place = innermost_start (open_containers s) s.used;
  out = out;
  depth = s.depth - 1;
  waiting = waits;
  containers = cs;
}

-- an emptying sets the used length to 0, and alters no byte
abbrev pub emptied : Config → Config
emptied w = record {
  state = record { used = 0; depth = w.state.depth; waiting = w.state.waiting; containers = w.state.containers };
  buffer = w.buffer;
}

-- ---- "Checks by place"

-- each type code B0, C0 or D0; header equals start or lies 4 or more beyond it; header plus 2 at most `limit`;
-- no more members than bytes from there to `limit` (document 02, Item 3)
unfoldable pub container_fits : ℕ → Container → Bool
container_fits limit c =
    (eqb c.code (type_byte list_code) || (eqb c.code (type_byte sexp_code) || eqb c.code (type_byte struct_code)))
    && ((eqb c.header c.start || leb (c.start + 4) c.header)
    && (leb (c.header + 2) limit && leb c.members (limit - (c.header + 2))))

-- the limit is the next start, or used for the innermost
unfoldable pub containers_fit : ℕ → List Container → Bool
containers_fit limit [] = true
containers_fit limit (c ∷ cs) = container_fits limit c && containers_fit c.start cs

-- "State fits", `room` being the buffer's length: used at most that; at most 32 containers, and they fit; a name waits only in an innermost struct
unfoldable pub fits : State → ℕ → Bool
fits s room =
    leb s.used room
    && (leb s.depth most_open && (containers_fit s.used (open_containers s) && (not s.waiting || in_struct (open_containers s))))

-- a value in a struct with no name waiting
abbrev pub lacks_name : State → Bool
lacks_name s = in_struct (open_containers s) && not s.waiting

-- The lines 1, 2 and 3, `misplaced` being what line 3 says of the call: each test that refuses, with its number.
abbrev pub place_lines : State → ℕ → Bool → List (Bool × ℕ)
place_lines s room misplaced = (ltb longest_buffer room, 1) ∷ (not (fits s room), 2) ∷ (misplaced, 3) ∷ []

-- All lines of a call: `own` are those of 4 to 8 that it has, `used` is its used length on return.
abbrev pub lines : Config → Bool → List (Bool × ℕ) → ℕ → List (Bool × ℕ)
lines w misplaced own used = place_lines w.state (length w.buffer) misplaced ++ (own ++ ((ltb (length w.buffer) used, 10) ∷ []))

-- ---- a taking hands back a part of the buffer: the slice from 0 to the used length, or an empty part

abbrev pub used_if : Bool → ℕ → ℕ
used_if true used = used
used_if false used = 0

-- nothing is finished if a container is open, a field name waits, or the state or buffer would be refused by 1 or 2
unfoldable pub finished_length : State → ℕ → ℕ
finished_length s room = used_if (leb room longest_buffer && (fits s room && (not (is_open (open_containers s)) && not s.waiting))) s.used

abbrev pub taken : Config → List ℕ
taken w = take (finished_length w.state (length w.buffer)) w.buffer

-- ---- the calls

-- What a closing answers of the container that it closes: the bytes that it takes, headers and annotations counted, how many members it has,
-- and how many bytes moved.
pub record Figures : Type 0 where
  pub size : ℕ
  pub members : ℕ
  pub moved : ℕ

-- what stands in their place where a closing is refused, and in any other call
abbrev pub no_figures : Figures
no_figures = record { size = 0; members = 0; moved = 0 }

-- What is said of a call: the lines of the table that it has, in their order; and where none of them fails, what it leaves, which finished bytes it lets go,
-- and what it answers of a container.
pub record Rule : Type 0 where
  pub checks : List (Bool × ℕ)
  pub effect : Config
  pub flushes : List ℕ
  pub figures : Figures

-- a call that puts bytes
abbrev pub puts : Config → Bool → List (Bool × ℕ) → Change → Figures → Rule
puts w misplaced own x f = record { checks = lines w misplaced own (put w x).state.used; effect = put w x; flushes = []; figures = f }

-- After an abandonment a name waits again exactly if the container that is then innermost is a struct.
-- A taking has no number: it hands back a part, which may be empty.
abbrev pub rule_of : Call → Config → Rule
rule_of (write an a) w =
    let cs = counted w.state.containers w.state.depth in
    puts w (lacks_name w.state) (argument_checks a) (at_end w.state (annotated_bytes an (argument_bytes a)) false cs) no_figures
rule_of (name n) w =
    puts w (not (in_struct (open_containers w.state)) || w.state.waiting) [] (at_end w.state (var_uint_bytes n) true w.state.containers) no_figures
rule_of (opening an k) w = puts w (lacks_name w.state) ((leb most_open w.state.depth, 4) ∷ []) (opening_of w.state an k) no_figures
rule_of closing w =
    let os = open_containers w.state in
    let out = closed_innermost os (live w) in
    let cs = counted w.state.containers (w.state.depth - 1) in
    puts w (not (is_open os) || w.state.waiting) [] (in_place w.state out false cs)
    (record { size = length out; members = innermost_members os; moved = innermost_moved os (live w) })
rule_of abandonment w =
    puts w (not (is_open (open_containers w.state))) [] (in_place w.state [] (in_struct (outer (open_containers w.state))) w.state.containers) no_figures
rule_of version_marker w = puts w (is_open (open_containers w.state)) [] (at_end w.state marker_bytes w.state.waiting w.state.containers) no_figures
rule_of taking w = record { checks = []; effect = w; flushes = []; figures = no_figures }
rule_of emptying w = record { checks = lines w (is_open (open_containers w.state)) [] 0; effect = emptied w; flushes = taken w; figures = no_figures }

abbrev pub checks : Call → Config → List (Bool × ℕ)
checks c w = (rule_of c w).checks

abbrev pub effect : Call → Config → Config
effect c w = (rule_of c w).effect

pub data Verdict : Type 0 where
  accepted : Verdict
  refused : ℕ → Verdict

-- the first failing line answers
abbrev pub first_failing : List (Bool × ℕ) → Verdict
first_failing [] = accepted
first_failing (x ∷ xs) = elim x.0 [ true ↦ refused x.1 | false ↦ first_failing xs ]

-- the first of the lines 1 to 3 that fails
unfoldable pub place_verdict : State → ℕ → Bool → Verdict
place_verdict s room misplaced = first_failing (place_lines s room misplaced)

unfoldable pub verdict : Call → Config → Verdict
verdict c w = first_failing (checks c w)

abbrev pub is_accepted : Verdict → Bool
is_accepted accepted = true
is_accepted (refused n) = false

abbrev pub if_accepted : Verdict → Config → Config → Config
if_accepted accepted x y = x
if_accepted (refused n) x y = y

-- A call: a refusal returns the state given, and an unaltered buffer.
abbrev pub after : Call → Config → Config
after c w = if_accepted (verdict c w) (effect c w) w

abbrev pub figures_if : Verdict → Figures → Figures
figures_if accepted f = f
figures_if (refused n) f = no_figures

-- What a call answers, and what it leaves.
pub record Outcome : Type 0 where
  pub verdict : Verdict
  pub config : Config
  pub figures : Figures

unfoldable pub run : Call → Config → Outcome
run c w = record { verdict = verdict c w; config = after c w; figures = figures_if (verdict c w) (rule_of c w).figures }

-- ---- a start: it knows the lines 1 and 10 only

-- no container, no waiting name
abbrev pub empty_state : ℕ → State
empty_state used = record { used = used; depth = 0; waiting = false; containers = replicate most_open no_container }

abbrev pub start_lines : List ℕ → List (Bool × ℕ)
start_lines b = (ltb longest_buffer (length b), 1) ∷ (ltb (length b) 4, 10) ∷ []

unfoldable pub start_verdict : List ℕ → Verdict
start_verdict b = first_failing (start_lines b)

-- a refused start answers the empty state with used length 0, and alters nothing
abbrev pub started : List ℕ → Config
started b = if_accepted (start_verdict b) (record { state = empty_state 4; buffer = splice 0 0 marker_bytes b }) (record { state = empty_state 0; buffer = b })
