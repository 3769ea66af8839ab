-- A writer's state as lent bytes. The head: used in four bytes; how many containers are open; whether a name waits, zero for no;
-- two bytes that mean nothing. Then a record of each container: start and header in four bytes each, the type code, and how many members it has
-- in four bytes. All numbers have their least significant byte first.
-- Assumes nothing.
use Rattle.std.specs.Prelude.{ℕ, zero, suc, ◌+◌, ◌-◌, ◌*◌, ◌/◌, ◌%◌, Bool, true, false, not, ◌&&◌, List, [], ◌∷◌, ◌++◌, ltb, eqb, length, get_or, replicate}
use Rattle.buffer.specs.Laid.{laid, placed}
use Rattle.machine.specs.declared.State.{State}
use Rattle.machine.specs.declared.Container.{Container}
use Rattle.machine.specs.Call.{Call, write, name, opening, closing, abandonment, version_marker, taking, emptying}
use Rattle.machine.specs.Machine.{config, most_open, no_container, Figures, Verdict, accepted, refused, Outcome, run}

abbrev pub head_size : ℕ
head_size = 8

abbrev pub record_size : ℕ
record_size = 13

abbrev pub state_size : ℕ
state_size = head_size + record_size * most_open

-- ---- the state that bytes spell

abbrev pub four : List ℕ → ℕ → ℕ
four b at = get_or b at 0 + 256 * get_or b (at + 1) 0 + 65536 * get_or b (at + 2) 0 + 16777216 * get_or b (at + 3) 0

-- where the record of the container i lies
abbrev pub place_of : ℕ → ℕ
place_of i = head_size + record_size * i

abbrev pub container_at : List ℕ → ℕ → Container
container_at b at = record { start = four b at; header = four b (at + 4); code = get_or b (at + 8) 0; members = four b (at + 9) }

-- n containers, from the i-th on
unfoldable pub containers_from : List ℕ → ℕ → ℕ → List Container
containers_from b i zero = []
containers_from b i (suc n) = container_at b (place_of i) ∷ containers_from b (suc i) n

-- more containers than a state that fits can have
abbrev pub unfit_state : State
unfit_state = record { used = 0; depth = most_open + 1; waiting = false; containers = replicate most_open no_container }

-- a slice of another length spells a state that does not fit
unfoldable pub state_of : List ℕ → State
state_of b =
    elim (eqb (length b) state_size) [
      | true ↦ record { used = four b 0; depth = get_or b 4 0; waiting = not (eqb (get_or b 5 0) 0); containers = containers_from b 0 most_open }
      | false ↦ unfit_state
    ]

-- ---- the bytes of a state

abbrev pub four_bytes : ℕ → List ℕ
four_bytes n = n % 256 ∷ n / 256 % 256 ∷ n / 65536 % 256 ∷ n / 16777216 % 256 ∷ []

abbrev pub flag : Bool → ℕ
flag true = 1
flag false = 0

abbrev pub head_bytes : ℕ → ℕ → Bool → List ℕ
head_bytes used depth waiting = four_bytes used ++ (depth % 256 ∷ flag waiting ∷ [])

abbrev pub container_bytes : Container → List ℕ
container_bytes c = four_bytes c.start ++ (four_bytes c.header ++ (c.code ∷ four_bytes c.members))

-- used, depth and waiting stored; a slice of another length stays as it is
unfoldable pub stored_head : ℕ → ℕ → Bool → List ℕ → List ℕ
stored_head used depth waiting b = elim (eqb (length b) state_size) [ true ↦ laid b 0 (head_bytes used depth waiting) | false ↦ b ]

-- the container i stored
unfoldable pub stored_container : ℕ → Container → List ℕ → List ℕ
stored_container i c b = elim (eqb (length b) state_size && ltb i most_open) [ true ↦ laid b (place_of i) (container_bytes c) | false ↦ b ]

-- the number of members of the container i stored
unfoldable pub stored_members : ℕ → ℕ → List ℕ → List ℕ
stored_members i n b = elim (eqb (length b) state_size && ltb i most_open) [ true ↦ laid b (place_of i + 9) (four_bytes n) | false ↦ b ]

-- that of the innermost of the first n records; with none open there is none
abbrev pub stored_count : ℕ → List Container → List ℕ → List ℕ
stored_count zero cs b = b
stored_count (suc i) cs b = stored_members i (get_or cs i no_container).members b

-- ---- a call over lent bytes

abbrev pub number_of : Verdict → ℕ
number_of accepted = 0
number_of (refused n) = n

-- the state slice with used, depth and waiting of s
abbrev pub stored_state : State → List ℕ → List ℕ
stored_state s b = stored_head s.used s.depth s.waiting b

-- What an accepted call that leaves the state s stores: its head; a scalar and a closing also the count of the container that they lie in,
-- an opening the container that it opened. A taking stores nothing.
abbrev pub stored_by : Call → State → List ℕ → List ℕ
stored_by (write an a) s b = stored_state s (stored_count s.depth s.containers b)
stored_by (name n) s b = stored_state s b
stored_by (opening an k) s b = stored_state s (stored_container (s.depth - 1) (get_or s.containers (s.depth - 1) no_container) b)
stored_by closing s b = stored_state s (stored_count s.depth s.containers b)
stored_by abandonment s b = stored_state s b
stored_by version_marker s b = stored_state s b
stored_by taking s b = b
stored_by emptying s b = stored_state s b

abbrev pub stored_if : Verdict → Call → State → List ℕ → List ℕ
stored_if accepted c s b = stored_by c s b
stored_if (refused n) c s b = b

-- What an entry point answers, and leaves in the state slice and in the buffer: what the machine does on the state that the slice spells.
pub record Entered : Type 0 where
  pub number : ℕ
  pub state : List ℕ
  pub buffer : List ℕ

abbrev pub entered_by : Call → List ℕ → Outcome → Entered
entered_by c st o = record { number = number_of o.verdict; state = stored_if o.verdict c o.config.state st; buffer = o.config.buffer }

unfoldable pub entered : Call → List ℕ → List ℕ → Entered
entered c st b = entered_by c st (run c (config (state_of st) b))

-- ---- what a closing answers in a slice that is lent for it

abbrev pub numbers : Figures → List ℕ
numbers f = f.size ∷ f.members ∷ f.moved ∷ []

-- four bytes each, least significant first, one behind the other, as many of them as the slice holds whole
unfoldable pub numbers_laid : ℕ → List ℕ → List ℕ → List ℕ
numbers_laid at [] b = b
numbers_laid at (n ∷ ns) b = numbers_laid (at + 4) ns (placed b at (four_bytes n)).1

abbrev pub answered_by : Outcome → List ℕ → List ℕ
answered_by o b = elim o.verdict [ accepted ↦ numbers_laid 0 (numbers o.figures) b | refused n ↦ b ]

-- a refused closing leaves the slice as it was
unfoldable pub answered : List ℕ → List ℕ → List ℕ → List ℕ
answered st b lent = answered_by (run closing (config (state_of st) b)) lent
