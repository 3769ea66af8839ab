-- What a call says to whoever holds the state, by value or as lent bytes: refused and why, or accepted with what is to be stored.
-- Each is read as the machine's outcome: what the state and the buffer are once that is stored.
-- Assumes nothing.
use Rattle.std.specs.Prelude.{ℕ, ◌-◌, List, set, Result, Ok, Err}
use Rattle.machine.specs.declared.State.{State}
use Rattle.machine.specs.declared.Container.{Container}
use Rattle.machine.specs.declared.Refusal.{Refusal}
use Rattle.machine.specs.Machine.{config, counted, empty_state, no_figures, Figures, accepted, refused, Outcome}
use Rattle.machine.specs.Numbers.{number}
use Rattle.steps.specs.declared.Head.{Head}
use Rattle.steps.specs.declared.Opened.{Opened}
use Rattle.steps.specs.declared.Closed.{Closed}

-- the state with the head h and the records cs
abbrev pub headed : Head → List Container → State
headed h cs = record { used = h.used; depth = h.depth; waiting = h.waiting; containers = cs }

abbrev pub accepted_at : State → Figures → List ℕ → Outcome
accepted_at s f b = record { verdict = accepted; config = config s b; figures = f }

-- a refused call leaves the state s
abbrev pub refused_at : Refusal → State → List ℕ → Outcome
refused_at why s b = record { verdict = refused (number why); config = config s b; figures = no_figures }

-- the records stay
abbrev pub stepped : Result Head Refusal → State → List ℕ → Outcome
stepped (Ok h) s b = accepted_at (headed h s.containers) no_figures b
stepped (Err why) s b = refused_at why s b

-- the innermost container has a member more
abbrev pub written_one : Result Head Refusal → State → List ℕ → Outcome
written_one (Ok h) s b = accepted_at (headed h (counted s.containers h.depth)) no_figures b
written_one (Err why) s b = refused_at why s b

-- a record more
abbrev pub opened : Result Opened Refusal → State → List ℕ → Outcome
opened (Ok o) s b = accepted_at (headed o.head (set s.containers (o.head.depth - 1) o.container)) no_figures b
opened (Err why) s b = refused_at why s b

-- the container that the closed one lies in has a member more
abbrev pub closed : Result Closed Refusal → State → List ℕ → Outcome
closed (Ok c) s b =
    accepted_at (headed c.head (counted s.containers c.head.depth)) (record { size = c.size; members = c.members; moved = c.moved }) b
closed (Err why) s b = refused_at why s b

-- a start has the empty state, with as many bytes used
abbrev pub begun : Result ℕ Refusal → List ℕ → Outcome
begun (Ok n) b = accepted_at (empty_state n) no_figures b
begun (Err why) b = refused_at why (empty_state 0) b
