-- Line 3 of the table "Checks by place", by the kind of call that asks.
-- Assumes nothing.
use Rattle.std.specs.Prelude.{Bool, not, ◌&&◌, ◌||◌}
use Rattle.machine.specs.declared.State.{State}
use Rattle.machine.specs.Machine.{open_containers, is_open, in_struct}
use Rattle.place.specs.declared.CallKind.{CallKind}
use Rattle.place.specs.declared.CallKind.TheVariants.{Value, Name, Closing, Abandonment, Top}

-- where a container is open or not, the innermost is a struct or not, and a name waits or not
abbrev pub misplaced_where : CallKind → Bool → Bool → Bool → Bool
misplaced_where Value any_open inside waits = inside && not waits
misplaced_where Name any_open inside waits = not inside || waits
misplaced_where Closing any_open inside waits = not any_open || waits
misplaced_where Abandonment any_open inside waits = not any_open
misplaced_where Top any_open inside waits = any_open

-- in the state s
abbrev pub misplaced : CallKind → State → Bool
misplaced k s = misplaced_where k (is_open (open_containers s)) (in_struct (open_containers s)) s.waiting
