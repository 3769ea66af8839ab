-- The calls that a list of calls is made of. A start comes before the list.
-- Assumes nothing.
use Rattle.std.specs.Prelude.{ℕ, ◌^◌, ◌<◌, List, [], ◌∷◌}
use Rattle.ion.specs.Value.{SequenceType}
use Rattle.encoding.specs.Fields.{AllU64}
use Rattle.encoding.specs.Argument.{Argument, Typed}

pub data ContainerType : Type 0 where
  sequence_type : SequenceType → ContainerType
  struct_type : ContainerType

-- A scalar and an opening come with their annotations; a name is a sid.
pub data Call : Type 0 where
  write : List ℕ → Argument → Call
  name : ℕ → Call
  opening : List ℕ → ContainerType → Call
  closing abandonment version_marker taking emptying : Call

-- what the types of a call's arguments say
abbrev pub TypedCall : Call → Type 0
TypedCall (write an a) = AllU64 an × Typed a
TypedCall (name n) = n < 2 ^ 64
TypedCall (opening an k) = AllU64 an
TypedCall closing = Unit {0}
TypedCall abandonment = Unit {0}
TypedCall version_marker = Unit {0}
TypedCall taking = Unit {0}
TypedCall emptying = Unit {0}

abbrev pub AllTyped : List Call → Type 0
AllTyped [] = Unit {0}
AllTyped (c ∷ cs) = TypedCall c × AllTyped cs
