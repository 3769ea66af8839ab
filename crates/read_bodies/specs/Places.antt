-- The fields of the grammar at a place of a body: a number, and the place behind it.
-- Assumes nothing.
use Rattle.std.specs.Prelude as Std
use Rattle.std.specs.Prelude.{ℕ, ◌-◌, ◌^◌, Bool, cond, List, ltb, length, drop, Result, Ok, Err, Some, None}
use Rattle.std.proofs.Math.Option.{Option, none, some}
use Rattle.ion.specs.Value.{Signed, signed}
use Rattle.ion.specs.Fields.{big_endian, groups, in_u64, var_uint, is_i64, var_int}
use Rattle.reading.specs.declared.Refusal.{Refusal}
use Rattle.reading.specs.declared.Refusal.TheVariants.{NotIon}
use Rattle.reading.specs.declared.Number.{Number}
use Rattle.reading.specs.Bodies.{is_negative, magnitude}
use Rattle.read_bodies.specs.declared.VarInt.{VarInt}

-- what is left of `size` bytes begins at this place
abbrev pub number_in : ℕ → Option (ℕ × List ℕ) → Result Number Refusal
number_in size none = Err NotIon
number_in size (some x) = Ok (record { value = x.0; next = size - length x.1 })

unfoldable pub groups_at : List ℕ → ℕ → ℕ → Result Number Refusal
groups_at s at acc = number_in (length s) (in_u64 (groups acc (drop at s)))

unfoldable pub var_uint_at : List ℕ → ℕ → Result Number Refusal
var_uint_at s at = number_in (length s) (var_uint (drop at s))

abbrev pub signed_in : ℕ → Option (Signed × List ℕ) → Result VarInt Refusal
signed_in size none = Err NotIon
signed_in size (some x) = Ok (record { negative = is_negative x.0; magnitude = magnitude x.0; next = size - length x.1 })

unfoldable pub var_int_at : List ℕ → ℕ → Result VarInt Refusal
var_int_at s at = signed_in (length s) (var_int (drop at s))

abbrev pub with_sign : Bool → Number → Result VarInt Refusal
with_sign s n = cond (is_i64 (signed s n.value)) (Ok (record { negative = s; magnitude = n.value; next = n.next })) (Err NotIon)

-- a number that 64 bits hold
abbrev pub small : ℕ → Std.Option ℕ
small n = cond (ltb n (2 ^ 64)) (Some n) None

unfoldable pub small_from : List ℕ → ℕ → ℕ → Std.Option ℕ
small_from s at acc = small (big_endian acc (drop at s))
