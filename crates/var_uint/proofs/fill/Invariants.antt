-- The loop's invariant: the buffer is what a limit of so many stores leaves, and the groups that are still to come make up the field with what is stored.
-- Assumes nothing.
use mathlib.Core.Path.{◌≡◌}
use mathlib.Core.List.{List, ◌++◌}
use Prim.Native.Nat.{ℕ, ◌+◌, ◌-◌, ◌≤◌}
use lib.ListN.{length, drop}
use Rattle.std.specs.Prelude.{Option, Some}
use Rattle.encoding.specs.Fields.{var_uint_bytes}
use Rattle.var_uint.specs.Filled.{filled}
use Rattle.var_uint.proofs.Groups.{flagged}
use Rattle.var_uint.proofs.fill.Given as goal

abbrev pub invariant-loop-i : goal.invariant-loop-i
invariant-loop-i l = record {
  size : l.size ≡ length (var_uint_bytes l.value);
  room : l.at + l.size ≤ length l.initial.buf;
  within : (l.count ≤ l.size) × (l.size - l.count ≤ l.i);
  stored : ◌≡◌ {A = Option ℕ × List ℕ} (Some (l.size - l.i), l.buf) (filled (l.size - l.i) l.initial.buf l.at (var_uint_bytes l.value));
  flag : l.flag ≤ 128;
  to_come : flagged l.flag l.i l.rest ++ drop l.i (var_uint_bytes l.value) ≡ var_uint_bytes l.value;
}
