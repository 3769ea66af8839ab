-- The numbers past those that name a type or a precision.
-- Assumes nothing.
use Prim.Native.Nat.{ℕ, ◌≤◌}
use mathlib.Core.Path.{◌≡◌}
use lib.ListN.{get_or-eq_default}
use Rattle.scalars.specs.declared.IonType.TheVariants.{Null}
use Rattle.timestamp.specs.declared.Precision.TheVariants.{Second}
use Rattle.entry_numbers.specs.Lent.{types, type_coded, precisions, precision_numbered}

pub type_past : (n : ℕ) → 14 ≤ n → type_coded n ≡ Null
unfolding type_coded
type_past n h = get_or-eq_default types Null h

pub precision_past : (n : ℕ) → 4 ≤ n → precision_numbered n ≡ Second
unfolding precision_numbered
precision_past n h = get_or-eq_default precisions Second h
