-- What holds of any fuel above none, by what holds of one more.
-- Assumes nothing.
use Prim.Native.Nat.{ℕ, zero, suc, ◌-◌, ◌≤◌}
use native.Mathlib.Omega.{arith}
use native.Mathlib.Numerals.{sub-one}
use mathlib.Core.Path.{◌≡◌}

pub fuelled : (P : ℕ → Type 0) (f : ℕ) → 1 ≤ f → ((g : ℕ) → f - 1 ≡ g → P (suc g)) → P f
fuelled P zero h k = absurd (omega arith)
fuelled P (suc f) h k = k f (sub-one (suc f))
