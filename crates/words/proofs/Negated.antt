-- A magnitude m above zero, negated by -1 - (m - 1), whose parts fit where -m does.
-- Assumes nothing.
use mathlib.Core.Path.{◌≡◌, refl, ◌∙◌, ap}
use Prim.Native.Nat.{ℕ, zero, suc, ◌-◌, ◌^◌, ◌<◌}
use native.Mathlib.Omega.{arith}
use lib.IntN.{pos, negsuc, ◌-ℤ◌, neg_ℤ}
use mir.Syntax.{Width}
use mir.Val.{SFits, hbits, to_z}
use mir.ValLaws.{to_z_pos}

less_one : (k : ℕ) → negsuc 0 -ℤ pos k ≡ negsuc k
less_one zero = refl
less_one (suc k) = ap negsuc (omega arith)

negative : (m : ℕ) → 0 < m → negsuc (m - 1) ≡ neg_ℤ (pos m)
negative zero h = absurd (omega arith)
negative (suc k) h = ap negsuc (omega arith)

module _ (w : Width) (m : ℕ) (above : 0 < m) (small : m - 1 < 2 ^ hbits w) where
  pub negated_is : negsuc 0 -ℤ to_z w (m - 1) ≡ neg_ℤ (pos m)
  negated_is = ap (λ z. negsuc 0 -ℤ z) (to_z_pos w (m - 1) small) ∙ less_one (m - 1) ∙ negative m above

  pub negated_fits : SFits w (negsuc 0 -ℤ to_z w (m - 1))
  negated_fits = rw (to_z_pos w (m - 1) small, less_one (m - 1)) (record { sfits = small })
