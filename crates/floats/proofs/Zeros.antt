-- A number has k zeros at its end where it is a multiple of 2 ^ k, both ways.
-- Assumes nothing.
use Prim.Native.Nat.{ℕ, zero, suc, ◌*◌, ◌/◌, ◌%◌, ◌^◌, ◌≤◌}
use mathlib.Core.Path.{◌≡◌, refl, sym, ◌∙◌, ap}
use native.Mathlib.Nat.{pow-suc, mul_assoc, mul_comm, mul-one}
use native.Mathlib.Omega.{arith}
use lib.Count.{count_trailing_zeros, under}

pub multiple_zeros : (d k m : ℕ) → k ≤ d → k ≤ count_trailing_zeros d (m * 2 ^ k)
unfolding count_trailing_zeros
multiple_zeros d zero m h = omega arith
multiple_zeros zero (suc k) m h = absurd (omega arith)
multiple_zeros (suc d) (suc k) m h =
    let e : m * 2 ^ suc k ≡ 2 * (m * 2 ^ k) = ap (λ (z : ℕ). m * z) (pow-suc 2 k) ∙ (sym (mul_assoc m (2 ^ k) 2) ∙ mul_comm (m * 2 ^ k) 2) in
    let r : m * 2 ^ suc k % 2 ≡ 0 = omega arith in
    let q : m * 2 ^ suc k / 2 ≡ m * 2 ^ k = omega arith in
    let rest : k ≤ count_trailing_zeros d (m * 2 ^ k) = multiple_zeros d k m (omega arith) in
    rw (r, q) (omega arith)

pub zeros_multiple : (d k n : ℕ) → k ≤ count_trailing_zeros d n → (m : ℕ) × (n ≡ m * 2 ^ k)
unfolding count_trailing_zeros
zeros_multiple d zero n h = (n, sym (mul-one n))
zeros_multiple zero (suc k) n h = absurd (omega arith)
zeros_multiple (suc d) (suc k) n h = by_last (n % 2) refl h (λ l. zeros_multiple d k (n / 2) l)
  where
    by_last : (r : ℕ) → n % 2 ≡ r → suc k ≤ under r (count_trailing_zeros d (n / 2)) →
        (k ≤ count_trailing_zeros d (n / 2) → (m : ℕ) × (n / 2 ≡ m * 2 ^ k)) → (m : ℕ) × (n ≡ m * 2 ^ suc k)
    by_last zero e l half =
        let h = half (omega arith) in
        let p : h.0 * 2 ^ suc k ≡ h.0 * 2 ^ k * 2 = ap (λ (z : ℕ). h.0 * z) (pow-suc 2 k) ∙ sym (mul_assoc h.0 (2 ^ k) 2) in
        (h.0, omega (arith, h.1))
    by_last (suc r) e l half = absurd (omega arith)
