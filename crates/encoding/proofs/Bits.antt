-- How many digits a u64 has in the base 2 ^ w, by the bits that it takes: 64 without the leading zeros.
-- By the powers of two between which the number lies. Assumes nothing.
use mathlib.Core.Path.{◌≡◌, refl, sym, ◌∙◌}
use Prim.Native.Nat.{ℕ, zero, suc, ◌+◌, ◌-◌, ◌*◌, ◌/◌, ◌^◌, ◌≤◌, ◌<◌}
use native.Mathlib.Omega.{arith}
use native.Mathlib.Nat.{pow-zero, pow-suc, mul-zero, mul-suc, le-div_iff_mul-le, lt_of_lt_of_le}
use lib.Pow.{pow-add, pow_mono, pow_pos, shr_lt}
use lib.Count.{count_leading_zeros, leading_length}
use Rattle.encoding.specs.Digits.{digit_count}
use Rattle.encoding.proofs.Digits.{Reaches, digit_count_is}

abbrev pub bits_used : ℕ → ℕ
bits_used n = 64 - count_leading_zeros 64 n

pub bits_used_pos : (n : ℕ) → 0 < n → n < 2 ^ 64 → 0 < bits_used n
bits_used_pos n p h = let l = leading_length 64 n h in go l.0 l.1 l.2
  where
    go : (m : ℕ) → count_leading_zeros 64 n + m ≡ 64 → n < 2 ^ m → 0 < bits_used n
    go zero e u = absurd (omega arith)
    go (suc m) e u = omega arith

pub power_power : (w k : ℕ) → (2 ^ w) ^ k ≡ 2 ^ (w * k)
power_power w zero = rw (pow-zero (2 ^ w), mul-zero w) refl
power_power w (suc k) = pow-suc (2 ^ w) k ∙ rw (power_power w k, mul-suc w k) (sym (pow-add 2 (w * k) w))

-- Digits of w bits, the lowest d bits left out: the digits are as many as the bits above those d take.
pub digit_count_by_zeros : (w d k n : ℕ) → 1 ≤ w → n < 2 ^ 64 → bits_used n ≤ w * k + d → (0 < k → w * k + d < bits_used n + w)
    → digit_count (2 ^ w) (n / 2 ^ d) ≡ k
digit_count_by_zeros w d k n p h hi lo =
    let l = leading_length 64 n h in
    let e : bits_used n ≡ l.0 = omega (arith, l.1) in
    let two : 2 ≤ 2 ^ w = pow_mono {i = 1} {j = w} p in
    let u : n < 2 ^ (w * k + d) = lt_of_lt_of_le l.2 (pow_mono {i = l.0} {j = w * k + d} (omega arith)) in
    digit_count_is (2 ^ w) two k (n / 2 ^ d) (rw (power_power w k) (shr_lt {n = n} (w * k) d u)) (reaches k lo)
  where
    reaches : (k : ℕ) → (0 < k → w * k + d < bits_used n + w) → Reaches (2 ^ w) k (n / 2 ^ d)
    reaches zero lo = tt
    reaches (suc k) lo =
        let l = leading_length 64 n h in
        let s : w * suc k + d < bits_used n + w = lo (omega arith) in
        let t : w * k + w + d < bits_used n + w = rw (mul-suc w k) at s in
        let q : 2 ^ suc (w * k + d) ≤ 2 ^ l.0 = pow_mono {i = suc (w * k + d)} {j = l.0} (omega (arith, l.1)) in
        let r : 2 ^ suc (w * k + d) ≡ 2 ^ (w * k + d) * 2 = pow-suc 2 (w * k + d) in
        let m : 2 ^ (w * k + d) ≤ n = omega (arith, l.3) in
        rw (power_power w k) ((le-div_iff_mul-le {k = 2 ^ d} {x = 2 ^ (w * k)} {y = n} (pow_pos d)).1 (rw (← (pow-add 2 (w * k) d)) m))
