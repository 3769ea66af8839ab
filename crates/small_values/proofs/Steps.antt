-- The next small value, from a number on: that number, or the next one from the number behind it; and the limits of the sizes.
-- Assumes nothing.
use Prim.Native.Nat.{ℕ, zero, suc, ◌+◌, ◌-◌, ◌^◌, ◌<◌, ◌≤◌}
use native.Mathlib.Omega.{arith}
use mathlib.Core.Path.{◌≡◌, refl, sym, ap, ◌∙◌}
use mathlib.Core.Bool.{true, false}
use lib.Dec.{ltb}
use Rattle.std.specs.Prelude.{Option, Some, None}
use Rattle.std.specs.Option.{MatchOption}
use borrow.Author.Tests.{lt-leb, lt-ltb, le-ltb, ltb-true, ltb-false}
use Rattle.ion.proofs.Tests.{by_cases}
use Rattle.encoding.specs.Digits.{low_digits}
use Rattle.unpadded.specs.Rule.{is_one_value}
use Rattle.small_values.specs.Listing.{limit, first_from, next_of, next_value}

pub power_fits : (n : ℕ) → n ≤ 3 → 256 ^ n < 4294967296
power_fits zero h = omega arith
power_fits (suc zero) h = omega arith
power_fits (suc (suc zero)) h = omega arith
power_fits (suc (suc (suc zero))) h = omega arith
power_fits (suc (suc (suc (suc n)))) h = absurd (omega arith)

pub limit-none : (n : ℕ) → 3 < n → limit n ≡ 0
unfolding limit
limit-none n h = rw (lt-leb n 3 h) refl

pub asked : (n x : ℕ) → x < limit n → n ≤ 3
asked n x h = by_cases (ltb 3 n) (λ e. absurd (omega (arith, h, limit-none n (ltb-true 3 n e)))) (λ e. ltb-false 3 n e)

module _ (n x : ℕ) where
  pub next_here : x < limit n → is_one_value (low_digits 256 n x) ≡ true → next_of n x ≡ x
  unfolding next_of first_from
  next_here h e = let k : limit n - x ≡ suc (limit n - (x + 1)) = omega arith in rw (k, e) refl

  pub next-later : x < limit n → is_one_value (low_digits 256 n x) ≡ false → next_of n x ≡ next_of n (x + 1)
  unfolding next_of first_from
  next-later h e = let k : limit n - x ≡ suc (limit n - (x + 1)) = omega arith in rw (k, e) refl

  pub next_end : limit n ≤ x → next_of n x ≡ x
  unfolding next_of first_from
  next_end h = let k : limit n - x ≡ 0 = omega arith in rw k refl

module _ (n x y : ℕ) (e : next_of n x ≡ y) where
  pub value_is : y < limit n → next_value n x ≡ Some y
  unfolding next_value
  value_is h = let f : ltb (next_of n x) (limit n) ≡ true = rw e (lt-ltb y (limit n) h) in rw f (ap (λ (k : ℕ). Some k) e)

  pub no_value : limit n ≤ y → next_value n x ≡ None
  unfolding next_value
  no_value h = let f : ltb (next_of n x) (limit n) ≡ false = rw e (le-ltb y (limit n) h) in rw f refl

-- those that do not pass are gone past
gone_past : (d n x y : ℕ) → x + d ≡ y → y ≤ limit n → ((k : ℕ) → x ≤ k → k < y → is_one_value (low_digits 256 n k) ≡ false) → next_of n x ≡ next_of n y
gone_past zero n x y e h fails = ap (λ k. next_of n k) {x = x} {y = y} (omega (arith, e))
gone_past (suc d) n x y e h fails = next-later n x (omega (arith, e, h)) (fails x (omega arith) (omega (arith, e))) ∙ gone_past d n (x + 1) y (omega (arith, e)) h (λ k a b. fails k (omega arith) b)

-- the first that passes, or that none does, is the next one's number
module _ (n x end : ℕ) (is : end ≡ limit n) where
  pub found : (r : Option ℕ)
      → MatchOption r ((k : ℕ) → x ≤ k → k < end → is_one_value (low_digits 256 n k) ≡ false)
      (λ i. (x ≤ i) × (i < end) × (is_one_value (low_digits 256 n i) ≡ true) × ((k : ℕ) → x ≤ k → k < i → is_one_value (low_digits 256 n k) ≡ false))
      → r ≡ next_value n x
  found None fails = by_cases (ltb x end)
      (λ e. let below = ltb-true x end e in
      sym (no_value n x end (gone_past (end - x) n x end (omega arith) (omega (arith, is)) fails ∙ next_end n end (omega (arith, is))) (omega (arith, is))))
      (λ e. let past = ltb-false x end e in sym (no_value n x x (next_end n x (omega (arith, is))) (omega (arith, is))))
  found (Some i) h =
      let below : i < limit n = omega (arith, is, h.1) in
      sym (value_is n x i (gone_past (i - x) n x i (omega (arith, h.0)) (omega (arith, below)) h.3 ∙ next_here n i below h.2) below)
