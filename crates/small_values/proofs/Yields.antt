-- Asking for the next string that passes a test, again and again, lists the strings of n bytes that pass it.
-- By the laws of the first number from x on whose string passes. Assumes nothing.
use Prim.Native.Nat.{ℕ, zero, suc, ◌+◌, ◌-◌, ◌^◌, ◌<◌, ◌≤◌}
use native.Mathlib.Omega.{arith}
use mathlib.Core.Path.{◌≡◌, refl, sym, ◌∙◌, ap, subst}
use mathlib.Core.Logic.{inl, inr}
use mathlib.Core.Bool.{Bool, true, false, false≢true}
use mathlib.Core.List.{List, [], ◌∷◌}
use lib.Dec.{ltb}
use lib.ListN.{length}
use Rattle.std.specs.Prelude.{Some}
use Rattle.std.proofs.lemmas.Option.{cond_some}
use borrow.Author.Tests.{le-leb, ltb-true, ltb-false}
use Rattle.ion.specs.Fields.{uint}
use Rattle.ion.proofs.Tests.{by_cases}
use Rattle.encoding.specs.Digits.{low_digits}
use Rattle.encoding.specs.Fields.{AllBelow}
use Rattle.encoding.proofs.Digits.{length-low_digits, big_endian_fixed}
use Rattle.unpadded.specs.Rule.{is_one_value}
use Rattle.small_values.specs.Order.{precedes, ◌∈◌, Lists}
use Rattle.small_values.specs.Listing.{limit, first_from, next_by, next_of, next_value, yields_from}
use Rattle.small_values.proofs.Order.{lists_same}
use Rattle.small_values.proofs.Steps.{power_fits, limit-none}
use Rattle.small_values.proofs.Numbers.{precedes-numbers, digits-bytes, number-below, digits_number}

pub limit_is : (n : ℕ) → n ≤ 3 → limit n ≡ 256 ^ n
unfolding limit
limit_is n h = rw (le-leb n 3 h) refl

-- ---- the first that passes

-- y is the first number from x on, among k, whose string of n bytes passes, or the one behind them
record First (t : List ℕ → Bool) (k n x y : ℕ) : Type 0 where
  pub from : x ≤ y
  pub passes : y < x + k → t (low_digits 256 n y) ≡ true
  pub none : (z : ℕ) → x ≤ z → z < y → t (low_digits 256 n z) ≡ false

first_here : (t : List ℕ → Bool) (k n x : ℕ) → t (low_digits 256 n x) ≡ true → First t (suc k) n x x
first_here t k n x e = record { from = omega arith; passes = λ h. e; none = λ z p q. absurd (omega arith) }

first-later : (t : List ℕ → Bool) (k n x y : ℕ) → t (low_digits 256 n x) ≡ false → First t k n (x + 1) y → First t (suc k) n x y
first-later t k n x y e f = record {
  from = omega (arith, f.from);
  passes = λ h. f.passes (omega arith);
  none = λ z p q. by_cases (ltb x z)
      (λ s. f.none z (omega (arith, ltb-true x z s)) q)
      (λ s. let same : z ≡ x = omega (arith, p, ltb-false x z s) in rw (same) e);
}

first_is : (t : List ℕ → Bool) (k n x : ℕ) → First t k n x (first_from t k n x)
unfolding first_from
first_is t zero n x = record { from = omega arith; passes = λ h. absurd (omega arith); none = λ z p q. absurd (omega arith) }
first_is t (suc k) n x = by_cases (t (low_digits 256 n x))
    (λ e. rw (e) (first_here t k n x e))
    (λ e. rw (e) (first-later t k n x (first_from t k n (x + 1)) e (first_is t k n (x + 1))))

pub next-from : (n x : ℕ) → x ≤ next_of n x
unfolding next_of
next-from n x = (first_is is_one_value (limit n - x) n x).from

-- the next value's number lies from x on and below the limit, which 32 bits hold
pub value_within : (n x y : ℕ) → next_value n x ≡ Some y → (x ≤ y) × (y < limit n)
unfolding next_value
value_within n x y h =
    let q = cond_some (ltb (next_of n x) (limit n)) (next_of n x) y h in
    (omega (arith, next-from n x, q.1), omega (arith, ltb-true (next_of n x) (limit n) q.0, q.1))

pub limit_fits : (n : ℕ) → limit n < 4294967296
limit_fits n = by_cases (ltb 3 n)
    (λ e. omega (arith, limit-none n (ltb-true 3 n e)))
    (λ e. let h = ltb-false 3 n e in omega (arith, limit_is n h, power_fits n h))

-- ---- those that follow

-- those of n bytes that pass and whose number is x or more
record From (t : List ℕ → Bool) (n x : ℕ) (b : List ℕ) : Type 0 where
  pub size : length b ≡ n
  pub bytes : AllBelow 256 b
  pub passes : t b ≡ true
  pub from : x ≤ uint b

module _ (t : List ℕ → Bool) (n : ℕ) (small : n ≤ 3) where
  -- a string is that of its number
  is_digits : (b : List ℕ) → length b ≡ n → AllBelow 256 b → low_digits 256 n (uint b) ≡ b
  is_digits b e h = subst (λ (k : ℕ). low_digits 256 k (uint b) ≡ b) e (digits_number b h)

  is_below : (b : List ℕ) → length b ≡ n → AllBelow 256 b → uint b < limit n
  is_below b e h = rw (limit_is n small, ← e) (number-below b h)

  is_number : (y : ℕ) → y < limit n → uint (low_digits 256 n y) ≡ y
  is_number y h = big_endian_fixed n y (rw (limit_is n small) at h)

  none_from : (x : ℕ) → ((b : List ℕ) → From t n x b → ⊥) → Lists (From t n x) []
  none_from x h = record { ordered = tt; all = h; only = λ b u. absurd u }

  -- y is the first from x on that passes
  module _ (x y : ℕ) (f : First t (limit n - x) n x y) where
    -- none that passes has a number between them
    from_first : (b : List ℕ) → From t n x b → y ≤ uint b
    from_first b u = by_cases (ltb (uint b) y)
        (λ s. absurd (false≢true (sym (f.none (uint b) u.from (ltb-true (uint b) y s)) ∙ ap t (is_digits b u.size u.bytes) ∙ u.passes)))
        (λ s. ltb-false (uint b) y s)

    none_left : limit n ≤ y → Lists (From t n x) []
    none_left h = none_from x (λ b u. omega (arith, from_first b u, is_below b u.size u.bytes))

    module _ (l : List (List ℕ)) (h : y < limit n) (p : Lists (From t n (y + 1)) l) where
      precedes-rest : (c : List ℕ) → c ∈ l → precedes (low_digits 256 n y) c ≡ true
      precedes-rest c u =
          let q = p.only c u in
          let k : uint c < 256 ^ n = rw (limit_is n small) at is_below c q.size q.bytes in
          subst (λ (d : List ℕ). precedes (low_digits 256 n y) d ≡ true) (is_digits c q.size q.bytes)
          (precedes-numbers n y (uint c) (omega (arith, q.from)) k)

      all_here : (b : List ℕ) → From t n x b → b ∈ (low_digits 256 n y ∷ l)
      all_here b u = by_cases (ltb y (uint b))
          (λ s. inr (p.all b (record { size = u.size; bytes = u.bytes; passes = u.passes; from = omega (arith, ltb-true y (uint b) s) })))
          (λ s.
          let same : uint b ≡ y = omega (arith, ltb-false y (uint b) s, from_first b u) in
          inl (sym (is_digits b u.size u.bytes) ∙ ap (λ (k : ℕ). low_digits 256 n k) same))

      is_here : From t n x (low_digits 256 n y)
      is_here = record {
        size = length-low_digits 256 n y;
        bytes = digits-bytes n y;
        passes = f.passes (omega (arith, h));
        from = rw (is_number y h) f.from;
      }

      only_here : (b : List ℕ) → b ∈ (low_digits 256 n y ∷ l) → From t n x b
      only_here b (inl e) = subst (From t n x) (sym e) is_here
      only_here b (inr u) =
          let q = p.only b u in
          record { size = q.size; bytes = q.bytes; passes = q.passes; from = omega (arith, q.from, f.from) }

      here : Lists (From t n x) (low_digits 256 n y ∷ l)
      here = record { ordered = (precedes-rest, p.ordered); all = all_here; only = only_here }

  module _ (next : ℕ → ℕ → ℕ) (is : (n x : ℕ) → next n x ≡ next_by t n x) where
    first_next : (x : ℕ) → First t (limit n - x) n x (next n x)
    first_next x = subst (First t (limit n - x) n x) (sym (is n x)) (first_is t (limit n - x) n x)

    listed-from : (k x : ℕ) → limit n - x ≤ k → Lists (From t n x) (yields_from next k n x)
    unfolding yields_from
    listed-from zero x h = none_from x (λ b u. omega (arith, u.from, is_below b u.size u.bytes))
    listed-from (suc k) x h =
        let y = next n x in
        let f = first_next x in
        by_cases (ltb y (limit n))
        (λ e. rw (e) (here x y f (yields_from next k n (y + 1)) (ltb-true y (limit n) e) (listed-from k (y + 1) (omega (arith, h, f.from)))))
        (λ e. rw (e) (none_left x y f (ltb-false y (limit n) e)))

pub listed : (t : List ℕ → Bool) (next : ℕ → ℕ → ℕ) → ((n x : ℕ) → next n x ≡ next_by t n x) → (n : ℕ) → n ≤ 3 →
    Lists (λ b. (length b ≡ n) × (AllBelow 256 b × (t b ≡ true))) (yields_from next (limit n) n 0)
listed t next is n small = lists_same (yields_from next (limit n) n 0)
    (λ b u. (u.size, (u.bytes, u.passes)))
    (λ b u. record { size = u.0; bytes = u.1.0; passes = u.1.1; from = omega arith })
    (listed-from t n small next is (limit n) 0 (omega arith))
