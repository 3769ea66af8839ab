-- How many bytes each field takes: by its digits, by the leading zeros of a u64, and at most.
-- By the one law of digits and leading zeros, at the width and the bits of each field. Assumes nothing.
use mathlib.Core.Path.{◌≡◌, refl, sym, ◌∙◌, ap}
use mathlib.Core.List.{List, [], ◌∷◌, ◌++◌}
use mathlib.Core.Bool.{Bool, true, false}
use Prim.Native.Nat.{ℕ, zero, suc, ◌+◌, ◌-◌, ◌*◌, ◌/◌, ◌%◌, ◌^◌, ◌≤◌, ◌<◌}
use native.Mathlib.Omega.{arith}
use native.Mathlib.Nat.{div-one, div-lt_iff_lt-mul, one-le-pow, mul_comm, pow-suc, mod-eq_of_lt, div-eq_of_lt, le-div_iff_mul-le, zero-add, eq-zero-or-pos}
use mathlib.Core.Logic.{⊎_elim}
use lib.Dec.{ltb}
use borrow.Author.Tests.{ltb-true, ltb-false}
use lib.ListN.{length, length-append}
use Rattle.ion.specs.Value.{signed}
use Rattle.encoding.specs.Digits.{low_digits, digit_count, digits}
use Rattle.encoding.specs.Fields.{var_uint_bytes, var_int_groups, var_int_bytes, uint_bytes, fixed_bytes, int_bytes}
use Rattle.encoding.proofs.Digits.{Reaches, length-low_digits, length_digits, low_digits-first, digit_count_is, digit_count_reaches}
use Rattle.encoding.proofs.Digits.{digit_count-zero, digit_count_pos, digit_count-below, digit_count_least}
use Rattle.encoding.proofs.Bits.{bits_used, bits_used_pos, digit_count_by_zeros}
use Rattle.encoding.proofs.Fields.{first_six}
use Rattle.encoding.proofs.Signs.{int_clear, int_taken, int_zero}

-- digits and one byte behind them
length_snoc : (k n v : ℕ) → length (low_digits 128 k n ++ (v ∷ [])) ≡ suc k
length_snoc k n v = length-append (low_digits 128 k n) (v ∷ []) ∙ rw (length-low_digits 128 k n) (omega arith)

-- ---- by the digits

pub length-var_uint : (n : ℕ) → length (var_uint_bytes n) ≡ suc (digit_count 128 (n / 128))
unfolding var_uint_bytes digits
length-var_uint n = length_snoc (digit_count 128 (n / 128)) (n / 128) (0x80 + n % 128)

length-groups : (s : Bool) (k n : ℕ) → length (var_int_groups s k n) ≡ suc k
unfolding var_int_groups
length-groups s zero n = refl
length-groups s (suc k) n = ap suc (length_snoc k (n / 128) (0x80 + n % 128))

pub length-var_int : (s : Bool) (n : ℕ) → length (var_int_bytes (signed s n)) ≡ suc (digit_count 128 (n / 64))
unfolding var_int_bytes
length-var_int s n = length-groups s (digit_count 128 (n / 64)) n

-- the sign does not matter
pub length-var_int_sign : (s : Bool) (n : ℕ) → length (var_int_bytes (signed s n)) ≡ length (var_int_bytes (signed false n))
length-var_int_sign s n = length-var_int s n ∙ sym (length-var_int false n)

-- what is left of n above k groups, six bits or fewer
pub var_int-first : (k n : ℕ) → k ≡ digit_count 128 (n / 64) → n / 128 ^ k < 64
var_int-first k n e = first_six n k (rw e (digit_count-below 128 (omega arith) (n / 64)))

pub length-uint : (n : ℕ) → length (uint_bytes n) ≡ digit_count 256 n
unfolding uint_bytes
length-uint n = length_digits 256 n

pub length_fixed : (k n : ℕ) → length (fixed_bytes k n) ≡ k
unfolding fixed_bytes
length_fixed k n = length-low_digits 256 k n

fixed_none : (n : ℕ) → fixed_bytes 0 n ≡ []
unfolding fixed_bytes low_digits
fixed_none n = refl

pub uint_fixed : (n k : ℕ) → k ≡ length (uint_bytes n) → uint_bytes n ≡ fixed_bytes k n
unfolding uint_bytes digits fixed_bytes
uint_fixed n k e = ap (λ (j : ℕ). low_digits 256 j n) (sym (e ∙ length-uint n))

pub uint-zero : (n : ℕ) → n ≡ 0 → uint_bytes n ≡ []
uint-zero n z = uint_fixed n 0 (sym (length-uint n ∙ digit_count-zero 256 n z)) ∙ fixed_none n

-- ---- an Int of a number without sign is its bytes with the top bit clear

module _ (n j : ℕ) (e : digit_count 256 n ≡ suc j) where
  -- the first of its bytes, above j more
  top : ℕ
  top = n / 256 ^ j

  power_pos : (k : ℕ) → 1 ≤ 256 ^ k
  power_pos k = one-le-pow k 256 (omega arith)

  below : n < 256 ^ j * 256
  below = rw (← (pow-suc 256 j)) (rw e at (digit_count-below 256 (omega arith) n))

  above : 256 ^ j ≤ n
  above = rw e at (digit_count_reaches 256 (omega arith) n)

  uint_top : uint_bytes n ≡ top ∷ low_digits 256 j n
  unfolding uint_bytes digits top
  uint_top =
      let h : n / 256 ^ j < 256 = (div-lt_iff_lt-mul {k = 256 ^ j} {x = n} {y = 256} (power_pos j)).1 (rw (mul_comm 256 (256 ^ j)) below) in
      ap (λ (k : ℕ). low_digits 256 k n) e ∙ (low_digits-first 256 j n ∙ ap (λ (t : ℕ). t ∷ low_digits 256 j n) (mod-eq_of_lt h))

  uint_low : uint_bytes n ≡ low_digits 256 (suc j) n
  unfolding uint_bytes digits
  uint_low = ap (λ (k : ℕ). low_digits 256 k n) e

  int_top_clear : top < 128 → int_bytes false (uint_bytes n) ≡ fixed_bytes (suc (digit_count 256 (n / 128))) n
  unfolding top fixed_bytes
  int_top_clear h =
      let u : n < 128 * 256 ^ j = (div-lt_iff_lt-mul {k = 256 ^ j} {x = n} {y = 128} (power_pos j)).0 h in
      let c : digit_count 256 (n / 128) ≡ j =
      digit_count_is 256 (omega arith) j (n / 128) ((div-lt_iff_lt-mul {k = 128} {x = n} {y = 256 ^ j} (omega arith)).1 (omega arith)) (reaches j above) in
      ap (int_bytes false) uint_top
      ∙ (int_clear top (low_digits 256 j n) false h
      ∙ (ap (λ (t : ℕ). t ∷ low_digits 256 j n) (zero-add top)
      ∙ (sym uint_top ∙ (uint_low ∙ ap (λ (k : ℕ). low_digits 256 (suc k) n) (sym c)))))
    where
      reaches : (k : ℕ) → 256 ^ k ≤ n → Reaches 256 k (n / 128)
      reaches zero r = tt
      reaches (suc k) r = let q = pow-suc 256 k in (le-div_iff_mul-le {k = 128} {x = 256 ^ k} {y = n} (omega arith)).1 (omega arith)

  int_top_taken : 128 ≤ top → int_bytes false (uint_bytes n) ≡ fixed_bytes (suc (digit_count 256 (n / 128))) n
  unfolding top fixed_bytes
  int_top_taken h =
      let l : 128 * 256 ^ j ≤ n = (le-div_iff_mul-le {k = 256 ^ j} {x = 128} {y = n} (power_pos j)).0 h in
      let q : 256 ^ suc j ≡ 256 ^ j * 256 = pow-suc 256 j in
      let b = below in
      let c : digit_count 256 (n / 128) ≡ suc j =
      digit_count_is 256 (omega arith) (suc j) (n / 128) (omega arith) ((le-div_iff_mul-le {k = 128} {x = 256 ^ j} {y = n} (omega arith)).1 (omega arith)) in
      let z : n / 256 ^ suc j % 256 ≡ 0 = rw (div-eq_of_lt {n = n} {m = 256 ^ suc j} (omega arith)) refl in
      ap (int_bytes false) uint_top
      ∙ (int_taken top (low_digits 256 j n) false h
      ∙ (ap (λ (l : List ℕ). 0 ∷ l) (sym uint_top ∙ uint_low)
      ∙ (ap (λ (t : ℕ). t ∷ low_digits 256 (suc j) n) (sym z) ∙ (sym (low_digits-first 256 (suc j) n) ∙ ap (λ (k : ℕ). low_digits 256 (suc k) n) (sym c)))))

pub int_fixed : (n : ℕ) → 0 < n → int_bytes false (uint_bytes n) ≡ fixed_bytes (suc (digit_count 256 (n / 128))) n
int_fixed n p = go (digit_count 256 n) refl
  where
    go : (k : ℕ) → digit_count 256 n ≡ k → int_bytes false (uint_bytes n) ≡ fixed_bytes (suc (digit_count 256 (n / 128))) n
    go zero e = absurd (omega (arith, digit_count_pos 256 n p))
    go (suc j) e = side (ltb (top n j e) 128) refl
      where
        side : (t : Bool) → ltb (top n j e) 128 ≡ t → int_bytes false (uint_bytes n) ≡ fixed_bytes (suc (digit_count 256 (n / 128))) n
        side true h = int_top_clear n j e (ltb-true (top n j e) 128 h)
        side false h = int_top_taken n j e (ltb-false (top n j e) 128 h)

pub int_of_zero : (n : ℕ) → n ≡ 0 → int_bytes false (uint_bytes n) ≡ []
int_of_zero n z = int_zero false (uint_bytes n) refl (length-uint n ∙ digit_count-zero 256 n z)

pub int_fixed_by : (n k : ℕ) → k ≡ length (int_bytes false (uint_bytes n)) → int_bytes false (uint_bytes n) ≡ fixed_bytes k n
int_fixed_by n k e = ⊎_elim
    (λ z. let q = int_of_zero n z in q ∙ (sym (fixed_none n) ∙ ap (λ (j : ℕ). fixed_bytes j n) (sym (e ∙ ap length q))))
    (λ p. let q = int_fixed n p in q ∙ ap (λ (j : ℕ). fixed_bytes j n) (sym (e ∙ (ap length q ∙ length_fixed _ n))))
    (eq-zero-or-pos n)

-- ---- by the leading zeros

pub var_uint-size-small : (n : ℕ) → n < 128 → length (var_uint_bytes n) ≡ 1
var_uint-size-small n h = length-var_uint n ∙ ap suc (digit_count-zero 128 (n / 128) (omega arith))

pub var_int-size-small : (s : Bool) (n : ℕ) → n < 64 → length (var_int_bytes (signed s n)) ≡ 1
var_int-size-small s n h = length-var_int s n ∙ ap suc (digit_count-zero 128 (n / 64) (omega arith))

module _ (n : ℕ) (h : n < 2 ^ 64) where
  pub var_uint-size : 0 < n → length (var_uint_bytes n) ≡ (bits_used n - 1) / 7 + 1
  var_uint-size p =
      let b = bits_used_pos n p h in
      length-var_uint n ∙ (ap suc (digit_count_by_zeros 7 7 ((bits_used n - 1) / 7) n (omega arith) h (omega arith) (λ k. omega arith)) ∙ omega arith)

  pub var_int-size : (s : Bool) → length (var_int_bytes (signed s n)) ≡ bits_used n / 7 + 1
  var_int-size s = length-var_int s n ∙ (ap suc (digit_count_by_zeros 7 6 (bits_used n / 7) n (omega arith) h (omega arith) (λ k. omega arith)) ∙ omega arith)

  pub uint-size : length (uint_bytes n) ≡ (bits_used n + 7) / 8
  uint-size =
      length-uint n
      ∙ (ap (digit_count 256) (sym (div-one n))
      ∙ digit_count_by_zeros 8 0 ((bits_used n + 7) / 8) n (omega arith) h (omega arith) (λ k. omega arith))

  pub int-size : 0 < n → length (int_bytes false (uint_bytes n)) ≡ bits_used n / 8 + 1
  int-size p =
      ap length (int_fixed n p)
      ∙ (length_fixed (suc (digit_count 256 (n / 128))) n
      ∙ (ap suc (digit_count_by_zeros 8 7 (bits_used n / 8) n (omega arith) h (omega arith) (λ k. omega arith)) ∙ omega arith))

-- what the sizes of the code are by
pub ruleset sizes = (bits_used_pos, var_uint-size-small, var_uint-size, var_int-size-small, var_int-size, uint-size, int_of_zero, int-size)

-- ---- at least and at most

pub var_uint_least : (n : ℕ) → 1 ≤ length (var_uint_bytes n)
var_uint_least n = rw (length-var_uint n) (omega arith)

-- one byte holds a number below d, and each byte more a digit more in base b
most-digits : (b d k n : ℕ) → 2 ≤ b → 0 < d → n < b ^ k * d → suc (digit_count b (n / d)) ≤ suc k
most-digits b d k n two p h = omega (arith, digit_count_least b two (n / d) k ((div-lt_iff_lt-mul {k = d} {x = n} {y = b ^ k} p).1 h))

pub var_uint_within : (k n : ℕ) → n < 128 ^ k * 128 → length (var_uint_bytes n) ≤ suc k
var_uint_within k n h = rw (length-var_uint n) (most-digits 128 128 k n (omega arith) (omega arith) h)

pub var_uint-most : (n : ℕ) → n < 2 ^ 64 → length (var_uint_bytes n) ≤ 10
var_uint-most n h = var_uint_within 9 n (omega arith)

pub var_int_least_two : (s : Bool) (n : ℕ) → 64 ≤ n → 2 ≤ length (var_int_bytes (signed s n))
var_int_least_two s n h = rw (length-var_int s n) (omega (arith, digit_count_pos 128 (n / 64) (omega arith)))

pub var_int_within : (s : Bool) (k n : ℕ) → n < 128 ^ k * 64 → length (var_int_bytes (signed s n)) ≤ suc k
var_int_within s k n h = rw (length-var_int s n) (most-digits 128 64 k n (omega arith) (omega arith) h)

pub var_int-most : (s : Bool) (n : ℕ) → n < 2 ^ 64 → length (var_int_bytes (signed s n)) ≤ 10
var_int-most s n h = var_int_within s 9 n (omega arith)

pub uint_least : (n : ℕ) → 0 < n → 1 ≤ length (uint_bytes n)
uint_least n p = rw (length-uint n) (digit_count_pos 256 n p)

pub uint-most : (n : ℕ) → n < 2 ^ 64 → length (uint_bytes n) ≤ 8
uint-most n h = rw (length-uint n) (digit_count_least 256 (omega arith) n 8 h)

-- an Int without sign: its top bit is clear
pub int_within : (k n : ℕ) → n < 256 ^ k * 128 → length (int_bytes false (uint_bytes n)) ≤ suc k
int_within k n h = ⊎_elim
    (λ z. rw (int_of_zero n z) (omega arith))
    (λ p. rw (int_fixed n p, length_fixed (suc (digit_count 256 (n / 128))) n) (most-digits 256 128 k n (omega arith) (omega arith) h))
    (eq-zero-or-pos n)
