-- Digits in a base: which they are, how many there are, and that they read back, as groups of a VarUInt and as a big-endian number.
-- By the powers of the base between which the number lies. Assumes nothing.
use Prim.Native.Nat.{ℕ, zero, suc, ◌+◌, ◌*◌, ◌/◌, ◌%◌, ◌^◌, ◌<◌, ◌≤◌}
use native.Mathlib.Omega.{arith}
use native.Mathlib.Nat.{div-add-mod', mod-lt, le-div_iff_mul-le, div-lt_iff_lt-mul, div-lt_self, div-eq_of_lt, div-div-eq-div-mul, div-one, le_trans}
use native.Mathlib.Nat.{mul_comm, mul-le-mul_left, pow-zero, pow-suc, eq-zero-or-pos}
use mathlib.Core.Path.{◌≡◌, refl, sym, ◌∙◌, ap}
use mathlib.Core.Logic.{⊎_elim}
use mathlib.Core.List.{List, [], ◌∷◌, ◌++◌, append_assoc}
use lib.ListN.{length, length-append}
use borrow.Author.Tests.{lt-ltb, eq-eqb, ne_eqb}
use Rattle.ion.specs.Fields.{big_endian, groups}
use Rattle.ion.proofs.Bytes.{big_endian_snoc}
use Rattle.encoding.specs.Digits.{low_digits, count_digits, digit_count, digits}

-- ---- the lowest digits

pub length-low_digits : (b k n : ℕ) → length (low_digits b k n) ≡ k
unfolding low_digits
length-low_digits b zero n = refl
length-low_digits b (suc k) n = simp (length-append, length-low_digits b k (n / b)) (omega arith)

pub length_digits : (b n : ℕ) → length (digits b n) ≡ digit_count b n
unfolding digits
length_digits b n = length-low_digits b (digit_count b n) n

-- the last of them
pub low_digits_last : (b k n : ℕ) → low_digits b (suc k) n ≡ low_digits b k (n / b) ++ (n % b ∷ [])
unfolding low_digits
low_digits_last b k n = refl

-- one digit less to come, and one more that is there
pub low_digits-next : (b k n : ℕ) (d : List ℕ) → low_digits b (suc k) n ++ d ≡ low_digits b k (n / b) ++ (n % b ∷ d)
unfolding low_digits
low_digits-next b k n d = append_assoc (low_digits b k (n / b)) _ d

-- none to come
pub low_digits-none : (b n : ℕ) (d : List ℕ) → low_digits b zero n ++ d ≡ d
unfolding low_digits
low_digits-none b n d = refl

-- the digits above the lowest k of n
pub above : (b n k : ℕ) → n / b ^ suc k ≡ n / b / b ^ k
above b n k = ap (λ (d : ℕ). n / d) (pow-suc b k ∙ mul_comm (b ^ k) b) ∙ sym (div-div-eq-div-mul n b (b ^ k))

-- the first of them
pub low_digits-first : (b k n : ℕ) → low_digits b (suc k) n ≡ n / b ^ k % b ∷ low_digits b k n
unfolding low_digits
low_digits-first b zero n = rw (pow-zero b, div-one n) refl
low_digits-first b (suc k) n = ap (λ (l : List ℕ). l ++ (n % b ∷ [])) (low_digits-first b k (n / b)) ∙ rw (above b n k) refl

-- ---- how many there are: the k for which n lies below b ^ k, and not below b ^ (k - 1)

-- n has k digits or more
abbrev pub Reaches : ℕ → ℕ → ℕ → Type 0
Reaches b zero n = Unit {0}
Reaches b (suc k) n = b ^ k ≤ n

count_zero : (b most n : ℕ) → n ≡ 0 → count_digits b most n ≡ 0
unfolding count_digits
count_zero b zero n z = refl
count_zero b (suc most) n z = rw (count_digits, eq-eqb n 0 z) refl

count_more : (b most n : ℕ) → 0 < n → count_digits b (suc most) n ≡ suc (count_digits b most (n / b))
unfolding count_digits
count_more b most n p = rw (count_digits, ne_eqb n 0 (λ z. omega arith)) refl

pub digit_count-zero : (b n : ℕ) → n ≡ 0 → digit_count b n ≡ 0
unfolding digit_count
digit_count-zero b n z = count_zero b n n z

pub digit_count_pos : (b n : ℕ) → 0 < n → 0 < digit_count b n
unfolding digit_count
digit_count_pos b zero p = absurd (omega arith)
digit_count_pos b (suc n) p = rw (count_more b n (suc n) p) (omega arith)

module _ (b : ℕ) (two : 2 ≤ b) where
  below_power : (k : ℕ) → suc k ≤ b ^ k
  below_power zero = rw (pow-zero b) (omega arith)
  below_power (suc k) = let h = below_power k in let d : b ^ k * 2 ≤ b ^ k * b = mul-le-mul_left (b ^ k) two in rw (pow-suc b k) (omega arith)

  -- a digit less of n / b than of n
  reaches_less : (k n : ℕ) → Reaches b (suc k) n → Reaches b k (n / b)
  reaches_less zero n r = tt
  reaches_less (suc k) n r = (le-div_iff_mul-le {k = b} {x = b ^ k} {y = n} (omega arith)).1 (rw (pow-suc b k) at r)

  reaches_more : (k n : ℕ) → 0 < n → Reaches b k (n / b) → Reaches b (suc k) n
  reaches_more zero n p r = rw (pow-zero b) (omega arith)
  reaches_more (suc k) n p r = rw (pow-suc b k) ((le-div_iff_mul-le {k = b} {x = b ^ k} {y = n} (omega arith)).0 r)

  below_less : (k n : ℕ) → n < b ^ suc k → n / b < b ^ k
  below_less k n h = (div-lt_iff_lt-mul {k = b} {x = n} {y = b ^ k} (omega arith)).1 (rw (pow-suc b k) at h)

  below_more : (k n : ℕ) → n / b < b ^ k → n < b ^ suc k
  below_more k n h = rw (pow-suc b k) ((div-lt_iff_lt-mul {k = b} {x = n} {y = b ^ k} (omega arith)).0 h)

  count_is : (k most n : ℕ) → k ≤ most → n < b ^ k → Reaches b k n → count_digits b most n ≡ k
  count_is zero most n m h r = let z : n < 1 = rw (pow-zero b) at h in count_zero b most n (omega arith)
  count_is (suc k) zero n m h r = absurd (omega arith)
  count_is (suc k) (suc most) n m h r =
      let p = below_power k in
      count_more b most n (omega arith)
      ∙ ap suc (count_is k most (n / b) (omega arith) (below_less k n h) (reaches_less k n r))

  pub digit_count_is : (k n : ℕ) → n < b ^ k → Reaches b k n → digit_count b n ≡ k
  unfolding digit_count
  digit_count_is zero n h r = count_is zero n n (omega arith) h r
  digit_count_is (suc k) n h r = count_is (suc k) n n (le_trans (below_power k) r) h r

  count_bounds : (most n : ℕ) → n ≤ most → (n < b ^ count_digits b most n) × Reaches b (count_digits b most n) n
  count_bounds zero n m = let z : n ≡ 0 = omega arith in rw (count_zero b 0 n z, pow-zero b) (omega arith, tt)
  count_bounds (suc most) n m = ⊎_elim
      (λ z. rw (count_zero b (suc most) n z, pow-zero b) (omega arith, tt))
      (λ p.
      let l : n / b < n = div-lt_self {n = n} {k = b} p (omega arith) in
      let i = count_bounds most (n / b) (omega arith) in
      rw (count_more b most n p) (below_more (count_digits b most (n / b)) n i.0, reaches_more (count_digits b most (n / b)) n p i.1))
      (eq-zero-or-pos n)

  pub digit_count-below : (n : ℕ) → n < b ^ digit_count b n
  unfolding digit_count
  digit_count-below n = (count_bounds n n (omega arith)).0

  pub digit_count_reaches : (n : ℕ) → Reaches b (digit_count b n) n
  unfolding digit_count
  digit_count_reaches n = (count_bounds n n (omega arith)).1

  count_least : (most n k : ℕ) → n < b ^ k → count_digits b most n ≤ k
  unfolding count_digits
  count_least zero n k h = omega arith
  count_least (suc most) n zero h = let z : n < 1 = rw (pow-zero b) at h in rw (count_zero b (suc most) n (omega arith)) (omega arith)
  count_least (suc most) n (suc k) h = ⊎_elim
      (λ z. rw (count_zero b (suc most) n z) (omega arith))
      (λ p. rw (count_more b most n p) (omega (arith, count_least most (n / b) k (below_less k n h))))
      (eq-zero-or-pos n)

  -- no digit more than are needed to hold n
  pub digit_count_least : (n k : ℕ) → n < b ^ k → digit_count b n ≤ k
  unfolding digit_count
  digit_count_least n k h = count_least n n k h

-- ---- they read back

nothing_above : (b n k : ℕ) → n < b ^ k → 0 ≡ n / b ^ k
nothing_above b n k h = sym (div-eq_of_lt h)

groups_more : (acc d : ℕ) (r : List ℕ) → d < 128 → groups acc (d ∷ r) ≡ groups (acc * 128 + d) r
unfolding groups
groups_more acc d r h = rw (lt-ltb d 128 h, groups)

pub groups-low_digits : (k n acc : ℕ) (r : List ℕ) → acc ≡ n / 128 ^ k → groups acc (low_digits 128 k n ++ r) ≡ groups n r
unfolding low_digits
groups-low_digits zero n acc r e = ap (λ (x : ℕ). groups x r) (e ∙ div-one n)
groups-low_digits (suc k) n acc r e =
    rw (
      append_assoc,
      groups-low_digits k (n / 128) acc (n % 128 ∷ r) (e ∙ above 128 n k),
      groups_more (n / 128) (n % 128) r (mod-lt n (omega arith)),
      div-add-mod' n 128,
    )

pub groups-digits : (n : ℕ) (r : List ℕ) → groups 0 (digits 128 n ++ r) ≡ groups n r
unfolding digits
groups-digits n r = groups-low_digits (digit_count 128 n) n 0 r (nothing_above 128 n (digit_count 128 n) (digit_count-below 128 (omega arith) n))

big_endian-low_digits : (k n acc : ℕ) → acc ≡ n / 256 ^ k → big_endian acc (low_digits 256 k n) ≡ n
unfolding low_digits
big_endian-low_digits zero n acc e = unfold big_endian in (e ∙ div-one n)
big_endian-low_digits (suc k) n acc e = rw (big_endian_snoc, big_endian-low_digits k (n / 256) acc (e ∙ above 256 n k), div-add-mod' n 256)

-- k bytes that hold n
pub big_endian_fixed : (k n : ℕ) → n < 256 ^ k → big_endian 0 (low_digits 256 k n) ≡ n
big_endian_fixed k n h = big_endian-low_digits k n 0 (nothing_above 256 n k h)

pub big_endian-digits : (n : ℕ) → big_endian 0 (digits 256 n) ≡ n
unfolding digits
big_endian-digits n = big_endian_fixed (digit_count 256 n) n (digit_count-below 256 (omega arith) n)
