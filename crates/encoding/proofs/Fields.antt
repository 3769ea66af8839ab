-- The fields that the writer puts read back as what they were made of.
-- Assumes nothing.
use Prim.Native.Nat.{ℕ, zero, suc, ◌+◌, ◌*◌, ◌/◌, ◌%◌, ◌^◌, ◌<◌}
use native.Mathlib.Omega.{arith}
use native.Mathlib.Nat.{div-add-mod', mod-lt, div-lt_iff_lt-mul, mul_comm, one-le-pow}
use mathlib.Core.Path.{◌≡◌, refl, sym, ◌∙◌, ap, subst}
use mathlib.Core.Bool.{Bool, true, false}
use mathlib.Core.List.{List, [], ◌∷◌, ◌++◌, append-nil, append_assoc}
use mathlib.Core.Option.{some}
use lib.Dec.{ltb, leb, eqb}
use lib.IntN.{ℤ, pos, negsuc}
use borrow.Author.Tests.{ltb-true, lt-ltb, le-ltb, le-leb, lt-leb, eqb-true}
use Rattle.ion.specs.Value.{signed}
use Rattle.ion.specs.Fields.{big_endian, uint, int_field, groups, var_uint, VarUInt, is_i64, give_sign, var_int}
use Rattle.ion.proofs.Tests.{by_cases}
use Rattle.encoding.specs.Digits.{low_digits, digit_count}
use Rattle.encoding.specs.Fields.{var_uint_bytes, var_uints_bytes, sign_bit, var_int_groups, var_int_bytes, signed_of, uint_bytes, trimmed, or_zero, top_bit}
use Rattle.encoding.specs.Fields.{int_bytes, IsI64}
use Rattle.encoding.proofs.Digits.{digit_count-below, groups-low_digits, groups-digits, big_endian-digits, above}

-- ---- VarUInt

pub var_uints_snoc : (ns : List ℕ) (n : ℕ) → var_uints_bytes (ns ++ (n ∷ [])) ≡ var_uints_bytes ns ++ var_uint_bytes n
unfolding var_uints_bytes
var_uints_snoc [] n = append-nil (var_uint_bytes n)
var_uints_snoc (m ∷ ns) n = rw (var_uints_snoc ns n) (sym (append_assoc (var_uint_bytes m) (var_uints_bytes ns) (var_uint_bytes n)))

groups_last : (acc d : ℕ) (r : List ℕ) → d < 128 → groups acc ((0x80 + d) ∷ r) ≡ some (acc * 128 + d, r)
unfolding groups
groups_last acc d r h =
    let m : (0x80 + d) % 128 ≡ d = omega arith in
    rw (le-ltb (0x80 + d) 0x80 (omega arith), groups, m)

-- the last group of n, behind the others
groups_end : (n : ℕ) (r : List ℕ) → groups (n / 128) ((0x80 + n % 128) ∷ r) ≡ some (n, r)
groups_end n r = groups_last (n / 128) (n % 128) r (mod-lt n (omega arith)) ∙ ap (λ (k : ℕ). some (k, r)) (div-add-mod' n 128)

pub var_uint_bytes-reads : (n : ℕ) → n < 2 ^ 64 → VarUInt (var_uint_bytes n) n
unfolding var_uint_bytes var_uint
var_uint_bytes-reads n h = rw (groups-digits (n / 128) ((0x80 + n % 128) ∷ []) ∙ groups_end n [], lt-ltb n (2 ^ 64) h)

-- ---- VarInt

sign_only : (s : Bool) (n : ℕ) (r : List ℕ) → n < 64 → var_int ((0x80 + sign_bit s + n) ∷ r) ≡ give_sign s (some (n, r))
unfolding var_int
sign_only true n r h =
    let d : (0x80 + 0x40 + n) / 64 % 2 ≡ 1 = omega arith in
    let m : (0x80 + 0x40 + n) % 64 ≡ n = omega arith in
    rw (le-ltb (0x80 + 0x40 + n) 0x80 (omega arith), var_int, d, m)
sign_only false n r h =
    let d : (0x80 + 0 + n) / 64 % 2 ≡ 0 = omega arith in
    let m : (0x80 + 0 + n) % 64 ≡ n = omega arith in
    rw (le-ltb (0x80 + 0 + n) 0x80 (omega arith), var_int, d, m)

sign_first : (s : Bool) (n : ℕ) (r : List ℕ) → n < 64 → var_int ((sign_bit s + n) ∷ r) ≡ give_sign s (groups n r)
unfolding var_int
sign_first true n r h =
    let d : (0x40 + n) / 64 % 2 ≡ 1 = omega arith in
    let m : (0x40 + n) % 64 ≡ n = omega arith in
    rw (lt-ltb (0x40 + n) 0x80 (omega arith), var_int, d, m)
sign_first false n r h =
    let d : (0 + n) / 64 % 2 ≡ 0 = omega arith in
    let m : (0 + n) % 64 ≡ n = omega arith in
    rw (lt-ltb (0 + n) 0x80 (omega arith), var_int, d, m)

-- six bits are left for the first byte
pub first_six : (n k : ℕ) → n / 64 < 128 ^ k → n / 128 ^ k < 64
first_six n k h =
    (div-lt_iff_lt-mul {k = 128 ^ k} (one-le-pow k 128 (omega arith))).1
    (subst (λ (x : ℕ). n < x) (mul_comm (128 ^ k) 64) ((div-lt_iff_lt-mul {k = 64} (omega arith)).0 h))

var_int_groups-reads : (s : Bool) (k n : ℕ) (r : List ℕ) → n / 64 < 128 ^ k → var_int (var_int_groups s k n ++ r) ≡ give_sign s (some (n, r))
unfolding var_int_groups
var_int_groups-reads s zero n r h = sign_only s n r (omega arith)
var_int_groups-reads s (suc k) n r h =
    rw (sign_first s (n / 128 ^ suc k) ((low_digits 128 k (n / 128) ++ ((0x80 + n % 128) ∷ [])) ++ r) (first_six n (suc k) h), append_assoc)
    (ap (give_sign s) (groups-low_digits k (n / 128) (n / 128 ^ suc k) ((0x80 + n % 128) ∷ r) (above 128 n k) ∙ groups_end n r))

pub var_int_bytes-reads : (s : Bool) (n : ℕ) (r : List ℕ) → is_i64 (signed s n) ≡ true → var_int (var_int_bytes (signed s n) ++ r) ≡ some (signed s n, r)
unfolding var_int_bytes
var_int_bytes-reads s n r h = var_int_groups-reads s (digit_count 128 (n / 64)) n r (digit_count-below 128 (omega arith) (n / 64)) ∙ rw h

-- an offset or exponent within signed 64 bits
pub signed_reads : (z : ℤ) (r : List ℕ) → IsI64 z → var_int (var_int_bytes (signed_of z) ++ r) ≡ some (signed_of z, r)
signed_reads (pos n) r h = var_int_bytes-reads false n r (lt-ltb n (2 ^ 63) h)
signed_reads (negsuc n) r h = var_int_bytes-reads true (suc n) r (le-leb (suc n) (2 ^ 63) h)

-- ---- UInt

pub uint_bytes-reads : (n : ℕ) → uint (uint_bytes n) ≡ n
unfolding uint_bytes
uint_bytes-reads n = big_endian-digits n

big_endian-zero : (bs : List ℕ) → big_endian 0 (0 ∷ bs) ≡ big_endian 0 bs
unfolding big_endian
big_endian-zero bs = refl

-- leading zero bytes count for nothing
pub trimmed-same : (m : List ℕ) → uint (trimmed m) ≡ uint m
unfolding trimmed
trimmed-same [] = refl
trimmed-same (b ∷ bs) =
    by_cases (eqb b 0)
    (λ p. rw (p, trimmed, eqb-true b 0 p) (trimmed-same bs ∙ sym (big_endian-zero bs)))
    (λ p. rw (p, trimmed))

pub or_zero-same : (m : List ℕ) → uint (or_zero m) ≡ uint m
unfolding big_endian
or_zero-same [] = refl
or_zero-same (b ∷ bs) = refl

-- ---- Int

big_endian-first : (b : ℕ) (bs : List ℕ) → big_endian 0 (b ∷ bs) ≡ big_endian b bs
unfolding big_endian
big_endian-first b bs = let q : 0 * 256 + b ≡ b = omega arith in ap (λ (k : ℕ). big_endian k bs) q

-- a byte whose top bit is free, and the sign in it
top_free : (s : Bool) (b : ℕ) (bs : List ℕ) → b < 128 → int_field ((top_bit s + b) ∷ bs) ≡ signed s (big_endian b bs)
unfolding int_field
top_free false b bs h = let m : (0 + b) % 128 ≡ b = omega arith in rw (lt-leb 0x80 (0 + b) (omega arith), m)
top_free true b bs h = let m : (0x80 + b) % 128 ≡ b = omega arith in rw (le-leb 0x80 (0x80 + b) (omega arith), m)

pub int_bytes-reads : (s : Bool) (m : List ℕ) → int_field (int_bytes s m) ≡ signed s (uint m)
unfolding int_bytes
int_bytes-reads false [] = unfold int_field big_endian in refl
int_bytes-reads true [] = unfold int_field big_endian in refl
int_bytes-reads s (b ∷ bs) =
    by_cases (ltb b 0x80)
    (λ p. rw (p, int_bytes, top_free s b bs (ltb-true b 128 p), big_endian-first b bs))
    (λ p. rw (p, int_bytes) (added s))
  where
    added : (t : Bool) → int_field (top_bit t ∷ b ∷ bs) ≡ signed t (uint (b ∷ bs))
    added t = unfold int_field big_endian in (both_signs t)
      where
        both_signs : (t : Bool) → signed (leb 0x80 (top_bit t)) (big_endian (top_bit t % 128) (b ∷ bs)) ≡ signed t (big_endian 0 (b ∷ bs))
        both_signs false = refl
        both_signs true = refl
