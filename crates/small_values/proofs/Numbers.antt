-- The strings of n bytes are the digits of the numbers below 256 ^ n, in the order of these numbers.
-- Assumes nothing.
use Prim.Native.Nat.{ℕ, zero, suc, ◌+◌, ◌*◌, ◌/◌, ◌%◌, ◌^◌, ◌<◌}
use native.Mathlib.Omega.{arith}
use native.Mathlib.Nat.{div-add-mod', mod-lt, div-lt_iff_lt-mul, div-eq_of_lt-le, mul-add-mod_self_right, mod-eq_of_lt}
use native.Mathlib.Nat.{pow-zero, pow-suc}
use mathlib.Core.Path.{◌≡◌, refl, sym, ◌∙◌}
use mathlib.Core.Logic.{◌⊎◌, inl, inr, ⊎_elim}
use mathlib.Core.Bool.{Bool, true, false, false≢true, ◌&&◌, ◌||◌}
use mathlib.Core.List.{List, [], ◌∷◌, ◌++◌}
use lib.Dec.{ltb, eqb}
use lib.ListN.{length}
use borrow.Author.Tests.{lt-ltb, le-ltb, eq-eqb, ltb-true, ltb-false}
use Rattle.ion.specs.Fields.{big_endian, uint}
use Rattle.ion.proofs.Tests.{by_cases}
use Rattle.ion.proofs.Bytes.{Bytes, big_endian_above, big_endian-below}
use Rattle.encoding.specs.Digits.{low_digits}
use Rattle.encoding.specs.Fields.{AllBelow}
use Rattle.encoding.proofs.Digits.{length-low_digits, low_digits-first}
use Rattle.small_values.specs.Order.{by_bytes, precedes}
use Rattle.small_values.proofs.Order.{Less, less}

-- ---- the order by bytes, with one byte more at the end

told : (x y : ℕ) (r : Bool) → Less x y r → (ltb x y || (eqb x y && r)) ≡ true
told x y r (inl p) = rw (lt-ltb x y p) refl
told x y r (inr p) = rw (le-ltb x y (omega (arith, p.0)), eq-eqb x y p.0) p.1

more_same : (l : List ℕ) (x y : ℕ) → x < y → by_bytes (l ++ (x ∷ [])) (l ++ (y ∷ [])) ≡ true
unfolding by_bytes
more_same [] x y h = told x y false (inl h)
more_same (a ∷ l) x y h = told a a (by_bytes (l ++ (x ∷ [])) (l ++ (y ∷ []))) (inr (refl, more_same l x y h))

more_less : (l m : List ℕ) (x y : ℕ) → by_bytes l m ≡ true → by_bytes (l ++ (x ∷ [])) (m ++ (y ∷ [])) ≡ true
unfolding by_bytes
more_less [] m x y h = absurd (false≢true h)
more_less (a ∷ l) [] x y h = absurd (false≢true h)
more_less (a ∷ l) (b ∷ m) x y h =
    told a b (by_bytes (l ++ (x ∷ [])) (m ++ (y ∷ [])))
    (⊎_elim (λ p. inl p) (λ p. inr (p.0, more_less l m x y p.1)) (less a b (by_bytes l m) h))

-- ---- the order of the numbers

-- a lower number has the lower quotient, or the same one and the lower rest
quotients : (x y : ℕ) → x < y → (x / 256 < y / 256) ⊎ ((x / 256 ≡ y / 256) × (x % 256 < y % 256))
quotients x y h =
    let a = div-add-mod' x 256 in
    let b = div-add-mod' y 256 in
    let c : x % 256 < 256 = mod-lt x (omega arith) in
    let d : y % 256 < 256 = mod-lt y (omega arith) in
    by_cases (ltb (x / 256) (y / 256))
    (λ e. inl (ltb-true (x / 256) (y / 256) e))
    (λ e. let f = ltb-false (x / 256) (y / 256) e in inr (omega (arith, a, b, c, d, f), omega (arith, a, b, c, d, f)))

quotient_below : (n y : ℕ) → y < 256 ^ suc n → y / 256 < 256 ^ n
quotient_below n y k = (div-lt_iff_lt-mul {k = 256} {x = y} {y = 256 ^ n} (omega arith)).1 (rw (pow-suc 256 n) at k)

by_bytes-numbers : (n x y : ℕ) → x < y → y < 256 ^ n → by_bytes (low_digits 256 n x) (low_digits 256 n y) ≡ true
unfolding low_digits
by_bytes-numbers zero x y h k = let z : y < 1 = rw (pow-zero 256) at k in absurd (omega arith)
by_bytes-numbers (suc n) x y h k = ⊎_elim
    (λ p.
    let i = by_bytes-numbers n (x / 256) (y / 256) p (quotient_below n y k) in
    more_less (low_digits 256 n (x / 256)) (low_digits 256 n (y / 256)) (x % 256) (y % 256) i)
    (λ p. rw p.0 (more_same (low_digits 256 n (y / 256)) (x % 256) (y % 256) p.1))
    (quotients x y h)

pub precedes-numbers : (n x y : ℕ) → x < y → y < 256 ^ n → precedes (low_digits 256 n x) (low_digits 256 n y) ≡ true
unfolding precedes
precedes-numbers n x y h k =
    told (length (low_digits 256 n x)) (length (low_digits 256 n y)) (by_bytes (low_digits 256 n x) (low_digits 256 n y))
    (inr (length-low_digits 256 n x ∙ sym (length-low_digits 256 n y), by_bytes-numbers n x y h k))

-- ---- digits are bytes

below_more : (m : ℕ) (l : List ℕ) (x : ℕ) → AllBelow m l → x < m → AllBelow m (l ++ (x ∷ []))
below_more m [] x h p = (p, tt)
below_more m (a ∷ l) x h p = (h.0, below_more m l x h.1 p)

pub digits-bytes : (n x : ℕ) → AllBelow 256 (low_digits 256 n x)
unfolding low_digits
digits-bytes zero x = tt
digits-bytes (suc n) x = below_more 256 (low_digits 256 n (x / 256)) (x % 256) (digits-bytes n (x / 256)) (mod-lt x (omega arith))

-- ---- the number of a string

each_below : (b : List ℕ) → AllBelow 256 b → Bytes b
each_below [] h i = omega arith
each_below (x ∷ b) h zero = h.0
each_below (x ∷ b) h (suc i) = each_below b h.1 i

pub number-below : (b : List ℕ) → AllBelow 256 b → uint b < 256 ^ length b
number-below b h = omega (arith, big_endian-below 0 b (each_below b h))

without_digits : (acc : ℕ) (b : List ℕ) → AllBelow 256 b → big_endian acc b / 256 ^ length b ≡ acc
without_digits acc b h = div-eq_of_lt-le {k = acc} (256 ^ length b) (big_endian_above acc b) (big_endian-below acc b (each_below b h))

first_digit : (acc x : ℕ) (b : List ℕ) → x < 256 → AllBelow 256 b → big_endian (acc * 256 + x) b / 256 ^ length b % 256 ≡ x
first_digit acc x b h k = rw (without_digits (acc * 256 + x) b k) (mul-add-mod_self_right acc 256 x ∙ mod-eq_of_lt h)

digits_from : (acc : ℕ) (b : List ℕ) → AllBelow 256 b → low_digits 256 (length b) (big_endian acc b) ≡ b
unfolding big_endian
digits_from acc [] h = unfold low_digits in refl
digits_from acc (x ∷ b) h =
    low_digits-first 256 (length b) (big_endian (acc * 256 + x) b)
    ∙ rw (first_digit acc x b h.0 h.1, digits_from (acc * 256 + x) b h.1) refl

pub digits_number : (b : List ℕ) → AllBelow 256 b → low_digits 256 (length b) (uint b) ≡ b
digits_number b h = digits_from 0 b h
