-- Lists of bytes: what is left from an index on, and the number of a list, one byte more at its end and within the bounds of its length.
-- Assumes nothing.
use Prim.Native.Nat.{ℕ, suc, ◌+◌, ◌*◌, ◌^◌, ◌≤◌, ◌<◌}
use native.Mathlib.Omega.{arith}
use native.Mathlib.Numerals.{add-one}
use native.Mathlib.Nat.{pow-suc, mul_assoc, mul_comm, mul-le-mul_right}
use mathlib.Core.Path.{◌≡◌, refl, ◌∙◌, ap}
use mathlib.Core.List.{List, [], ◌∷◌, ◌++◌}
use lib.ListN.{length, drop, get_or}
use lib.Seq.{drop-cons}
use Rattle.ion.specs.Fields.{big_endian}

pub none_nil : (l : List ℕ) → length l ≡ 0 → l ≡ []
none_nil [] e = refl
none_nil (x ∷ xs) e = absurd (omega arith)

pub drop-next : (s : List ℕ) (i : ℕ) → i < length s → drop i s ≡ get_or s i 0 ∷ drop (i + 1) s
drop-next s i inside = rw (add-one i) (drop-cons s i 0 inside)

pub big_endian_snoc : (acc : ℕ) (l : List ℕ) (d : ℕ) → big_endian acc (l ++ (d ∷ [])) ≡ big_endian acc l * 256 + d
unfolding big_endian
big_endian_snoc acc [] d = refl
big_endian_snoc acc (x ∷ xs) d = big_endian_snoc (acc * 256 + x) xs d

-- ---- its bounds

-- the power that a byte more takes
turned : (x p : ℕ) → x * 256 * p ≡ x * (p * 256)
turned x p = mul_assoc x 256 p ∙ ap (λ (q : ℕ). x * q) (mul_comm 256 p)

pub big_endian_above : (acc : ℕ) (l : List ℕ) → acc * 256 ^ length l ≤ big_endian acc l
unfolding big_endian
big_endian_above acc [] = omega arith
big_endian_above acc (x ∷ l) =
    let s : acc * 256 * 256 ^ length l ≤ (acc * 256 + x) * 256 ^ length l = mul-le-mul_right (256 ^ length l) (omega arith) in
    rw (pow-suc 256 (length l)) (omega (arith, s, turned acc (256 ^ length l), big_endian_above (acc * 256 + x) l))

abbrev pub Bytes : List ℕ → Type 0
Bytes l = (i : ℕ) → get_or l i 0 < 256

pub big_endian-below : (acc : ℕ) (l : List ℕ) → Bytes l → big_endian acc l < (acc + 1) * 256 ^ length l
unfolding big_endian
big_endian-below acc [] h = omega arith
big_endian-below acc (x ∷ l) h =
    let s : (acc * 256 + x + 1) * 256 ^ length l ≤ (acc + 1) * 256 * 256 ^ length l = mul-le-mul_right (256 ^ length l) (omega (arith, h 0)) in
    rw (pow-suc 256 (length l)) (omega (arith, s, turned (acc + 1) (256 ^ length l), big_endian-below (acc * 256 + x) l (λ i. h (suc i))))
