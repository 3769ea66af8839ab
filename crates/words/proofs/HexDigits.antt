-- The laws of hex, by which readings and writings digit by digit are proved: each turn takes one digit, or one byte, from the rest.
-- Assumes nothing.
use mathlib.Core.Path.{◌≡◌, refl, sym, ◌∙◌, ap}
use mathlib.Core.List.{List, [], ◌∷◌, ◌++◌, map, append_assoc, append-nil}
use mathlib.Core.Bool.{Bool, true, false, ◌&&◌, and-eq-true_iff}
use Prim.Native.Nat.{ℕ, zero, suc, ◌+◌, ◌-◌, ◌*◌, ◌/◌, ◌%◌, ◌^◌, ◌≤◌, ◌<◌}
use native.Mathlib.Omega.{arith}
use native.Mathlib.Numerals.{add-one}
use native.Mathlib.Nat.{zero-add}
use lib.Dec.{leb}
use borrow.Author.Tests.{leb-true, lt-ltb}
use Rattle.std.specs.Prelude.{Some, None, unwrap_or}
use Rattle.std.proofs.lemmas.List.{get_or_past}
use lib.ListN.{length, take, drop, get_or, set, replicate, length-replicate, get_or-replicate, length-append, length-map, drop_of_length-le}
use lib.ListN.{get_or-append, get_or-map}
use lib.Seq.{drop-cons, length-take-le, get_or-append-add, take-suc, paste, paste-suc}
use Rattle.buffer.specs.Laid.{laid}
use Rattle.buffer.proofs.Laid.{laid_nil, laid_snoc}
use Rattle.words.specs.Numbers.{is_digit}
use Rattle.words.specs.Hex.{is_hex_letter, hex_digit, are_hex_digits, is_hex, hex_value, hex_behind, pairs, padded, hex_bytes, hex_glyph, hex_text}

-- ---- one digit

pub value_within : (b : ℕ) → hex_value b ≤ 15
unfolding is_digit is_hex_letter hex_digit
value_within b = go (is_digit b) refl
  where
    letter : (t : Bool) → is_hex_letter b ≡ t → unwrap_or (elim t [ true ↦ Some (b - 97 + 10) | false ↦ None ]) 0 ≤ 15
    letter true e = let h = leb-true b 102 ((and-eq-true_iff (leb 97 b) (leb b 102)).0 e).1 in omega arith
    letter false e = omega arith

    go : (t : Bool) → is_digit b ≡ t → unwrap_or (elim t [ true ↦ Some (b - 48) | false ↦ elim (is_hex_letter b) [ true ↦ Some (b - 97 + 10) | false ↦ None ] ]) 0 ≤ 15
    go true e = let h = leb-true b 57 ((and-eq-true_iff (leb 48 b) (leb b 57)).0 e).1 in omega arith
    go false e = letter (is_hex_letter b) refl

-- ---- a word of digits

and_true : (t : Bool) → t ≡ (t && true)
and_true true = refl
and_true false = refl

pub hex_some : (s : List ℕ) → 0 < length s → are_hex_digits s ≡ is_hex s
unfolding is_hex
hex_some s h = rw (is_hex, lt-ltb 0 (length s) h) (and_true (are_hex_digits s))

pub hex_none : (s : List ℕ) → length s ≡ 0 → false ≡ is_hex s
unfolding is_hex
hex_none [] h = refl
hex_none (b ∷ s) h = absurd (omega arith)

-- ---- a number, of which the lowest 64 bits are kept

pub congruent : (m n : ℕ) (s : List ℕ) → m % 2 ^ 64 ≡ n % 2 ^ 64 → hex_behind m s % 2 ^ 64 ≡ hex_behind n s % 2 ^ 64
unfolding hex_behind
congruent m n [] e = e
congruent m n (b ∷ s) e = congruent (m * 16 + hex_value b) (n * 16 + hex_value b) s (omega arith)

pub behind_next : (n : ℕ) (s : List ℕ) (i : ℕ) → i < length s → hex_behind n (drop i s) ≡ hex_behind (n * 16 + hex_value (get_or s i 0)) (drop (i + 1) s)
unfolding hex_behind
behind_next n s i h = rw (add-one, drop-cons s i 0 h)

pub behind_end : (n : ℕ) (s : List ℕ) (i : ℕ) → length s ≤ i → hex_behind n (drop i s) ≡ n
unfolding hex_behind
behind_end n s i h = rw (drop_of_length-le s h)

-- ---- the bytes of digits

module _ (zeros : ℕ) (s : List ℕ) (i : ℕ) where
  pub padded_zero : i < zeros → 0 ≡ get_or (padded zeros s) i 0
  unfolding padded
  padded_zero h = sym (get_or-append (replicate zeros 0) (map hex_value s) 0 i (rw (length-replicate {A = ℕ} zeros 0) h) ∙ get_or-replicate zeros i 0 0 h)

  pub padded_digit : zeros ≤ i → hex_value (get_or s (i - zeros) 0) ≡ get_or (padded zeros s) i 0
  unfolding padded is_digit is_hex_letter hex_digit
  padded_digit h =
      let e : length {A = ℕ} (replicate zeros 0) + (i - zeros) ≡ i = omega (arith, length-replicate {A = ℕ} zeros 0) in
      sym (get_or-map hex_value s (i - zeros) 0)
      ∙ (sym (get_or-append-add (replicate zeros 0) (map hex_value s) (i - zeros) 0) ∙ ap (λ k. get_or (replicate zeros 0 ++ map hex_value s) k 0) e)

  pub padded_end : zeros ≤ i → length s ≤ i - zeros → 0 ≡ get_or (padded zeros s) i 0
  unfolding is_digit is_hex_letter hex_digit
  padded_end low past = ap hex_value (sym (get_or_past s (i - zeros) 0 past)) ∙ padded_digit low

length-padded : (zeros : ℕ) (s : List ℕ) → length (padded zeros s) ≡ zeros + length s
unfolding padded
length-padded zeros s = rw (length-append (replicate zeros 0) (map hex_value s), length-replicate {A = ℕ} zeros 0, length-map s hex_value)

length_pairs : (p : List ℕ) → length (pairs p) ≡ length p / 2
unfolding pairs
length_pairs [] = refl
length_pairs (a ∷ []) = refl
length_pairs (a ∷ b ∷ p) = omega (arith, length_pairs p)

pairs_at : (p : List ℕ) (i : ℕ) → i < length p / 2 → get_or (pairs p) i 0 ≡ get_or p (2 * i) 0 * 16 + get_or p (2 * i + 1) 0
unfolding pairs
pairs_at [] i h = absurd (omega arith)
pairs_at (a ∷ []) i h = absurd (omega arith)
pairs_at (a ∷ b ∷ p) zero h = refl
pairs_at (a ∷ b ∷ p) (suc i) h =
    let k : 2 * suc i ≡ suc (suc (2 * i)) = omega arith in
    let m : 2 * suc i + 1 ≡ suc (suc (2 * i + 1)) = omega arith in
    rw (m, k) (pairs_at p i (omega arith))

pub length-bytes : (s : List ℕ) → length (hex_bytes s) ≡ length s / 2 + length s % 2
unfolding hex_bytes
length-bytes s = omega (arith, length_pairs (padded (length s % 2) s), length-padded (length s % 2) s)

-- one byte more at the start of a buffer
store_next : (d s : List ℕ) (i : ℕ) → i < length d → i < length s → set (paste d 0 s i) i (get_or s i 0) ≡ paste d 0 s (i + 1)
store_next d s i h k =
    ap (λ n. set (paste d 0 s i) n (get_or s i 0)) (sym (zero-add i)) ∙ (paste-suc d 0 s i 0 (rw zero-add h) k ∙ ap (paste d 0 s) (sym (add-one i)))

-- the start of a buffer that is filled, with what follows it
pub filled_front : (d s l : List ℕ) (n : ℕ) → n ≤ length d → l ≡ paste (take n d) 0 s n → l ++ drop n d ≡ paste d 0 s n
filled_front d s l n h e =
    let none : drop (0 + n) (take n d) ≡ [] = drop_of_length-le (take n d) (omega (arith, length-take-le n d h)) in
    ap (λ x. x ++ drop n d) (e ∙ (ap (λ x. take n s ++ x) none ∙ append-nil (take n s))) ∙ ap (λ k. take n s ++ drop k d) (sym (zero-add n))

-- and that byte is made of two digits
pub bytes_next : (d s out : List ℕ) (i high low : ℕ) → out ≡ paste d 0 (hex_bytes s) i → i < length d → i < length s / 2 + length s % 2 →
    high ≡ get_or (padded (length s % 2) s) (2 * i) 0 → low ≡ get_or (padded (length s % 2) s) (2 * i + 1) 0
    → set out i (high * 16 + low) ≡ paste d 0 (hex_bytes s) (i + 1)
unfolding hex_bytes
bytes_next d s out i high low e room h first second =
    let p = padded (length s % 2) s in
    let n : i < length p / 2 = omega (arith, length-padded (length s % 2) s) in
    let v : high * 16 + low ≡ get_or (pairs p) i 0 = omega (arith, pairs_at p i n) in
    rw (e, v) (store_next d (pairs p) i room (omega (arith, length_pairs p)))

-- ---- the text of bytes

pub length_text : (s : List ℕ) → length (hex_text s) ≡ 2 * length s
unfolding hex_text
length_text [] = refl
length_text (b ∷ s) = omega (arith, length_text s)

text_append : (s t : List ℕ) → hex_text (s ++ t) ≡ hex_text s ++ hex_text t
unfolding hex_text
text_append [] t = refl
text_append (b ∷ s) t = ap (λ l. hex_glyph (b / 16) ∷ hex_glyph b ∷ l) (text_append s t)

text_next : (s : List ℕ) (i : ℕ) → i < length s → hex_text (take (i + 1) s) ≡ hex_text (take i s) ++ (hex_glyph (get_or s i 0 / 16) ∷ hex_glyph (get_or s i 0) ∷ [])
unfolding hex_text
text_next s i h = rw (add-one, take-suc s i 0 h) (text_append (take i s) (get_or s i 0 ∷ []))

pub text_nothing : (d : List ℕ) (at : ℕ) → d ≡ laid d at (hex_text [])
unfolding hex_text
text_nothing d at = sym (laid_nil d at)

-- the two digits of one byte more, behind those laid already
pub text_laid : (d : List ℕ) (at : ℕ) (s : List ℕ) (i : ℕ) (out : List ℕ) (high low : ℕ) → out ≡ laid d at (hex_text (take i s)) → i < length s →
    at + 2 * length s ≤ length d → high ≡ hex_glyph (get_or s i 0 / 16) → low ≡ hex_glyph (get_or s i 0) →
    set (set out (at + 2 * i) high) (at + 2 * i + 1) low ≡ laid d at (hex_text (take (i + 1) s))
text_laid d at s i out high low e h room first second =
    let x = hex_text (take i s) in
    let n : length x ≡ 2 * i = omega (arith, length_text (take i s), length-take-le i s (omega arith)) in
    let m : length (x ++ (high ∷ [])) ≡ 2 * i + 1 = length-append x (high ∷ []) ∙ omega arith in
    rw e
    (ap (λ l. set l (at + 2 * i + 1) low) (laid_snoc d at x (at + 2 * i) high (omega arith) (omega arith))
    ∙ (laid_snoc d at (x ++ (high ∷ [])) (at + 2 * i + 1) low (omega arith) (omega arith)
    ∙ ap (laid d at) (append_assoc x (high ∷ []) (low ∷ []) ∙ rw (first, second) (sym (text_next s i h)))))
