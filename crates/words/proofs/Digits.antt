-- The laws of numbers in base ten, by which a reading digit by digit is proved: at each index the rest is read behind the number so far.
-- Assumes nothing.
use mathlib.Core.Path.{◌≡◌, refl}
use mathlib.Core.List.{List, [], ◌∷◌}
use mathlib.Core.Bool.{Bool, true, false, ◌&&◌, and-eq-true_iff}
use Prim.Native.Nat.{ℕ, zero, suc, ◌+◌, ◌-◌, ◌*◌, ◌^◌, ◌≤◌, ◌<◌}
use native.Mathlib.Omega.{arith}
use native.Mathlib.Numerals.{add-one}
use lib.Dec.{leb}
use borrow.Author.Tests.{leb-true}
use lib.ListN.{length, drop, get_or, drop_of_length-le}
use lib.Seq.{drop-cons}
use lib.IntN.{ℤ, pos, neg_ℤ}
use mir.Syntax.{Width}
use mir.Val.{SFits, hbits}
use Rattle.std.specs.Prelude.{Option, Some, None, option_map}
use Rattle.words.specs.Numbers.{is_digit, digit_behind, digits_behind, natural, has_minus, magnitude, signed}

-- ---- a digit

pub digit_most : (most n b m : ℕ) → digit_behind most n b ≡ Some m → m ≤ most
unfolding digit_behind
digit_most most n b m = go (is_digit b && leb (n * 10 + (b - 48)) most) refl
  where
    go : (t : Bool) → (is_digit b && leb (n * 10 + (b - 48)) most) ≡ t → elim t [ true ↦ Some (n * 10 + (b - 48)) | false ↦ None ] ≡ Some m → m ≤ most
    go true q r =
        let e : n * 10 + (b - 48) ≡ m = cc in
        omega (arith, leb-true (n * 10 + (b - 48)) most ((and-eq-true_iff (is_digit b) _).0 q).1)
    go false q r = let z : ◌≡◌ {A = ℕ} 0 1 = cc in absurd (omega arith)

-- ---- the digits from an index on

module _ (most n : ℕ) (s : List ℕ) (i : ℕ) (h : i < length s) where
  pub digits_none : digit_behind most n (get_or s i 0) ≡ None → digits_behind most n (drop i s) ≡ None
  unfolding digits_behind
  digits_none e = rw (drop-cons s i 0 h, digits_behind, e)

  pub digits_next : (m : ℕ) → digit_behind most n (get_or s i 0) ≡ Some m → digits_behind most n (drop i s) ≡ digits_behind most m (drop (i + 1) s)
  unfolding digits_behind
  digits_next m e = rw (add-one, drop-cons s i 0 h, digits_behind, e)

pub digits_end : (most n : ℕ) (s : List ℕ) (i : ℕ) → length s ≤ i → digits_behind most n (drop i s) ≡ Some n
unfolding digits_behind
digits_end most n s i h = rw (drop_of_length-le s h)

-- ---- a number

pub natural_is : (most : ℕ) (s : List ℕ) → 0 < length s → natural most s ≡ digits_behind most 0 s
unfolding natural
natural_is most [] h = absurd (omega arith)
natural_is most (b ∷ s) h = refl

pub natural_none : (most : ℕ) (s : List ℕ) → length s ≡ 0 → natural most s ≡ None
unfolding natural
natural_none most [] h = refl
natural_none most (b ∷ s) h = absurd (omega arith)

digits-most : (most n : ℕ) (s : List ℕ) (m : ℕ) → n ≤ most → digits_behind most n s ≡ Some m → m ≤ most
unfolding digits_behind
digits-most most n [] m h e = let k : n ≡ m = cc in omega arith
digits-most most n (b ∷ s) m h e = go (digit_behind most n b) refl e (λ k. digits-most most k s m)
  where
    go : (o : Option ℕ) → digit_behind most n b ≡ o → elim o [ Some k ↦ digits_behind most k s | None ↦ None ] ≡ Some m →
        ((k : ℕ) → k ≤ most → digits_behind most k s ≡ Some m → m ≤ most) → m ≤ most
    go (Some k) p q r = r k (digit_most most n b k p) q
    go None p q r = let z : ◌≡◌ {A = ℕ} 0 1 = cc in absurd (omega arith)

natural-most : (most : ℕ) (s : List ℕ) (n : ℕ) → natural most s ≡ Some n → n ≤ most
unfolding natural
natural-most most [] n e = let z : ◌≡◌ {A = ℕ} 0 1 = cc in absurd (omega arith)
natural-most most (b ∷ s) n e = digits-most most 0 (b ∷ s) n (omega arith) e

-- ---- a number with a sign

module _ (most : ℕ) (s : List ℕ) where
  pub signed_minus : (m : List ℕ) (o : Option ℕ) → true ≡ has_minus s → m ≡ magnitude s → o ≡ natural (most + 1) m →
      option_map (λ n. neg_ℤ (pos n)) o ≡ signed most s
  unfolding signed
  signed_minus m o e f g = rw (signed, ← e, g, f) refl

  pub signed_plain : (o : Option ℕ) → false ≡ has_minus s → o ≡ natural most s → option_map pos o ≡ signed most s
  unfolding signed
  signed_plain o e g = rw (signed, ← e, g) refl

  -- the number is held by the bits of which `most` is the largest
  pub signed_fits : (w : Width) → most < 2 ^ hbits w → (z : ℤ) → signed most s ≡ Some z → SFits w z
  unfolding signed
  signed_fits w h z = go (has_minus s)
    where
      negative : (n : ℕ) → n ≤ most + 1 → SFits w (neg_ℤ (pos n))
      negative zero l = record { sfits = omega arith }
      negative (suc n) l = record { sfits = omega arith }

      below : (o : Option ℕ) → natural (most + 1) (magnitude s) ≡ o → option_map (λ n. neg_ℤ (pos n)) o ≡ Some z → SFits w z
      below None p q = let k : ◌≡◌ {A = ℕ} 0 1 = cc in absurd (omega arith)
      below (Some n) p q = let k : neg_ℤ (pos n) ≡ z = cc in rw (← k) (negative n (natural-most (most + 1) (magnitude s) n p))

      above : (o : Option ℕ) → natural most s ≡ o → option_map pos o ≡ Some z → SFits w z
      above None p q = let k : ◌≡◌ {A = ℕ} 0 1 = cc in absurd (omega arith)
      above (Some n) p q = let k : pos n ≡ z = cc in rw (← k) (record { sfits = omega (arith, natural-most most s n p) })

      go : (t : Bool) → elim t [ true ↦ option_map (λ n. neg_ℤ (pos n)) (natural (most + 1) (magnitude s)) | false ↦ option_map pos (natural most s) ] ≡ Some z → SFits w z
      go true e = below _ refl e
      go false e = above _ refl e
