-- UTF-8 a byte at a time. Assumes nothing.
use Prim.Native.Nat.{ℕ, zero, suc, ◌-◌, ◌≤◌}
use mathlib.Core.Path.{◌≡◌, refl, sym, ◌∙◌, ap}
use mathlib.Core.Bool.{false, ◌&&◌}
use mathlib.Core.List.{List, [], ◌∷◌}
use mathlib.Core.Option as Math
use native.Mathlib.Numerals.{sub-one}
use lib.Dec.{eqb, eqb-suc-zero}
use lib.ListN.{length, drop, replicate, drop_of_length-le}
use Rattle.std.proofs.Common.{Option, None, Some}
use Rattle.ion.specs.Text.{in_range, tail, characters, begun, utf8_from}
use Rattle.text.specs.declared.Due.{Due}
use Rattle.text.specs.Due.{ranges, due, due_after, utf8_after}

pub utf8-first : (o : Option Due) (b : ℕ) (bs : List ℕ) → due_after o ≡ begun characters b → utf8_after o bs ≡ utf8_from [] (b ∷ bs)
unfolding utf8_from
utf8-first o b bs e = by_case o ∙ ap (λ (r : Math.Option (List (ℕ × ℕ))). elim r [ Math.none ↦ false | Math.some rs ↦ utf8_from rs bs ]) e
  where
    by_case : (p : Option Due) → utf8_after p bs ≡ elim (due_after p) [ Math.none ↦ false | Math.some rs ↦ utf8_from rs bs ]
    by_case None = refl
    by_case (Some d) = refl

pub utf8-next : (d : Due) (b : ℕ) (bs : List ℕ) → (d.count ≡ 0 → ⊥) →
    utf8_from (due d) (b ∷ bs) ≡ (in_range (d.low, d.high) b && utf8_from (ranges (d.count - 1) 0x80 0xBF) bs)
unfolding utf8_from
utf8-next d b bs h = by_count d.count h
  where
    tails_are : (n : ℕ) → replicate n tail ≡ ranges n 0x80 0xBF
    tails_are zero = refl
    tails_are (suc n) = refl

    by_count : (n : ℕ) → (n ≡ 0 → ⊥) →
        utf8_from (ranges n d.low d.high) (b ∷ bs) ≡ (in_range (d.low, d.high) b && utf8_from (ranges (n - 1) 0x80 0xBF) bs)
    by_count zero f = absurd (f refl)
    by_count (suc n) f = rw (sub-one (suc n), ← tails_are n)

pub utf8_end : (d : Due) (s : List ℕ) (i : ℕ) → length s ≤ i → utf8_from (due d) (drop i s) ≡ eqb d.count 0
unfolding utf8_from
utf8_end d s i h = rw (drop_of_length-le s h) (by_count d.count)
  where
    by_count : (n : ℕ) → utf8_from (ranges n d.low d.high) [] ≡ eqb n 0
    by_count zero = refl
    by_count (suc n) = sym (eqb-suc-zero n)
