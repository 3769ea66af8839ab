-- ASCII by the OR of its bytes, and as UTF-8. Assumes nothing.
use Prim.Native.Nat.{ℕ}
use mathlib.Core.Path.{◌≡◌, refl, sym, ◌∙◌, ap, subst}
use mathlib.Core.Bool.{Bool, true, false, ◌&&◌, and-true}
use mathlib.Core.List.{List, [], ◌∷◌}
use mathlib.Core.Option.{some}
use native.Mathlib.Omega.{arith}
use borrow.Author.Tests.{lt-ltb, le-ltb, ltb-true, ltb-false}
use lib.Bits.{bit_or, or_lt, or_add_and, and_le_l, and_le_r}
use lib.Dec.{T, ltb}
use Rattle.std.specs.List.{fold}
use Rattle.ion.specs.Text.{characters, begun, utf8_from}
use Rattle.text.specs.Due.{ascii}
use Rattle.text.proofs.Begun.{begun_in}

or_ascii : (a b : ℕ) → ltb (bit_or a b) 0x80 ≡ (ltb a 0x80 && ltb b 0x80)
or_ascii a b = by_tests (ltb a 0x80) (ltb b 0x80) refl refl
  where
    by_tests : (x y : Bool) → ltb a 0x80 ≡ x → ltb b 0x80 ≡ y → ltb (bit_or a b) 0x80 ≡ (x && y)
    by_tests true true p q = lt-ltb _ _ (or_lt 7 a b (ltb-true a 0x80 p) (ltb-true b 0x80 q))
    by_tests true false p q = le-ltb (bit_or a b) 0x80 (omega (arith, or_add_and a b, and_le_l a b, ltb-false b 0x80 q))
    by_tests false y p q = le-ltb (bit_or a b) 0x80 (omega (arith, or_add_and a b, and_le_r a b, ltb-false a 0x80 p))

and_assoc : (x y z : Bool) → (x && y && z) ≡ (x && (y && z))
and_assoc true y z = refl
and_assoc false y z = refl

-- the OR of bytes, begun with `all`
pub fold_ascii : (all : ℕ) (s : List ℕ) → ltb (fold bit_or all s) 0x80 ≡ (ltb all 0x80 && ascii s)
unfolding ascii
fold_ascii all [] = sym (and-true (ltb all 0x80))
fold_ascii all (b ∷ bs) =
    fold_ascii (bit_or all b) bs
    ∙ (ap (λ (t : Bool). t && ascii bs) (or_ascii all b) ∙ and_assoc (ltb all 0x80) (ltb b 0x80) (ascii bs))

pub ascii-utf8 : (s : List ℕ) → ascii s ≡ true → utf8_from [] s ≡ true
unfolding ascii utf8_from
ascii-utf8 [] e = refl
ascii-utf8 (b ∷ bs) e = by_test (ltb b 0x80) refl e (λ q. ascii-utf8 bs q)
  where
    by_test : (t : Bool) → ltb b 0x80 ≡ t → (t && ascii bs) ≡ true → (ascii bs ≡ true → utf8_from [] bs ≡ true) → utf8_from [] (b ∷ bs) ≡ true
    by_test true p q rest =
        let f : begun characters b ≡ some [] = begun_in _ _ _ b (omega arith) (omega (arith, ltb-true b 0x80 p)) in
        rw (f, utf8_from) (rest q)
    by_test false p q rest = absurd (subst T (sym q) tt)
