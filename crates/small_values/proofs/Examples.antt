-- What is yielded of one byte, all of it; the next in some places; the order of some strings. Computation.
-- Assumes nothing.
use Prim.Native.Nat.{ℕ}
use mathlib.Core.Path.{◌≡◌, refl}
use mathlib.Core.Bool.{true, false}
use mathlib.Core.List.{List, [], ◌∷◌, map}
use Rattle.encoding.specs.Digits.{low_digits}
use Rattle.unpadded.specs.Rule.{is_one_value}
use Rattle.unpadded_grammar.proofs.Examples.{scalar_whole, rule_whole}
use Rattle.small_values.specs.Order.{by_bytes, precedes}
use Rattle.small_values.specs.Listing.{limit, first_from, next_of, yields_from, of_size}

-- the nulls, the bools, and what has no body
abbrev of_one_byte : List (List ℕ)
of_one_byte = map (λ (x : ℕ). x ∷ [])
    (0x0F ∷ 0x10 ∷ 0x11 ∷ 0x1F ∷ 0x20 ∷ 0x2F ∷ 0x3F ∷ 0x40 ∷ 0x4F ∷ 0x50 ∷ 0x5F ∷ 0x6F ∷ 0x70 ∷ 0x7F
    ∷ 0x80 ∷ 0x8F ∷ 0x90 ∷ 0x9F ∷ 0xA0 ∷ 0xAF ∷ 0xB0 ∷ 0xBF ∷ 0xC0 ∷ 0xCF ∷ 0xD0 ∷ 0xDF ∷ [])

one_byte : of_size 1 ≡ of_one_byte
unfolding yields_from next_of first_from limit low_digits rule_whole scalar_whole
one_byte = refl

-- behind strings of two bytes that are none, a pad in a list, the year 0
firsts : map (λ (x : ℕ × ℕ). first_from is_one_value 16 x.0 x.1) ((2, 0x20F0) ∷ (3, 0xB20F00) ∷ (3, 0x628080) ∷ []) ≡ 0x2100 ∷ 0xB20F0F ∷ 0x628081 ∷ []
unfolding first_from low_digits rule_whole scalar_whole
firsts = refl

-- where there is none; and of four bytes none is asked for
ends : map (λ (x : ℕ × ℕ). next_of x.0 x.1) ((2, 0xFFF0) ∷ (3, 0xFFFFF0) ∷ (3, 0x1000007) ∷ (4, 7) ∷ []) ≡ 0x10000 ∷ 0x1000000 ∷ 0x1000007 ∷ 7 ∷ []
unfolding next_of first_from limit low_digits rule_whole scalar_whole
ends = refl

abbrev Pairs : Type 0
Pairs = List (List ℕ × List ℕ)

-- each precedes the next
abbrev pairs_in_order : Pairs
pairs_in_order = ([], 0x00 ∷ []) ∷ (0xFF ∷ [], 0x00 ∷ 0x00 ∷ []) ∷ (0x01 ∷ 0xFF ∷ [], 0x02 ∷ 0x00 ∷ []) ∷ (0x02 ∷ 0x00 ∷ [], 0x02 ∷ 0x01 ∷ []) ∷ []

in_order : map (λ (x : List ℕ × List ℕ). precedes x.0 x.1) pairs_in_order ≡ map (λ (x : List ℕ × List ℕ). true) pairs_in_order
unfolding precedes by_bytes
in_order = refl

not_before : map (λ (x : List ℕ × List ℕ). precedes x.1 x.0) pairs_in_order ≡ map (λ (x : List ℕ × List ℕ). false) pairs_in_order
unfolding precedes by_bytes
not_before = refl

not_itself : precedes (0x0F ∷ []) (0x0F ∷ []) ≡ false
unfolding precedes by_bytes
not_itself = refl
