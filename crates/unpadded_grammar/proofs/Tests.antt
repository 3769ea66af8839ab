-- Conjunctions of tests in another order, and tests that hold of no scalar of a list.
-- Assumes nothing.
use mathlib.Core.Path.{◌≡◌, refl, sym}
use mathlib.Core.Bool.{Bool, true, false, not, ◌&&◌, and_assoc}
use mathlib.Core.List.{List, [], ◌∷◌, ◌++◌}
use mathlib.Core.Option.{Option, none, some}
use Rattle.ion.specs.Value.{Scalar}
use Rattle.mark.specs.OutOfCalendar.{is_marked, none_marked}
use Rattle.reading.specs.Bodies.{mark_in}

pub and_swap : (a b c d : Bool) → ((a && b) && (c && d)) ≡ ((a && c) && (b && d))
and_swap true true c d = refl
and_swap true false true d = refl
and_swap true false false d = refl
and_swap false b c d = refl

-- the test of a scalar that is there
abbrev pub marked_by : (Scalar → Bool) → Option Scalar → Bool
marked_by mark none = false
marked_by mark (some x) = mark x

unfoldable pub none_by : (Scalar → Bool) → List Scalar → Bool
none_by mark [] = true
none_by mark (x ∷ xs) = not (mark x) && none_by mark xs

pub none_by_append : (mark : Scalar → Bool) (xs ys : List Scalar) → none_by mark (xs ++ ys) ≡ (none_by mark xs && none_by mark ys)
unfolding none_by
none_by_append mark [] ys = refl
none_by_append mark (x ∷ xs) ys = rw (none_by_append mark xs ys) (sym (and_assoc (not (mark x)) (none_by mark xs) (none_by mark ys)))

pub none_by-marked : (xs : List Scalar) → none_by (λ x. is_marked x) xs ≡ none_marked xs
unfolding none_by
none_by-marked [] = refl
none_by-marked (x ∷ xs) = rw (none_by-marked xs)

pub marked_by_mark : (o : Option Scalar) → marked_by (λ x. is_marked x) o ≡ mark_in o
marked_by_mark none = refl
marked_by_mark (some x) = refl

pub none_by-never : (xs : List Scalar) → none_by (λ x. false) xs ≡ true
unfolding none_by
none_by-never [] = refl
none_by-never (x ∷ xs) = none_by-never xs

pub marked_by-never : (o : Option Scalar) → marked_by (λ x. false) o ≡ false
marked_by-never none = refl
marked_by-never (some x) = refl
