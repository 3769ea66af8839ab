-- Tests that say the same, the open containers one by one, and what a fitting state is.
-- Assumes nothing.
use Prim.Native.Nat.{ℕ, zero, suc, ◌-◌, ◌≤◌, ◌<◌}
use native.Mathlib.Omega.{arith}
use native.Mathlib.Numerals.{sub-one}
use mathlib.Core.Bool.{Bool, true, false, not, ◌&&◌, ◌||◌, and-true, and-false}
use mathlib.Core.Path.{◌≡◌, refl, sym}
use mathlib.Core.List.{List, [], ◌∷◌}
use lib.Dec.{leb, eqb, eqb-suc-zero}
use lib.ListN.{get_or}
use borrow.Author.Tests.{le-ltb, leb-true, eqb-true, le-leb, lt-leb, eq-eqb}
use Rattle.ion.proofs.Tests.{both}
use Rattle.machine.specs.declared.Container.{Container}
use Rattle.machine.specs.declared.State.{State}
use Rattle.place.specs.declared.CallKind.{CallKind}
use Rattle.place.specs.Misplaced.{misplaced_where, misplaced}
use Rattle.machine.specs.Machine.{longest_buffer, first_failing, place_verdict, most_open, no_container, innermost_first, open_containers, is_open, in_struct, container_fits, containers_fit, fits}

-- ---- tests

pub same_test : (a b : Bool) → (a ≡ true → b ≡ true) → (b ≡ true → a ≡ true) → a ≡ b
same_test true b f g = sym (f refl)
same_test false true f g = g refl
same_test false false f g = refl

pub same_eqb : (a b x y : ℕ) → (a ≡ b → x ≡ y) → (x ≡ y → a ≡ b) → eqb a b ≡ eqb x y
same_eqb a b x y f g = same_test (eqb a b) (eqb x y) (λ e. eq-eqb x y (f (eqb-true a b e))) (λ e. eq-eqb a b (g (eqb-true x y e)))

-- ---- the open containers

pub innermost_step : (l : List Container) (i : ℕ) → 0 < i → innermost_first l i ≡ get_or l (i - 1) no_container ∷ innermost_first l (i - 1)
innermost_step l zero h = absurd (none h)
  where
    none : 0 < 0 → ⊥
    none q = omega arith
innermost_step l (suc i) h = rw (sub-one (suc i))

pub innermost-none : (l : List Container) (i : ℕ) → i ≤ 0 → innermost_first l i ≡ []
innermost-none l zero h = refl
innermost-none l (suc i) h = absurd (some i h)
  where
    some : (k : ℕ) → suc k ≤ 0 → ⊥
    some k q = omega arith

pub open_of : (l : List Container) (i : ℕ) → not (eqb i 0) ≡ is_open (innermost_first l i)
open_of l zero = refl
open_of l (suc i) = rw (eqb-suc-zero i)

-- ---- a state that fits

pub fits_used : (s : State) (room : ℕ) → fits s room ≡ true → s.used ≤ room
unfolding fits
fits_used s room e = leb-true s.used room (both {a = leb s.used room} e).0

-- the code asks for the opposite of the last line
names_fit : (waiting struct : Bool) → (not waiting || struct) ≡ not (waiting && not struct)
names_fit true true = refl
names_fit true false = refl
names_fit false struct = refl

pub fits_overused : (s : State) (room : ℕ) → room < s.used → false ≡ fits s room
unfolding fits
fits_overused s room h = rw (lt-leb s.used room h)

pub fits_overopen : (s : State) (room : ℕ) → s.used ≤ room → most_open < s.depth → false ≡ fits s room
unfolding fits
fits_overopen s room h d = rw (le-leb s.used room h, lt-leb s.depth most_open d)

pub fits_nameless : (s : State) (room : ℕ) → s.used ≤ room → s.depth ≤ most_open → (s.waiting && not (in_struct (open_containers s))) ≡ true
    → false ≡ fits s room
unfolding fits
fits_nameless s room h d n =
    rw (le-leb s.used room h, le-leb s.depth most_open d, names_fit s.waiting (in_struct (open_containers s)), n)
    (sym (and-false (containers_fit s.used (open_containers s))))

-- what is left is whether the containers fit
pub fits_containers : (s : State) (room : ℕ) → s.used ≤ room → s.depth ≤ most_open
    → (s.waiting && not (in_struct (open_containers s))) ≡ false → fits s room ≡ containers_fit s.used (open_containers s)
unfolding fits
fits_containers s room h d n =
    rw (le-leb s.used room h, le-leb s.depth most_open d, names_fit s.waiting (in_struct (open_containers s)), n)
    (and-true (containers_fit s.used (open_containers s)))

-- ---- the containers, from the innermost outwards

pub chain_step : (l : List Container) (i limit : ℕ) → 0 < i
    → containers_fit limit (innermost_first l i)
    ≡ (container_fits limit (get_or l (i - 1) no_container) && containers_fit (get_or l (i - 1) no_container).start (innermost_first l (i - 1)))
unfolding containers_fit
chain_step l i limit h = rw (innermost_step l i h)

pub chain_none : (l : List Container) (i limit : ℕ) → i ≤ 0 → containers_fit limit (innermost_first l i) ≡ true
unfolding containers_fit
chain_none l i limit h = rw (innermost-none l i h)

-- ---- a call of a state that fits, by what is asked of line 3

pub placed_by : (k : CallKind) (s : State) (room d : ℕ) (inside waits m : Bool) → room ≤ longest_buffer → true ≡ fits s room → d ≡ s.depth
    → inside ≡ in_struct (innermost_first s.containers d) → waits ≡ s.waiting → m ≡ misplaced_where k (not (eqb d 0)) inside waits
    → first_failing ((m, 3) ∷ []) ≡ place_verdict s room (misplaced k s)
unfolding place_verdict
placed_by k s room d inside waits m l f p q r e = rw (le-ltb longest_buffer room l, ← f, ← open_of s.containers s.depth, ← p, ← q, ← r, ← e)
