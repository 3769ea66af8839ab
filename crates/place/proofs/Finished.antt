-- The finished length: all used bytes where a version marker may stand and no name waits, and else none.
-- Assumes nothing.
use Rattle.std.proofs.Common.{ℕ, ◌≤◌, ◌<◌, ◌≡◌, refl, Bool, true, false, not, ◌&&◌, ◌||◌, ◌⊎◌, inl, inr, [], ◌∷◌, Result, Ok, Err, leb, ltb}
use Rattle.std.specs.Result.{is_err}
use Rattle.std.proofs.lemmas.Bool.Decides.{leb_tells}
use borrow.Author.Tests.{lt-ltb, le-ltb}
use Rattle.machine.specs.declared.State.{State}
use Rattle.machine.specs.declared.Refusal.{Refusal}
use Rattle.machine.specs.Machine.{longest_buffer, open_containers, is_open, fits, used_if, place_verdict, finished_length, first_failing}
use Rattle.machine.specs.Numbers.{verdict_of}

leb_not-ltb : (a b : ℕ) → leb a b ≡ not (ltb b a)
leb_not-ltb a b = of_cases (leb_tells a b)
  where
    of_cases : ((leb a b ≡ true) × (a ≤ b)) ⊎ ((leb a b ≡ false) × (b < a)) → leb a b ≡ not (ltb b a)
    of_cases (inl h) = rw (h.0, le-ltb b a h.1) refl
    of_cases (inr h) = rw (h.0, lt-ltb b a h.1) refl

-- `barred` says that the marker is refused or a name waits
pub finished_is : (s : State) (room : ℕ) (r : Result (Unit {0}) Refusal) → verdict_of r ≡ place_verdict s room (is_open (open_containers s))
    → (barred : Bool) → barred ≡ (is_err r || s.waiting) → used_if (not barred) s.used ≡ finished_length s room
unfolding finished_length place_verdict
finished_is s room r e barred b =
    rw (b, leb_not-ltb room longest_buffer) (of_tests (ltb longest_buffer room) (fits s room) (is_open (open_containers s)) s.waiting r e)
  where
    of_tests : (l f o w : Bool) (r : Result (Unit {0}) Refusal) → verdict_of r ≡ first_failing ((l, 1) ∷ (not f, 2) ∷ (o, 3) ∷ [])
        → used_if (not (is_err r || w)) s.used ≡ used_if (not l && (f && (not o && not w))) s.used
    of_tests false true false w (Ok x) e = refl
    of_tests false true true w (Ok x) e = cc
    of_tests false false o w (Ok x) e = cc
    of_tests true f o w (Ok x) e = cc
    of_tests false true false w (Err x) e = cc
    of_tests false true true w (Err x) e = refl
    of_tests false false o w (Err x) e = refl
    of_tests true f o w (Err x) e = refl
