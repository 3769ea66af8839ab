-- What a splice leaves in the buffer, and what a set leaves among the open containers.
-- Assumes nothing.
use Prim.Native.Nat.{ℕ, zero, suc, ◌+◌, ◌-◌, ◌<◌, ◌≤◌, max}
use native.Mathlib.Omega.{arith}
use native.Mathlib.Numerals.{add-one}
use mathlib.Core.Path.{◌≡◌, refl}
use mathlib.Core.List.{List, [], ◌∷◌, ◌++◌, cons≢nil}
use lib.ListN.{length, take, drop, replicate, get_or, set, length-append, length-take, length-drop, length-replicate, length-set}
use lib.Seq.{take_at, get_or-set_same, get_or-set_other}
use Rattle.machine.specs.declared.Container.{Container}
use Rattle.machine.specs.Machine.{no_container, innermost_first, outer, with_member, counted, splice}

pub take-splice : (used p : ℕ) (out b : List ℕ) → p ≤ length b → take (p + length out) (splice used p out b) ≡ take p b ++ out
unfolding splice
take-splice used p out b h =
    take_at (take p b ++ out) (replicate (used - (p + length out)) 0 ++ drop (max used (p + length out)) b) (p + length out)
    (simp (length-append, length-take) (omega arith))

pub length-splice : (used p : ℕ) (out b : List ℕ) → p ≤ length b → used ≤ length b → p + length out ≤ length b → length (splice used p out b) ≡ length b
unfolding splice
length-splice used p out b hp hu ho = simp (length-append, length-take, length-replicate, length-drop) (omega arith)

-- ---- the open containers in the array

below_set : (l : List Container) (d n : ℕ) (c : Container) → n ≤ d → innermost_first (set l d c) n ≡ innermost_first l n
below_set l d zero c h = refl
below_set l d (suc n) c h = rw (get_or-set_other l d n c no_container (λ e. omega arith), below_set l d n c (omega arith))

pub opened_containers : (l : List Container) (d : ℕ) (c : Container) → d < length l → innermost_first (set l d c) (d + 1) ≡ c ∷ innermost_first l d
opened_containers l d c h = rw (add-one d, get_or-set_same l d c no_container h, below_set l d d c (omega arith))

-- the innermost with one member more
abbrev pub counted_first : List Container → List Container
counted_first [] = []
counted_first (c ∷ cs) = with_member c ∷ cs

pub counted_containers : (l : List Container) (d : ℕ) → d ≤ length l → innermost_first (counted l d) d ≡ counted_first (innermost_first l d)
counted_containers l zero h = refl
counted_containers l (suc d) h =
    rw (
      get_or-set_same l d (with_member (get_or l d no_container)) no_container (omega arith),
      below_set l d d (with_member (get_or l d no_container)) (omega arith),
    )

pub length-counted : (l : List Container) (d : ℕ) → length (counted l d) ≡ length l
length-counted l zero = refl
length-counted l (suc d) = length-set l d (with_member (get_or l d no_container))

pub closed_containers : (l : List Container) (d : ℕ) → innermost_first l (d - 1) ≡ outer (innermost_first l d)
closed_containers l zero = refl
closed_containers l (suc d) = let e : suc d - 1 ≡ d = omega arith in rw e

pub none_open : (l : List Container) (d : ℕ) → innermost_first l d ≡ [] → d ≡ 0
none_open l zero e = refl
none_open l (suc d) e = absurd (cons≢nil e)
