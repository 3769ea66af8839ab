-- Of a state that fits no count is cut to 64 bits: each open container has fewer members than the buffer has bytes.
-- By induction over the open containers. Assumes nothing.
use Rattle.std.proofs.Common.{◌≡◌, ℕ, zero, suc, ◌+◌, ◌^◌, ◌<◌, ◌≤◌, true, eqb, leb, List, get_or, set, refl, ap, ⊎_elim, mod-eq_of_lt, arith, eqb-true}
use borrow.Author.Tests.{eqb-false}
use Rattle.ion.proofs.Tests.{by_cases, both}
use Rattle.machine.specs.declared.State.{State}
use Rattle.machine.specs.declared.Container.{Container}
use Rattle.machine.specs.Machine.{most_open, no_container, innermost_first, open_containers, counted, container_fits, containers_fit, fits}
use Rattle.place.proofs.Laws.{fits_used}
use Rattle.machine.proofs.Fit.{fit}
use Rattle.steps.specs.Counted.{counted_cut}

-- ---- the containers of a state that fits

pub fits_chain : (s : State) (room : ℕ) → fits s room ≡ true → containers_fit s.used (open_containers s) ≡ true
unfolding fits
fits_chain s room f = (both {a = containers_fit s.used (open_containers s)} (both {a = leb s.depth most_open} (both {a = leb s.used room} f).1).1).0

pub start-before : (c : Container) (limit : ℕ) → container_fits limit c ≡ true → c.start ≤ limit
start-before c limit e =
    let g = fit c limit e in
    ⊎_elim (λ q. omega (arith, q, g.within)) (λ q. omega (arith, q, g.within)) g.apart

-- the record j of the first i, which fit before `limit`
members-before : (l : List Container) (i limit : ℕ) → containers_fit limit (innermost_first l i) ≡ true → (j : ℕ) → j < i
    → (get_or l j no_container).members + 2 ≤ limit
unfolding containers_fit
members-before l zero limit e j h = absurd (omega arith)
members-before l (suc i) limit e j h =
    let k = both {a = container_fits limit (get_or l i no_container)} e in
    by_cases (eqb j i)
    (λ p. let g = fit (get_or l i no_container) limit k.0 in rw (eqb-true j i p) (omega (arith, g.within, g.held)))
    (λ p.
    let q = eqb-false j i p in
    omega (arith, members-before l i (get_or l i no_container).start k.1 j (omega arith), start-before (get_or l i no_container) limit k.0))

pub members_few : (s : State) (room : ℕ) → fits s room ≡ true → (j : ℕ) → j < s.depth → (get_or s.containers j no_container).members + 2 ≤ room
members_few s room f j h = omega (arith, members-before s.containers s.depth s.used (fits_chain s room f) j h, fits_used s room f)

-- ---- one member more

uncut : (l : List Container) (n : ℕ) → ((j : ℕ) → j < n → (get_or l j no_container).members + 1 < 2 ^ 64) → counted_cut l n ≡ counted l n
uncut l zero h = refl
uncut l (suc n) h =
    let c = get_or l n no_container in
    ap (λ (m : ℕ). set l n (record { start = c.start; header = c.header; code = c.code; members = m })) (mod-eq_of_lt (h n (omega arith)))

-- n is the depth, or one less
pub counted_uncut : (s : State) (room : ℕ) → fits s room ≡ true → room < 2 ^ 64 → (n : ℕ) → n ≤ s.depth
    → counted_cut s.containers n ≡ counted s.containers n
counted_uncut s room f short n h = uncut s.containers n (λ j k. omega (arith, members_few s room f j (omega arith)))
