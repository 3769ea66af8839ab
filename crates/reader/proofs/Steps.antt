-- The walk goes by the items: enough fuel is as good as more, and a container's body is a walk within the same stream.
-- Assumes nothing.
use Prim.Native.Nat.{ℕ, zero, suc, ◌+◌, ◌-◌, ◌≤◌, ◌<◌}
use native.Mathlib.Omega.{arith}
use mathlib.Core.Path.{◌≡◌, refl}
use mathlib.Core.List.{List}
use lib.Dec.{leb}
use lib.ListN.{length, take}
use lib.Seq.{length-take-le, take-take}
use borrow.Author.Tests.{le-leb, leb-true}
use Rattle.ion.proofs.Tests.{by_cases}
use Rattle.reading.specs.declared.Item.{Item}
use Rattle.std.specs.Prelude.{Ok, Err, Some, None}
use Rattle.reading.specs.Items.{raised, Found, item_at}
use Rattle.reading.specs.Walk.{Walk, step_walk, walk_from, walk_in}
use Rattle.read_items.proofs.Bounds.{item_bounds}
use Rattle.reader.specs.Values.{next_in}
use Rattle.reader.specs.ByItems.{WalkByItems}

-- ways to go on from a place
abbrev Go : Type 0
Go = List ℕ → ℕ → ℕ → ℕ → ℕ → Walk

-- two ways to go on that agree where an item goes on make the same step
step_same : (go on : Go) (s : List ℕ) (parent least depth at : ℕ) (x : Found)
    → ((i : Item) → x ≡ Ok (Some i)
    → (go (take i.held.header.stop s) i.held.header.kind 0 (depth + 1) i.held.header.start ≡ on (take i.held.header.stop s) i.held.header.kind 0 (depth + 1) i.held.header.start)
    × (go s parent (raised least i.held.header.kind i.name) depth i.held.header.stop ≡ on s parent (raised least i.held.header.kind i.name) depth i.held.header.stop))
    → step_walk go s parent least depth at x ≡ step_walk on s parent least depth at x
step_same go on s parent least depth at (Ok None) h = refl
step_same go on s parent least depth at (Err r) h = refl
step_same go on s parent least depth at (Ok (Some i)) h = let e = h i refl in rw (e.0, e.1) refl

walk_fuel : (f g : ℕ) (s : List ℕ) (parent least depth at : ℕ) → length s - at < f → length s - at < g
    → walk_from f s parent least depth at ≡ walk_from g s parent least depth at
unfolding walk_from
walk_fuel zero g s parent least depth at h k = absurd (omega arith)
walk_fuel (suc f) zero s parent least depth at h k = absurd (omega arith)
walk_fuel (suc f) (suc g) s parent least depth at h k =
    step_same (λ t p l d i. walk_from f t p l d i) (λ t p l d i. walk_from g t p l d i) s parent least depth at (item_at s parent least depth at)
    (λ i e.
    let p = item_bounds s parent least depth at i e in
    let q = length-take-le i.held.header.stop s p.held.within in (
      walk_fuel f g (take i.held.header.stop s) i.held.header.kind 0 (depth + 1) i.held.header.start (omega (arith, q, p.held.after, p.held.behind, p.held.before, p.held.body, p.held.within))
          (omega (arith, q, p.held.after, p.held.behind, p.held.before, p.held.body, p.held.within)),
      walk_fuel f g s parent (raised least i.held.header.kind i.name) depth i.held.header.stop
          (omega (arith, p.held.after, p.held.behind, p.held.before, p.held.body, p.held.within))
          (omega (arith, p.held.after, p.held.behind, p.held.before, p.held.body, p.held.within)),
    ))

pub walk_by_items : WalkByItems
unfolding walk_in next_in walk_from
walk_by_items s end parent least depth at =
    by_cases (leb end (length s))
    (λ p.
    let w : end ≤ length s = leb-true end (length s) p in
    let n : length (take end s) ≡ end = length-take-le end s w in
    rw p
    (step_same (λ t q l d i. walk_from (length s) t q l d i) (λ t q l d i. walk_in s (length t) q l d i) (take end s) parent least depth at
    (item_at (take end s) parent least depth at)
    (λ i e.
    let k = (item_bounds (take end s) parent least depth at i e).held in
    let m : i.held.header.stop ≤ end = omega (arith, n, k.within) in
    let z : length (take i.held.header.stop (take end s)) ≡ i.held.header.stop = length-take-le i.held.header.stop (take end s) k.within in
    let y : length (take i.held.header.stop s) ≡ i.held.header.stop = length-take-le i.held.header.stop s (omega (arith, m, w)) in (
      rw (z, le-leb i.held.header.stop (length s) (omega (arith, m, w)), take-take i.held.header.stop end s m)
          (walk_fuel (length s) (suc (length s)) (take i.held.header.stop s) i.held.header.kind 0 (depth + 1) i.held.header.start (omega (arith, y, k.after, k.behind, k.before, m, w))
          (omega (arith, y, m, w))),
      rw (n, p)
          (walk_fuel (length s) (suc (length s)) (take end s) parent (raised least i.held.header.kind i.name) depth i.held.header.stop
          (omega (arith, n, w, k.after, k.behind, k.before, k.body)) (omega (arith, n, w))),
    ))))
    (λ p. rw p refl)
