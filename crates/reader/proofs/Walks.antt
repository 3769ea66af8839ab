-- How a walk ends, item by item: at an item that it does not go on from, or where it ends behind that item.
-- Assumes nothing.
use Prim.Native.Nat.{ℕ, ◌+◌, ◌-◌, ◌≤◌, ◌<◌}
use native.Mathlib.Omega.{arith}
use mathlib.Core.Path.{◌≡◌, refl, sym}
use mathlib.Core.Bool.{Bool, true, false, cond}
use mathlib.Core.List.{List, [], ◌∷◌}
use mathlib.Core.Option.{Option}
use lib.ListN.{length, take}
use lib.Seq.{slice}
use Rattle.std.specs.Prelude.{Ok, Err, Some, None}
use Rattle.reading.specs.declared.Item.{Item}
use Rattle.reading.specs.declared.Passed.{Passed}
use Rattle.reading.specs.declared.Refusal.{Refusal}
use Rattle.reading.specs.Items.{opens, raised, Found, item_at}
use Rattle.reading.specs.Scalars.{sids_of}
use Rattle.reading.specs.Walk.{Event, ends, Ending, Walk, before, name_shown, annotations, leaf_walk, ◌and_then◌, shows, container_walk, step_walk, walk_from}
use Rattle.read_items.specs.Ints.{int_end}
use Rattle.read_items.proofs.Bounds.{item_bounds}
use Rattle.read_items.proofs.Fuel.{fuelled}
use Rattle.read_items.proofs.Ints.{int_item}
use Rattle.reader.specs.Values.{Value, past, value_from, value_at}

-- ---- how two walks end, one behind the other

-- a container ends as its inside does
container_ends : (b : ℕ) (name : Option ℕ) (an : List ℕ) (inner : Walk) → (container_walk b name an inner).1 ≡ inner.1
container_ends b name an inner = go inner.1
  where
    go : (x : Ending) → (before inner.0 x (shows (ends ∷ []))).1 ≡ x
    go (Ok u) = refl
    go (Err e) = refl

-- ---- the item at a place, and the walk behind it

abbrev on_from : ℕ → List ℕ → ℕ → ℕ → ℕ → ℕ → Walk
on_from f t p l d i = walk_from f t p l d i

-- how the walk ends, given what it makes of an item
abbrev pub behind : ℕ → List ℕ → ℕ → ℕ → Value → Ending
behind f s parent depth (Err e) = Err e
behind f s parent depth (Ok None) = Ok tt
behind f s parent depth (Ok (Some p)) = (walk_from f s parent p.least depth p.next).1

step_ends : (f : ℕ) (s : List ℕ) (parent least depth at : ℕ) (x : Found) →
    (step_walk (on_from f) s parent least depth at x).1 ≡ behind f s parent depth (value_from f s least depth at x)
step_ends f s parent least depth at (Ok None) = refl
step_ends f s parent least depth at (Err r) = refl
step_ends f s parent least depth at (Ok (Some i)) = by_kind (opens i.held.header.kind)
  where
    inside : Walk
    inside = walk_from f (take i.held.header.stop s) i.held.header.kind 0 (depth + 1) i.held.header.start

    an : List ℕ
    an = annotations (sids_of (slice i.held.sids i.held.sids_end s))

    passed : Passed
    passed = record { next = i.held.header.stop; least = raised least i.held.header.kind i.name }

    on : Walk
    on = walk_from f s parent passed.least depth i.held.header.stop

    past_container : (es : List Event) (x : Ending) → (before es x on).1 ≡ behind f s parent depth (past x passed)
    past_container es (Ok u) = refl
    past_container es (Err e) = refl

    by_kind : (x : Bool)
        → (cond x (container_walk i.held.header.kind (name_shown i.name) an inside) (leaf_walk i.held.header.kind (name_shown i.name) an (slice i.held.header.start i.held.header.stop s)) and_then on).1
        ≡ behind f s parent depth (cond x (past inside.1 passed) (Ok (Some passed)))
    by_kind true =
        rw (container_ends i.held.header.kind (name_shown i.name) an inside) (past_container (container_walk i.held.header.kind (name_shown i.name) an inside).0 inside.1)
    by_kind false = refl

-- ---- the walk from a place, for any fuel above none

pub walk_behind : (f : ℕ) → 1 ≤ f → (s : List ℕ) (parent least depth at : ℕ) (v : Value) → v ≡ value_at (f - 1) s parent least depth at
    → behind (f - 1) s parent depth v ≡ (walk_from f s parent least depth at).1
unfolding walk_from value_at
walk_behind f some s parent least depth at v e =
    fuelled (λ g. behind (f - 1) s parent depth v ≡ (walk_from g s parent least depth at).1) f some
    (λ g p. rw (e, p) (sym (step_ends g s parent least depth at (item_at s parent least depth at))))

-- ---- what the walk makes of the item at a place

module _ (f : ℕ) (s : List ℕ) (parent least depth at : ℕ) where
  pub value_none : item_at s parent least depth at ≡ Ok None → value_at f s parent least depth at ≡ Ok None
  unfolding value_at
  value_none e = rw (e) refl

  pub value_stops : (r : Refusal) → item_at s parent least depth at ≡ Err r → value_at f s parent least depth at ≡ Err (record { refusal = r; place = at })
  unfolding value_at
  value_stops r e = rw (e) refl

  module _ (i : Item) (is : item_at s parent least depth at ≡ Ok (Some i)) where
    pub value_leaf : opens i.held.header.kind ≡ false → value_at f s parent least depth at ≡ Ok (Some (record { next = i.held.header.stop; least = raised least i.held.header.kind i.name }))
    unfolding value_at
    value_leaf o = rw (is, o) refl

    pub value_container : opens i.held.header.kind ≡ true
        → value_at f s parent least depth at
        ≡ past (walk_from f (take i.held.header.stop s) i.held.header.kind 0 (depth + 1) i.held.header.start).1 (record { next = i.held.header.stop; least = raised least i.held.header.kind i.name })
    unfolding value_at
    value_container o = rw (is, o) refl

  -- an int of a list or an s-expression has no name
  pub value_int : (next : ℕ) → int_end s parent at ≡ Some next → value_at f s parent least depth at ≡ Ok (Some (record { next = next; least = 0 }))
  unfolding value_at
  value_int next e = let i = int_item s parent at next e in rw (i.is least depth, i.leaf, i.counts) refl

  -- the walk goes on behind the item, and within the bytes
  pub value_goes_on : (p : Passed) → value_at f s parent least depth at ≡ Ok (Some p) → (at < p.next) × (p.next ≤ length s)
  unfolding value_at
  value_goes_on p e = by_item (item_at s parent least depth at) refl e
    where
      by_item : (x : Found) → item_at s parent least depth at ≡ x → value_from f s least depth at x ≡ Ok (Some p) → (at < p.next) × (p.next ≤ length s)
      by_item (Ok None) q e = cc
      by_item (Err r) q e = cc
      by_item (Ok (Some i)) q e = by_kind (opens i.held.header.kind) e
        where
          placed : i.held.header.stop ≡ p.next → (at < p.next) × (p.next ≤ length s)
          placed z = let w = (item_bounds s parent least depth at i q).held in
              (omega (arith, w.after, w.behind, w.before, w.body), omega (arith, w.within))

          by_inside : (x : Ending) → past x (record { next = i.held.header.stop; least = raised least i.held.header.kind i.name }) ≡ Ok (Some p) → (at < p.next) × (p.next ≤ length s)
          by_inside (Ok u) e = placed (cc)
          by_inside (Err r) e = cc

          by_kind : (x : Bool)
              → cond x (past (walk_from f (take i.held.header.stop s) i.held.header.kind 0 (depth + 1) i.held.header.start).1 (record { next = i.held.header.stop; least = raised least i.held.header.kind i.name }))
              (Ok (Some (record { next = i.held.header.stop; least = raised least i.held.header.kind i.name })))
              ≡ Ok (Some p)
              → (at < p.next) × (p.next ≤ length s)
          by_kind true e = by_inside (walk_from f (take i.held.header.stop s) i.held.header.kind 0 (depth + 1) i.held.header.start).1 e
          by_kind false e = placed (cc)
