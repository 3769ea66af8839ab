-- The rule at one place, for any fuel above none: at the end, at an item that it stops at, and behind one that it goes past.
-- Assumes nothing.
use Prim.Native.Nat.{ℕ, suc, ◌+◌, ◌-◌, ◌≤◌, ◌<◌}
use native.Mathlib.Omega.{arith}
use mathlib.Core.Path.{◌≡◌, refl, subst}
use mathlib.Core.Bool.{Bool, true, false, not, ◌||◌}
use mathlib.Core.List.{List}
use lib.Dec.{eqb}
use lib.ListN.{length, take}
use lib.Seq.{slice}
use borrow.Author.Tests.{ne_eqb}
use Rattle.reading.specs.declared.Item.{Item}
use Rattle.std.specs.Prelude.{Ok, Err, Some, None, unwrap_or}
use Rattle.reading.specs.Items.{is_pad, opens, Found, item_at}
use Rattle.reading.specs.Scalars.{scalar_in}
use Rattle.reading.specs.Bodies.{mark_in}
use Rattle.read_items.proofs.Fuel.{fuelled}
use Rattle.unpadded.specs.Rule.{step_is, unpadded_from, content_by, is_whole, is_one_value}

-- nothing is there to read, or what is there does not read
abbrev pub NoItem : Found → Type 0
NoItem (Err r) = Unit {0}
NoItem (Ok None) = Unit {0}
NoItem (Ok (Some i)) = ⊥

ends_there : (go : List ℕ → ℕ → ℕ → ℕ → ℕ → Bool) (s : List ℕ) (parent least depth : ℕ) (found : Found) (b : Bool) → NoItem found
    → b ≡ b || step_is go s parent least depth found
ends_there go s parent least depth (Err r) false no_one = refl
ends_there go s parent least depth (Err r) true no_one = refl
ends_there go s parent least depth (Ok None) false no_one = refl
ends_there go s parent least depth (Ok None) true no_one = refl
ends_there go s parent least depth (Ok (Some i)) b no_one = absurd no_one

module _ (f : ℕ) (some : 1 ≤ f) (s : List ℕ) (parent least depth at : ℕ) where
  pub no_item : (found : Found) → found ≡ item_at s parent least depth at → NoItem found → eqb at (length s) ≡ unpadded_from f s parent least depth at
  unfolding unpadded_from
  no_item found is e = fuelled (λ g. eqb at (length s) ≡ unpadded_from g s parent least depth at) f some
      (λ g p. ends_there (λ t p l d i. unpadded_from g t p l d i) s parent least depth (item_at s parent least depth at) (eqb at (length s)) (subst NoItem is e))

  module _ (inside : at < length s) where
    module _ (i : Item) (is : item_at s parent least depth at ≡ Ok (Some i)) where
      pub at_pad : is_pad i.held.header.kind ≡ true → false ≡ unpadded_from f s parent least depth at
      unfolding unpadded_from
      at_pad e = fuelled (λ g. false ≡ unpadded_from g s parent least depth at) f some
          (λ g p. rw (ne_eqb at (length s) (λ q. omega arith), is, e) refl)

      module _ (e : is_pad i.held.header.kind ≡ false) where
        pub wrong_content : false ≡ content_by (f - 1) s depth i.held.header.kind i.held.header.start i.held.header.stop → false ≡ unpadded_from f s parent least depth at
        unfolding unpadded_from
        wrong_content c = fuelled (λ g. false ≡ unpadded_from g s parent least depth at) f some
            (λ g p. let c' : false ≡ content_by g s depth i.held.header.kind i.held.header.start i.held.header.stop = rw p at c in
            rw (ne_eqb at (length s) (λ q. omega arith), is, e, ← c') refl)

        pub goes_past : (r : Bool) → true ≡ content_by (f - 1) s depth i.held.header.kind i.held.header.start i.held.header.stop → r ≡ unpadded_from (f - 1) s parent (unwrap_or i.name 0) depth i.held.header.stop
            → r ≡ unpadded_from f s parent least depth at
        unfolding unpadded_from
        goes_past r c k = fuelled (λ g. r ≡ unpadded_from g s parent least depth at) f some
            (λ g p.
            let c' : true ≡ content_by g s depth i.held.header.kind i.held.header.start i.held.header.stop = rw p at c in
            let k' : r ≡ unpadded_from g s parent (unwrap_or i.name 0) depth i.held.header.stop = rw p at k in
            rw (ne_eqb at (length s) (λ q. omega arith), is, e, ← c') k')

-- ---- what an item holds

module _ (f : ℕ) (s : List ℕ) (depth b start stop : ℕ) where
  pub content_inside : opens b ≡ true → unpadded_from f (take stop s) b 0 (depth + 1) start ≡ content_by f s depth b start stop
  content_inside e = rw e refl

  pub content_leaf : opens b ≡ false → not (mark_in (scalar_in b (slice start stop s))) ≡ content_by f s depth b start stop
  content_leaf e = rw e refl

-- ---- one value

module _ (s : List ℕ) (found : Found) (is : found ≡ item_at s 0 0 0 0) where
  pub not_whole : is_whole s found ≡ false → false ≡ is_one_value s
  unfolding is_one_value
  not_whole e = rw (← is, e) refl

  pub whole : is_whole s found ≡ true → (r : Bool) → r ≡ unpadded_from (suc (length s)) s 0 0 0 0 → r ≡ is_one_value s
  unfolding is_one_value
  whole e r k = rw (← is, e) k
