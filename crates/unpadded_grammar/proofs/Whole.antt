-- Where the rule of the crate unpadded holds, the walk comes to its end.
-- Assumes nothing.
use Prim.Native.Nat.{ℕ, zero, suc, ◌+◌}
use native.Mathlib.Omega.{arith}
use mathlib.Core.Path.{◌≡◌, refl}
use mathlib.Core.Bool.{Bool, true, not}
use mathlib.Core.List.{List}
use lib.Dec.{eqb}
use lib.ListN.{length, take}
use borrow.Author.Tests.{le-ltb, eqb-true, not-true}
use Rattle.ion.proofs.Tests.{by_cases, both}
use Rattle.reading.specs.declared.Item.{Item}
use Rattle.std.specs.Prelude.{Ok, Err, Some, None, unwrap_or}
use Rattle.reading.specs.Items.{is_pad, opens, raised, Found, item_at}
use Rattle.reading.specs.Walk.{Walk, ◌and_then◌, item_walk, step_walk, walk_from}
use Rattle.unpadded.specs.Rule.{content_is, step_is, unpadded_from}
use Rattle.reading_grammar.proofs.Tests.{contrary}

then_ends : (v w : Walk) → v.1 ≡ Ok tt → w.1 ≡ Ok tt → (v and_then w).1 ≡ Ok tt
then_ends v w p q = rw p q

-- a rule and a walk: where the rule holds the walk comes to its end
abbrev Ends : (List ℕ → ℕ → ℕ → ℕ → ℕ → Bool) → (List ℕ → ℕ → ℕ → ℕ → ℕ → Walk) → Type 0
Ends ask go = (s : List ℕ) (parent least depth at : ℕ) → ask s parent least depth at ≡ true → (go s parent least depth at).1 ≡ Ok tt

module _ (ask : List ℕ → ℕ → ℕ → ℕ → ℕ → Bool) (go : List ℕ → ℕ → ℕ → ℕ → ℕ → Walk) (ih : Ends ask go) where
  content_ends : (s : List ℕ) (parent depth : ℕ) (i : Item) → content_is ask s depth i.held.header.kind i.held.header.start i.held.header.stop ≡ true
      → (item_walk go s depth i).1 ≡ Ok tt
  content_ends s parent depth i e =
      by_cases (opens i.held.header.kind)
      (λ p. rw (p, ih (take i.held.header.stop s) i.held.header.kind 0 (depth + 1) i.held.header.start (rw p at e)))
      (λ p. rw p)

  step_ends : (s : List ℕ) (parent least depth at : ℕ) (found : Found) → step_is ask s parent least depth found ≡ true
      → (step_walk go s parent least depth at found).1 ≡ Ok tt
  step_ends s parent least depth at (Err r) e = contrary refl e
  step_ends s parent least depth at (Ok None) e = refl
  step_ends s parent least depth at (Ok (Some i)) e =
      let p = both {a = not (is_pad i.held.header.kind)} e in
      let q = both {a = content_is ask s depth i.held.header.kind i.held.header.start i.held.header.stop} p.1 in
      then_ends (item_walk go s depth i) (go s parent (raised least i.held.header.kind i.name) depth i.held.header.stop)
      (content_ends s parent depth i q.0)
      (rw (not-true (is_pad i.held.header.kind) p.0) (ih s parent (unwrap_or i.name 0) depth i.held.header.stop q.1))

no_more : (s : List ℕ) (parent least depth at : ℕ) → eqb at (length s) ≡ true → item_at s parent least depth at ≡ Ok None
unfolding item_at
no_more s parent least depth at e = rw (le-ltb (length s) at (omega (arith, eqb-true at (length s) e)), e)

pub rule_ends : (f : ℕ) (s : List ℕ) (parent least depth at : ℕ) → unpadded_from f s parent least depth at ≡ true
    → (walk_from f s parent least depth at).1 ≡ Ok tt
unfolding unpadded_from walk_from
rule_ends zero s parent least depth at e = contrary refl e
rule_ends (suc f) s parent least depth at e =
    by_cases (eqb at (length s))
    (λ p. rw (no_more s parent least depth at p))
    (λ p.
    step_ends (λ t k l d i. unpadded_from f t k l d i) (λ t k l d i. walk_from f t k l d i) (λ t k l d i. rule_ends f t k l d i)
    s parent least depth at (item_at s parent least depth at)
    (rw p at e))
