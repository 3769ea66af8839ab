-- The other way, at one item: what an item that is found tells, test by test.
-- Assumes nothing.
use Rattle.std.specs.Prelude.{Result, Ok, Err, Option, Some, None}
use Prim.Native.Nat.{ℕ, ◌+◌, ◌≤◌, ◌<◌}
use native.Mathlib.Omega.{arith}
use mathlib.Core.Path.{◌≡◌, refl, ◌∙◌, ap, subst}
use mathlib.Core.Logic.{◌≢◌}
use mathlib.Core.Bool.{true, false, ◌&&◌, ◌||◌, not}
use mathlib.Core.List.{List, [], ◌∷◌, ◌++◌}
use lib.Dec.{ltb, leb, eqb}
use lib.ListN.{length}
use lib.Seq.{slice}
use borrow.Author.Tests.{ltb-false, eqb-true, eqb-false, not-false}
use Rattle.std.proofs.lemmas.Bool.{or_parts}
use Rattle.ion.proofs.Tests.{by_cases}
use Rattle.reading.specs.declared.Refusal.{Refusal}
use Rattle.reading.specs.declared.Name.{Name}
use Rattle.reading.specs.declared.Number.{Number}
use Rattle.reading.specs.declared.Header.{Header}
use Rattle.reading.specs.declared.Wrapped.{Wrapped}
use Rattle.reading.specs.declared.Item.{Item}
use Rattle.reading.specs.Headers.{marked}
use Rattle.reading.specs.Items as S
use Rattle.reading.specs.Items.{has_names, name_of, opens, falls, reads, name_at, head_in, unwrapped, judged, item_at}

-- ---- the tests of an item

pub record Judged (s : List ℕ) (parent least depth at : ℕ) (i : Item) : Type 0 where
  pub next : ℕ
  pub inside : at < length s
  pub named : name_at s parent at ≡ Ok (record { value = i.name; next = next })
  pub unwraps : unwrapped s (head_in s parent next) ≡ Ok i.held
  pub rises : falls parent least i.held.header.kind i.name ≡ false
  pub good : reads i.held.header.kind (slice i.held.header.start i.held.header.stop s) ≡ true
  pub shallow : (opens i.held.header.kind && leb 32 depth) ≡ false

module _ (s : List ℕ) (parent least depth at : ℕ) (i : Item) (inside : at < length s) where
  judged_wrapped : (n : Name) → name_at s parent at ≡ Ok n → (o : Result Wrapped Refusal) → unwrapped s (head_in s parent n.next) ≡ o
      → judged s parent least depth n.value o ≡ Ok (Some i) → Judged s parent least depth at i
  judged_wrapped n q (Err r) u e = cc
  judged_wrapped n q (Ok w) u e =
      by_cases (falls parent least w.header.kind n.value || not (reads w.header.kind (slice w.header.start w.header.stop s)))
      (λ p. cc)
      (λ p. by_cases (opens w.header.kind && leb 32 depth)
      (λ y. cc)
      (λ y.
      let c : record { name = n.value; held = w } ≡ i = cc in
      let z = or_parts (falls parent least w.header.kind n.value) _ p in
      subst (λ (j : Item). Judged s parent least depth at j) c
      (record { next = n.next; inside = inside; named = q; unwraps = u; rises = z.0; good = not-false (reads w.header.kind (slice w.header.start w.header.stop s)) z.1; shallow = y })))

  judged-named : (o : Result Name Refusal) → name_at s parent at ≡ o → S.named s parent least depth o ≡ Ok (Some i) → Judged s parent least depth at i
  judged-named (Err r) q e = cc
  judged-named (Ok n) q e = judged_wrapped n q (unwrapped s (head_in s parent n.next)) refl e

pub item_judged : (s : List ℕ) (parent least depth at : ℕ) (i : Item) → item_at s parent least depth at ≡ Ok (Some i) → Judged s parent least depth at i
unfolding item_at
item_judged s parent least depth at i e =
    by_cases (ltb (length s) at)
    (λ p. cc)
    (λ p. by_cases (eqb at (length s))
    (λ q. cc)
    (λ q.
    let n : at ≢ length s = eqb-false at (length s) q in
    let h : at ≤ length s = ltb-false (length s) at p in
    judged-named s parent least depth at i (omega arith) (name_at s parent at) refl (rw q at (rw p at e))))

without_name : (s : List ℕ) (parent at : ℕ) (n : Name) → has_names parent ≡ false → name_at s parent at ≡ Ok n → at ≡ n.next
without_name s parent at n h e = cc

no_value : (s : List ℕ) (parent at : ℕ) (n : Name) → has_names parent ≡ false → name_at s parent at ≡ Ok n → n.value ≡ None
no_value s parent at n h e = cc

pub unnamed : {s : List ℕ} {parent least depth at : ℕ} {i : Item} → Judged s parent least depth at i → has_names parent ≡ false → i.name ≡ None
unnamed {s} {parent} {least} {depth} {at} {i} j h = no_value s parent at (record { value = i.name; next = j.next }) h j.named

-- a name is a number, where there is one
pub number_of : (m : Name) (o : Result Number Refusal) → name_of o ≡ Ok m → (k : ℕ) × (m.value ≡ Some k) × (o ≡ Ok (record { value = k; next = m.next }))
number_of m (Err r) e = cc
number_of m (Ok n) e =
    let v : m.value ≡ Some n.value = cc in
    let p : n.next ≡ m.next = cc in
    (n.value, v, ap (λ (x : ℕ). Ok (record { value = n.value; next = x })) p)

-- where items have no name, the item has none, and the header stands at the place itself
pub headed_here : {s : List ℕ} {parent least depth at : ℕ} {i : Item} (j : Judged s parent least depth at i) → has_names parent ≡ false → at ≡ j.next
headed_here {s} {parent} {least} {depth} {at} {i} j h = without_name s parent at (record { value = i.name; next = j.next }) h j.named

-- ---- the end

wrapped_no_end : {X : Type 0} (s : List ℕ) (parent least depth : ℕ) (m : Option ℕ) (o : Result Wrapped Refusal) → judged s parent least depth m o ≡ Ok None → X
wrapped_no_end s parent least depth m (Err r) e = cc
wrapped_no_end s parent least depth m (Ok w) e =
    by_cases (falls parent least w.header.kind m || not (reads w.header.kind (slice w.header.start w.header.stop s)))
    (λ p. cc)
    (λ p. by_cases (opens w.header.kind && leb 32 depth) (λ y. cc) (λ y. cc))

named_no_end : {X : Type 0} (s : List ℕ) (parent least depth : ℕ) (o : Result Name Refusal) → S.named s parent least depth o ≡ Ok None → X
named_no_end s parent least depth (Err r) e = cc
named_no_end s parent least depth (Ok n) e = wrapped_no_end s parent least depth n.value (unwrapped s (head_in s parent n.next)) e

pub item_end : (s : List ℕ) (parent least depth at : ℕ) → item_at s parent least depth at ≡ Ok None → at ≡ length s
unfolding item_at
item_end s parent least depth at e =
    by_cases (ltb (length s) at)
    (λ p. cc)
    (λ p. by_cases (eqb at (length s))
    (λ q. eqb-true at (length s) q)
    (λ q. named_no_end s parent least depth (name_at s parent at) (rw q at (rw p at e))))

-- ---- a version marker

pub marked-bytes : (ms : List ℕ) (at : ℕ) (l : List ℕ) (h : Header) → marked ms at l ≡ Ok h
    → (r : List ℕ) × (l ≡ ms ++ r) × (h.kind ≡ 0xE0) × (h.stop ≡ at + length ms) × (h.start ≡ h.stop)
unfolding marked
marked-bytes [] at l h e = (l, refl, cc, (let z : at ≡ h.stop = cc in omega arith), cc)
marked-bytes (m ∷ ms) at [] h e = cc
marked-bytes (m ∷ ms) at (b ∷ bs) h e =
    by_cases (eqb b m)
    (λ p.
    let d = marked-bytes ms (at + 1) bs h (rw p at e) in
    (d.0, ap (λ (y : ℕ). y ∷ bs) (eqb-true b m p) ∙ ap (m ∷◌) d.1, d.2, omega (arith, d.3), d.4))
    (λ p. cc)
