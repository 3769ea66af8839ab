-- An item stands, or why it does not, by the tests of its name, its body and the open containers.
-- Assumes nothing.
use Prim.Native.Nat.{ℕ, ◌<◌}
use native.Mathlib.Omega.{arith}
use mathlib.Core.Path.{◌≡◌, refl, sym, ◌∙◌, ap}
use mathlib.Core.Bool.{Bool, true, false, cond, ◌&&◌, ◌||◌, not}
use mathlib.Core.List.{List}
use lib.Dec.{leb}
use lib.ListN.{length}
use lib.Seq.{slice}
use borrow.Author.Tests.{le-ltb, ne_eqb}
use Rattle.reading.specs.declared.Refusal.{Refusal}
use Rattle.reading.specs.declared.Refusal.TheVariants.{TooDeep, NotIon}
use Rattle.reading.specs.declared.Name.{Name}
use Rattle.reading.specs.declared.Wrapped.{Wrapped}
use Rattle.reading.specs.Scalars.{is_some, scalar_in}
use Rattle.reading.specs.Items.{is_pad, is_marker, opens, reads, falls, most_open, Found, name_at, head_in, unwrapped, judged, named, item_at}
use Rattle.read_items.specs.Stands.{stands}
use Rattle.std.specs.Prelude.{Ok, Err, Option, Some}

-- a container is not judged by its body
pub container_reads : (kind : ℕ) (body : List ℕ) → opens kind ≡ true → reads kind body ≡ true
container_reads kind body o = go (is_pad kind) (is_marker kind)
  where
    go : (x y : Bool) → (x || (y || (opens kind || is_some (scalar_in kind body)))) ≡ true
    go true y = refl
    go false true = refl
    go false false = rw (o) refl

pub reads_by : (kind : ℕ) (body : List ℕ) → (is_some (scalar_in kind body) || (is_pad kind || (is_marker kind || opens kind))) ≡ reads kind body
reads_by kind body = go (is_pad kind) (is_marker kind) (opens kind) (is_some (scalar_in kind body))
  where
    go : (x y z r : Bool) → (r || (x || (y || z))) ≡ (x || (y || (z || r)))
    go true y z true = refl
    go true y z false = refl
    go false true z true = refl
    go false true z false = refl
    go false false true true = refl
    go false false true false = refl
    go false false false true = refl
    go false false false false = refl

module _ (s : List ℕ) (parent least depth : ℕ) (name : Option ℕ) (w : Wrapped) where
  pub judged_refused : (r : Refusal) → Err r ≡ stands parent least depth name w.header.kind (slice w.header.start w.header.stop s)
      → judged s parent least depth name (Ok w) ≡ Err r
  judged_refused r e =
      go (falls parent least w.header.kind name || not (reads w.header.kind (slice w.header.start w.header.stop s))) (opens w.header.kind && leb most_open depth) e
    where
      go : (x y : Bool) → Err r ≡ cond x (Err NotIon) (cond y (Err TooDeep) (Ok (tt {0})))
          → cond {A = Found} x (Err NotIon) (cond y (Err TooDeep) (Ok (Some (record { name = name; held = w })))) ≡ Err r
      go true y e = cc
      go false true e = cc
      go false false e = cc

  pub judged_stands : Ok (tt {0}) ≡ stands parent least depth name w.header.kind (slice w.header.start w.header.stop s)
      → judged s parent least depth name (Ok w) ≡ Ok (Some (record { name = name; held = w }))
  judged_stands e =
      go (falls parent least w.header.kind name || not (reads w.header.kind (slice w.header.start w.header.stop s))) (opens w.header.kind && leb most_open depth) e
    where
      go : (x y : Bool) → Ok tt ≡ cond x (Err NotIon) (cond y (Err TooDeep) (Ok (tt {0})))
          → cond {A = Found} x (Err NotIon) (cond y (Err TooDeep) (Ok (Some (record { name = name; held = w })))) ≡ Ok (Some (record { name = name; held = w }))
      go true y e = cc
      go false true e = cc
      go false false e = refl

-- the item whose name and header read
pub item_judged : (s : List ℕ) (parent least depth at : ℕ) (n : Name) (w : Wrapped) → at < length s → Ok n ≡ name_at s parent at
    → Ok w ≡ unwrapped s (head_in s parent n.next) → item_at s parent least depth at ≡ judged s parent least depth n.value (Ok w)
unfolding item_at
item_judged s parent least depth at n w h p q =
    let here : item_at s parent least depth at ≡ named s parent least depth (name_at s parent at) =
    rw (le-ltb (length s) at (omega arith), ne_eqb at (length s) (λ e. omega arith)) refl in
    here ∙ ap (named s parent least depth) (sym p) ∙ ap (judged s parent least depth n.value) (sym q)
