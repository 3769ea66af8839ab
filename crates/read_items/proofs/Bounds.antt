-- What is known of an item that reads: where its sids and its body stand, and that there is room for a container.
-- Assumes nothing.
use Prim.Native.Nat.{ℕ, ◌+◌, ◌%◌, ◌^◌, ◌≤◌, ◌<◌}
use native.Mathlib.Omega.{arith}
use mathlib.Core.Path.{◌≡◌, refl, sym, ◌∙◌, ap}
use mathlib.Core.Bool.{Bool, true, false, cond, ◌&&◌, ◌||◌, not}
use mathlib.Core.List.{List}
use lib.Dec.{ltb, leb, eqb}
use lib.ListN.{length, take}
use lib.Seq.{slice, length-take-le}
use borrow.Author.Tests.{ltb-false, leb-false}
use Rattle.reading.specs.declared.Refusal.{Refusal}
use Rattle.reading.specs.declared.Refusal.TheVariants.{PastTheEnd, TooDeep, NotIon}
use Rattle.reading.specs.declared.Number.{Number}
use Rattle.reading.specs.declared.Name.{Name}
use Rattle.reading.specs.declared.Header.{Header}
use Rattle.reading.specs.declared.Wrapped.{Wrapped}
use Rattle.reading.specs.declared.Item.{Item}
use Rattle.std.specs.Prelude.{Result, Ok, Err, Option, Some, None, unwrap_or}
use Rattle.reading.specs.Headers.{var_uint_at, header_at, top_header_at}
use Rattle.reading.specs.Scalars.{is_some, sids_of}
use Rattle.reading.specs.Items.{is_pad, is_wrapper, is_stream, has_names, opens, name_of, name_at, head_in, filled, annotated, wrapped_at, unwrapped, reads, falls}
use Rattle.reading.specs.Items.{most_open, Found, judged, named, item_at}
use Rattle.read_fields.proofs.VarUInts.{var_uint_bounds}
use Rattle.read_header.proofs.Bounds.{Within, header_bounds, top_header_bounds}

-- ---- the name and the header

pub name_bounds : (s : List ℕ) (parent at : ℕ) (n : Name) → at ≤ length s → name_at s parent at ≡ Ok n
    → (at ≤ n.next) × (n.next ≤ length s) × (unwrap_or n.value 0 < 2 ^ 64)
name_bounds s parent at n h e = by_parent (has_names parent) e
  where
    by_number : (x : Result Number Refusal) → var_uint_at NotIon s at ≡ x → name_of x ≡ Ok n
        → (at ≤ n.next) × (n.next ≤ length s) × (unwrap_or n.value 0 < 2 ^ 64)
    by_number (Err r) q e = cc
    by_number (Ok k) q e =
        let w = var_uint_bounds NotIon s at k q in
        let v : Some k.value ≡ n.value = cc in
        let p : k.next ≡ n.next = cc in
        (omega (arith, w.0), omega (arith, w.1), rw (← v) w.2)

    by_parent : (x : Bool) → cond x (name_of (var_uint_at NotIon s at)) (Ok (record { value = None; next = at })) ≡ Ok n
        → (at ≤ n.next) × (n.next ≤ length s) × (unwrap_or n.value 0 < 2 ^ 64)
    by_parent true e = by_number (var_uint_at NotIon s at) refl e
    by_parent false e =
        let v : None ≡ n.value = cc in
        let p : at ≡ n.next = cc in
        (omega arith, omega arith, rw (← v) (omega arith))

pub head_bounds : (s : List ℕ) (parent at : ℕ) (h : Header) → head_in s parent at ≡ Ok h → Within s at h
head_bounds s parent at h e = by_parent (is_stream parent) e
  where
    by_parent : (x : Bool) → cond x (top_header_at s at) (header_at NotIon s at) ≡ Ok h → Within s at h
    by_parent true e = top_header_bounds s at h e
    by_parent false e = header_bounds NotIon s at h e

-- ---- the value in a wrapper, or as it stands

pub record Held (at end sids sids_end start stop : ℕ) : Type 0 where
  pub after : at < sids
  pub behind : sids ≤ sids_end
  pub before : sids_end ≤ start
  pub body : start ≤ stop
  pub within : stop ≤ end

module _ (s : List ℕ) (w : Wrapped) where
  filled_bounds : (at from to : ℕ) (h : Result Header Refusal) → at < from → from ≤ to → header_at NotIon s to ≡ h → filled s from to h ≡ Ok w
      → Held at (length s) w.sids w.sids_end w.header.start w.header.stop
  filled_bounds at from to (Err r) k l q e = cc
  filled_bounds at from to (Ok h) k l q e = by_test (is_pad h.kind || (is_wrapper h.kind || not (eqb h.stop (length s)))) e
    where
      by_test : (x : Bool) → cond x (Err NotIon) (Ok (record { sids = from; sids_end = to; header = h })) ≡ Ok w
          → Held at (length s) w.sids w.sids_end w.header.start w.header.stop
      by_test true e = cc
      by_test false e =
          let v = header_bounds NotIon s to h q in
          let a : from ≡ w.sids = cc in
          let b : to ≡ w.sids_end = cc in
          let c : h.start ≡ w.header.start = cc in
          let d : h.stop ≡ w.header.stop = cc in
          record {
            after = omega arith;
            behind = omega arith;
            before = omega (arith, v.after);
            body = omega (arith, v.body);
            within = omega (arith, v.within);
          }

  pub wrapped_bounds : (at : ℕ) → wrapped_at s at ≡ Ok w → Held at (length s) w.sids w.sids_end w.header.start w.header.stop
  unfolding wrapped_at
  wrapped_bounds at e = by_sum (var_uint_at NotIon s at) refl e
    where
      by_test : (n from : ℕ) → at < from → (x : Bool)
          → cond x (filled s from (from + n) (header_at NotIon s (from + n))) (Err NotIon) ≡ Ok w
          → Held at (length s) w.sids w.sids_end w.header.start w.header.stop
      by_test n from h true e = filled_bounds at from (from + n) (header_at NotIon s (from + n)) h (omega arith) refl e
      by_test n from h false e = cc

      by_sum : (x : Result Number Refusal) → var_uint_at NotIon s at ≡ x → annotated s x ≡ Ok w → Held at (length s) w.sids w.sids_end w.header.start w.header.stop
      by_sum (Err r) q e = cc
      by_sum (Ok n) q e =
          by_test n.value n.next (var_uint_bounds NotIon s at n q).0
          (leb 1 n.value && (leb (n.next + n.value) (length s) && is_some (sids_of (slice n.next (n.next + n.value) s)))) e

pub unwrapped_bounds : (s : List ℕ) (at : ℕ) (h : Header) (w : Wrapped) → Within s at h → unwrapped s (Ok h) ≡ Ok w
    → Held at (length s) w.sids w.sids_end w.header.start w.header.stop
unwrapped_bounds s at h w k e = by_kind (is_wrapper h.kind) e
  where
    by_kind : (x : Bool) → cond x (wrapped_at (take h.stop s) h.start)
        (Ok (record { sids = h.start; sids_end = h.start; header = h })) ≡ Ok w
        → Held at (length s) w.sids w.sids_end w.header.start w.header.stop
    by_kind true e =
        let v = wrapped_bounds (take h.stop s) w h.start e in
        record {
          after = omega (arith, v.after, k.after);
          behind = v.behind;
          before = v.before;
          body = v.body;
          within = omega (arith, v.within, k.within, length-take-le h.stop s k.within);
        }
    by_kind false e =
        let a : h.start ≡ w.sids = cc in
        let b : h.start ≡ w.sids_end = cc in
        let c : h.start ≡ w.header.start = cc in
        let d : h.stop ≡ w.header.stop = cc in
        record {
          after = omega (arith, k.after);
          behind = omega arith;
          before = omega arith;
          body = omega (arith, k.body);
          within = omega (arith, k.within);
        }

-- what a header behind a name holds
held_bounds : (s : List ℕ) (parent at : ℕ) (w : Wrapped) → unwrapped s (head_in s parent at) ≡ Ok w
    → Held at (length s) w.sids w.sids_end w.header.start w.header.stop
held_bounds s parent at w e = by_header (head_in s parent at) refl e
  where
    by_header : (h : Result Header Refusal) → head_in s parent at ≡ h → unwrapped s h ≡ Ok w → Held at (length s) w.sids w.sids_end w.header.start w.header.stop
    by_header (Err r) q e = cc
    by_header (Ok h) q e = unwrapped_bounds s at h w (head_bounds s parent at h q) e

-- and so its body lies within the bytes
pub body_bounds : (s : List ℕ) (parent at : ℕ) (w : Wrapped) → Ok w ≡ unwrapped s (head_in s parent at)
    → (w.header.start ≤ w.header.stop) × (w.header.stop ≤ length s)
body_bounds s parent at w e = let k = held_bounds s parent at w (sym e) in (k.body, k.within)

-- ---- the item

pub record Placed (s : List ℕ) (depth at : ℕ) (i : Item) : Type 0 where
  pub held : Held at (length s) i.held.sids i.held.sids_end i.held.header.start i.held.header.stop
  pub name64 : unwrap_or i.name 0 < 2 ^ 64
  pub room : opens i.held.header.kind ≡ true → depth < most_open

-- with room for a container, one more is open inside
pub one_more : {depth : ℕ} (inside : ℕ) → inside ≡ (depth + 1) % 256 → depth < most_open → inside ≡ depth + 1
one_more {depth} inside e h = omega (arith, e)

module _ (s : List ℕ) (parent least depth at : ℕ) (i : Item) where
  judged_bounds : (n : Option ℕ) (next : ℕ) (x : Result Wrapped Refusal) → at ≤ next → unwrap_or n 0 < 2 ^ 64
      → ((w : Wrapped) → x ≡ Ok w → Held next (length s) w.sids w.sids_end w.header.start w.header.stop) → judged s parent least depth n x ≡ Ok (Some i) → Placed s depth at i
  judged_bounds n next (Err r) h u k e = cc
  judged_bounds n next (Ok w) h u k e =
      by_tests (falls parent least w.header.kind n || not (reads w.header.kind (slice w.header.start w.header.stop s))) (opens w.header.kind) (leb most_open depth) refl refl e
    where
      same : (opens w.header.kind ≡ true → depth < most_open)
          → ◌≡◌ {A = Found} (Ok (Some (record { name = n; held = w }))) (Ok (Some i))
          → Placed s depth at i
      same m e =
          let v = k w refl in
          let name≡ : n ≡ i.name = cc in
          let held≡ : w ≡ i.held = cc in
          rw (← name≡, ← held≡) (record {
            held = record { after = omega (arith, v.after); behind = v.behind; before = v.before; body = v.body; within = v.within };
            name64 = u;
            room = m;
          })

      by_tests : (x y z : Bool) → opens w.header.kind ≡ y → leb most_open depth ≡ z
          → cond x (Err NotIon) (cond (y && z) (Err TooDeep)
          (Ok (Some (record { name = n; held = w })))) ≡ Ok (Some i)
          → Placed s depth at i
      by_tests true y z p q e = cc
      by_tests false true true p q e = cc
      by_tests false true false p q e = same (λ o. leb-false most_open depth q) e
      by_tests false false z p q e = same (λ o. cc (p, o)) e

  named_bounds : (n : Result Name Refusal) → ((x : Name) → n ≡ Ok x → (at ≤ x.next) × (x.next ≤ length s) × (unwrap_or x.value 0 < 2 ^ 64))
      → named s parent least depth n ≡ Ok (Some i) → Placed s depth at i
  named_bounds (Err r) k e = cc
  named_bounds (Ok n) k e =
      let w = k n refl in
      judged_bounds n.value n.next (unwrapped s (head_in s parent n.next)) w.0 w.2 (λ w q. held_bounds s parent n.next w q) e

  pub item_bounds : item_at s parent least depth at ≡ Ok (Some i) → Placed s depth at i
  unfolding item_at
  item_bounds e = by_place (ltb (length s) at) (eqb at (length s)) refl e
    where
      by_place : (x y : Bool) → ltb (length s) at ≡ x
          → cond x (Err PastTheEnd) (cond y (Ok None) (named s parent least depth (name_at s parent at))) ≡ Ok (Some i)
          → Placed s depth at i
      by_place true y q e = cc
      by_place false true q e = cc
      by_place false false q e = named_bounds (name_at s parent at) (λ n p. name_bounds s parent at n (ltb-false (length s) at q) p) e

-- the item that a caller takes out of what it was answered
pub found_here : (s : List ℕ) (parent least depth at : ℕ) {i : Item} {r : Found} {o : Option Item} → r ≡ item_at s parent least depth at → r ≡ Ok o → o ≡ Some i
    → (item_at s parent least depth at ≡ Ok (Some i)) × Placed s depth at i
found_here s parent least depth at {i} answer ok some =
    let is = sym answer ∙ ok ∙ ap Ok some in
    (is, item_bounds s parent least depth at i is)
