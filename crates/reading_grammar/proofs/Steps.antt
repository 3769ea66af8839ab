-- One step of the walk, at a value, at a pad and at a version marker of the grammar.
-- Assumes nothing.
use Rattle.std.specs.Prelude.{Ok, Option, Some, None, unwrap_or}
use Prim.Native.Nat.{ℕ, suc, ◌+◌, ◌/◌, ◌%◌, ◌≤◌, ◌<◌}
use native.Mathlib.Omega.{arith}
use mathlib.Core.Path.{◌≡◌, sym, ◌∙◌, ap}
use mathlib.Core.Bool.{true, false, cond, ◌&&◌, and-false}
use mathlib.Core.List.{List, [], ◌∷◌, ◌++◌, append_assoc}
use mathlib.Core.Option.{none}
use lib.Dec.{ltb, leb, eqb}
use lib.ListN.{length, take, get_or, length-append}
use lib.Seq.{slice}
use borrow.Author.Tests.{le-ltb, lt-leb, ne_eqb, ltb-true}
use Rattle.ion.specs.Value.{Value}
use Rattle.ion.proofs.Tests.{by_cases}
use Rattle.reading.specs.declared.Refusal.{Refusal}
use Rattle.reading.specs.declared.Refusal.TheVariants.{NotIon, CutShort}
use Rattle.reading.specs.Headers.{header_at, marked, marker_at, top_header_at}
use Rattle.reading.specs.Scalars.{code_from, body_of, scalar_in}
use Rattle.reading.specs.Items.{is_pad, opens, is_sorted_struct, is_stream, is_below, name_at, head_in, item_at}
use Rattle.reading.specs.Walk.{Event, marker, tree_events, tree_depth, shows, name_shown, item_walk, walk_from}
use Rattle.reading_grammar.proofs.Places.{Rest, rest-length, rest-next, rest-slice, rest_within, rest_head}
use Rattle.reading_grammar.proofs.One.{OneFound, PadFound}

-- what running out of bytes means in a parent
abbrev pub out_in : ℕ → Refusal
out_in parent = cond (is_stream parent) CutShort NotIon

pub head_in-plain : (s : List ℕ) (parent at : ℕ) → eqb (get_or s at 0) 0xE0 ≡ false → head_in s parent at ≡ header_at (out_in parent) s at
unfolding top_header_at
head_in-plain s parent at e = by_cases (is_stream parent) (λ p. rw (p, e)) (λ p. rw p)

front_byte : {s : List ℕ} {at : ℕ} (b r : List ℕ) → 0 < length b → Rest s at (b ++ r) → get_or s at 0 ≡ get_or b 0 0
front_byte [] r h x = absurd (omega arith)
front_byte (a ∷ b) r h x = rest_head x

-- ---- a value

not_deep : (k depth d : ℕ) → (opens k ≡ true → 0 < d) → depth + d ≤ 32 → (opens k && leb 32 depth) ≡ false
not_deep k depth d g h = by_cases (opens k) (λ p. let z : 0 < d = g p in rw (p, lt-leb 32 depth (omega arith))) (λ p. rw p)

module _ (s : List ℕ) (parent least depth at : ℕ) (name : Option ℕ) (next : ℕ) (b : List ℕ) (v : Value) (r : List ℕ) (w : OneFound b v)
    (inside : at < length s) (named : name_at s parent at ≡ Ok (record { value = name; next = next }))
    (x : Rest s next (b ++ r)) (rises : (is_sorted_struct parent && is_below least name) ≡ false)
    (from to start stop : ℕ) (p : from ≡ next + length w.x) (q : to ≡ from + length w.names) (i : start ≡ to + length w.y)
    (j : stop ≡ start + length w.body) where
  apart : Rest s next (w.x ++ (w.names ++ (w.y ++ (w.body ++ r))))
  apart = simp append_assoc at (rw w.joins at x)

  sids_slice : slice from to s ≡ w.names
  sids_slice = rest-slice w.names (w.y ++ (w.body ++ r)) to q (rest-next w.x (w.names ++ (w.y ++ (w.body ++ r))) from p apart)

  pub body_here : Rest s start (w.body ++ r)
  body_here =
      rest-next w.y (w.body ++ r) start i
      (rest-next w.names (w.y ++ (w.body ++ r)) to q (rest-next w.x (w.names ++ (w.y ++ (w.body ++ r))) from p apart))

  pub body-slice : slice start stop s ≡ w.body
  body-slice = rest-slice w.body r stop j body_here

  first_byte : eqb (get_or s next 0) 0xE0 ≡ false
  first_byte = ne_eqb (get_or s next 0) 0xE0 (λ e. w.byte (sym (front_byte w.x (w.names ++ (w.y ++ (w.body ++ r))) w.pos apart) ∙ e))

  -- the item, where one more container may be open
  pub item_placed : (opens w.kind && leb 32 depth) ≡ false
      → item_at s parent least depth at ≡ Ok (Some (record { name = name; held = record { sids = from; sids_end = to; header = record { kind = w.kind; start = start; stop = stop } } }))
  unfolding item_at
  item_placed low =
      rw (
        le-ltb (length s) at (omega arith),
        ne_eqb at (length s) (λ e. omega arith),
        named,
        head_in-plain s parent next first_byte,
        w.unwraps (out_in parent) s next r from to start stop p q i j x,
        body-slice,
        w.good,
        w.pad,
        rises,
        low,
      )

module _ (s : List ℕ) (parent least depth at : ℕ) (name : Option ℕ) (next : ℕ) (b : List ℕ) (v : Value) (r : List ℕ) (w : OneFound b v)
    (inside : at < length s) (named : name_at s parent at ≡ Ok (record { value = name; next = next }))
    (x : Rest s next (b ++ r)) (rises : (is_sorted_struct parent && is_below least name) ≡ false) (shallow : depth + tree_depth v ≤ 32)
    (from to start stop : ℕ) (p : from ≡ next + length w.x) (q : to ≡ from + length w.names) (i : start ≡ to + length w.y)
    (j : stop ≡ start + length w.body) where
  item_found : item_at s parent least depth at ≡ Ok (Some (record { name = name; held = record { sids = from; sids_end = to; header = record { kind = w.kind; start = start; stop = stop } } }))
  item_found =
      item_placed s parent least depth at name next b v r w inside named x rises from to start stop p q i j
      (not_deep w.kind depth (tree_depth v) w.deep shallow)

  item_walks : (f : ℕ) → length b ≤ f
      → item_walk (λ t k l d m. walk_from f t k l d m) s depth
      (record { name = name; held = record { sids = from; sids_end = to; header = record { kind = w.kind; start = start; stop = stop } } })
      ≡ shows (tree_events (name_shown name) v)
  item_walks f h =
      let lt : length w.body < f =
      omega (
        arith,
        ap length w.joins,
        length-append w.x (w.names ++ (w.y ++ w.body)),
        length-append w.names (w.y ++ w.body),
        length-append w.y w.body,
        w.pos,
      ) in
      rw (
        sids_slice s parent least depth at name next b v r w inside named x rises from to start stop p q i j,
        w.known,
        body-slice s parent least depth at name next b v r w inside named x rises from to start stop p q i j,
      )
      (w.walks (take stop s) start f depth (name_shown name) (rest_within w.body r stop j
      (body_here s parent least depth at name next b v r w inside named x rises from to start stop p q i j))
      lt shallow)

  pub step_value : (f : ℕ) (es : List Event) → length b ≤ f → walk_from f s parent (unwrap_or name 0) depth stop ≡ shows es
      → walk_from (suc f) s parent least depth at ≡ shows (tree_events (name_shown name) v ++ es)
  unfolding walk_from
  step_value f es h g = rw (item_found, item_walks f h, w.pad, g)

-- ---- a pad

pub pad_shows-none : (k : ℕ) (body : List ℕ) → is_pad k ≡ true → scalar_in k body ≡ none
unfolding scalar_in code_from body_of
pad_shows-none k body e =
    let h : k < 15 = ltb-true k 15 e in
    let hi : k / 16 ≡ 0 = omega arith in
    let lo : k % 16 ≡ k = omega arith in
    rw (hi, lo, ne_eqb k 15 (λ q. omega arith))

module _ (s : List ℕ) (parent least depth at : ℕ) (name : Option ℕ) (next : ℕ) (b r : List ℕ) (w : PadFound b) (inside : at < length s)
    (named : name_at s parent at ≡ Ok (record { value = name; next = next })) (x : Rest s next (b ++ r))
    (stop : ℕ) (j : stop ≡ next + length b) where
  pad_byte : eqb (get_or s next 0) 0xE0 ≡ false
  pad_byte =
      ne_eqb (get_or s next 0) 0xE0
      (λ e. let h : w.kind < 15 = ltb-true w.kind 15 w.is.pad in omega (arith, front_byte b r w.pos x, w.byte, h))

  pub pad_item : item_at s parent least depth at
      ≡ Ok (Some (record { name = name; held = record { sids = next + w.size; sids_end = next + w.size; header = record { kind = w.kind; start = next + w.size; stop = stop } } }))
  unfolding item_at
  pad_item =
      rw (
        le-ltb (length s) at (omega arith),
        ne_eqb at (length s) (λ e. omega arith),
        named,
        head_in-plain s parent next pad_byte,
        w.headed (out_in parent) s next r stop j x,
        w.is.wrapper,
        w.is.pad,
        w.is.shut,
        and-false (is_sorted_struct parent),
      )

  pub step_pad : (f : ℕ) (es : List Event) → walk_from f s parent least depth stop ≡ shows es → walk_from (suc f) s parent least depth at ≡ shows es
  unfolding walk_from
  step_pad f es g = rw (pad_item, w.is.shut, w.is.marker, pad_shows-none w.kind (slice (next + w.size) stop s) w.is.pad, w.is.pad, g)

-- ---- a version marker, which only a stream has

pub marker_item : {s : List ℕ} {at : ℕ} (least depth : ℕ) (b : List ℕ) → Rest s at (0xE0 ∷ 0x01 ∷ 0x00 ∷ 0xEA ∷ b)
    → item_at s 0 least depth at ≡ Ok (Some (record {
      name = None;
      held =
          record {
            sids = at + 1 + 1 + 1 + 1;
            sids_end = at + 1 + 1 + 1 + 1;
            header = record { kind = 0xE0; start = at + 1 + 1 + 1 + 1; stop = at + 1 + 1 + 1 + 1 };
          };
    }))
unfolding item_at top_header_at marker_at marked
marker_item {s} {at} least depth b x =
    rw (le-ltb (length s) at (omega (arith, rest-length x)), ne_eqb at (length s) (λ e. omega (arith, rest-length x)), rest_head x, x.is)

pub step_marker : {s : List ℕ} {at : ℕ} (least depth f : ℕ) (b : List ℕ) (es : List Event) → Rest s at (0xE0 ∷ 0x01 ∷ 0x00 ∷ 0xEA ∷ b)
    → ((next : ℕ) → next ≡ at + 4 → walk_from f s 0 0 depth next ≡ shows es) → walk_from (suc f) s 0 least depth at ≡ shows (marker ∷ es)
unfolding walk_from
step_marker {s} {at} least depth f b es x g = rw (marker_item least depth b x, g (at + 1 + 1 + 1 + 1) (omega arith))
