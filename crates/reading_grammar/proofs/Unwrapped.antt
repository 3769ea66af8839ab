-- The other way, at a value in its annotation wrapper: what is found is a wrapper of the grammar, or a bare value.
-- Assumes nothing.
use Rattle.std.specs.Prelude.{Result, Ok, Err}
use Prim.Native.Nat.{ℕ, ◌+◌, ◌/◌, ◌%◌, ◌≤◌, ◌<◌}
use native.Mathlib.Omega.{arith}
use mathlib.Core.Path.{◌≡◌, refl, sym, ◌∙◌, ap, subst}
use mathlib.Core.Logic.{◌≢◌}
use mathlib.Core.Bool.{true, false, ◌&&◌, ◌||◌, not}
use mathlib.Core.List.{List, [], ◌∷◌, ◌++◌, append-nil, append_assoc}
use mathlib.Core.Option.{some}
use lib.Dec.{leb, eqb}
use lib.ListN.{length, take, drop, length-append, take-append-drop}
use lib.Seq.{slice, slice_empty, length-take-le}
use borrow.Author.Tests.{ltb-true, leb-true, eqb-true, ne_eqb, not-false}
use Rattle.ion.specs.Value.{annotation_code, Value}
use Rattle.ion.specs.Fields.{VarUInt, var_uints}
use Rattle.ion.specs.Grammar.{Header, sids, bare, one, ◌⟶◌, sids_end, sids_next, is_bare, is_annotated}
use Rattle.std.proofs.lemmas.Bool.{or_parts}
use Rattle.ion.proofs.Tests.{by_cases, both}
use Rattle.reading.specs.declared.Refusal.{Refusal}
use Rattle.reading.specs.declared.Refusal.TheVariants.{NotIon}
use Rattle.reading.specs.declared.Number.{Number}
use Rattle.reading.specs.declared.Header.{Header as Head}
use Rattle.reading.specs.declared.Wrapped.{Wrapped}
use Rattle.reading.specs.Headers.{impossible, var_uint_at, header_at}
use Rattle.reading.specs.Scalars.{is_some, sids_of}
use Rattle.reading.specs.Items.{is_pad, is_wrapper, filled, annotated, wrapped_at, unwrapped}
use Rattle.reading.specs.Walk.{annotations}
use Rattle.reading_grammar.proofs.Tests.{contrary, some_of}
use Rattle.reading_grammar.proofs.Places.{Rest, rest-length, rest-next, rest-slice, rest_within}
use Rattle.reading_grammar.proofs.Numbers.{found_number, found_sids}
use Rattle.reading_grammar.proofs.Framing.{Framing, Framed, header_framed, framing_header}

-- ---- the body of a wrapper

sids_none : {l an : List ℕ} → l ⟶ sids an → an ≡ [] → length l ≡ 0
sids_none sids_end e = refl
sids_none (sids_next l {b} {an} {a} v r) e = absurd (let z : ◌≡◌ {A = ℕ} 0 1 = cc in omega arith)

-- the wrapper's body, from `at` to the end of t: the length l of the sids n, and the one value's bytes b
record Wrapping (t : List ℕ) (at : ℕ) (w : Wrapped) : Type 0 where
  l : List ℕ
  n : List ℕ
  b : List ℕ
  an : List ℕ
  here : Rest t at (l ++ (n ++ b))
  sized : VarUInt l (length n)
  starts : w.sids ≡ at + length l
  stops : w.sids_end ≡ w.sids + length n
  known : sids_of n ≡ some an
  some_sid : an ≢ []
  headed : header_at NotIon t w.sids_end ≡ Ok w.header
  pad : is_pad w.header.kind ≡ false
  wrapper : is_wrapper w.header.kind ≡ false
  ends : w.header.stop ≡ length t

module _ (t : List ℕ) (at : ℕ) (w : Wrapped) where
  wrapping_filled : (l n b an : List ℕ) (i j : ℕ) → Rest t at (l ++ (n ++ b)) → VarUInt l (length n) → i ≡ at + length l → j ≡ i + length n
      → sids_of n ≡ some an → an ≢ []
      → (o : Result Head Refusal) → header_at NotIon t j ≡ o → filled t i j o ≡ Ok w → Wrapping t at w
  wrapping_filled l n b an i j x v p q y z (Err r) u e = cc
  wrapping_filled l n b an i j x v p q y z (Ok h) u e =
      by_cases (is_pad h.kind || (is_wrapper h.kind || not (eqb h.stop (length t))))
      (λ m. cc)
      (λ m.
      let d = or_parts (is_pad h.kind) _ m in
      let g = or_parts (is_wrapper h.kind) _ d.1 in
      let c : record { sids = i; sids_end = j; header = h } ≡ w = cc in
      subst (λ (x : Wrapped). Wrapping t at x) c
      (record {
        l = l;
        n = n;
        b = b;
        an = an;
        here = x;
        sized = v;
        starts = p;
        stops = q;
        known = y;
        some_sid = z;
        headed = u;
        pad = d.0;
        wrapper = g.0;
        ends = eqb-true h.stop (length t) (not-false (eqb h.stop (length t)) g.1);
      }))

  wrapping_annotated : at ≤ length t → (o : Result Number Refusal) → var_uint_at NotIon t at ≡ o → annotated t o ≡ Ok w → Wrapping t at w
  wrapping_annotated le (Err r) u e = cc
  wrapping_annotated le (Ok n) u e =
      by_cases (leb 1 n.value && (leb (n.next + n.value) (length t) && is_some (sids_of (slice n.next (n.next + n.value) t))))
      (λ m.
      let d = both {a = leb 1 n.value} m in
      let g = both {a = leb (n.next + n.value) (length t)} d.1 in
      let v = found_number NotIon t at n u in
      let x : Rest t at (v.front ++ v.rest) = record { within = le; is = v.joins } in
      let fits : n.value ≤ length v.rest = omega (arith, rest-length x, length-append v.front v.rest, v.ends, leb-true (n.next + n.value) (length t) g.0) in
      let size : length (take n.value v.rest) ≡ n.value = length-take-le n.value v.rest fits in
      let y : Rest t at (v.front ++ (take n.value v.rest ++ drop n.value v.rest)) = rw (take-append-drop n.value v.rest) x in
      let z : slice n.next (n.next + n.value) t ≡ take n.value v.rest =
      rest-slice (take n.value v.rest) (drop n.value v.rest) (n.next + n.value) (omega arith)
      (rest-next v.front (take n.value v.rest ++ drop n.value v.rest) n.next v.ends y) in
      let k = some_of (sids_of (take n.value v.rest)) (rw z at g.1) in
      wrapping_filled v.front (take n.value v.rest) (drop n.value v.rest) k.0 n.next (n.next + n.value) y
      (v.reads ∙ ap (λ (j : ℕ). some (j, [])) (sym size)) v.ends (omega arith) k.1
      (λ q. omega (arith, sids_none (found_sids (take n.value v.rest) k.0 k.1) q, leb-true 1 n.value d.0))
      (header_at NotIon t (n.next + n.value)) refl (rw m at e))
      (λ m. cc)

  wrapping : at ≤ length t → wrapped_at t at ≡ Ok w → Wrapping t at w
  unfolding wrapped_at
  wrapping le e = wrapping_annotated le (var_uint_at NotIon t at) refl e

-- ---- a value, in its wrapper or not

-- the bytes p from `at` are a value whose type byte, behind its annotations `an`, stands before `tail` and `body`
pub record Valued (s : List ℕ) (at : ℕ) (w : Wrapped) : Type 0 where
  pub an : List ℕ
  pub p : List ℕ
  pub rest : List ℕ
  pub tail : List ℕ
  pub body : List ℕ
  pub here : Rest s at (p ++ rest)
  pub ends : w.header.stop ≡ at + length p
  pub shorter : length body < length p
  pub known : annotations (sids_of (slice w.sids w.sids_end s)) ≡ an
  pub held : slice w.header.start w.header.stop s ≡ body
  pub inner : Rest (take w.header.stop s) w.header.start body
  pub possible : impossible (w.header.kind / 16) (w.header.kind % 16) ≡ false
  pub framing : Framing w.header.kind (length body) tail
  pub value : (v : Value) → (w.header.kind ∷ (tail ++ body)) ⟶ bare an v → p ⟶ one v
  pub pad : is_pad w.header.kind ≡ true → p ≡ w.header.kind ∷ (tail ++ body)

-- a value as it stands: no sids
abbrev as_it_stands : Head → Wrapped
as_it_stands h = record { sids = h.start; sids_end = h.start; header = h }

bare_valued : (s : List ℕ) (at : ℕ) (h : Head) → Framed s at h → Valued s at (as_it_stands h)
unfolding sids_of var_uints
bare_valued s at h f =
    let x : Rest s h.start (f.body ++ f.rest) = rest-next (h.kind ∷ f.tail) (f.body ++ f.rest) h.start (omega (arith, f.starts)) f.here in
    record {
      an = [];
      p = h.kind ∷ (f.tail ++ f.body);
      rest = f.rest;
      tail = f.tail;
      body = f.body;
      here = rw (append_assoc f.tail f.body f.rest) f.here;
      ends = omega (arith, f.starts, f.stops, length-append f.tail f.body);
      shorter = omega (arith, length-append f.tail f.body);
      known = rw (slice_empty h.start s);
      held = rest-slice f.body f.rest h.stop f.stops x;
      inner = rest_within f.body f.rest h.stop f.stops x;
      possible = f.possible;
      framing = f.framing;
      value = λ v r. is_bare r;
      pad = λ e. refl;
    }

wrapper_head : (k : ℕ) {n : ℕ} {l : List ℕ} → Framing k n l → is_wrapper k ≡ true → Header annotation_code n (k ∷ l)
wrapper_head k f e =
    let b = both {a = leb 0xE1 k} e in
    let lo : 0xE1 ≤ k = leb-true 0xE1 k b.0 in
    let up : k < 0xEF = ltb-true k 0xEF b.1 in
    let hi : k / 16 ≡ 14 = omega arith in
    framing_header annotation_code f hi (rw (ne_eqb (k % 16) 15 (λ q. omega arith), hi)) refl

annotated_reading : (h l n b an : List ℕ) (v : Value) → Header annotation_code (length (l ++ (n ++ b))) h → VarUInt l (length n)
    → n ⟶ sids an → an ≢ [] → b ⟶ bare an v → (h ++ (l ++ (n ++ b))) ⟶ one v
annotated_reading h l n b [] v hd e r m q = absurd (m refl)
annotated_reading h l n b (a ∷ an) v hd e r m q = is_annotated l hd e r q

nothing_left : (b r : List ℕ) → length (b ++ r) ≡ length b → b ++ r ≡ b
nothing_left b [] e = append-nil b
nothing_left b (x ∷ r) e = absurd (omega (arith, length-append b (x ∷ r)))

module _ (s : List ℕ) (at : ℕ) (h : Head) (f : Framed s at h) (wr : is_wrapper h.kind ≡ true) (v : Wrapped) (w : Wrapping (take h.stop s) h.start v) where
  in_s : Rest s h.start (f.body ++ f.rest)
  in_s = rest-next (h.kind ∷ f.tail) (f.body ++ f.rest) h.start (omega (arith, f.starts)) f.here

  in_t : Rest (take h.stop s) h.start f.body
  in_t = rest_within f.body f.rest h.stop f.stops in_s

  body_parts : f.body ≡ w.l ++ (w.n ++ w.b)
  body_parts = sym in_t.is ∙ w.here.is

  ends_there : v.header.stop ≡ h.stop
  ends_there = w.ends ∙ rest-length in_t ∙ sym f.stops

  inner_head : Framed (take h.stop s) v.sids_end v.header
  inner_head = header_framed NotIon (take h.stop s) v.sids_end v.header w.headed

  at_value : Rest (take h.stop s) v.sids_end w.b
  at_value = rest-next w.n w.b v.sids_end w.stops (rest-next w.l (w.n ++ w.b) v.sids w.starts w.here)

  value_bytes : w.b ≡ v.header.kind ∷ (inner_head.tail ++ inner_head.body)
  value_bytes =
      let g = inner_head in
      let e : w.b ≡ v.header.kind ∷ (g.tail ++ (g.body ++ g.rest)) = sym at_value.is ∙ g.here.is in
      let z : length (g.body ++ g.rest) ≡ length g.body =
      omega (arith, rest-length g.here, g.starts, g.stops, w.ends, length-append g.tail (g.body ++ g.rest)) in
      rw (nothing_left g.body g.rest z) at e

  all_here : Rest s h.start (w.l ++ (w.n ++ (v.header.kind ∷ (inner_head.tail ++ (inner_head.body ++ f.rest)))))
  all_here = simp append_assoc at (rw value_bytes at (rw body_parts at in_s))

  body_there : Rest s v.header.start (inner_head.body ++ f.rest)
  body_there =
      let g = inner_head in
      rest-next (v.header.kind ∷ g.tail) (g.body ++ f.rest) v.header.start (omega (arith, g.starts))
      (rest-next w.n (v.header.kind ∷ (g.tail ++ (g.body ++ f.rest))) v.sids_end w.stops
      (rest-next w.l (w.n ++ (v.header.kind ∷ (g.tail ++ (g.body ++ f.rest)))) v.sids w.starts all_here))

  wrapped_valued : Valued s at v
  wrapped_valued =
      let g = inner_head in
      record {
        an = w.an;
        p = h.kind ∷ (f.tail ++ f.body);
        rest = f.rest;
        tail = g.tail;
        body = g.body;
        here = rw (append_assoc f.tail f.body f.rest) f.here;
        ends = omega (arith, f.starts, f.stops, length-append f.tail f.body, ends_there);
        shorter =
            omega (
              arith,
              length-append f.tail f.body,
              ap length body_parts,
              length-append w.l (w.n ++ w.b),
              length-append w.n w.b,
              ap length value_bytes,
              length-append g.tail g.body,
            );
        known =
            rw (
              rest-slice w.n (v.header.kind ∷ (g.tail ++ (g.body ++ f.rest))) v.sids_end w.stops
                  (rest-next w.l (w.n ++ (v.header.kind ∷ (g.tail ++ (g.body ++ f.rest)))) v.sids w.starts all_here),
              w.known,
            );
        held = rest-slice g.body f.rest v.header.stop g.stops body_there;
        inner = rest_within g.body f.rest v.header.stop g.stops body_there;
        possible = g.possible;
        framing = g.framing;
        value = λ x r. rw body_parts
            (annotated_reading (h.kind ∷ f.tail) w.l w.n w.b w.an x (wrapper_head h.kind (rw body_parts at f.framing) wr) w.sized
            (found_sids w.n w.an w.known) w.some_sid (rw value_bytes r));
        pad = λ e. contrary w.pad e;
      }

valued_head : (out : Refusal) (s : List ℕ) (at : ℕ) (w : Wrapped) (o : Result Head Refusal) → header_at out s at ≡ o → unwrapped s o ≡ Ok w → Valued s at w
valued_head out s at w (Err r) q e = cc
valued_head out s at w (Ok h) q e =
    let f = header_framed out s at h q in
    let x : Rest s h.start (f.body ++ f.rest) = rest-next (h.kind ∷ f.tail) (f.body ++ f.rest) h.start (omega (arith, f.starts)) f.here in
    let y : Rest (take h.stop s) h.start f.body = rest_within f.body f.rest h.stop f.stops x in
    by_cases (is_wrapper h.kind)
    (λ m. wrapped_valued s at h f m w (wrapping (take h.stop s) h.start w y.within (rw m at e)))
    (λ m.
    let c : as_it_stands h ≡ w = cc in
    subst (λ (z : Wrapped). Valued s at z) c (bare_valued s at h f))

pub found_value : (out : Refusal) (s : List ℕ) (at : ℕ) (w : Wrapped) → unwrapped s (header_at out s at) ≡ Ok w → Valued s at w
found_value out s at w e = valued_head out s at w (header_at out s at) refl e
