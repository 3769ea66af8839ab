-- What the closings of a list of calls move. A byte lies in at most 32 containers, and the closing of each moves it at most once: so of the bytes in the
-- innermost of k open containers, closings have moved at most 32 - k times as many. Each call keeps that, and with none open it is the claim.
-- By induction over the list of calls, refused ones included. Assumes nothing.
use Prim.Native.Nat.{ℕ, zero, suc, ◌+◌, ◌-◌, ◌*◌, ◌≤◌}
use native.Mathlib.Omega.{arith}
use native.Mathlib.Nat.{suc-mul, mul-add, mul-le-mul_left}
use mathlib.Core.Path.{◌≡◌, refl, sym, ◌∙◌, ap, ap₂}
use mathlib.Core.Bool.{true, false, true≢false, false≢true, not, ◌&&◌, ◌||◌, and-true}
use mathlib.Core.List.{List, [], ◌∷◌, ◌++◌}
use lib.Dec.{leb, eqb}
use lib.ListN.{length, take, drop, length-append, length-drop, length-take}
use lib.Seq.{slice}
use borrow.Author.Tests.{leb-false, eqb-true, eqb-false, eq-eqb, ne_eqb, not-true}
use Rattle.ion.specs.Value.{annotation_code}
use Rattle.ion.proofs.Tests.{by_cases, both}
use Rattle.encoding.specs.Headers.{type_byte, header_bytes, framed_bytes}
use Rattle.encoding.specs.Argument.{Argument}
use Rattle.encoding.proofs.Writable.{NoneHolds}
use Rattle.encoding.proofs.Headers.{framed_longer}
use Rattle.machine.specs.declared.Container.{Container}
use Rattle.machine.specs.Call.{Call, write, name, opening, closing, abandonment, version_marker, taking, emptying}
use Rattle.machine.specs.Machine.{Config, most_open, innermost_first, open_containers, is_open, outer, closed_bytes, closed_innermost, length_if_moved}
use Rattle.machine.specs.Machine.{moved_bytes, innermost_moved, innermost_start, live, effect, container_fits, containers_fit, lacks_name, rule_of}
use Rattle.machine.specs.Machine.{checks, Verdict, accepted, refused, verdict, is_accepted, if_accepted, figures_if, after, run, started}
use Rattle.machine.specs.Model.{Model, started_model}
use Rattle.machine.specs.Demands.{part_of, flushed, joined, model_after}
use Rattle.machine.specs.Moves.{moved_sum, is_abandonment, nothing_abandoned, MovedAtMost}
use Rattle.machine.proofs.Invariant.{or_false, container_at}
use Rattle.machine.proofs.Splice.{counted_first, opened_containers, counted_containers, closed_containers}
use Rattle.machine.proofs.Steps.{none_failing, passed, Invariant, length-live, taken_live}
use Rattle.machine.proofs.Meaning.{stack_is}
use Rattle.machine.proofs.Demands.{step_arguments, call_keeps, none_left, start_keeps}
use Rattle.machine.proofs.Fit.{fit}
use Rattle.machine.proofs.Fitting.{invariant_chain}

-- ---- one closing

pub if_moved : (from to n : ℕ) → length_if_moved from to n ≤ n
if_moved from to n = by_cases (eqb from to) (λ p. rw (p, length_if_moved) (omega arith)) (λ p. rw (p, length_if_moved) (omega arith))

-- it moves no more bytes than the container then has, and these are no fewer than the body's
module _ (start header code : ℕ) (bs : List ℕ) where
  abbrev body : List ℕ
  body = drop (header + 2) bs

  abbrev noted : List ℕ
  noted = slice (start + 2) header bs

  abbrev inner : List ℕ
  inner = header_bytes code (length body)

  abbrev wrapper : List ℕ
  wrapper = header_bytes (type_byte annotation_code) (length (noted ++ (inner ++ body)))

  abbrev size : ℕ
  size = length (closed_bytes start header code bs)

  parts : eqb header start ≡ false → length noted + length body ≤ size
  unfolding closed_bytes
  parts p =
      rw (p, closed_bytes) (omega (
        arith,
        framed_longer (type_byte annotation_code) (noted ++ framed_bytes code body),
        length-append noted (framed_bytes code body),
        framed_longer code body,
      ))

  body_within : length bs - (header + 2) ≤ size
  unfolding closed_bytes
  body_within =
      by_cases (eqb header start)
      (λ p. rw (p, closed_bytes) (omega (arith, framed_longer code body, length-drop (header + 2) bs)))
      (λ p. omega (arith, parts p, length-drop (header + 2) bs))

  moved_within : moved_bytes start header code bs ≤ size
  unfolding moved_bytes
  moved_within =
      by_cases (eqb header start)
      (λ p. rw (p, moved_bytes) (omega (arith, body_within, length-drop (header + 2) bs, if_moved (header + 2) (start + length inner) (length body))))
      (λ p. rw (p, moved_bytes) (omega (
        arith,
        parts p,
        if_moved (start + 2) (start + length wrapper) (length noted),
        if_moved (header + 2) (start + length (wrapper ++ (noted ++ inner))) (length body),
      )))

-- ---- what moves, told by the used length: the body exactly if the used length alters, the annotation part exactly if the wrapper's header has not two bytes

-- by as much at both ends
shifted : (from to n k x y : ℕ) → x ≡ from + k → y ≡ to + k → length_if_moved from to n ≡ length_if_moved x y n
shifted from to n k x y e q =
    by_cases (eqb from to)
    (λ p. rw (p, length_if_moved, eq-eqb x y (omega (arith, eqb-true from to p))))
    (λ p. rw (p, length_if_moved, ne_eqb x y (λ r. eqb-false from to p (omega arith))))

none-moved : (from to : ℕ) → length_if_moved from to 0 ≡ 0
none-moved from to = by_cases (eqb from to) (λ p. rw (p, length_if_moved)) (λ p. rw (p, length_if_moved))

module _ (start header code : ℕ) (bs : List ℕ) (h : header + 2 ≤ length bs) where
  abbrev B : List ℕ
  B = body start header code bs

  abbrev A : List ℕ
  A = noted start header code bs

  abbrev H : List ℕ
  H = inner start header code bs

  abbrev W : List ℕ
  W = wrapper start header code bs

  pub moved_is : moved_bytes start header code bs
      ≡ length_if_moved (length bs) (start + size start header code bs) (length B) + length_if_moved 2 (length W) (length A)
  unfolding moved_bytes closed_bytes framed_bytes
  moved_is =
      let b = length-drop (header + 2) bs in
      by_cases (eqb header start)
      (λ p.
      let n : length A ≡ 0 = length-drop (start + 2) (take header bs) ∙ omega (arith, length-take header bs, eqb-true header start p) in
      rw (p, moved_bytes, closed_bytes, n, none-moved 2 (length W))
      (shifted (header + 2) (start + length H) (length B) (length B) (length bs) (start + length (H ++ B)) (omega arith) (omega (arith, length-append H B))
      ∙ omega arith))
      (λ p.
      rw (p, moved_bytes, closed_bytes)
      (ap₂ ◌+◌
      (shifted (header + 2) (start + length (W ++ (A ++ H))) (length B) (length B) (length bs) (start + length (W ++ (A ++ (H ++ B)))) (omega arith)
      (omega (arith, length-append W (A ++ H), length-append A H, length-append W (A ++ (H ++ B)), length-append A (H ++ B), length-append H B)))
      (sym (shifted 2 (length W) (length A) start (start + 2) (start + length W) (omega arith) (omega arith)))))

-- ---- how much can have been moved

-- of the bytes up to `limit`, cs being the open containers, innermost first: those in no container 32 times, those in the body of the k-th 32 - k times
abbrev most_moved : List Container → ℕ → ℕ
most_moved [] limit = 32 * limit
most_moved (c ∷ cs) limit = (31 - length cs) * (limit - (c.header + 2)) + most_moved cs c.start

most_grows : (cs : List Container) (limit n : ℕ) → limit ≤ n → most_moved cs limit ≤ most_moved cs n
most_grows [] limit n h = omega arith
most_grows (c ∷ cs) limit n h =
    let e : limit - (c.header + 2) ≤ n - (c.header + 2) = omega arith in
    omega (arith, mul-le-mul_left (31 - length cs) e)

most-counted : (cs : List Container) (limit : ℕ) → most_moved (counted_first cs) limit ≡ most_moved cs limit
most-counted [] limit = refl
most-counted (c ∷ cs) limit = refl

-- n bytes more in the innermost, or outside of all
most_more : (cs : List Container) (limit n : ℕ) → containers_fit limit cs ≡ true → most_moved cs limit + (32 - length cs) * n ≤ most_moved cs (limit + n)
unfolding containers_fit
most_more [] limit n e = omega arith
most_more (c ∷ cs) limit n e =
    let h = (fit c limit (both e).0).within in
    let q : limit + n - (c.header + 2) ≡ limit - (c.header + 2) + n = omega arith in
    let k : 32 - suc (length cs) ≡ 31 - length cs = omega arith in
    rw (k, q, mul-add (31 - length cs) (limit - (c.header + 2)) n) (omega arith)

-- a closing: what lay in the body, and what it moves itself
most-closed : (cs : List Container) (used : ℕ) (bs : List ℕ) → length bs ≡ used → containers_fit used cs ≡ true → length cs ≤ 32 → is_open cs ≡ true →
    most_moved cs used + innermost_moved cs bs ≤ most_moved (outer cs) (innermost_start cs used + length (closed_innermost cs bs))
unfolding containers_fit
most-closed [] used bs l e d o = absurd (false≢true o)
most-closed (c ∷ cs) used bs l e d o =
    let n = length (closed_bytes c.start c.header c.code bs) in
    let k : 32 - length cs ≡ suc (31 - length cs) = omega arith in
    let b : used - (c.header + 2) ≤ n = omega (arith, body_within c.start c.header c.code bs) in
    let m = rw (k, suc-mul (31 - length cs) n) at (most_more cs c.start n (both {a = container_fits used c} e).1) in
    omega (arith, m, mul-le-mul_left (31 - length cs) b, moved_within c.start c.header c.code bs)

-- it moves no more bytes than the buffer has
innermost_within : (cs : List Container) (bs : List ℕ) → innermost_moved cs bs ≤ length (closed_innermost cs bs)
innermost_within [] bs = omega arith
innermost_within (c ∷ cs) bs = moved_within c.start c.header c.code bs

pub moved_room : (w : Config) → NoneHolds (checks closing w) → (rule_of closing w).figures.moved ≤ length w.buffer
moved_room w h =
    let os = open_containers w.state in
    omega (arith, innermost_within os (live w), (passed w (not (is_open os) || w.state.waiting) [] (effect closing w).state.used h).room)

-- ---- one call, accepted or refused

abbrev most_of : Config → ℕ
most_of w = most_moved (open_containers w.state) w.state.used

length-first : (l : List Container) (n : ℕ) → length (innermost_first l n) ≡ n
length-first l zero = refl
length-first l (suc n) = ap suc (length-first l n)

none_of : (cs : List Container) (limit : ℕ) → is_open cs ≡ false → most_moved cs limit ≡ 32 * limit
none_of [] limit e = refl
none_of (c ∷ cs) limit e = absurd (true≢false e)

module _ (done : List ℕ) (w : Config) (x : Model Argument) (inv : Invariant done w x) where
  abbrev os : List Container
  os = open_containers w.state

  accepted_moves : (c : Call) → NoneHolds (checks c w) → is_abandonment c ≡ false
      → most_of w + (rule_of c w).figures.moved ≤ most_of (effect c w) + 32 * length (rule_of c w).flushes
  accepted_moves (write an a) h n =
      rw (
        counted_containers w.state.containers w.state.depth (omega (arith, inv.depth, inv.records)),
        most-counted os (effect (write an a) w).state.used,
      )
      (omega (arith, most_grows os w.state.used (effect (write an a) w).state.used (omega arith)))
  accepted_moves (name k) h n = omega (arith, most_grows os w.state.used (effect (name k) w).state.used (omega arith))
  accepted_moves (opening an k) h n =
      let p = passed w (lacks_name w.state) ((leb most_open w.state.depth, 4) ∷ []) (effect (opening an k) w).state.used h in
      rw (opened_containers w.state.containers w.state.depth (container_at w.state.used an k 0)
      (omega (arith, leb-false most_open w.state.depth p.own.0, inv.records)))
      (omega arith)
  accepted_moves closing h n =
      let p = passed w (not (is_open os) || w.state.waiting) [] (effect closing w).state.used h in
      let o = (or_false (is_open os) w.state.waiting p.place).0 in
      rw (
        counted_containers w.state.containers (w.state.depth - 1) (omega (arith, inv.depth, inv.records)),
        closed_containers w.state.containers w.state.depth,
        most-counted (outer os) (effect closing w).state.used,
      )
      (omega (
        arith,
        most-closed os w.state.used (live w) (length-live done w x inv) (invariant_chain done w x inv)
            (omega (arith, length-first w.state.containers w.state.depth, inv.depth)) o,
      ))
  accepted_moves abandonment h n = absurd (true≢false n)
  accepted_moves version_marker h n = omega (arith, most_grows os w.state.used (effect version_marker w).state.used (omega arith))
  accepted_moves taking h n = omega arith
  accepted_moves emptying h n =
      let p = passed w (is_open os) [] (effect emptying w).state.used h in
      rw (taken_live done w x inv p.place) (omega (arith, none_of os w.state.used p.place, length-live done w x inv))

  call_moves : (c : Call) → (is_abandonment c && is_accepted (verdict c w)) ≡ false
      → most_of w + (run c w).figures.moved ≤ most_of (after c w) + 32 * length (flushed c w)
  unfolding run
  call_moves c n = by_verdict (verdict c w) refl
    where
      by_verdict : (v : Verdict) → verdict c w ≡ v
          → most_of w + (figures_if v (rule_of c w).figures).moved
          ≤ most_of (if_accepted v (effect c w) w) + 32 * length (part_of (is_accepted v) (rule_of c w).flushes)
      by_verdict accepted e = accepted_moves c (none_failing (checks c w) (unfold verdict in e)) (sym (and-true (is_abandonment c)) ∙ rw e at n)
      by_verdict (refused k) e = omega arith

-- ---- a list of calls

list_moves : (cs : List Call) (done : List ℕ) (w : Config) (x : Model Argument) → Invariant done w x
    → (model_after (λ a. a) cs w x).stack ≡ [] → nothing_abandoned cs w ≡ true
    → most_of w + moved_sum cs w ≤ 32 * length (joined cs w)
unfolding joined model_after moved_sum nothing_abandoned
list_moves [] done w x inv e n =
    let o = none_left done w x inv e in
    rw (taken_live done w x inv o) (omega (arith, none_of (open_containers w.state) w.state.used o, length-live done w x inv))
list_moves (c ∷ cs) done w x inv e n =
    let k = both {a = not (is_abandonment c && is_accepted (verdict c w))} n in
    omega (
      arith,
      call_moves done w x inv c (not-true _ k.0),
      list_moves cs (done ++ flushed c w) (after c w) (step_arguments c w x) (call_keeps done w x c inv) e k.1,
      length-append (flushed c w) (joined cs (after c w)),
    )

pub moved_at_most : MovedAtMost
moved_at_most cs b r n =
    omega (arith, list_moves cs [] (started b) started_model (start_keeps b r.starts) (stack_is cs b r.ends) n)
