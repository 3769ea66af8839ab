-- Openings, closings and abandonments by how far they get.
-- Assumes nothing.
use Rattle.std.proofs.Common.{◌≡◌, ℕ, zero, suc, ◌+◌, ◌-◌, ◌<◌, ◌≤◌, Bool, true, false, not, ◌||◌, ltb, leb, List, [], ◌∷◌, ◌++◌, length, get_or, take, set, Option, Some, None, Ok, sym, refl, ap, ◌∙◌, ap₂, arith, length-append, le-ltb, lt-ltb, le-leb, leb-false, leb-true}
use mathlib.Core.Bool.{false≢true}
use borrow.Author.Tests.{lt-leb}
use Rattle.ion.proofs.Tests.{by_cases, both}
use Rattle.encoding.specs.Headers.{annotation_bytes}
use Rattle.machine.specs.declared.State.{State}
use Rattle.machine.specs.declared.Container.{Container}
use Rattle.machine.specs.Call.{ContainerType, opening, closing, abandonment}
use Rattle.machine.specs.Machine.{Config, config, most_open, longest_buffer, no_container, innermost_first, open_containers, is_open, in_struct, counted}
use Rattle.machine.specs.Machine.{reserve, header_place, container_code, closed_bytes, moved_bytes, splice, put, no_figures, rule_of, effect, container_fits}
use Rattle.machine.specs.Machine.{fits, checks, accepted, refused, first_failing, is_accepted, place_verdict, run}
use Rattle.place.proofs.Laws.{innermost_step, fits_used, chain_step}
use Rattle.buffer.specs.Laid.{placed}
use Rattle.containers.proofs.Closed.{closed_on-fits, abandoned_on-fits}
use Rattle.containers.specs.declared.Closing.{Closing}
use Rattle.containers.specs.Containers.{spliced, closed_on, abandoned_on}
use Rattle.steps.proofs.Members.{fits_chain, start-before}
use Rattle.buffer.proofs.Laid.{placed-some}
use Rattle.steps.specs.Heads.{opened}
use Rattle.steps.proofs.Run.{outcome, accepted_with, run_refused, run_accepted, past-place, end_refused, end_accepted}

-- ---- what a place that is accepted says

pub accepted_fits : (s : State) (room : ℕ) (m : Bool) → accepted ≡ place_verdict s room m → fits s room ≡ true
unfolding place_verdict
accepted_fits s room m e =
    by_cases (fits s room) (λ p. p)
    (λ p. by_cases (ltb longest_buffer room) (λ q. absurd (false≢true (sym (ap is_accepted (rw q at e))))) (λ q. absurd (false≢true (sym (ap is_accepted (rw (q, p) at e))))))

pub accepted_placed : (s : State) (room : ℕ) (m : Bool) → accepted ≡ place_verdict s room m → m ≡ false
unfolding place_verdict
accepted_placed s room m e =
    by_cases m
    (λ p. by_cases (ltb longest_buffer room) (λ q. absurd (false≢true (sym (ap is_accepted (rw q at e)))))
    (λ q. by_cases (fits s room) (λ f. absurd (false≢true (sym (ap is_accepted (rw (q, f, p) at e))))) (λ f. absurd (false≢true (sym (ap is_accepted (rw (q, f) at e)))))))
    (λ p. p)

pub opened_not : (o : Bool) → not o ≡ false → o ≡ true
opened_not true e = refl
opened_not false e = absurd (false≢true (sym e))

pub either_not : (o w : Bool) → (not o || w) ≡ false → o ≡ true
either_not true w e = refl
either_not false w e = absurd (false≢true (sym e))

-- ---- a state that fits, with a container open

abbrev pub innermost : State → Container
innermost s = get_or s.containers (s.depth - 1) no_container

open_depth : (l : List Container) (i : ℕ) → is_open (innermost_first l i) ≡ true → 0 < i
open_depth l zero e = absurd (false≢true e)
open_depth l (suc i) e = omega arith

module _ (s : State) (room : ℕ) (f : fits s room ≡ true) (o : is_open (open_containers s) ≡ true) where
  pub some_open : 0 < s.depth
  some_open = open_depth s.containers s.depth o

  pub open_first : open_containers s ≡ innermost s ∷ innermost_first s.containers (s.depth - 1)
  open_first = innermost_step s.containers s.depth some_open

  pub innermost-fits : container_fits s.used (innermost s) ≡ true
  innermost-fits = (both {a = container_fits s.used (innermost s)} (sym (chain_step s.containers s.depth s.used some_open) ∙ fits_chain s room f)).0

  pub innermost-before : (innermost s).start ≤ s.used
  innermost-before = start-before (innermost s) s.used innermost-fits

-- ---- an opening

pub reserve_least : (an : List ℕ) → 2 ≤ length (reserve an)
reserve_least [] = omega arith
reserve_least (a ∷ an) = omega arith

-- the header's reserve is the last of what is put
header_last : (used : ℕ) (an : List ℕ) → header_place used an ≡ used + (length (reserve an) - 2)
header_last used [] = omega arith
header_last used (a ∷ an) =
    let q : length (annotation_bytes (a ∷ an) ++ (0 ∷ 0 ∷ [])) ≡ length (annotation_bytes (a ∷ an)) + 2 =
    length-append (annotation_bytes (a ∷ an)) (0 ∷ 0 ∷ []) in
    rw q (omega arith)

-- the lines behind the place
abbrev pub opening_lines : List ℕ → State → List ℕ → List (Bool × ℕ)
opening_lines an s b = (leb most_open s.depth, 4) ∷ (ltb (length b) (s.used + length (reserve an)), 10) ∷ []

-- the state behind an opening that has put n bytes
abbrev pub opened_state : State → ℕ → ℕ → State
opened_state s n code = record {
  used = s.used + n;
  depth = s.depth + 1;
  waiting = false;
  containers = set s.containers s.depth (record { start = s.used; header = s.used + (n - 2); code = code; members = 0 });
}

module _ (an : List ℕ) (k : ContainerType) (s : State) (b l : List ℕ)
    (past : first_failing (checks (opening an k) (config s b)) ≡ first_failing (opening_lines an s b))
    (d : s.depth < most_open) where
  shallow : first_failing (checks (opening an k) (config s b)) ≡ first_failing ((ltb (length b) (s.used + length (reserve an)), 10) ∷ [])
  shallow = past ∙ rw (lt-leb most_open s.depth d)

  pub opening_refused : ◌≡◌ {A = Option ℕ × List ℕ} (None, l) (placed b s.used (reserve an)) → outcome (refused 10) s l ≡ run (opening an k) (config s b)
  opening_refused e = end_refused (opening an k) s b (reserve an) l shallow e

  pub opening_accepted : (n : ℕ) → ◌≡◌ {A = Option ℕ × List ℕ} (Some n, l) (placed b s.used (reserve an))
      → outcome accepted (opened_state s n (container_code k)) l ≡ run (opening an k) (config s b)
  opening_accepted n e =
      let w = placed-some b s.used (reserve an) n l e in
      let q : s.used + (n - 2) ≡ header_place s.used an = ap (λ (x : ℕ). s.used + (x - 2)) w.1 ∙ sym (header_last s.used an) in
      ap (λ (x : ℕ). outcome accepted (record {
        used = s.used + n;
        depth = s.depth + 1;
        waiting = false;
        containers = set s.containers s.depth (record { start = s.used; header = x; code = container_code k; members = 0 });
      })
      l) q
      ∙ end_accepted (opening an k) s b (reserve an) l shallow (s.depth + 1) false _ refl refl n e

  -- the record lies below the depth
  pub opening_head : (n : ℕ) → ◌≡◌ {A = Option ℕ × List ℕ} (Some n, l) (placed b s.used (reserve an))
      → opened (Ok (record {
        head = record { used = s.used + n; depth = s.depth + 1; waiting = false };
        container = record { start = s.used; header = s.used + (n - 2); code = container_code k; members = 0 };
      })) s l ≡ run (opening an k) (config s b)
  opening_head n e =
      let i : s.depth + 1 - 1 ≡ s.depth = omega arith in
      rw i (opening_accepted n e)

-- n bytes are reserved, the last two of them for the header
pub opening_fits : (an b : List ℕ) (used : ℕ) (l : List ℕ) (n : ℕ) → ◌≡◌ {A = Option ℕ × List ℕ} (Some n, l) (placed b used (reserve an))
    → (2 ≤ n) × (used + n ≤ length b)
opening_fits an b used l n e =
    let w = placed-some b used (reserve an) n l e in
    (omega (arith, w.1, reserve_least an), omega (arith, w.0, w.1))

pub opening_deep : (an : List ℕ) (k : ContainerType) (s : State) (b : List ℕ)
    → first_failing (checks (opening an k) (config s b)) ≡ first_failing (opening_lines an s b)
    → most_open ≤ s.depth → outcome (refused 4) s b ≡ run (opening an k) (config s b)
opening_deep an k s b past d = sym (run_refused (opening an k) s b 4 (past ∙ rw (le-leb most_open s.depth d)))

-- ---- a closing

pub closing_some : (s : State) (b : List ℕ) → accepted ≡ place_verdict s (length b) (not (is_open (open_containers s)) || s.waiting) → 0 < s.depth
closing_some s b p =
    some_open s (length b) (accepted_fits s (length b) _ p) (either_not (is_open (open_containers s)) s.waiting (accepted_placed s (length b) _ p))

module _ (s : State) (b l : List ℕ)
    (place : accepted ≡ place_verdict s (length b) (not (is_open (open_containers s)) || s.waiting)) where
  closing-fits : fits s (length b) ≡ true
  closing-fits = accepted_fits s (length b) _ place

  closing_open : is_open (open_containers s) ≡ true
  closing_open = either_not (is_open (open_containers s)) s.waiting (accepted_placed s (length b) _ place)

  abbrev out : List ℕ
  out = closed_bytes (innermost s).start (innermost s).header (innermost s).code (take s.used b)

  abbrev moved : ℕ
  moved = moved_bytes (innermost s).start (innermost s).header (innermost s).code (take s.used b)

  closing-checks : first_failing (checks closing (config s b)) ≡ first_failing ((ltb (length b) ((innermost s).start + length out), 10) ∷ [])
  closing-checks =
      past-place closing s b (not (is_open (open_containers s)) || s.waiting) ((ltb (length b) ((innermost s).start + length out), 10) ∷ [])
      (rw (open_first s (length b) closing-fits closing_open)) place

  closing-effect : effect closing (config s b)
      ≡ put (config s b) (record {
        place = (innermost s).start;
        out = out;
        depth = s.depth - 1;
        waiting = false;
        containers = counted s.containers (s.depth - 1);
      })
  closing-effect = rw (open_first s (length b) closing-fits closing_open)

  closing-spliced : (r : Option Closing) → ◌≡◌ {A = Option Closing × List ℕ} (r, l) (closed_on (innermost s) s.used b)
      → ◌≡◌ {A = Option Closing × List ℕ} (r, l) (spliced s.used (innermost s).start out moved b)
  closing-spliced r e =
      e
      ∙ closed_on-fits (innermost s) s.used b
      (rw (innermost-fits s (length b) closing-fits closing_open, le-leb s.used (length b) (fits_used s (length b) closing-fits)))

  pub closing_refused : ◌≡◌ {A = Option Closing × List ℕ} (None, l) (closed_on (innermost s) s.used b) → outcome (refused 10) s l ≡ run closing (config s b)
  unfolding spliced
  closing_refused e =
      by_cases (leb ((innermost s).start + length out) (length b))
      (λ p.
      let q : ◌≡◌ {A = Option Closing} None (Some (record { used = (innermost s).start + length out; moved = moved })) =
      ap (λ (x : Option Closing × List ℕ). x.0) (rw (p, spliced) at (closing-spliced None e)) in
      cc)
      (λ p. let q : l ≡ b = ap (λ (x : Option Closing × List ℕ). x.1) (rw (p, spliced) at (closing-spliced None e)) in
      ap (outcome (refused 10) s) q
      ∙ sym (run_refused closing s b 10 (closing-checks
      ∙ rw (lt-ltb (length b) ((innermost s).start + length out) (leb-false ((innermost s).start + length out) (length b) p)))))

  closing-figures : (rule_of closing (config s b)).figures ≡ record { size = length out; members = (innermost s).members; moved = moved }
  closing-figures = rw (open_first s (length b) closing-fits closing_open)

  -- the answer of a close with room
  abbrev grown : Closing
  grown = record { used = (innermost s).start + length out; moved = moved }

  module _ (r : Closing) (e : ◌≡◌ {A = Option Closing × List ℕ} (Some r, l) (closed_on (innermost s) s.used b)) where
    closing-grown : ((innermost s).start + length out ≤ length b) × (r ≡ grown) × (l ≡ splice s.used (innermost s).start out b)
    unfolding spliced
    closing-grown =
        by_cases (leb ((innermost s).start + length out) (length b))
        (λ p.
        let q : ◌≡◌ {A = Option Closing × List ℕ} (Some r, l) (Some grown, splice s.used (innermost s).start out b) =
        rw (p, spliced) at (closing-spliced (Some r) e) in
        let o : ◌≡◌ {A = Option Closing} (Some r) (Some grown) = ap (λ (x : Option Closing × List ℕ). x.0) q in
        (leb-true ((innermost s).start + length out) (length b) p, cc, ap (λ (x : Option Closing × List ℕ). x.1) q))
        (λ p.
        let q : ◌≡◌ {A = Option Closing} (Some r) None = ap (λ (x : Option Closing × List ℕ). x.0) (rw (p, spliced) at (closing-spliced (Some r) e)) in
        cc)

    pub closing-start : (innermost s).start ≤ r.used
    closing-start = omega (arith, ap (λ (x : Closing). x.used) closing-grown.1)

    pub closing_accepted : accepted_with (config (record { used = r.used; depth = s.depth - 1; waiting = false; containers = counted s.containers (s.depth - 1) }) l)
        (record { size = r.used - (innermost s).start; members = (innermost s).members; moved = r.moved })
        ≡ run closing (config s b)
    closing_accepted =
        let g = closing-grown in
        let z : (innermost s).start + length out - (innermost s).start ≡ length out = omega arith in
        rw (g.1, g.2, z)
        (sym (run_accepted closing s b (closing-checks ∙ rw (le-ltb (length b) ((innermost s).start + length out) g.0))
        ∙ ap₂ accepted_with closing-effect closing-figures))

-- ---- an abandonment

pub abandonment_open : (s : State) (b : List ℕ) → accepted ≡ place_verdict s (length b) (not (is_open (open_containers s))) → 0 < s.depth
abandonment_open s b p = some_open s (length b) (accepted_fits s (length b) _ p) (opened_not (is_open (open_containers s)) (accepted_placed s (length b) _ p))

pub abandonment_run : (s : State) (b : List ℕ) (r : Bool) (l : List ℕ) (waits : Bool) → accepted ≡ place_verdict s (length b) (not (is_open (open_containers s)))
    → ◌≡◌ {A = Bool × List ℕ} (r, l) (abandoned_on s.used (innermost s).start b) → waits ≡ in_struct (innermost_first s.containers (s.depth - 1))
    → outcome accepted (record { used = (innermost s).start; depth = s.depth - 1; waiting = waits; containers = s.containers }) l
    ≡ run abandonment (config s b)
abandonment_run s b r l waits place e w =
    let f = accepted_fits s (length b) _ place in
    let o = opened_not (is_open (open_containers s)) (accepted_placed s (length b) _ place) in
    let k = open_first s (length b) f o in
    let u = fits_used s (length b) f in
    let i = innermost-before s (length b) f o in
    let q : ◌≡◌ {A = Bool × List ℕ} (r, l) (true, splice s.used (innermost s).start [] b) =
    e
    ∙ abandoned_on-fits s.used (innermost s).start b (rw (le-leb (innermost s).start s.used i, le-leb s.used (length b) u)) in
    let v : first_failing (checks abandonment (config s b)) ≡ accepted =
    past-place abandonment s b (not (is_open (open_containers s))) ((ltb (length b) ((innermost s).start + 0), 10) ∷ []) (rw k) place
    ∙ rw (le-ltb (length b) ((innermost s).start + 0) (omega (arith, u, i))) in
    let z : effect abandonment (config s b)
    ≡ put (config s b)
    (record { place = (innermost s).start; out = []; depth = s.depth - 1; waiting = waits; containers = s.containers }) =
    rw (w, k) in
    let y : (innermost s).start ≡ (innermost s).start + 0 = omega arith in
    ap (outcome accepted (record { used = (innermost s).start; depth = s.depth - 1; waiting = waits; containers = s.containers }))
    (ap (λ (x : Bool × List ℕ). x.1) q)
    ∙ ap (λ (x : ℕ). outcome accepted (record { used = x; depth = s.depth - 1; waiting = waits; containers = s.containers })
    (splice s.used (innermost s).start [] b)) y
    ∙ sym (run_accepted abandonment s b v ∙ ap (λ (y : Config). accepted_with y no_figures) z)
