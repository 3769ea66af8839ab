-- The version marker at a place, byte by byte; and the header or marker at top level, by its first byte.
-- Assumes nothing.
use Prim.Native.Nat.{ℕ, ◌+◌, ◌≤◌}
use mathlib.Core.Path.{◌≡◌, refl, sym}
use mathlib.Core.List.{List, [], ◌∷◌}
use lib.Dec.{eqb}
use lib.ListN.{length, get_or, get_or-eq_default}
use borrow.Author.Tests.{eq-eqb, eqb-true, ne_eqb}
use Rattle.reading.specs.declared.Refusal.TheVariants.{NotIon, CutShort}
use Rattle.std.specs.Prelude.{true, false, Ok, Err}
use Rattle.std.specs.List.{starts_with}
use Rattle.reading.specs.Headers.{header_at, marked, marker_at, top_header_at}
use Rattle.std.proofs.Common.{add-zero, arith}
use Rattle.std.proofs.lemmas.List.{take_rest}
use Rattle.ion.proofs.Tests.{by_cases, both}
use Rattle.read_header.proofs.Headers.{header_out}

-- the bytes begin with all of ms, or end before ms does, or differ
pub marked_begins : (ms l : List ℕ) (at : ℕ) → starts_with eqb l ms ≡ true → marked ms at l ≡ Ok (record { kind = 0xE0; start = at + length ms; stop = at + length ms })
unfolding marked
marked_begins [] l at e = rw (add-zero) refl
marked_begins (m ∷ ms) [] at e = cc
marked_begins (m ∷ ms) (b ∷ bs) at e =
    let n : at + 1 + length ms ≡ at + length (m ∷ ms) = omega arith in
    let p = both e in
    rw (eq-eqb b m (sym (eqb-true m b p.0)), marked_begins ms bs (at + 1) p.1, n) refl

pub marked_cut : (ms l : List ℕ) (at : ℕ) → starts_with eqb l ms ≡ false → starts_with eqb ms l ≡ true → marked ms at l ≡ Err CutShort
unfolding marked
marked_cut [] l at e f = cc
marked_cut (m ∷ ms) [] at e f = refl
marked_cut (m ∷ ms) (b ∷ bs) at e f =
    let p = both f in
    let q = eqb-true b m p.0 in
    rw (p.0) (marked_cut ms bs (at + 1) (rw (eq-eqb m b (sym q)) at e) p.1)

pub marked_other : (ms l : List ℕ) (at : ℕ) → starts_with eqb l ms ≡ false → starts_with eqb ms l ≡ false → marked ms at l ≡ Err NotIon
unfolding marked
marked_other [] l at e f = cc
marked_other (m ∷ ms) [] at e f = cc
marked_other (m ∷ ms) (b ∷ bs) at e f =
    by_cases (eqb b m)
    (λ p. rw (p) (marked_other ms bs (at + 1) (rw (eq-eqb m b (sym (eqb-true b m p))) at e) (rw (p) at f)))
    (λ p. rw (p) refl)

pub ruleset a_marker = (marked_begins, marked_cut, marked_other, take_rest)

-- ---- at top level

module _ (s : List ℕ) (at : ℕ) where
  pub top_header_cut : length s ≤ at → top_header_at s at ≡ Err CutShort
  unfolding top_header_at
  top_header_cut h = rw (get_or-eq_default s 0 h) (header_out CutShort s at h)

  pub top_header_marker : get_or s at 0 ≡ 0xE0 → top_header_at s at ≡ marker_at s at
  unfolding top_header_at
  top_header_marker e = rw (eq-eqb (get_or s at 0) 0xE0 e) refl

  pub top_header_header : (get_or s at 0 ≡ 0xE0 → ⊥) → top_header_at s at ≡ header_at CutShort s at
  unfolding top_header_at
  top_header_header ne = rw (ne_eqb (get_or s at 0) 0xE0 ne) refl

pub ruleset at_top = (top_header_cut, top_header_marker, top_header_header)
