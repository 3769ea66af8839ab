-- What is known of a header that reads: it takes a byte, its body starts behind it and stops within the bytes, and its type byte is the byte at its place.
-- Assumes nothing.
use Prim.Native.Nat.{ℕ, ◌+◌, ◌/◌, ◌%◌, ◌≤◌, ◌<◌}
use native.Mathlib.Omega.{arith}
use mathlib.Core.Path.{◌≡◌, refl, sym, ◌∙◌}
use mathlib.Core.Bool.{Bool, true, false, cond}
use mathlib.Core.List.{List, [], ◌∷◌}
use lib.Dec.{ltb, leb, eqb}
use lib.ListN.{length, drop, get_or, length-drop}
use borrow.Author.Tests.{ltb-true, leb-true, eqb-true}
use Rattle.reading.specs.declared.Refusal.{Refusal}
use Rattle.reading.specs.declared.Refusal.TheVariants.{NotIon, CutShort}
use Rattle.reading.specs.declared.Number.{Number}
use Rattle.reading.specs.declared.Header.{Header}
use Rattle.std.specs.Prelude.{Result, Ok, Err}
use Rattle.reading.specs.Headers.{var_uint_at, impossible, alone, measured, never, framed, framed_by, headed, header_at, marked, marker_at, top_header_at}
use Rattle.read_fields.proofs.VarUInts.{var_uint_bounds}

-- what holds of a header that reads at a place
pub record Within (s : List ℕ) (at : ℕ) (h : Header) : Type 0 where
  pub after : at < h.start
  pub body : h.start ≤ h.stop
  pub within : h.stop ≤ length s
  pub byte : h.kind ≡ get_or s at 0

module _ (out : Refusal) (s : List ℕ) (at : ℕ) (h : Header) where
  framed_bounds : (n from : ℕ) → at < from → framed out s (get_or s at 0) n from ≡ Ok h → Within s at h
  framed_bounds n from k e = by_tests (never (get_or s at 0 / 16) (get_or s at 0 % 16) n) (leb (from + n) (length s)) refl e
    where
      by_tests : (x y : Bool) → leb (from + n) (length s) ≡ y
          → cond x (Err NotIon) (cond y (Ok (record { kind = get_or s at 0; start = from; stop = from + n })) (Err out)) ≡ Ok h
          → Within s at h
      by_tests true y q e = cc
      by_tests false false q e = cc
      by_tests false true q e =
          let p : from ≡ h.start = cc in
          let t : from + n ≡ h.stop = cc in
          let y : get_or s at 0 ≡ h.kind = cc in
          record { after = omega arith; body = omega arith; within = omega (arith, leb-true (from + n) (length s) q); byte = sym y }

  framed_by_bounds : (f : Result Number Refusal) → var_uint_at out s (at + 1) ≡ f → framed_by out s (get_or s at 0) f ≡ Ok h → Within s at h
  framed_by_bounds (Err r) q e = cc
  framed_by_bounds (Ok n) q e = framed_bounds n.value n.next (omega (arith, (var_uint_bounds out s (at + 1) n q).0)) e

  headed_bounds : at < length s → headed out s at (get_or s at 0) ≡ Ok h → Within s at h
  headed_bounds inside e =
      by_tests (impossible (get_or s at 0 / 16) (get_or s at 0 % 16)) (alone (get_or s at 0 / 16) (get_or s at 0 % 16))
      (measured (get_or s at 0 / 16) (get_or s at 0 % 16)) e
    where
      by_tests : (x y z : Bool)
          → cond x (Err NotIon) (cond y (Ok (record { kind = get_or s at 0; start = at + 1; stop = at + 1 }))
          (cond z (framed_by out s (get_or s at 0) (var_uint_at out s (at + 1))) (framed out s (get_or s at 0) (get_or s at 0 % 16) (at + 1)))) ≡ Ok h
          → Within s at h
      by_tests true y z e = cc
      by_tests false true z e =
          let p : at + 1 ≡ h.start = cc in
          let t : at + 1 ≡ h.stop = cc in
          let k : get_or s at 0 ≡ h.kind = cc in
          record { after = omega arith; body = omega arith; within = omega arith; byte = sym k }
      by_tests false false true e = framed_by_bounds (var_uint_at out s (at + 1)) refl e
      by_tests false false false e = framed_bounds (get_or s at 0 % 16) (at + 1) (omega arith) e

  pub header_bounds : header_at out s at ≡ Ok h → Within s at h
  unfolding header_at
  header_bounds e = by_test (ltb at (length s)) refl e
    where
      by_test : (x : Bool) → ltb at (length s) ≡ x → cond x (headed out s at (get_or s at 0)) (Err out) ≡ Ok h → Within s at h
      by_test true q e = headed_bounds (ltb-true at (length s) q) e
      by_test false q e = cc

-- ---- at top level

-- all of the bytes ms were there
marked_bounds : (ms l : List ℕ) (at : ℕ) (h : Header) → marked ms at l ≡ Ok h
    → (h.kind ≡ 0xE0) × (h.start ≡ at + length ms) × (h.stop ≡ at + length ms) × (length ms ≤ length l)
unfolding marked
marked_bounds [] l at h e =
    let k : 0xE0 ≡ h.kind = cc in
    let p : at ≡ h.start = cc in
    let t : at ≡ h.stop = cc in
    (sym k, omega arith, omega arith, omega arith)
marked_bounds (m ∷ ms) [] at h e = cc
marked_bounds (m ∷ ms) (c ∷ l) at h e = by_test (eqb c m) e (λ q. marked_bounds ms l (at + 1) h q)
  where
    by_test : (x : Bool) → cond x (marked ms (at + 1) l) (Err NotIon) ≡ Ok h
        → (marked ms (at + 1) l ≡ Ok h → (h.kind ≡ 0xE0) × (h.start ≡ at + 1 + length ms) × (h.stop ≡ at + 1 + length ms) × (length ms ≤ length l))
        → (h.kind ≡ 0xE0) × (h.start ≡ at + length (m ∷ ms)) × (h.stop ≡ at + length (m ∷ ms)) × (length (m ∷ ms) ≤ length (c ∷ l))
    by_test true e k = let w = k e in (w.0, omega (arith, w.1), omega (arith, w.2), omega (arith, w.3))
    by_test false e k = cc

pub top_header_bounds : (s : List ℕ) (at : ℕ) (h : Header) → top_header_at s at ≡ Ok h → Within s at h
unfolding top_header_at marker_at
top_header_bounds s at h e = by_test (eqb (get_or s at 0) 0xE0) refl e
  where
    by_test : (x : Bool) → eqb (get_or s at 0) 0xE0 ≡ x
        → cond x (marked (0xE0 ∷ 0x01 ∷ 0x00 ∷ 0xEA ∷ []) at (drop at s)) (header_at CutShort s at) ≡ Ok h
        → Within s at h
    by_test true q e =
        let w = marked_bounds (0xE0 ∷ 0x01 ∷ 0x00 ∷ 0xEA ∷ []) (drop at s) at h e in
        record {
          after = omega (arith, w.1);
          body = omega (arith, w.1, w.2);
          within = omega (arith, w.2, w.3, length-drop at s);
          byte = w.0 ∙ sym (eqb-true (get_or s at 0) 0xE0 q);
        }
    by_test false q e = header_bounds CutShort s at h e
