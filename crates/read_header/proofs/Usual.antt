-- A usual type byte passes every table of the definition: its header is framed by the length in its low four bits.
-- Assumes nothing.
use Prim.Native.Nat.{ℕ, ◌+◌, ◌/◌, ◌%◌, ◌≤◌, ◌<◌}
use native.Mathlib.Omega.{arith}
use mathlib.Core.Path.{◌≡◌, refl, sym, ◌∙◌, subst}
use mathlib.Core.Bool.{true, false}
use mathlib.Core.List.{List}
use lib.Dec.{eqb}
use lib.ListN.{length, get_or}
use borrow.Author.Tests.{ltb-true, leb-true, eqb-true, ne_eqb, le-ltb, le-leb, lt-leb}
use Rattle.ion.proofs.Tests.{by_cases, both}
use Rattle.reading.specs.declared.Refusal.{Refusal}
use Rattle.std.specs.Prelude.{Ok, Err}
use Rattle.reading.specs.Headers.{impossible, alone, measured, never, header_at}
use Rattle.read_header.proofs.Headers.{header_out, header_here}
use Rattle.read_header.specs.Usual.{least_length, usual}

record Plain (t l : ℕ) : Type 0 where
  possible : impossible t l ≡ false
  more : alone t l ≡ false
  short : measured t l ≡ false
  has : never t l l ≡ false

-- the low four bits are a length
abbrev Length : ℕ → Type 0
Length l = (eqb l 15 ≡ false) × (eqb l 14 ≡ false)

plain_negative : (l : ℕ) → Length l → 1 ≤ l → Plain 3 l
plain_negative l h k = record { possible = refl; more = rw h.0 refl; short = rw h.1 refl; has = rw (ne_eqb l 0 (λ e. omega arith)) refl }

plain_timestamp : (l : ℕ) → Length l → 2 ≤ l → Plain 6 l
plain_timestamp l h k = record { possible = refl; more = rw h.0 refl; short = rw h.1 refl; has = rw (le-ltb l 2 k) refl }

plain_struct : (l : ℕ) → Length l → 2 ≤ l → Plain 13 l
plain_struct l h k =
    record {
      possible = refl;
      more = rw h.0 refl;
      short = rw (h.1, ne_eqb l 1 (λ e. omega arith)) refl;
      has = rw (ne_eqb l 1 (λ e. omega arith)) refl;
    }

plain-wrapper : (l : ℕ) → Length l → 3 ≤ l → Plain 14 l
plain-wrapper l h k =
    record {
      possible = rw (h.0, ne_eqb l 0 (λ e. omega arith)) refl;
      more = rw h.0 refl;
      short = rw h.1 refl;
      has = rw (le-ltb l 3 k) refl;
    }

plain : (t l : ℕ) → least_length t ≤ l → l < 14 → Plain t l
plain t l h k =
    by_cases (eqb t 1) (λ p. let n : 14 ≤ l = least 1 (eqb-true t 1 p) in absurd (omega arith))
    (λ n1. by_cases (eqb t 3) (λ p. subst (λ (x : ℕ). Plain x l) (sym (eqb-true t 3 p)) (plain_negative l number (least 3 (eqb-true t 3 p))))
    (λ n3. by_cases (eqb t 4) (λ p. let n : 14 ≤ l = least 4 (eqb-true t 4 p) in absurd (omega arith))
    (λ n4. by_cases (eqb t 6) (λ p. subst (λ (x : ℕ). Plain x l) (sym (eqb-true t 6 p)) (plain_timestamp l number (least 6 (eqb-true t 6 p))))
    (λ n6. by_cases (eqb t 13) (λ p. subst (λ (x : ℕ). Plain x l) (sym (eqb-true t 13 p)) (plain_struct l number (least 13 (eqb-true t 13 p))))
    (λ n13. by_cases (eqb t 14) (λ p. subst (λ (x : ℕ). Plain x l) (sym (eqb-true t 14 p)) (plain-wrapper l number (least 14 (eqb-true t 14 p))))
    (λ n14. by_cases (eqb t 15) (λ p. let n : 14 ≤ l = least 15 (eqb-true t 15 p) in absurd (omega arith))
    (λ n15. record {
      possible = rw (n15, n1, n4, n14) refl;
      more = rw (number.0, n1) refl;
      short = rw (number.1, n13) refl;
      has = rw (n3, n6, n14, n13) refl;
    })))))))
  where
    number : Length l
    number = (ne_eqb l 15 (λ e. omega arith), ne_eqb l 14 (λ e. omega arith))

    least : (x : ℕ) → t ≡ x → least_length x ≤ l
    least x e = subst (λ (y : ℕ). least_length y ≤ l) e h

-- The body of a usual header: as many bytes as its low four bits say.
module _ (out : Refusal) (s : List ℕ) (at : ℕ) (inside : at < length s) (u : usual (get_or s at 0) ≡ true) where
  is_plain : Plain (get_or s at 0 / 16) (get_or s at 0 % 16)
  is_plain = let e = both u in
      plain (get_or s at 0 / 16) (get_or s at 0 % 16)
      (leb-true (least_length (get_or s at 0 / 16)) (get_or s at 0 % 16) e.0) (ltb-true (get_or s at 0 % 16) 14 e.1)

  pub usual_cut : length s ≤ at + get_or s at 0 % 16 → header_at out s at ≡ Err out
  usual_cut h =
      let p = is_plain in
      header_here out s at inside
      ∙ rw (p.possible, p.more, p.short, p.has, lt-leb (at + 1 + get_or s at 0 % 16) (length s) (omega arith)) refl

  pub usual_whole : at + get_or s at 0 % 16 < length s
      → header_at out s at ≡ Ok (record { kind = get_or s at 0; start = at + 1; stop = at + 1 + get_or s at 0 % 16 })
  usual_whole h =
      let p = is_plain in
      header_here out s at inside
      ∙ rw (p.possible, p.more, p.short, p.has, le-leb (at + 1 + get_or s at 0 % 16) (length s) (omega arith)) refl

pub ruleset a_usual_byte = (header_out, usual_cut, usual_whole)
