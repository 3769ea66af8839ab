-- The one law of the annotated path: the size of a value, what stands before a value of that size, and the value behind it make the annotated value.
-- By the law of a prefix and a value behind it. Assumes nothing.
use mathlib.Core.Path.{◌≡◌, refl, sym, ◌∙◌, ap}
use mathlib.Core.Bool.{true, false}
use mathlib.Core.Logic.{◌⊎◌, ⊎_elim}
use mathlib.Core.List.{List, ◌∷◌}
use Prim.Native.Nat.{ℕ, max, ◌+◌, ◌≤◌, ◌<◌}
use native.Mathlib.Omega.{arith}
use borrow.Author.Tests.{eqb-true, eqb-false}
use lib.Dec.{eqb}
use lib.ListN.{length, length-append}
use Rattle.std.specs.Prelude.{Option, Some, None}
use Rattle.std.proofs.lemmas.Option.{none-some, same_Some}
use Rattle.ion.proofs.Tests.{by_cases}
use Rattle.encoding.specs.Headers.{annotated_bytes}
use Rattle.encoding.specs.Argument.{Argument, argument_checks, any_holds, checked_bytes}
use Rattle.encoding.proofs.Least.{argument_some}
use Rattle.decimal.proofs.Values.{checked_bytes_refused, checked_bytes_accepted}
use Rattle.buffer.specs.Laid.{placed, written, size_of}
use Rattle.buffer.proofs.Laid.{placed-room, placed-some, size_of-some, written-some}
use Rattle.annotations.specs.Sids.{sids_of}
use Rattle.annotations.specs.Prefix.{prefix_bytes, placed_before}
use Rattle.annotations.proofs.Sids.{sids_some}
use Rattle.annotations.proofs.Prefix.{annotated_prefix, no_prefix, prefix_room, prefix_then}
use Rattle.values.specs.Values.{annotated_checked}
use Rattle.values.proofs.Checked.{annotated_refused, annotated_accepted, unannotated}

module _ (a : Argument) where
  accepted_size : any_holds (argument_checks a) ≡ false → size_of (checked_bytes a) ≡ Some (length (checked_bytes a))
  accepted_size h = size_of-some (checked_bytes a) (rw (checked_bytes_accepted a h) (argument_some a))

  refused_size : any_holds (argument_checks a) ≡ true → size_of (checked_bytes a) ≡ None
  refused_size h = rw (checked_bytes_refused a h) refl

  -- a value that has a size is accepted, and it is the length of its bytes
  pub sized : (n : ℕ) → Some n ≡ size_of (checked_bytes a) → (any_holds (argument_checks a) ≡ false) × (n ≡ length (checked_bytes a))
  sized n e = by_cases (any_holds (argument_checks a))
      (λ h. absurd (none-some n (sym (e ∙ refused_size h))))
      (λ h. (h, same_Some n (length (checked_bytes a)) (e ∙ accepted_size h)))

  -- one without is not written
  pub unsized : None ≡ size_of (checked_bytes a) → (b : List ℕ) (at : ℕ) (an : List ℕ) → ◌≡◌ {A = Option ℕ × List ℕ} (None, b) (written b at (annotated_checked an a))
  unsized e b at an = by_cases (any_holds (argument_checks a))
      (λ h. ap (written b at) (sym (annotated_refused an a h)))
      (λ h. absurd (none-some (length (checked_bytes a)) (e ∙ accepted_size h)))

  module _ (h : any_holds (argument_checks a) ≡ false) where
    some_bytes : 0 < length (checked_bytes a)
    some_bytes = rw (checked_bytes_accepted a h) (argument_some a)

    value_written : (b : List ℕ) (at : ℕ) → written b at (checked_bytes a) ≡ placed b at (checked_bytes a)
    value_written b at = written-some b at (checked_bytes a) some_bytes

    annotated_written : (b : List ℕ) (at x : ℕ) (xs : List ℕ) → written b at (annotated_checked (x ∷ xs) a) ≡ placed b at (annotated_bytes (x ∷ xs) (checked_bytes a))
    annotated_written b at x xs =
        let v = checked_bytes a in
        let e : annotated_checked (x ∷ xs) a ≡ annotated_bytes (x ∷ xs) v =
        annotated_accepted (x ∷ xs) a h ∙ ap (annotated_bytes (x ∷ xs)) (sym (checked_bytes_accepted a h)) in
        let n = ap length (annotated_prefix x xs v) ∙ length-append (prefix_bytes (x ∷ xs) (length v)) v in
        ap (written b at) e ∙ written-some b at (annotated_bytes (x ∷ xs) v) (omega (arith, some_bytes))

-- annotations are lent, and `size` is that of the value
module _ (b : List ℕ) (at : ℕ) (notes : List ℕ) (some : eqb (length notes) 0 ≡ false) (a : Argument) (size : ℕ) (s : Some size ≡ size_of (checked_bytes a)) where
  some_notes : 0 < length notes
  some_notes = omega (arith, eqb-false (length notes) 0 some)

  before : List ℕ → List ℕ → Option ℕ × List ℕ
  before an v = placed_before b at (prefix_bytes an (length v)) (length v)

  by_length : (r : Option ℕ) (l : List ℕ) (x : ℕ) (xs : List ℕ) → sids_of notes ≡ x ∷ xs → ◌≡◌ {A = Option ℕ × List ℕ} (r, l) (placed_before b at (prefix_bytes (sids_of notes) size) size)
      → ◌≡◌ {A = Option ℕ × List ℕ} (r, l) (placed_before b at (prefix_bytes (x ∷ xs) (length (checked_bytes a))) (length (checked_bytes a)))
  by_length r l x xs q e = rw (← q, ← (sized a size s).1) e

  pub no_wrapper : (l : List ℕ) → ◌≡◌ {A = Option ℕ × List ℕ} (None, l) (placed_before b at (prefix_bytes (sids_of notes) size) size)
      → ◌≡◌ {A = Option ℕ × List ℕ} (None, l) (written b at (annotated_checked (sids_of notes) a))
  no_wrapper l e =
      let q = sids_some notes some_notes in
      rw q.2 (no_prefix b at q.0 q.1 (checked_bytes a) l (by_length None l q.0 q.1 q.2 e) ∙ sym (annotated_written a (sized a size s).0 b at q.0 q.1))

  module _ (n : ℕ) (l : List ℕ) (e : ◌≡◌ {A = Option ℕ × List ℕ} (Some n, l) (placed_before b at (prefix_bytes (sids_of notes) size) size)) where
    -- the value has room behind its wrapper
    pub wrapper_room : at + n + size ≤ length l
    wrapper_room =
        let q = sids_some notes some_notes in
        omega (arith, prefix_room b at q.0 q.1 (checked_bytes a) n l (by_length (Some n) l q.0 q.1 q.2 e), (sized a size s).1)

    pub wrapped_put : (l' : List ℕ) → ◌≡◌ {A = Option ℕ × List ℕ} (None, l') (written l (at + n) (checked_bytes a)) → ⊥
    wrapped_put l' f = placed-room l (at + n) (checked_bytes a) l' (omega (arith, wrapper_room, (sized a size s).1)) (f ∙ value_written a (sized a size s).0 l (at + n))

    pub wrapped : (m : ℕ) (l' : List ℕ) → ◌≡◌ {A = Option ℕ × List ℕ} (Some m, l') (written l (at + n) (checked_bytes a))
        → ◌≡◌ {A = Option ℕ × List ℕ} (Some (n + m), l') (written b at (annotated_checked (sids_of notes) a))
    wrapped m l' f =
        let q = sids_some notes some_notes in
        rw q.2 (prefix_then b at q.0 q.1 (checked_bytes a) n l (by_length (Some n) l q.0 q.1 q.2 e) m l' (f ∙ value_written a (sized a size s).0 l (at + n))
        ∙ sym (annotated_written a (sized a size s).0 b at q.0 q.1))

    -- and both are in the buffer
    pub wrapped_within : (m : ℕ) (l' : List ℕ) → ◌≡◌ {A = Option ℕ × List ℕ} (Some m, l') (written l (at + n) (checked_bytes a)) → n + m ≤ length l
    wrapped_within m l' f =
        let k = placed-some l (at + n) (checked_bytes a) m l' (f ∙ value_written a (sized a size s).0 l (at + n)) in
        omega (arith, k.0, k.1)

-- what stands before the value, n bytes: nothing without annotations, and with them the wrapper's header and the annotations
abbrev pub Before : List ℕ → ℕ → List ℕ → Argument → ℕ → List ℕ → Type 0
Before b at notes a n l =
    ((eqb (length notes) 0 ≡ true) × ((n ≡ 0) × (l ≡ b)))
    ⊎ ((eqb (length notes) 0 ≡ false) × ((size : ℕ) × ((Some size ≡ size_of (checked_bytes a))
    × (◌≡◌ {A = Option ℕ × List ℕ} (Some n, l) (placed_before b at (prefix_bytes (sids_of notes) size) size)))))

module _ (b : List ℕ) (at : ℕ) (notes : List ℕ) (a : Argument) (n : ℕ) (l : List ℕ) (before : Before b at notes a n l) where
  pub value_room : at + n ≤ max at (length l)
  value_room = ⊎_elim
      (λ p. omega (arith, p.1.0))
      (λ q. omega (arith, wrapper_room b at notes q.0 a q.1.0 q.1.1.0 n l q.1.1.1))
      before

  plain : eqb (length notes) 0 ≡ true → n ≡ 0 → l ≡ b → (r : Option ℕ) (l' : List ℕ) → ◌≡◌ {A = Option ℕ × List ℕ} (r, l') (written l (at + n) (checked_bytes a))
      → ◌≡◌ {A = Option ℕ × List ℕ} (r, l') (written b at (annotated_checked (sids_of notes) a))
  plain z e f r l' w =
      let here : at + n ≡ at = omega (arith, e) in
      unannotated b at notes a (eqb-true (length notes) 0 z) r l' (rw (← f, ← here) w)

  pub no_value : (l' : List ℕ) → ◌≡◌ {A = Option ℕ × List ℕ} (None, l') (written l (at + n) (checked_bytes a))
      → ◌≡◌ {A = Option ℕ × List ℕ} (None, l') (written b at (annotated_checked (sids_of notes) a))
  no_value l' w = ⊎_elim
      (λ p. plain p.0 p.1.0 p.1.1 None l' w)
      (λ q. absurd (wrapped_put b at notes q.0 a q.1.0 q.1.1.0 n l q.1.1.1 l' w))
      before

  pub value_behind : (m : ℕ) (l' : List ℕ) → ◌≡◌ {A = Option ℕ × List ℕ} (Some m, l') (written l (at + n) (checked_bytes a))
      → ◌≡◌ {A = Option ℕ × List ℕ} (Some (n + m), l') (written b at (annotated_checked (sids_of notes) a))
  value_behind m l' w = ⊎_elim
      (λ p. let m_is : n + m ≡ m = omega (arith, p.1.0) in rw m_is (plain p.0 p.1.0 p.1.1 (Some m) l' w))
      (λ q. wrapped b at notes q.0 a q.1.0 q.1.1.0 n l q.1.1.1 m l' w)
      before

  pub value_within : (m : ℕ) (l' : List ℕ) → ◌≡◌ {A = Option ℕ × List ℕ} (Some m, l') (written l (at + n) (checked_bytes a)) → n + m ≤ length l
  value_within m l' w = by_cases (any_holds (argument_checks a))
      (λ h. absurd (none-some m (sym (ap (λ (p : Option ℕ × List ℕ). p.0) (w ∙ ap (written l (at + n)) (checked_bytes_refused a h))))))
      (λ h. let k = placed-some l (at + n) (checked_bytes a) m l' (w ∙ value_written a h l (at + n)) in omega (arith, k.0, k.1))
