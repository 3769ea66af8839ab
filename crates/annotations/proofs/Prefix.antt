-- The laws of a wrapper's prefix: an annotated value is its prefix and the value, and so a prefix and a value that are placed one behind the other.
-- By the law of two placed runs. Assumes nothing.
use mathlib.Core.Path.{◌≡◌, refl, sym, ◌∙◌, ap}
use mathlib.Core.List.{List, ◌∷◌, ◌++◌, append_assoc}
use Prim.Native.Nat.{ℕ, ◌+◌, ◌≤◌, ◌<◌}
use native.Mathlib.Omega.{arith}
use lib.ListN.{length, length-append}
use borrow.Author.Tests.{le-leb, lt-leb, leb-true, leb-false}
use lib.Dec.{leb}
use Rattle.std.specs.Prelude.{Option, Some, None}
use Rattle.std.proofs.lemmas.Option.{none-some}
use Rattle.ion.proofs.Tests.{by_cases}
use Rattle.ion.specs.Value.{annotation_code}
use Rattle.encoding.specs.Headers.{type_byte, header_bytes, framed_bytes, annotation_bytes, annotated_bytes}
use Rattle.buffer.specs.Laid.{placed}
use Rattle.encoding.proofs.Headers.{length_header, header_most}
use Rattle.buffer.proofs.Laid.{placed-fits, placed_full, placed-length, placed-room, placed-some, placed_then}
use Rattle.annotations.specs.Prefix.{prefix_bytes, placed_before}

pub annotated_prefix : (a : ℕ) (an v : List ℕ) → annotated_bytes (a ∷ an) v ≡ prefix_bytes (a ∷ an) (length v) ++ v
unfolding annotated_bytes framed_bytes prefix_bytes
annotated_prefix a an v =
    rw (length-append (annotation_bytes (a ∷ an)) v) (sym
    (append_assoc (header_bytes (type_byte annotation_code) (length (annotation_bytes (a ∷ an)) + length v)) (annotation_bytes (a ∷ an)) v))

pub length_prefix : (an : List ℕ) (n : ℕ)
    → length (prefix_bytes an n)
    ≡ length (header_bytes (type_byte annotation_code) (length (annotation_bytes an) + n)) + length (annotation_bytes an)
unfolding prefix_bytes
length_prefix an n = length-append (header_bytes (type_byte annotation_code) (length (annotation_bytes an) + n)) (annotation_bytes an)

module _ (b : List ℕ) (at : ℕ) (out : List ℕ) (n : ℕ) where
  pub placed_before-fits : at + length out + n ≤ length b → placed_before b at out n ≡ placed b at out
  unfolding placed_before
  placed_before-fits h = rw (placed_before, le-leb (at + length out + n) (length b) h) (sym (placed-fits b at out (omega arith)))

  pub placed_before_full : length b < at + length out + n → placed_before b at out n ≡ (None, b)
  unfolding placed_before
  placed_before_full h = rw (placed_before, lt-leb (at + length out + n) (length b) h) refl

-- what a test of the room tells of what is put before n bytes
pub ruleset place_tested = (placed_before_full, placed_before-fits, placed_full, leb-false, leb-true, length_prefix, length_header, header_most)

-- What a call that puts a prefix before n bytes left: it and the bytes fit, and it is put; or they don't, and nothing alters.
pub before-some : (b : List ℕ) (at : ℕ) (out : List ℕ) (n k : ℕ) (l : List ℕ) → ◌≡◌ {A = Option ℕ × List ℕ} (Some k, l) (placed_before b at out n)
    → (at + length out + n ≤ length b) × ◌≡◌ {A = Option ℕ × List ℕ} (Some k, l) (placed b at out)
before-some b at out n k l e = by_cases (leb (at + length out + n) (length b))
    (λ t. let h = leb-true (at + length out + n) (length b) t in (h, e ∙ placed_before-fits b at out n h))
    (λ t. absurd (none-some k (sym (ap (λ (x : Option ℕ × List ℕ). x.0) (e ∙ placed_before_full b at out n (leb-false (at + length out + n) (length b) t))))))

pub before-none : (b : List ℕ) (at : ℕ) (out : List ℕ) (n : ℕ) (l : List ℕ) → ◌≡◌ {A = Option ℕ × List ℕ} (None, l) (placed_before b at out n)
    → (length b < at + length out + n) × (l ≡ b)
before-none b at out n l e = by_cases (leb (at + length out + n) (length b))
    (λ t. let h = leb-true (at + length out + n) (length b) t in absurd (placed-room b at out l (omega arith) (e ∙ placed_before-fits b at out n h)))
    (λ t. let h = leb-false (at + length out + n) (length b) t in (h, ap (λ (x : Option ℕ × List ℕ). x.1) (e ∙ placed_before_full b at out n h)))

-- A value placed behind its prefix: n and l are what the prefix left, m and l' what the value left.
module _ (b : List ℕ) (at a : ℕ) (an v : List ℕ) where
  prefix : List ℕ
  prefix = prefix_bytes (a ∷ an) (length v)

  whole_length : length (annotated_bytes (a ∷ an) v) ≡ length prefix + length v
  unfolding prefix
  whole_length = ap length (annotated_prefix a an v) ∙ length-append (prefix_bytes (a ∷ an) (length v)) v

  -- no prefix: no room for the whole
  pub no_prefix : (l : List ℕ) → ◌≡◌ {A = Option ℕ × List ℕ} (None, l) (placed_before b at (prefix_bytes (a ∷ an) (length v)) (length v))
      → ◌≡◌ {A = Option ℕ × List ℕ} (None, l) (placed b at (annotated_bytes (a ∷ an) v))
  unfolding prefix
  no_prefix l e =
      let k = before-none b at (prefix_bytes (a ∷ an) (length v)) (length v) l e in
      rw k.1 (sym (placed_full b at (annotated_bytes (a ∷ an) v) (omega (arith, k.0, whole_length))))

  module _ (n : ℕ) (l : List ℕ) (e : ◌≡◌ {A = Option ℕ × List ℕ} (Some n, l) (placed_before b at (prefix_bytes (a ∷ an) (length v)) (length v))) where
    -- there is room behind it
    pub prefix_room : at + n + length v ≤ length l
    prefix_room =
        let k = before-some b at (prefix_bytes (a ∷ an) (length v)) (length v) n l e in
        omega (arith, k.0, (placed-some b at (prefix_bytes (a ∷ an) (length v)) n l k.1).1, placed-length b at (prefix_bytes (a ∷ an) (length v)) (Some n) l k.1)

    pub prefix_then : (m : ℕ) (l' : List ℕ) → ◌≡◌ {A = Option ℕ × List ℕ} (Some m, l') (placed l (at + n) v)
        → ◌≡◌ {A = Option ℕ × List ℕ} (Some (n + m), l') (placed b at (annotated_bytes (a ∷ an) v))
    prefix_then m l' f =
        let k = before-some b at (prefix_bytes (a ∷ an) (length v)) (length v) n l e in
        rw (annotated_prefix a an v) (placed_then b at (prefix_bytes (a ∷ an) (length v)) n l k.1 v m l' f)
