-- The laws of a splice: it is a run laid at its place and zeros behind it, up to the old used length; at the used length it is the run alone.
-- By the laws of laid bytes. Assumes nothing.
use mathlib.Core.Path.{◌≡◌, refl, sym, ◌∙◌, ap}
use mathlib.Core.List.{List, [], ◌++◌, append_assoc}
use Prim.Native.Nat.{ℕ, ◌+◌, ◌-◌, ◌≤◌, ◌<◌, max}
use native.Mathlib.Omega.{arith}
use lib.ListN.{length, take, drop, replicate, length-append, length-replicate}
use borrow.Author.Tests.{le-leb, lt-leb}
use Rattle.encoding.specs.Headers.{header_bytes, framed_bytes}
use Rattle.machine.specs.Machine.{splice}
use Rattle.buffer.specs.Laid.{laid}
use Rattle.buffer.proofs.Laid.{laid_is, laid_more, laid-before}
use Rattle.containers.specs.declared.Closing.{Closing}
use Rattle.std.proofs.Common.{Option, Some, None}
use Rattle.containers.specs.Containers.{spliced}

-- ---- two runs side by side, the second at a place that the code computes

module _ (b : List ℕ) (at : ℕ) (xs ys : List ℕ) (n : ℕ) (e : n ≡ at + length xs) (h : at + (length xs + length ys) ≤ length b) {l l' : List ℕ} where
  pub then_behind : l ≡ laid b at xs → l' ≡ laid l n ys → l' ≡ laid b at (xs ++ ys)
  then_behind p q = q ∙ rw (p, e) (laid_more b at xs (omega arith) ys)

  pub then_before : l ≡ laid b n ys → l' ≡ laid l at xs → l' ≡ laid b at (xs ++ ys)
  then_before p q = q ∙ rw (p, e) (laid-before b at xs (omega arith) ys h)

-- ---- a splice

abbrev pub zeros : ℕ → List ℕ
zeros n = replicate n 0

pub framed_is : (t n : ℕ) (body : List ℕ) → length body ≡ n → framed_bytes t body ≡ header_bytes t n ++ body
unfolding framed_bytes
framed_is t n body e = ap (λ (k : ℕ). header_bytes t k ++ body) e

module _ (used p : ℕ) (out b : List ℕ) where
  splice_run : p + length out ≤ length b → splice used p out b ≡ laid b p (out ++ zeros (used - (p + length out)))
  unfolding splice
  splice_run h =
      let k = used - (p + length out) in
      let e : p + length (out ++ zeros k) ≡ max used (p + length out) = simp (length-append, length-replicate {A = ℕ}) (omega arith) in
      rw (laid_is b p (out ++ zeros k), e) (append_assoc (take p b) out _ ∙ ap (λ (l : List ℕ). take p b ++ l) (sym (append_assoc out (zeros k) _)))

  -- the zeros are laid behind the run
  pub splice-laid : p + length out ≤ length b → laid (laid b p out) (p + length out) (zeros (used - (p + length out))) ≡ splice used p out b
  splice-laid h = laid_more b p out h (zeros (used - (p + length out))) ∙ sym (splice_run h)

  spliced-fits : (moved : ℕ) → p + length out ≤ length b → spliced used p out moved b ≡ (Some (record { used = p + length out; moved = moved }), splice used p out b)
  unfolding spliced
  spliced-fits moved h = rw (spliced, le-leb (p + length out) (length b) h) refl

  pub spliced_full : (moved : ℕ) → length b < p + length out → spliced used p out moved b ≡ (None, b)
  unfolding spliced
  spliced_full moved h = rw (spliced, lt-leb (p + length out) (length b) h) refl

  -- the run is laid, and the rest cleared
  pub spliced_by : (end moved n : ℕ) {l l' : List ℕ} → end ≡ p + length out → end ≤ length b → n ≡ moved → l ≡ laid b p out
      → l' ≡ laid l end (zeros (used - end)) →
      ◌≡◌ {A = Option Closing × List ℕ} (Some (record { used = end; moved = n }), l') (spliced used p out moved b)
  spliced_by end moved n e h m q q' = rw (q', q, e, m) (rw (splice-laid (omega arith)) (sym (spliced-fits moved (omega arith))))

-- a splice of nothing clears
pub splice_nil : (used p : ℕ) (b : List ℕ) → p ≤ length b → splice used p [] b ≡ laid b p (zeros (used - p))
splice_nil used p b h =
    let e : p + 0 ≡ p = omega arith in
    splice_run used p [] b (omega arith) ∙ ap (λ (n : ℕ). laid b p (zeros (used - n))) e

-- at the used length nothing is freed
pub splice_end : (used : ℕ) (out b : List ℕ) → splice used used out b ≡ laid b used out
unfolding splice laid
splice_end used out b =
    let z : used - (used + length out) ≡ 0 = omega arith in
    let m : max used (used + length out) ≡ used + length out = omega arith in
    rw (z, m) (append_assoc (take used b) out (drop (used + length out) b))
