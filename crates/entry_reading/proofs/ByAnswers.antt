-- The walk by the items that are answered is the walk by the numbers of the answers. Assumes nothing.
use Prim.Native.Nat.{ℕ, ◌≤◌, ◌<◌}
use native.Mathlib.Omega.{arith}
use mathlib.Core.Path.{◌≡◌, refl, ◌∙◌}
use mathlib.Core.Bool.{true, false, false≢true}
use mathlib.Core.List.{List}
use lib.Dec.{leb, eqb}
use lib.ListN.{length, take, get_or}
use borrow.Author.Tests.{eqb-true}
use Rattle.ion.proofs.Tests.{by_cases}
use Rattle.std.specs.Prelude.{Ok, Err, Option, Some, None}
use Rattle.reading.specs.declared.Refusal.TheVariants.{PastTheEnd, TooDeep, NotIon, CutShort}
use Rattle.reading.specs.declared.Item.{Item}
use Rattle.reading.specs.Items.{reads, Found}
use Rattle.reading.specs.Scalars.{code_from, scalar_in}
use Rattle.reading.specs.Walk.{Walk, step_walk, walk_in}
use Rattle.reader.specs.Values.{next_in}
use Rattle.reader.proofs.Steps.{walk_by_items}
use Rattle.read_answers.specs.Answers.{laid, no_more, item_numbers, item_answer}
use Rattle.read_answers.proofs.Laid.{laid_at}
use Rattle.read_answers.proofs.Told.{Told, item_told}
use Rattle.entry_reading.specs.ByAnswers.{answer_step, WalkByAnswers}

-- the type byte that says that there is no item more is none that reads
reads_not_last : (b : ℕ) (body : List ℕ) → reads b body ≡ true → eqb b no_more ≡ false
unfolding scalar_in code_from
reads_not_last b body h = by_cases (eqb b no_more) (λ p. absurd (false≢true (rw (eqb-true b no_more p) at h))) (λ p. p)

module _ (go : List ℕ → ℕ → ℕ → ℕ → ℕ → Walk) (s lent : List ℕ) (parent least depth at : ℕ) (room : 6 ≤ length lent) where
  -- each number stands at its place in the slice
  lent_at : (i : Option Item) (k : ℕ) → k < 6 → get_or (laid 0 (item_numbers at i) lent) k 0 ≡ get_or (item_numbers at i) k 0
  lent_at None k h = laid_at (item_numbers at None) lent k h (omega arith)
  lent_at (Some i) k h = laid_at (item_numbers at (Some i)) lent k h (omega arith)

  step_same : (x : Found) → ((i : Item) → x ≡ Ok (Some i) → Told s parent i)
      → step_walk go s parent least depth at x ≡ answer_step go s parent least depth at (item_answer at x lent)
  step_same (Ok None) h = rw (lent_at None 3 (omega arith)) refl
  step_same (Ok (Some i)) h =
      let t = h i refl in
      let at_place = lent_at (Some i) in
      rw (at_place 0 (omega arith), at_place 1 (omega arith), at_place 2 (omega arith), at_place 3 (omega arith), at_place 4 (omega arith), at_place 5 (omega arith)) (
      rw (reads_not_last i.held.header.kind _ t.1, ← t.0) refl)
  step_same (Err PastTheEnd) h = refl
  step_same (Err TooDeep) h = refl
  step_same (Err NotIon) h = refl
  step_same (Err CutShort) h = refl

pub walk_by_answers : WalkByAnswers
unfolding next_in
walk_by_answers s lent end parent least depth at room =
    walk_by_items s end parent least depth at
    ∙ step_same (λ t p l d i. walk_in s (length t) p l d i) (take end s) lent parent least depth at room (next_in s end parent least depth at) told
  where
    told : (i : Item) → next_in s end parent least depth at ≡ Ok (Some i) → Told (take end s) parent i
    told i e = by_cases (leb end (length s)) (λ p. item_told (take end s) parent least depth at i (rw p at e)) (λ p. cc)
