-- The walk is what a host makes of the numbers that `gm_read_item` answers at each place: the statement. The proof is in proofs/ByAnswers.antt.
-- Assumes nothing.
use Rattle.std.specs.Prelude.{ℕ, ◌+◌, ◌≡◌, ◌≤◌, cond, List, [], eqb, length, take, get_or, Some}
use Rattle.std.proofs.Math.Seq.{slice}
use Rattle.reading.specs.declared.Refusal.{Refusal}
use Rattle.reading.specs.declared.Refusal.TheVariants.{PastTheEnd, TooDeep, NotIon, CutShort}
use Rattle.reading.specs.Scalars.{sids_of}
use Rattle.reading.specs.Items.{opens, raised}
use Rattle.reading.specs.Walk.{refused, Walk, ◌and_then◌, shows, annotations, leaf_walk, container_walk, walk_in}
use Rattle.reader.specs.Values.{next_in}
use Rattle.read_answers.specs.Answers.{Answered, no_more, item_answer}
use Rattle.read_answers.specs.Told.{name_in}

-- the refusal that a number is
abbrev pub refusal_numbered : ℕ → Refusal
refusal_numbered n = cond (eqb n 2) PastTheEnd (cond (eqb n 4) TooDeep (cond (eqb n 13) NotIon CutShort))

-- what an item shows, by its holder's type byte and its own numbers: itself, or, given how to go on from a place, all that it holds
abbrev pub numbers_walk : (List ℕ → ℕ → ℕ → ℕ → ℕ → Walk) → List ℕ → ℕ → ℕ → ℕ → ℕ → ℕ → ℕ → ℕ → ℕ → Walk
numbers_walk go s parent depth name from to b start stop =
    cond (opens b)
    (container_walk b (name_in parent name) (annotations (sids_of (slice from to s))) (go (take stop s) b 0 (depth + 1) start))
    (leaf_walk b (name_in parent name) (annotations (sids_of (slice from to s))) (slice start stop s))

-- by the six numbers, in their places: nothing more, or an item and what stands behind it
abbrev pub numbers_step : (List ℕ → ℕ → ℕ → ℕ → ℕ → Walk) → List ℕ → ℕ → ℕ → ℕ → List ℕ → Walk
numbers_step go s parent least depth ns =
    cond (eqb (get_or ns 3 0) no_more) (shows [])
    (numbers_walk go s parent depth (get_or ns 0 0) (get_or ns 1 0) (get_or ns 2 0) (get_or ns 3 0) (get_or ns 4 0) (get_or ns 5 0)
    and_then go s parent (raised least (get_or ns 3 0) (Some (get_or ns 0 0))) depth (get_or ns 5 0))

-- what a host makes of an answer: the walk from there, or a refusal
abbrev pub answer_step : (List ℕ → ℕ → ℕ → ℕ → ℕ → Walk) → List ℕ → ℕ → ℕ → ℕ → ℕ → Answered → Walk
answer_step go s parent least depth at a = cond (eqb a.0 0) (numbers_step go s parent least depth a.1) ([], refused (refusal_numbered a.0) at)

-- From any place of any stream, by what `gm_read_item` answers there, with a slice of six numbers or more lent.
abbrev pub WalkByAnswers : Type 0
WalkByAnswers =
    (s lent : List ℕ) (end parent least depth at : ℕ) → 6 ≤ length lent →
    walk_in s end parent least depth at
    ≡ answer_step (λ t p l d i. walk_in s (length t) p l d i) (take end s) parent least depth at
    (item_answer at (next_in s end parent least depth at) lent)
