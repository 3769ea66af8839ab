-- Rules that ask every item from a place on, containers entered: no pad, and no scalar with a mark. What the grammar says of them is in Pads.antt.
-- Assumes nothing.
use Prim.Native.Nat.{ℕ, zero, suc, ◌+◌, ◌≤◌, ◌<◌}
use native.Mathlib.Omega.{arith}
use mathlib.Core.Path.{◌≡◌}
use mathlib.Core.Bool.{Bool, true, false, cond, not, ◌&&◌, ◌||◌}
use mathlib.Core.List.{List}
use lib.Dec.{leb, eqb}
use lib.ListN.{length, take}
use lib.Seq.{slice}
use borrow.Author.Tests.{lt-leb, eq-eqb, ne_eqb}
use Rattle.ion.specs.Value.{Scalar}
use Rattle.reading.specs.declared.Item.{Item}
use Rattle.std.specs.Prelude.{Ok, Err, Some, None, unwrap_or}
use Rattle.reading.specs.Scalars.{scalar_in}
use Rattle.reading.specs.Items.{is_pad, opens, Found, item_at}
use Rattle.reading.specs.Walk.{higher}
use Rattle.mark.specs.OutOfCalendar.{is_marked}
use Rattle.unpadded.specs.Rule.{unpadded_from}
use Rattle.reading_grammar.proofs.Walked.{higher_left, higher_right}
use Rattle.unpadded_grammar.proofs.Tests.{marked_by, marked_by_mark, marked_by-never}

-- with fuel, on bytes, as `unpadded_from`
abbrev pub Rule : Type 0
Rule = ℕ → List ℕ → ℕ → ℕ → ℕ → ℕ → Bool

-- what a rule says at the end of the bytes
abbrev pub EndsBy : Rule → Type 0
EndsBy rule = (f : ℕ) (s : List ℕ) (parent least depth at : ℕ) → at ≡ length s → rule (suc f) s parent least depth at ≡ true

-- what it says of the content of an item
abbrev pub content_by : Rule → (Scalar → Bool) → (ℕ → ℕ) → ℕ → List ℕ → ℕ → ℕ → ℕ → ℕ → Bool
content_by rule mark inner f s depth k start stop =
    cond (opens k) (rule f (take stop s) k 0 (inner depth) start) (not (marked_by mark (scalar_in k (slice start stop s))))

-- what it says at an item
abbrev pub StepsBy : Rule → (Scalar → Bool) → (ℕ → ℕ) → Type 0
StepsBy rule mark inner =
    (f : ℕ) (s : List ℕ) (parent least depth at : ℕ) (i : Item) → at < length s → item_at s parent least depth at ≡ Ok (Some i)
    → rule (suc f) s parent least depth at
    ≡ (not (is_pad i.held.header.kind) && (content_by rule mark inner f s depth i.held.header.kind i.held.header.start i.held.header.stop && rule f s parent (unwrap_or i.name 0) depth i.held.header.stop))

-- A rule with its mark. Fits k d: with k containers open there is room for d more at once.
pub record Asked : Type 1 where
  pub rule : Rule
  pub mark : Scalar → Bool
  pub inner : ℕ → ℕ
  pub Fits : ℕ → ℕ → Type 0
  pub left : (m n k : ℕ) → Fits k (higher m n) → Fits k m
  pub right : (m n k : ℕ) → Fits k (higher m n) → Fits k n
  pub enters : (k d : ℕ) → Fits k (1 + d) → Fits (inner k) d
  pub room : (k d : ℕ) → 0 < d → Fits k d → leb 32 k ≡ false
  pub ends : EndsBy rule
  pub steps : StepsBy rule mark inner

-- ---- the rule of the crate unpadded

pub unpadded_ends : EndsBy unpadded_from
unfolding unpadded_from
unpadded_ends f s parent least depth at e = rw (eq-eqb at (length s) e)

pub unpadded_steps : StepsBy unpadded_from (λ x. is_marked x) (λ k. k + 1)
unfolding unpadded_from
unpadded_steps f s parent least depth at i h e =
    rw (ne_eqb at (length s) (λ q. omega arith), e, marked_by_mark (scalar_in i.held.header.kind (slice i.held.header.start i.held.header.stop s)))

unfoldable pub unpadded : Asked
unpadded = record {
  rule = unpadded_from;
  mark = λ x. is_marked x;
  inner = λ k. k + 1;
  Fits = λ k d. k + d ≤ 32;
  left = higher_left;
  right = higher_right;
  enters = λ k d h. omega arith;
  room = λ k d pos h. lt-leb 32 k (omega arith);
  ends = unpadded_ends;
  steps = unpadded_steps;
}

-- ---- the same without marks and without a limit to the containers open at once

abbrev pub padless_step : (List ℕ → ℕ → ℕ → ℕ → ℕ → Bool) → List ℕ → ℕ → ℕ → Found → Bool
padless_step go s parent depth (Err r) = false
padless_step go s parent depth (Ok None) = false
padless_step go s parent depth (Ok (Some i)) =
    let h = i.held.header in
    not (is_pad h.kind) && (cond (opens h.kind) (go (take h.stop s) h.kind 0 depth h.start) true && go s parent (unwrap_or i.name 0) depth h.stop)

unfoldable pub padless_from : ℕ → List ℕ → ℕ → ℕ → ℕ → ℕ → Bool
padless_from zero s parent least depth at = false
padless_from (suc f) s parent least depth at =
    eqb at (length s) || padless_step (λ t p l d i. padless_from f t p l d i) s parent depth (item_at s parent least depth at)

pub padless_ends : EndsBy padless_from
unfolding padless_from
padless_ends f s parent least depth at e = rw (eq-eqb at (length s) e)

pub padless_steps : StepsBy padless_from (λ x. false) (λ k. k)
unfolding padless_from
padless_steps f s parent least depth at i h e =
    rw (ne_eqb at (length s) (λ q. omega arith), e, marked_by-never (scalar_in i.held.header.kind (slice i.held.header.start i.held.header.stop s)))

unfoldable pub padless : Asked
padless = record {
  rule = padless_from;
  mark = λ x. false;
  inner = λ k. k;
  Fits = λ k d. k ≡ 0;
  left = λ m n k h. h;
  right = λ m n k h. h;
  enters = λ k d h. h;
  room = λ k d pos h. lt-leb 32 k (omega arith);
  ends = padless_ends;
  steps = padless_steps;
}
