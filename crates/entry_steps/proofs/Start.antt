-- A start by what the call says, and the bytes of the state that it leaves.
-- Assumes nothing.
use Rattle.std.proofs.Common.{◌≡◌, ℕ, ◌<◌, ◌≤◌, false, List, Ok, Err, length, replicate, ap, ◌∙◌, lt-ltb, le-ltb}
use borrow.Author.Tests.{eq-eqb, ne_eqb}
use Rattle.buffer.specs.Laid.{laid}
use Rattle.machine.specs.declared.Refusal.{Refusal}
use Rattle.machine.specs.Machine.{longest_buffer, Outcome}
use Rattle.machine.specs.Numbers.{number}
use Rattle.steps.specs.Start.{start_run}
use Rattle.steps.specs.Heads.{begun}
use Rattle.state_bytes.specs.StateBytes.{state_size, stored_head, number_of}
use Rattle.entry_steps.specs.Entries.{entered_as, empty_bytes, start_entered}

-- ---- a slice of another length

pub start_short_long : (st b : List ℕ) → (length st ≡ state_size → ⊥) → longest_buffer < length b → entered_as 1 st b ≡ start_entered st b
unfolding start_entered
start_short_long st b h k = rw (ne_eqb (length st) state_size h, lt-ltb longest_buffer (length b) k, start_entered)

pub start_short : (st b : List ℕ) → (length st ≡ state_size → ⊥) → length b ≤ longest_buffer → entered_as 2 st b ≡ start_entered st b
unfolding start_entered
start_short st b h k = rw (ne_eqb (length st) state_size h, le-ltb longest_buffer (length b) k, start_entered)

-- ---- a slice of a state's length, which was filled with zeros

module _ (st b l z : List ℕ) (h : length st ≡ state_size) (p : z ≡ replicate (length st) 0) where
  -- o is what the machine's start answers and leaves
  start_entry : (o : Outcome) → o ≡ start_run b → entered_as (number_of o.verdict) (empty_bytes o.config.state.used) o.config.buffer ≡ start_entered st b
  unfolding start_entered start_run
  start_entry o r =
      ap (λ (x : Outcome). entered_as (number_of x.verdict) (empty_bytes x.config.state.used) x.config.buffer) r
      ∙ rw (eq-eqb (length st) state_size h, start_entered)

  cleared : z ≡ empty_bytes 0
  unfolding stored_head laid
  cleared = p ∙ ap (λ (n : ℕ). replicate n 0) h

  pub start_refused : (why : Refusal) → begun (Err why) l ≡ start_run b → entered_as (number why) z l ≡ start_entered st b
  start_refused why e = rw cleared (start_entry _ e)

  -- behind the zeros the used length
  pub start_put : (n : ℕ) → begun (Ok n) l ≡ start_run b → entered_as 0 (stored_head n 0 false z) l ≡ start_entered st b
  start_put n e =
      let x : stored_head n 0 false z ≡ empty_bytes n = ap (stored_head n 0 false) (p ∙ ap (λ (k : ℕ). replicate k 0) h) in
      rw x (start_entry _ e)
