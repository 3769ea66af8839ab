-- A start by how far it gets, and the part that a taking hands back.
-- Assumes nothing.
use Rattle.std.proofs.Common.{◌≡◌, ℕ, ◌<◌, ◌≤◌, not, ◌&&◌, leb, List, length, Option, Some, None, arith, le-ltb, lt-ltb}
use mathlib.Core.Bool.{and-false}
use Rattle.ion.proofs.Tests.{by_cases}
use Rattle.encoding.specs.Headers.{marker_bytes}
use Rattle.buffer.specs.Laid.{placed}
use Rattle.machine.specs.declared.State.{State}
use Rattle.machine.specs.Machine.{longest_buffer, accepted, refused, empty_state, start_verdict, fits, is_open, open_containers, finished_length}
use Rattle.std.specs.Option.{ok_or}
use Rattle.machine.specs.declared.Refusal.TheVariants.{NoRoom}
use Rattle.place.proofs.Laws.{fits_used}
use Rattle.steps.specs.Heads.{begun}
use Rattle.steps.specs.Start.{start_run}
use Rattle.containers.proofs.Splice.{splice_end}
use Rattle.buffer.proofs.Laid.{placed-none, placed-some}
use Rattle.steps.proofs.Run.{outcome}

pub start_long : (b : List ℕ) → longest_buffer < length b → outcome (refused 1) (empty_state 0) b ≡ start_run b
unfolding start_run start_verdict
start_long b h = rw (lt-ltb longest_buffer (length b) h, start_run)

module _ (b : List ℕ) (h : length b ≤ longest_buffer) (l : List ℕ) where
  pub start_full : ◌≡◌ {A = Option ℕ × List ℕ} (None, l) (placed b 0 marker_bytes) → outcome (refused 10) (empty_state 0) l ≡ start_run b
  unfolding start_run start_verdict
  start_full e =
      let w = placed-none b 0 marker_bytes l e in
      let g : length b < 4 = omega (arith, w.0) in
      rw (w.1, le-ltb longest_buffer (length b) h, lt-ltb (length b) 4 g, start_run)

  pub start_put : (n : ℕ) → ◌≡◌ {A = Option ℕ × List ℕ} (Some n, l) (placed b 0 marker_bytes) → outcome accepted (empty_state n) l ≡ start_run b
  unfolding start_run start_verdict
  start_put n e =
      let w = placed-some b 0 marker_bytes n l e in
      let g : 4 ≤ length b = omega (arith, w.0) in
      rw (w.1, w.2, ← (splice_end 0 marker_bytes b), le-ltb longest_buffer (length b) h, le-ltb (length b) 4 g, start_run)

  pub start_copied : (o : Option ℕ) → ◌≡◌ {A = Option ℕ × List ℕ} (o, l) (placed b 0 marker_bytes) → begun (ok_or o NoRoom) l ≡ start_run b
  start_copied None e = start_full e
  start_copied (Some n) e = start_put n e

-- what is finished lies in the buffer
pub finished_within : (s : State) (room : ℕ) → finished_length s room ≤ room
unfolding finished_length
finished_within s room = by_cases (fits s room) (λ f. fitting (fits_used s room f)) (λ f. rw (f, and-false) (omega arith))
  where
    fitting : s.used ≤ room → finished_length s room ≤ room
    fitting u =
        by_cases (leb room longest_buffer && (fits s room && (not (is_open (open_containers s)) && not s.waiting))) (λ p. rw p u)
        (λ p. rw p (omega arith))
