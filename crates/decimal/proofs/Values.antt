-- A value of a header and a body: how many bytes it takes, how it is put, and when it is put at all.
-- By the header and the body side by side. Assumes nothing.
use Prim.Native.Nat.{ℕ, ◌+◌, ◌≤◌}
use native.Mathlib.Omega.{arith}
use mathlib.Core.Path.{◌≡◌, ◌∙◌}
use mathlib.Core.Bool.{true, false}
use mathlib.Core.List.{List, []}
use lib.ListN.{length}
use Rattle.std.specs.Prelude.{Option, Some, None}
use Rattle.buffer.specs.Laid.{placed}
use Rattle.buffer.proofs.Laid.{placed_then, placed-length, placed-room, placed-some}
use Rattle.encoding.specs.Headers.{header_bytes, framed_bytes}
use Rattle.encoding.specs.Argument.{Argument, argument_bytes, argument_checks, any_holds, checked_bytes}
use Rattle.encoding.proofs.Headers.{length_header, length-framed}

-- ---- what the checks of its arguments say

pub checked_bytes_refused : (a : Argument) → any_holds (argument_checks a) ≡ true → checked_bytes a ≡ []
unfolding checked_bytes
checked_bytes_refused a e = rw (e, checked_bytes)

pub checked_bytes_accepted : (a : Argument) → any_holds (argument_checks a) ≡ false → checked_bytes a ≡ argument_bytes a
unfolding checked_bytes
checked_bytes_accepted a e = rw (e, checked_bytes)

-- ---- how many bytes it takes

-- ---- how it is put

-- n and l are the answer and the buffer of a call that put the header; m and l' those of one that put the body behind it
module _ (b : List ℕ) (at t : ℕ) (body : List ℕ) (n : ℕ) (l : List ℕ) (e : ◌≡◌ {A = Option ℕ × List ℕ} (Some n, l) (placed b at (header_bytes t (length body)))) where
  pub placed-framed : (m : ℕ) (l' : List ℕ) → ◌≡◌ {A = Option ℕ × List ℕ} (Some m, l') (placed l (at + n) body) → ◌≡◌ {A = Option ℕ × List ℕ} (Some (n + m), l') (placed b at (framed_bytes t body))
  unfolding framed_bytes
  placed-framed m l' f = placed_then b at (header_bytes t (length body)) n l e body m l' f

  pub header_count : n ≡ length (header_bytes 0 (length body))
  header_count = (placed-some b at (header_bytes t (length body)) n l e).1 ∙ length_header t (length body)

  pub value_count : (m : ℕ) (l' : List ℕ) → ◌≡◌ {A = Option ℕ × List ℕ} (Some m, l') (placed l (at + n) body) → n + m ≡ length (header_bytes 0 (length body)) + length body
  value_count m l' f = (placed-some b at (framed_bytes t body) (n + m) l' (placed-framed m l' f)).1 ∙ length-framed t body

  pub body_room : at + (length (header_bytes 0 (length body)) + length body) ≤ length b → at + n + length body ≤ length l
  body_room h = omega (arith, header_count, placed-length b at (header_bytes t (length body)) (Some n) l e)

  -- where there is room for both, the body is put
  pub no_body : at + (length (header_bytes 0 (length body)) + length body) ≤ length b → (l' : List ℕ) → ◌≡◌ {A = Option ℕ × List ℕ} (None, l') (placed l (at + n) body) → ⊥
  no_body h l' f = placed-room l (at + n) body l' (body_room h) f

-- where there is room for both, the header is put
pub no_header : (b : List ℕ) (at t : ℕ) (body : List ℕ) (l : List ℕ) → at + (length (header_bytes 0 (length body)) + length body) ≤ length b
    → ◌≡◌ {A = Option ℕ × List ℕ} (None, l) (placed b at (header_bytes t (length body))) → ⊥
no_header b at t body l h e = placed-room b at (header_bytes t (length body)) l (omega (arith, length_header t (length body))) e
