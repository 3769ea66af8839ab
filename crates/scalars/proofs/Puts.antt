-- What a value's bytes and its size are by its own checks: those of its argument where they pass, and none where one refuses it.
-- By the test of the checks. Assumes nothing.
use Prim.Native.Nat.{ℕ}
use mathlib.Core.Path.{◌≡◌, refl, sym, ◌∙◌, ap}
use mathlib.Core.Bool.{true, false}
use mathlib.Core.List.{List}
use native.Mathlib.Omega.{arith}
use lib.ListN.{length}
use Rattle.std.specs.Prelude.{Option, Some, None}
use Rattle.encoding.specs.Argument.{Argument, argument_bytes, argument_checks, any_holds, checked_bytes}
use Rattle.encoding.specs.Headers.{framed_bytes}
use Rattle.encoding.proofs.Headers.{header_least, header_most, length-framed}
use Rattle.encoding.proofs.Least.{argument_some}
use Rattle.encoding.proofs.Sizes.{uint-most}
use Rattle.decimal.proofs.Values.{checked_bytes_refused, checked_bytes_accepted}
use Rattle.buffer.specs.Laid.{placed, written, size_of}
use Rattle.buffer.proofs.Laid.{written-some, size_of-some}

module _ (a : Argument) (h : any_holds (argument_checks a) ≡ false) where
  pub sized : (n : ℕ) → n ≡ length (argument_bytes a) → ◌≡◌ {A = Option ℕ} (Some n) (size_of (checked_bytes a))
  sized n e = rw (checked_bytes_accepted a h) (ap (λ (i : ℕ). Some i) e ∙ sym (size_of-some (argument_bytes a) (argument_some a)))

  pub written_whole : (b : List ℕ) (at : ℕ) → written b at (checked_bytes a) ≡ placed b at (argument_bytes a)
  written_whole b at = rw (checked_bytes_accepted a h) (written-some b at (argument_bytes a) (argument_some a))

module _ (a : Argument) (h : any_holds (argument_checks a) ≡ true) where
  pub unsized : size_of (checked_bytes a) ≡ None
  unsized = rw (checked_bytes_refused a h) refl

  pub unwritten : (b : List ℕ) (at : ℕ) → written b at (checked_bytes a) ≡ (None, b)
  unwritten b at = rw (checked_bytes_refused a h) refl

-- a framed value has bytes
pub written_framed : (b : List ℕ) (at t : ℕ) (bs : List ℕ) → written b at (framed_bytes t bs) ≡ placed b at (framed_bytes t bs)
written_framed b at t bs = written-some b at (framed_bytes t bs) (omega (arith, length-framed t bs, header_least 0 (length bs)))

pub ruleset by_checks = (sized, written_whole, unsized, unwritten, written_framed, uint-most)

pub ruleset header_sizes = (header_most, length-framed)
