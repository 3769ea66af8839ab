-- The loop's invariant: the bytes of the first n sids are placed at `at`, and what comes behind these sids is left. Assumes nothing.
use mathlib.Core.Path.{◌≡◌}
use mathlib.Core.List.{List}
use Prim.Native.Nat.{ℕ}
use Rattle.std.specs.Prelude.{Option, Some}
use Rattle.buffer.specs.Laid.{placed}
use Rattle.annotations.proofs.Sids.{Read, sid_bytes}
use Rattle.annotations.proofs.Measured.put_sids.Given as goal

abbrev pub invariant-loop-bytes : goal.invariant-loop-bytes
invariant-loop-bytes l =
    let s = l.self.annotations.now in
    (n : ℕ) × Read s l.bytes-iterator.rest.now l.bytes-iterator.size n
    × (◌≡◌ {A = Option ℕ × List ℕ} (Some l.written, l.buf) (placed l.initial.buf l.at (sid_bytes s n)))
