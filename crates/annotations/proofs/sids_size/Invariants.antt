-- The loop's invariant: `sum` is the length of the first n sids' bytes, and what comes behind these sids is left. Assumes nothing.
use mathlib.Core.Path.{◌≡◌}
use Prim.Native.Nat.{ℕ}
use lib.ListN.{length}
use Rattle.annotations.proofs.Sids.{Read, sid_bytes}
use Rattle.annotations.proofs.sids_size.Given as goal

abbrev pub invariant-loop-bytes : goal.invariant-loop-bytes
invariant-loop-bytes l =
    (n : ℕ) × Read l.annotations l.bytes-iterator.rest.now l.bytes-iterator.size n × (l.sum ≡ length (sid_bytes l.annotations n))
