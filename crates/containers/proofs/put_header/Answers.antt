-- `containers::put_header` meets its contract: the header fits, and so it is laid.
-- Assumes nothing.
use mathlib.Core.Path.{◌∙◌, ap}
use Prim.Native.Nat.{ℕ, ◌*◌, ◌/◌}
use native.Mathlib.Omega.{arith}
use Rattle.encoding.specs.Headers.{header_bytes}
use Rattle.buffer.specs.Laid.{laid}
use Rattle.std.proofs.Common.{List, Option}
use Rattle.buffer.proofs.Laid.{placed-fits}
use Rattle.encoding.proofs.Headers.{length_header}
use Rattle.containers.proofs.put_header.Goals as goal

pub returns : goal.returns
returns c = let a = c.args in
    let q = length_header (a.code / 16 * 16) a.body in
    ap (λ (x : Option ℕ × List ℕ). x.1) (c.write.ensures ∙ placed-fits a.buf.now a.at (header_bytes (a.code / 16 * 16) a.body) (omega arith))
    ∙ ap (λ (t : ℕ). laid a.buf.now a.at (header_bytes t a.body)) c.requires.0
