-- Each byte ends, goes on with or begins a character, or nothing is UTF-8 with it. Assumes nothing.
use mathlib.Core.Path.{refl, sym, ◌∙◌}
use native.Mathlib.Omega.{arith}
use Rattle.ion.specs.Text.{utf8}
use Rattle.text.proofs.Bytes.{utf8_end}
use Rattle.text.proofs.is_utf8_by_bytes.Goals as goal

pub loop-b-init : goal.loop-b-init
unfolding utf8
loop-b-init c = rw c.tails-d.ensures refl

pub returns : goal.returns
returns c = let l = c.loop-b in
    sym (l.invariant ∙ utf8_end l.d c.args.s.now l.b-index (omega arith))
