-- Each turn lays one byte more behind those that are laid. Assumes nothing.
use mathlib.Core.Path.{◌≡◌, ◌∙◌, ap, refl}
use Prim.Native.Nat.{◌+◌}
use native.Mathlib.Omega.{arith}
use native.Mathlib.Numerals.{add-one}
use lib.ListN.{length, take, get_or}
use lib.Seq.{take-suc, take_all, length-take-le}
use Rattle.buffer.specs.Laid.{laid}
use Rattle.buffer.proofs.Laid.{laid_snoc, placed_by}
use Rattle.buffer.proofs.copy.Goals as goal

pub loop-i-preserved : goal.loop-i-preserved
loop-i-preserved c = let a = c.args in
    let l = c.loop-i in
    let n : length (take l.i a.src.now) ≡ l.i = length-take-le l.i a.src.now (omega arith) in (
      omega arith,
      rw (l.invariant.1, add-one, take-suc a.src.now l.i 0 (omega arith))
          (laid_snoc a.buf.now a.at (take l.i a.src.now) (a.at + l.i) (get_or a.src.now l.i 0) (omega arith) (omega arith)),
    )

pub returns : goal.returns
returns c = let a = c.args in
    let l = c.loop-i in
    placed_by a.buf.now a.at a.src.now _ l.buf l.invariant.0 refl
    (l.invariant.1 ∙ ap (laid a.buf.now a.at) (take_all l.i a.src.now (omega arith)))
