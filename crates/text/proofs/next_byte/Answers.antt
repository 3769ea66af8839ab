-- With nothing due the byte is a first byte; otherwise it leaves tails, or nothing that can be right if it is outside its range.
-- Assumes nothing.
use mathlib.Core.Path.{refl}
use Rattle.text.proofs.Bytes.{utf8-first, utf8-next}
use Rattle.text.proofs.next_byte.Goals as goal

pub returns-then-d-eq0 : goal.returns-then-d-eq0
returns-then-d-eq0 c bs = rw c.if-d-eq0.true (utf8-first c.first_byte.result c.args.b bs c.first_byte.ensures)

pub returns-then-d-b : goal.returns-then-d-b
returns-then-d-b c bs = let a = c.args in
    rw (c.tails.ensures, utf8-next a.d a.b bs c.if-d-eq0.false, c.if-d-b.true) refl

pub returns : goal.returns
returns c bs = let a = c.args in
    rw (utf8-next a.d a.b bs c.if-d-eq0.false, c.if-d-b.false) refl
