-- `hex::put` lays two digits for each byte: the invariant says how many bytes have theirs.
-- Assumes nothing.
use mathlib.Core.Path.{refl, sym, ◌∙◌, ap}
use Prim.Native.Nat.{◌*◌}
use native.Mathlib.Omega.{arith}
use lib.ListN.{length, length-set}
use lib.Seq.{take_all}
use Rattle.buffer.specs.Laid.{laid}
use Rattle.buffer.proofs.Laid.{placed_full, placed_by, no_room, room}
use Rattle.words.specs.Hex.{hex_text}
use Rattle.words.proofs.HexDigits.{length_text, text_nothing, text_laid}
use Rattle.words.proofs.hex.put.Goals as goal

pub returns-then-not-has_room : goal.returns-then-not-has_room
returns-then-not-has_room c = let a = c.args in
    let r = c.has_room in
    let full = no_room r.result a.out.now _ r.ensures c.if-not-has_room.true in
    (sym (placed_full a.out.now a.at (hex_text a.bytes.now) (omega (arith, length_text a.bytes.now))), tt)

pub loop-i-init : goal.loop-i-init
loop-i-init c = let a = c.args in
    let r = c.has_room in record {
      room = room r.result a.out.now _ r.ensures c.if-not-has_room.false;
      keeps = refl;
      laid = text_nothing a.out.now a.at;
    }

pub loop-i-preserved : goal.loop-i-preserved
loop-i-preserved c = let a = c.args in
    let l = c.loop-i in record {
      room = l.invariant.room;
      keeps = simp length-set l.invariant.keeps;
      laid = text_laid a.out.now a.at a.bytes.now l.i l.out c.glyph.result c.glyph-in-loop-i.result l.invariant.laid
          (omega arith) l.invariant.room c.glyph.ensures c.glyph-in-loop-i.ensures;
    }

pub returns : goal.returns
returns c = let a = c.args in
    let l = c.loop-i in
    let n = length_text a.bytes.now in
    let all = ap (λ s. laid a.out.now a.at (hex_text s)) (take_all l.i a.bytes.now (omega arith)) in
    (placed_by a.out.now a.at (hex_text a.bytes.now) (2 * length a.bytes.now) l.out (omega arith) (omega arith) (l.invariant.laid ∙ all), omega arith)
