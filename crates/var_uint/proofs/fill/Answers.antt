-- Each turn makes one store more, of the byte before. Assumes nothing.
use mathlib.Core.Path.{◌≡◌, sym, ◌∙◌, ap}
use Prim.Native.Nat.{ℕ, suc, ◌+◌, ◌-◌}
use native.Mathlib.Omega.{arith}
use lib.ListN.{length}
use Rattle.encoding.specs.Fields.{var_uint_bytes}
use Rattle.buffer.proofs.Laid.{no_room, room}
use Rattle.var_uint.proofs.Filled.{filled-same, filled_none, filled_full, filled_next}
use Rattle.var_uint.proofs.Groups.{all_to_come, next-byte, less_to_come}
use Rattle.var_uint.proofs.fill.Goals as goal

pub returns-then-not-has_room : goal.returns-then-not-has_room
returns-then-not-has_room c = let a = c.args in
    let h = no_room _ a.buf.now _ c.has_room.ensures c.if-not-has_room.true in
    sym (filled_full a.buf.now a.at (var_uint_bytes a.value) a.limit (omega (arith, c.encoded_size_of-size.ensures)))

pub loop-i-init : goal.loop-i-init
loop-i-init c = let a = c.args in
    let s = c.encoded_size_of-size.ensures in
    let z : c.encoded_size_of-size.result - c.encoded_size_of-size.result ≡ 0 = omega arith in
    record {
      size = s;
      room = room _ a.buf.now _ c.has_room.ensures c.if-not-has_room.false;
      within = (omega (arith, c.min-count.ensures), omega arith);
      stored = rw z (sym (filled_none a.buf.now a.at (var_uint_bytes a.value) (omega (arith, s, room _ a.buf.now _ c.has_room.ensures c.if-not-has_room.false))));
      flag = omega arith;
      to_come = all_to_come a.value _ (omega (arith, s));
    }

pub loop-i-preserved : goal.loop-i-preserved
loop-i-preserved c = let a = c.args in
    let l = c.loop-i in
    let known = l.invariant in
    let size = c.encoded_size_of-size.result in
    let out = var_uint_bytes a.value in
    let made = size - l.i in
    let p = length out - (made + 1) in
    let one : l.i ≡ suc p = omega (arith, known.size) in
    let left : l.i - 1 ≡ p = omega (arith, known.size) in
    let more : size - (l.i - 1) ≡ made + 1 = omega arith in
    let to-come = rw one at known.to_come in
    let store = filled_next a.buf.now a.at out (omega (arith, known.size, known.room)) made l.buf _ _ known.stored (omega (arith, known.size)) in
    record {
      size = known.size;
      room = known.room;
      within = omega arith;
      stored = rw more (store (ap (λ (n : ℕ). a.at + n) left) (sym (next-byte l.flag p l.rest out to-come)));
      flag = omega arith;
      to_come = rw left (less_to_come l.flag p l.rest out to-come (omega (arith, known.size)));
    }

pub returns : goal.returns
returns c = let a = c.args in
    let known = c.loop-i.invariant in
    let made : c.encoded_size_of-size.result - c.loop-i.i ≡ c.min-count.result = omega arith in
    rw made at known.stored ∙ filled-same a.buf.now a.at (var_uint_bytes a.value) c.min-count.result a.limit (omega (arith, known.size, c.min-count.ensures))
