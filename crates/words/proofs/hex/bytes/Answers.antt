-- `hex::bytes` lays a byte of each two digits at the start of the buffer: the invariant says how far it has come.
-- Assumes nothing.
use mathlib.Core.Path.{◌≡◌, ◌∙◌, ap}
use Prim.Native.Nat.{◌≤◌}
use native.Mathlib.Omega.{arith}
use lib.ListN.{length, take}
use lib.Seq.{paste, paste-zero, length-take-le}
use Rattle.words.specs.Hex.{hex_bytes}
use Rattle.words.proofs.HexDigits.{length-bytes, bytes_next, filled_front}
use Rattle.words.proofs.hex.bytes.Goals as goal

pub loop-i-init : goal.loop-i-init
loop-i-init c = paste-zero _ 0 (hex_bytes c.magnitude-digits.result.now)

pub loop-i-preserved : goal.loop-i-preserved
loop-i-preserved c =
    let out = c.args.out.now in
    let n = c.min-count.result in
    let l = c.loop-i in
    let whole = length-take-le n out (omega (arith, c.min-count.ensures)) in
    bytes_next (take n out) c.magnitude-digits.result.now l.byte-items l.i c.digit_behind.result c.digit_behind-in-loop-i.result l.invariant
    c.loop-i-test.true (omega (arith, whole, c.min-count.ensures)) c.digit_behind.ensures.0 c.digit_behind-in-loop-i.ensures.0

pub returns : goal.returns
returns c =
    let out = c.args.out.now in
    let n = c.min-count.result in
    let m = c.magnitude-digits in
    let l = c.loop-i in
    let fits : n ≤ length out = omega (arith, c.min-count.ensures) in
    let end : l.i ≡ n = omega (arith, length-take-le n out fits, l.auto.i-end) in
    let front = l.invariant ∙ ap (paste (take n out) 0 (hex_bytes m.result.now)) end in
    let laid = filled_front out (hex_bytes m.result.now) l.byte-items n fits front in
    rw (← m.ensures) (omega (arith, c.min-count.ensures, length-bytes m.result.now, length-take-le n out fits, l.auto.byte-items), laid)
