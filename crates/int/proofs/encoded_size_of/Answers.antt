-- `int::encoded_size_of` meets its contract: the bytes behind the leading zeros, and one more where the first of them has its top bit set.
-- By the first byte of the trimmed magnitude. Assumes nothing.
use mathlib.Core.Path.{sym, ◌∙◌, ap}
use Prim.Native.Nat.{suc}
use native.Mathlib.Omega.{arith}
use lib.ListN.{length, drop, get_or}
use Rattle.encoding.specs.Fields.{trimmed}
use Rattle.encoding.proofs.Trimmed.{trimmed_cons}
use Rattle.encoding.proofs.Signs.{int_size-none, int_clear, int_taken}
use Rattle.int.proofs.encoded_size_of.Goals as goal

pub returns-then-zeros-int : goal.returns-then-zeros-int
returns-then-zeros-int c = let a = c.args.int in
    c.from.ensures ∙ sym (int_size-none a.negative (trimmed a.magnitude.now) (omega arith))

pub returns-then-int-zeros-lt-SIGN : goal.returns-then-int-zeros-lt-SIGN
returns-then-int-zeros-lt-SIGN c =
    let a = c.args.int in
    let m = a.magnitude.now in
    let z = c.leading_zero_bytes-zeros in
    let t = trimmed_cons m z.result (omega arith) z.ensures in
    rw t (omega (arith, ap length t, ap length (int_clear (get_or m z.result 0) (drop (suc z.result) m) a.negative (omega arith))))

pub returns : goal.returns
returns c =
    let a = c.args.int in
    let m = a.magnitude.now in
    let z = c.leading_zero_bytes-zeros in
    let t = trimmed_cons m z.result (omega arith) z.ensures in
    rw t (omega (arith, ap length t, ap length (int_taken (get_or m z.result 0) (drop (suc z.result) m) a.negative (omega arith))))
