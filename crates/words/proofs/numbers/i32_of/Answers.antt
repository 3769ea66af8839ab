-- `numbers::i32_of` narrows the number of 64 bits, which 32 bits hold by its limit.
-- Assumes nothing.
use Rattle.std.proofs.Common.{arith, ◌∙◌, sym}
use mir.Syntax.{w32, w64}
use mir.ValLaws.{to_z-of_z}
use Rattle.words.proofs.Digits.{signed_fits}
use Rattle.words.proofs.numbers.i32_of.Goals as goal

pub overflow_cast-result : goal.overflow_cast-result
overflow_cast-result c =
    let z = c.in_ok-signed.field-0 in
    let n = sym c.signed.ensures ∙ c.in_ok-signed.was in
    rw (to_z-of_z w64 z (signed_fits 2147483647 c.args.word.now w64 (omega arith) z n)) (signed_fits 2147483647 c.args.word.now w32 (omega arith) z n)

pub returns : goal.returns
returns c =
    let z = c.in_ok-signed.field-0 in
    let n = sym c.signed.ensures ∙ c.in_ok-signed.was in
    rw (to_z-of_z w64 z (signed_fits 2147483647 c.args.word.now w64 (omega arith) z n), to_z-of_z w32 z (signed_fits 2147483647 c.args.word.now w32 (omega arith) z n)) (sym n)
