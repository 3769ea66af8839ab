-- `var_uint::write` meets its contract: one byte with its flag, or a fill whose limit no field passes.
-- Assumes nothing.
use Prim.Native.Nat.{ℕ, ◌+◌, ◌/◌, ◌%◌, ◌<◌}
use native.Mathlib.Omega.{arith}
use mathlib.Core.Path.{◌≡◌, ◌∙◌, ap}
use mathlib.Core.List.{[], ◌∷◌}
use Rattle.encoding.specs.Digits.{low_digits, digits}
use Rattle.encoding.specs.Fields.{var_uint_bytes}
use Rattle.buffer.specs.Laid.{placed}
use Rattle.encoding.proofs.Digits.{digit_count-zero}
use Rattle.encoding.proofs.Sizes.{var_uint-most}
use Rattle.var_uint.proofs.Filled.{filled-whole}
use borrow.Author.Rules.{rules}
use Rattle.var_uint.proofs.write.Goals as goal

short : (n : ℕ) → n < 128 → (0x80 + n) ∷ [] ≡ var_uint_bytes n
unfolding var_uint_bytes digits low_digits
short n h =
    let z : n / 128 ≡ 0 = omega arith in
    let m : n % 128 ≡ n = omega arith in
    rw (digit_count-zero 128 (n / 128) z, m)

pub returns-then-value-lt-TWO_BYTES : goal.returns-then-value-lt-TWO_BYTES
returns-then-value-lt-TWO_BYTES c = let a = c.args in
    c.put.ensures ∙ ap (placed a.buf.now a.at) (short a.value (omega arith))

pub returns : goal.returns
returns c = let a = c.args in
    let most = var_uint-most a.value (search rules) in
    c.fill.ensures ∙ filled-whole a.buf.now a.at (var_uint_bytes a.value) _ (omega (arith, most))
