-- `var_int::write` meets its contract: one byte with its sign and flag, or the digits,
-- of which the last is put again with its flag and the first with its sign.
-- The size is one more than the digits of `magnitude / 64`, so that six bits are left for the first byte. Assumes nothing.
use mathlib.Core.Path.{◌≡◌, refl, sym, ◌∙◌, ap}
use mathlib.Core.List.{List, [], ◌∷◌, ◌++◌}
use mathlib.Core.Bool.{Bool, false}
use Prim.Native.Nat.{ℕ, suc, ◌+◌, ◌-◌, ◌*◌, ◌/◌, ◌%◌, ◌^◌, ◌≤◌, ◌<◌}
use native.Mathlib.Omega.{arith}
use mir.Val.{bool_byte}
use lib.ListN.{length, set, length-set}
use Rattle.ion.specs.Value.{signed}
use Rattle.std.specs.Prelude.{Option, Some}
use Rattle.encoding.specs.Digits.{low_digits, digit_count}
use Rattle.encoding.specs.Fields.{sign_bit, var_int_groups, var_int_bytes}
use Rattle.encoding.proofs.Digits.{low_digits-first, digit_count-zero}
use Rattle.encoding.proofs.Bits.{power_power}
use Rattle.encoding.proofs.Sizes.{length-var_int, length-var_int_sign, var_int_least_two, var_int-most, var_int-first}
use Rattle.encoding.proofs.Signs.{bool_byte-most, sign_bit_is}
use Rattle.buffer.specs.Laid.{laid, placed}
use Rattle.buffer.proofs.Laid.{laid_set, placed_by}
use Rattle.digits.proofs.Digits.{AllPut, none_put, all_put, laid_last}
use Rattle.var_int.proofs.write.Goals as goal

one : (s : Bool) (n : ℕ) → n < 64 → (0x80 + 0x40 * bool_byte s + n) ∷ [] ≡ var_int_bytes (signed s n)
unfolding var_int_bytes var_int_groups
one s n h = rw (digit_count-zero 128 (n / 64) (omega arith), sign_bit_is s)

-- the last of the digits with its flag, the first with its sign
more : (b l : List ℕ) (at : ℕ) (s : Bool) (n size put : ℕ) → 2 ≤ put → size ≡ suc (digit_count 128 (n / 64)) → AllPut b at 128 size n put l →
    set (set l (at + (put - 1)) (0x80 + n % 128)) at (0x40 * bool_byte s + n / 2 ^ (7 * (put - 1))) ≡ laid b at (var_int_bytes (signed s n))
unfolding var_int_bytes var_int_groups
more b l at s n size put h g a =
    let k = put - 1 - 1 in
    let v = 0x80 + n % 128 in
    let ds = low_digits 128 k (n / 128) ++ (v ∷ []) in
    let e : put - 1 ≡ suc k = omega arith in
    let d : digit_count 128 (n / 64) ≡ suc k = omega arith in
    let i : size ≡ suc (suc k) = omega arith in
    rw (
      e,
      laid_last b l at 128 (suc k) n (at + suc k) v refl (omega arith) (a.digits ∙ ap (λ (i : ℕ). laid b at (low_digits 128 i n)) i),
      low_digits-first 128 k (n / 128),
      ← (power_power 7 (suc k)),
      sign_bit_is s,
      d,
    ) (laid_set b at [] (omega arith) (n / 128 / 128 ^ k % 128) ds at (sign_bit s + n / 128 ^ suc k) (omega arith))

-- what was put, and what the sign and the first byte can be
record Known (b l : List ℕ) (at : ℕ) (s : Bool) (n size put : ℕ) : Type 0 where
  size_is : size ≡ suc (digit_count 128 (n / 64))
  least : 2 ≤ size
  most : size ≤ 10
  first : n / 2 ^ (7 * (put - 1)) < 64
  sign : bool_byte s ≤ 1
  all : AllPut b at 128 size n put l

known : (b l : List ℕ) (at : ℕ) (s : Bool) (n size put : ℕ) → 64 ≤ n → n < 2 ^ 64 → size ≡ length (var_int_bytes (signed false n))
    → ◌≡◌ {A = Option ℕ × List ℕ} (Some put, l) (placed b at (low_digits 128 size n)) → Known b l at s n size put
known b l at s n size put h w e p =
    let g : size ≡ suc (digit_count 128 (n / 64)) = e ∙ length-var_int false n in
    let k = all_put b at 128 size n put l p in
    let f : n / 128 ^ (put - 1) < 64 = var_int-first (put - 1) n (omega (arith, k.count, g)) in
    record {
      size_is = g;
      least = omega (arith, var_int_least_two false n (omega arith));
      most = omega (arith, var_int-most false n (omega arith));
      first = rw (← (power_power 7 (put - 1))) f;
      sign = bool_byte-most s;
      all = k;
    }

pub returns-then-magnitude-lt-TWO_BYTES : goal.returns-then-magnitude-lt-TWO_BYTES
returns-then-magnitude-lt-TWO_BYTES c = let a = c.args in
    rw c.from-sign.ensures at c.put.ensures ∙ ap (placed a.buf.now a.at) (one a.negative a.magnitude (omega arith))

pub returns-in_err-put : goal.returns-in_err-put
returns-in_err-put c = let a = c.args in
    ap (λ (r : Option ℕ). (r, c.put_digits.new.buf)) c.from_residual.ensures
    ∙ none_put a.buf.now a.at 128 _ a.magnitude _ c.in_err-put.ensures (var_int_bytes (signed a.negative a.magnitude))
    (c.encoded_size_of.ensures ∙ sym (length-var_int_sign a.negative a.magnitude))

pub overflow_sub-last : goal.overflow_sub-last
overflow_sub-last c =
    let a = c.args in
    let k = known _ _ a.at a.negative a.magnitude _ _ (omega arith) (omega arith) c.encoded_size_of.ensures c.in_ok-put.ensures in omega (arith, k.all.count)

pub overflow_add-buf-2 : goal.overflow_add-buf-2
overflow_add-buf-2 c =
    let a = c.args in
    let k = known _ _ a.at a.negative a.magnitude _ _ (omega arith) (omega arith) c.encoded_size_of.ensures c.in_ok-put.ensures in omega arith

pub bounds-buf-at : goal.bounds-buf-at
bounds-buf-at c =
    let a = c.args in
    let k = known _ _ a.at a.negative a.magnitude _ _ (omega arith) (omega arith) c.encoded_size_of.ensures c.in_ok-put.ensures in omega arith

pub overflow_mul-buf : goal.overflow_mul-buf
overflow_mul-buf c =
    let a = c.args in
    let k = known _ _ a.at a.negative a.magnitude _ _ (omega arith) (omega arith) c.encoded_size_of.ensures c.in_ok-put.ensures in omega arith

pub overflow_shr-buf : goal.overflow_shr-buf
overflow_shr-buf c =
    let a = c.args in
    let k = known _ _ a.at a.negative a.magnitude _ _ (omega arith) (omega arith) c.encoded_size_of.ensures c.in_ok-put.ensures in omega arith

pub overflow_cast-buf-2 : goal.overflow_cast-buf-2
overflow_cast-buf-2 c =
    let a = c.args in
    let k = known _ _ a.at a.negative a.magnitude _ _ (omega arith) (omega arith) c.encoded_size_of.ensures c.in_ok-put.ensures in omega arith

pub overflow_add-buf-3 : goal.overflow_add-buf-3
overflow_add-buf-3 c =
    let a = c.args in
    let k = known _ _ a.at a.negative a.magnitude _ _ (omega arith) (omega arith) c.encoded_size_of.ensures c.in_ok-put.ensures in omega arith

pub bounds-buf-at-2 : goal.bounds-buf-at-2
bounds-buf-at-2 c =
    let a = c.args in
    let k = known _ _ a.at a.negative a.magnitude _ _ (omega arith) (omega arith) c.encoded_size_of.ensures c.in_ok-put.ensures in simp length-set (omega arith)

pub returns : goal.returns
returns c =
    let a = c.args in
    let n = c.in_ok-put.put in
    let s = c.encoded_size_of.ensures in
    let a = c.args in
    let k = known _ _ a.at a.negative a.magnitude _ _ (omega arith) (omega arith) c.encoded_size_of.ensures c.in_ok-put.ensures in
    rw c.from-sign.ensures
    (placed_by a.buf.now a.at (var_int_bytes (signed a.negative a.magnitude)) n _ (omega (arith, length-var_int_sign a.negative a.magnitude))
    (k.all.count ∙ (s ∙ sym (length-var_int_sign a.negative a.magnitude)))
    (more a.buf.now _ a.at a.negative a.magnitude _ n (omega arith) k.size_is k.all))
