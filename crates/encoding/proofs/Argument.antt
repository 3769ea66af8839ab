-- The bytes of a scalar call stand for the value that its arguments name.
-- Assumes nothing.
use Prim.Native.Nat.{ℕ, zero, suc, ◌^◌, ◌<◌}
use native.Mathlib.Omega.{arith}
use mathlib.Core.Path.{◌≡◌, refl, ◌∙◌, subst}
use mathlib.Core.Bool.{true, false, true≢false}
use mathlib.Core.List.{List, [], ◌∷◌}
use mathlib.Core.Option.{some}
use lib.Dec.{eqb}
use lib.ListN.{length}
use lib.IntN.{pos, negsuc, neg_ℤ}
use lib.Ieee.{binary32, binary64, of_bits, to_bits}
use borrow.Author.Tests.{ltb-false, eqb-true, not-false, lt-ltb}
use Rattle.ion.specs.Value.{IonType, ion_null, ion_bool, ion_int, ion_float, ion_decimal, ion_timestamp, ion_symbol, ion_string, ion_clob, ion_blob, ion_list}
use Rattle.ion.specs.Value.{ion_sexp, ion_struct, positive_code, negative_code, decimal_code, timestamp_code, symbol_code, string_code, clob_code, blob_code}
use Rattle.ion.specs.Value.{null_type, FloatValue, finite, signed, int, float, decimal, timestamp, symbol, string, clob, blob, scalar}
use Rattle.ion.specs.Fields.{uint}
use Rattle.ion.specs.Text.{utf8}
use Rattle.ion.specs.Scalars.{int_of, float_of, scalar_of}
use Rattle.ion.specs.Grammar.{bare, ◌⟶◌, is-null, is_false, is_true, is_zero, is_float32, is_float64}
use Rattle.ion.proofs.Tests.{by_cases}
use Rattle.encoding.specs.Fields.{uint_bytes, fixed_bytes, trimmed, or_zero}
use Rattle.encoding.specs.Decimal.{decimal_body}
use Rattle.encoding.specs.Timestamp.{utc, is_timestamp, timestamp_body}
use Rattle.encoding.specs.Argument.{Argument, write_null, write_bool, write_i64, write_int, write_f32, write_f64, write_decimal, write_timestamp}
use Rattle.encoding.specs.Argument.{write_symbol, write_string, write_clob, write_blob, code_of_null, float32_bytes, narrows, float64_bytes}
use Rattle.encoding.specs.Argument.{argument_bytes, meaning, argument_checks, Typed}
use Rattle.encoding.proofs.Writable.{NoneHolds}
use Rattle.encoding.proofs.Digits.{big_endian_fixed}
use Rattle.encoding.proofs.Fields.{uint_bytes-reads, trimmed-same, or_zero-same}
use Rattle.encoding.proofs.Trimmed.{trimmed_shorter}
use Rattle.encoding.proofs.Sizes.{uint-most, length_fixed}
use Rattle.encoding.proofs.Headers.{scalar_reads}
use Rattle.encoding.proofs.Narrowing.{narrowed_exact}
use Rattle.encoding.proofs.Decimal.{decimal_body-reads}
use Rattle.encoding.proofs.Timestamp.{timestamp_body-reads}
use Rattle.encoding.proofs.TimestampLength.{timestamp_body-below_19}

-- ---- nulls

null-type : (t : IonType) → null_type (code_of_null t) ≡ some t
null-type ion_null = refl
null-type ion_bool = refl
null-type ion_int = refl
null-type ion_float = refl
null-type ion_decimal = refl
null-type ion_timestamp = refl
null-type ion_symbol = refl
null-type ion_string = refl
null-type ion_clob = refl
null-type ion_blob = refl
null-type ion_list = refl
null-type ion_sexp = refl
null-type ion_struct = refl

-- ---- ints

magnitude-same : (m : List ℕ) → uint (or_zero (trimmed m)) ≡ uint m
magnitude-same m = or_zero-same (trimmed m) ∙ trimmed-same m

magnitude_short : (m : List ℕ) → length m < 2 ^ 64 → length (or_zero (trimmed m)) < 2 ^ 64
magnitude_short m h = of_trimmed (trimmed m) (omega (arith, trimmed_shorter m))
  where
    of_trimmed : (l : List ℕ) → length l < 2 ^ 64 → length (or_zero l) < 2 ^ 64
    of_trimmed [] k = omega arith
    of_trimmed (b ∷ bs) k = k

negative_int : (n : ℕ) → eqb n 0 ≡ false → int_of (signed true n) ≡ some (int (neg_ℤ (pos n)))
negative_int zero e = absurd (true≢false e)
negative_int (suc n) e = refl

-- ---- floats

fixed_reads : (k n : ℕ) → n < 256 ^ k → uint (fixed_bytes k n) ≡ n
unfolding fixed_bytes
fixed_reads k n h = big_endian_fixed k n h

float_zero : float_of binary32 0 ≡ finite false 0
unfolding float_of of_bits
float_zero = refl

float32_reads : (an : List ℕ) (b : ℕ) → b < 2 ^ 32 → float32_bytes b ⟶ bare an (scalar an (float (float_of binary32 b)))
unfolding float32_bytes
float32_reads an b h =
    by_cases (eqb b 0)
    (λ p. rw (p, float32_bytes, eqb-true b 0 p, float_zero) is_zero)
    (λ p. rw (p, float32_bytes) (subst (λ (n : ℕ). (0x44 ∷ fixed_bytes 4 b) ⟶ bare an (scalar an (float (float_of binary32 n))))
    (fixed_reads 4 b h) (is_float32 (fixed_bytes 4 b) (length_fixed 4 b))))

float64_reads : (an : List ℕ) (b : ℕ) → b < 2 ^ 64 → float64_bytes b ⟶ bare an (scalar an (float (float_of binary64 b)))
unfolding float64_bytes
float64_reads an b h =
    by_cases (narrows b)
    (λ p.
    let n = narrowed_exact b p in
    rw (p, float64_bytes) (subst (λ (x : FloatValue). float32_bytes (to_bits binary32 (of_bits binary64 b)) ⟶ bare an (scalar an (float x)))
    n.1 (float32_reads an (to_bits binary32 (of_bits binary64 b)) n.0)))
    (λ p. rw (p, float64_bytes) (subst (λ (n : ℕ). (0x48 ∷ fixed_bytes 8 b) ⟶ bare an (scalar an (float (float_of binary64 n))))
    (fixed_reads 8 b h) (is_float64 (fixed_bytes 8 b) (length_fixed 8 b))))

-- ---- all scalars

pub argument_bytes-reads : (an : List ℕ) (a : Argument) → Typed a → NoneHolds (argument_checks a) → argument_bytes a ⟶ bare an (scalar an (meaning a))
unfolding argument_bytes meaning scalar_of
argument_bytes-reads an (write_null t) h z = is-null (code_of_null t) (null-type t)
argument_bytes-reads an (write_bool false) h z = is_false
argument_bytes-reads an (write_bool true) h z = is_true
argument_bytes-reads an (write_i64 (pos n)) h z =
    scalar_reads an positive_code (uint_bytes n) (int (pos n)) (omega (arith, uint-most n (omega arith))) (rw (uint_bytes-reads n))
argument_bytes-reads an (write_i64 (negsuc n)) h z =
    scalar_reads an negative_code (uint_bytes (suc n)) (int (negsuc n)) (omega (arith, uint-most (suc n) (omega arith)))
    (rw (uint_bytes-reads (suc n)))
argument_bytes-reads an (write_int false m) h z =
    scalar_reads an positive_code (or_zero (trimmed m)) (int (pos (uint m))) (magnitude_short m h) (rw (magnitude-same m))
argument_bytes-reads an (write_int true m) h z =
    scalar_reads an negative_code (or_zero (trimmed m)) (int (neg_ℤ (pos (uint m)))) (magnitude_short m h)
    (rw (magnitude-same m) (negative_int (uint m) z.0))
argument_bytes-reads an (write_f32 b) h z = float32_reads an b h
argument_bytes-reads an (write_f64 b) h z = float64_reads an b h
argument_bytes-reads an (write_decimal s m e) h z =
    let b = decimal_body s m e in
    scalar_reads an decimal_code b (decimal (signed s (uint m)) e) (omega (arith, ltb-false 32 (length b) z.0)) (decimal_body-reads s m e h)
argument_bytes-reads an (write_timestamp o fs x) h z =
    let e = not-false (is_timestamp o fs x) z.0 in
    scalar_reads an timestamp_code (timestamp_body o fs x) (timestamp o (utc o fs) x) (omega (arith, timestamp_body-below_19 o fs x e))
    (timestamp_body-reads o fs x e)
argument_bytes-reads an (write_symbol n) h z =
    scalar_reads an symbol_code (uint_bytes n) (symbol n) (omega (arith, uint-most n h)) (rw (uint_bytes-reads n, lt-ltb n (2 ^ 64) h))
argument_bytes-reads an (write_string b) h z = scalar_reads an string_code b (string b) h (rw (not-false (utf8 b) z.0))
argument_bytes-reads an (write_clob b) h z = scalar_reads an clob_code b (clob b) h refl
argument_bytes-reads an (write_blob b) h z = scalar_reads an blob_code b (blob b) h refl
