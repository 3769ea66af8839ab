-- Type bytes: what the tests on them say, by the range that a byte lies in.
-- Assumes nothing.
use Prim.Native.Nat.{ℕ, ◌≤◌, ◌<◌}
use native.Mathlib.Omega.{arith}
use mathlib.Core.Path.{◌≡◌, refl}
use mathlib.Core.Logic.{◌≢◌}
use mathlib.Core.Bool.{true, false}
use mathlib.Core.Option.{some}
use borrow.Author.Tests.{lt-ltb, le-ltb, le-leb, lt-leb, ne_eqb}
use Rattle.ion.specs.Value.{TypeCode, null_code, bool_code, positive_code, negative_code, float_code, decimal_code, timestamp_code, symbol_code, string_code}
use Rattle.ion.specs.Value.{clob_code, blob_code, list_code, sexp_code, struct_code, annotation_code, high_bits}
use Rattle.reading.specs.Scalars.{code_from, code_of}
use Rattle.reading.specs.Items.{is_pad, is_marker, is_wrapper, opens}

pub record IsPadding (b : ℕ) : Type 0 where
  pub pad : is_pad b ≡ true
  pub marker : is_marker b ≡ false
  pub wrapper : is_wrapper b ≡ false
  pub shut : opens b ≡ false

pub record IsLeaf (b : ℕ) : Type 0 where
  pub pad : is_pad b ≡ false
  pub marker : is_marker b ≡ false
  pub wrapper : is_wrapper b ≡ false
  pub shut : opens b ≡ false

pub record IsContainer (b : ℕ) : Type 0 where
  pub pad : is_pad b ≡ false
  pub marker : is_marker b ≡ false
  pub wrapper : is_wrapper b ≡ false
  pub begun : opens b ≡ true

pub padding : (b : ℕ) → b < 0x0F → IsPadding b
padding b h = record {
  pad = lt-ltb b 0x0F h;
  marker = ne_eqb b 0xE0 (λ e. omega arith);
  wrapper = rw (lt-leb 0xE1 b (omega arith));
  shut = rw (lt-leb 0xB0 b (omega arith));
}

pub leaf : (b : ℕ) → 0x0F ≤ b → b < 0xB0 → IsLeaf b
leaf b l h = record {
  pad = le-ltb b 0x0F l;
  marker = ne_eqb b 0xE0 (λ e. omega arith);
  wrapper = rw (lt-leb 0xE1 b (omega arith));
  shut = rw (lt-leb 0xB0 b (omega arith));
}

pub container : (b : ℕ) → 0xB0 ≤ b → b < 0xDF → b ≢ 0xBF → b ≢ 0xCF → IsContainer b
container b l h m n = record {
  pad = le-ltb b 0x0F (omega arith);
  marker = ne_eqb b 0xE0 (λ e. omega arith);
  wrapper = rw (lt-leb 0xE1 b (omega arith));
  begun = rw (le-leb 0xB0 b l, lt-ltb b 0xDF h, ne_eqb b 0xBF m, ne_eqb b 0xCF n);
}

pub wrapper : (b : ℕ) → 0xE1 ≤ b → b < 0xEF → is_wrapper b ≡ true
wrapper b l h = rw (le-leb 0xE1 b l, lt-ltb b 0xEF h)

-- ---- the two halves of a type byte

pub code_of-high_bits : (c : TypeCode) → code_of (high_bits c) ≡ some c
unfolding code_from
code_of-high_bits null_code = refl
code_of-high_bits bool_code = refl
code_of-high_bits positive_code = refl
code_of-high_bits negative_code = refl
code_of-high_bits float_code = refl
code_of-high_bits decimal_code = refl
code_of-high_bits timestamp_code = refl
code_of-high_bits symbol_code = refl
code_of-high_bits string_code = refl
code_of-high_bits clob_code = refl
code_of-high_bits blob_code = refl
code_of-high_bits list_code = refl
code_of-high_bits sexp_code = refl
code_of-high_bits struct_code = refl
code_of-high_bits annotation_code = refl
