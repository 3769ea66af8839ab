-- A VarUInt at a place, a byte at a time; and what is known of one that reads.
-- Assumes nothing.
use Prim.Native.Nat.{ℕ, suc, ◌+◌, ◌*◌, ◌%◌, ◌^◌, ◌≤◌, ◌<◌}
use native.Mathlib.Omega.{arith}
use mathlib.Core.Path.{◌≡◌, refl}
use mathlib.Core.Bool.{Bool, true, false, cond}
use mathlib.Core.List.{List, [], ◌∷◌}
use lib.Dec.{ltb}
use lib.ListN.{length, drop, get_or, length-drop, drop_of_length-le}
use borrow.Author.Tests.{lt-ltb, le-ltb, ltb-true}
use Rattle.ion.proofs.Bytes.{drop-next}
use Rattle.reading.specs.declared.Refusal.{Refusal}
use Rattle.reading.specs.declared.Refusal.TheVariants.{NotIon}
use Rattle.reading.specs.declared.Number.{Number}
use Rattle.std.specs.Prelude.{Ok, Err}
use Rattle.reading.specs.Headers.{var_uint_from, var_uint_at}

-- ---- the byte at i, behind groups that make acc

module _ (out : Refusal) (s : List ℕ) (acc i : ℕ) where
  pub var_uint_out : length s ≤ i → var_uint_from out acc i (drop i s) ≡ Err out
  unfolding var_uint_from
  var_uint_out h = rw (drop_of_length-le s h) refl

  module _ (inside : i < length s) where
    pub var_uint_past : 2 ^ 57 ≤ acc → var_uint_from out acc i (drop i s) ≡ Err NotIon
    unfolding var_uint_from
    var_uint_past h = rw (drop-next s i inside, le-ltb (acc * 128 + get_or s i 0 % 128) (2 ^ 64) (omega arith)) refl

    module _ (within : acc < 2 ^ 57) (seven : ℕ) (is : seven ≡ get_or s i 0 % 128) where
      pub var_uint_last : 0x80 ≤ get_or s i 0 → var_uint_from out acc i (drop i s) ≡ Ok (record { value = acc * 128 + seven; next = i + 1 })
      unfolding var_uint_from
      var_uint_last k = rw (drop-next s i inside, lt-ltb (acc * 128 + get_or s i 0 % 128) (2 ^ 64) (omega arith), le-ltb (get_or s i 0) 0x80 k, is) refl

      pub var_uint_more : get_or s i 0 < 0x80 → var_uint_from out acc i (drop i s) ≡ var_uint_from out (acc * 128 + seven) (i + 1) (drop (i + 1) s)
      unfolding var_uint_from
      var_uint_more k = rw (drop-next s i inside, lt-ltb (acc * 128 + get_or s i 0 % 128) (2 ^ 64) (omega arith), lt-ltb (get_or s i 0) 0x80 k, is) refl

-- what a byte makes of the groups so far
pub ruleset a_byte = (var_uint_out, var_uint_past, var_uint_last, var_uint_more)

-- ---- a VarUInt that reads: it takes a byte, lies within the bytes, and has 64 bits at most

abbrev Bounds : ℕ → ℕ → Number → Type 0
Bounds at end n = (at < n.next) × (n.next ≤ end) × (n.value < 2 ^ 64)

var_uint_from_bounds : (out : Refusal) (acc at : ℕ) (n : Number) (l : List ℕ) → var_uint_from out acc at l ≡ Ok n → Bounds at (at + length l) n
unfolding var_uint_from
var_uint_from_bounds out acc at n [] e = cc
var_uint_from_bounds out acc at n (b ∷ bs) e =
    by_tests (ltb (acc * 128 + b % 128) (2 ^ 64)) (ltb b 0x80) refl e (λ q. var_uint_from_bounds out (acc * 128 + b % 128) (at + 1) n bs q)
  where
    by_tests : (x y : Bool) → ltb (acc * 128 + b % 128) (2 ^ 64) ≡ x
        → cond x (cond y (var_uint_from out (acc * 128 + b % 128) (at + 1) bs) (Ok (record { value = acc * 128 + b % 128; next = at + 1 }))) (Err NotIon) ≡ Ok n
        → (var_uint_from out (acc * 128 + b % 128) (at + 1) bs ≡ Ok n → Bounds (at + 1) (at + 1 + length bs) n)
        → Bounds at (at + suc (length bs)) n
    by_tests false y q e k = cc
    by_tests true true q e k = let w = k e in (omega (arith, w.0), omega (arith, w.1), w.2)
    by_tests true false q e k =
        let p : at + 1 ≡ n.next = cc in
        let v : acc * 128 + b % 128 ≡ n.value = cc in
        (omega arith, omega arith, omega (arith, ltb-true (acc * 128 + b % 128) (2 ^ 64) q))

pub var_uint_bounds : (out : Refusal) (s : List ℕ) (at : ℕ) (n : Number) → var_uint_at out s at ≡ Ok n → (at < n.next) × (n.next ≤ length s) × (n.value < 2 ^ 64)
unfolding var_uint_at
var_uint_bounds out s at n e =
    let w = var_uint_from_bounds out 0 at n (drop at s) e in
    (w.0, omega (arith, w.0, w.1, length-drop at s), w.2)
