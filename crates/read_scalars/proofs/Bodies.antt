-- A body's answer is a scalar exactly where the grammar has one.
-- Assumes nothing.
use Prim.Native.Nat.{ℕ, zero, suc, ◌^◌}
use native.Mathlib.Omega.{arith}
use mathlib.Core.Path.{◌≡◌, refl}
use mathlib.Core.Bool.{Bool, true, false, cond, ◌||◌, not}
use mathlib.Core.List.{List, [], ◌∷◌}
use mathlib.Core.Option.{Option, none, some}
use lib.Dec.{ltb, eqb}
use lib.Ieee.{binary32, binary64}
use lib.ListN.{length}
use borrow.Author.Tests.{ne_eqb, le-ltb}
use Rattle.ion.specs.Value as Ion
use Rattle.ion.specs.Value.{Signed, signed, Scalar}
use Rattle.ion.specs.Chain.{◌>>=◌, check}
use Rattle.ion.specs.Fields.{uint, int_field, var_uints, var_int, number}
use Rattle.ion.specs.Scalars.{int_of, float_of, decimal_of, offset_of, are_fields, fraction_of, fraction_at, timestamp_of}
use Rattle.reading.specs.declared.Refusal.TheVariants.{NotIon}
use Rattle.std.specs.Prelude.{Ok, Err, is_ok}
use Rattle.reading.specs.Bodies.{decimal_from, decimal_in, fractioned, exponent_from, fraction_from, fields_from, offset_from, timestamp_in, symbol_in}
use Rattle.reading.specs.Scalars.{bool_of, float_in, is_some}
use Rattle.read_timestamp.proofs.Coefficients.{suc_not_zero}

pub bool_reads : (l : ℕ) → ltb l 2 ≡ is_some (bool_of l)
bool_reads zero = refl
bool_reads (suc zero) = refl
bool_reads (suc (suc n)) =
    rw (le-ltb (suc (suc n)) 2 (omega arith), suc_not_zero (suc n), ne_eqb (suc (suc n)) 1 (λ z. omega arith)) refl

pub negative_reads : (n : ℕ) → not (eqb n 0) ≡ is_some (int_of (signed true n))
negative_reads zero = refl
negative_reads (suc n) = rw (suc_not_zero n) refl

pub float_reads : (b : List ℕ) → (eqb (length b) 0 || (eqb (length b) 4 || eqb (length b) 8)) ≡ is_some (float_in b)
float_reads b =
    go (eqb (length b) 0) (eqb (length b) 4) (eqb (length b) 8)
    (Ion.float (Ion.finite false 0)) (Ion.float (float_of binary32 (uint b))) (Ion.float (float_of binary64 (uint b)))
  where
    go : (p q r : Bool) (x y z : Scalar) → (p || (q || r)) ≡ is_some (cond p (some x) (cond q (some y) (cond r (some z) none)))
    go true q r x y z = refl
    go false true r x y z = refl
    go false false true x y z = refl
    go false false false x y z = refl

pub decimal_is_read : (b : List ℕ) → is_ok (decimal_in b) ≡ is_some (decimal_of b)
unfolding decimal_in decimal_of
decimal_is_read [] = refl
decimal_is_read (x ∷ xs) = go (var_int (x ∷ xs))
  where
    go : (o : Option (Signed × List ℕ)) → is_ok (decimal_from (length (x ∷ xs)) o) ≡ is_some (o >>= λ e. some (Ion.decimal (int_field e.1) (number e.0)))
    go none = refl
    go (some e) = refl

pub symbol_is_read : (b : List ℕ) → is_ok (symbol_in b) ≡ is_some (check (ltb (uint b) (2 ^ 64)) (some (Ion.symbol (uint b))))
unfolding symbol_in
symbol_is_read b = go (ltb (uint b) (2 ^ 64))
  where
    go : (t : Bool) → is_ok (cond t (Ok (uint b)) (Err NotIon)) ≡ is_some (check t (some (Ion.symbol (uint b))))
    go true = refl
    go false = refl

-- ---- timestamps

fraction_reads : (size : ℕ) (o : Signed) (f l : List ℕ) (g : Ion.Fraction → Scalar)
    → is_ok (fraction_from size o f l) ≡ is_some (fraction_at l >>= λ x. some (g x))
unfolding fraction_at
fraction_reads size o f [] g = refl
fraction_reads size o f (b ∷ bs) g = exponent (var_int (b ∷ bs))
  where
    digits : (n : ℕ) (x : Option Ion.Fraction) → is_ok (fractioned size o f n x) ≡ is_some (x >>= λ y. some (g y))
    digits n none = refl
    digits n (some Ion.no_fraction) = refl
    digits n (some (Ion.fraction k c)) = refl

    exponent : (e : Option (Signed × List ℕ))
        → is_ok (exponent_from size o f e) ≡ is_some ((e >>= λ y. fraction_of y.0 (int_field y.1)) >>= λ x. some (g x))
    exponent none = refl
    exponent (some e) = digits (length e.1) (fraction_of e.0 (int_field e.1))

fields_read : (size : ℕ) (o : Signed) (fs : Option (List ℕ × List ℕ)) →
    is_ok (fields_from size o fs) ≡ is_some (fs >>= λ f. check (are_fields f.0) (fraction_at f.1 >>= λ x. some (Ion.timestamp (offset_of o) f.0 x)))
fields_read size o none = refl
fields_read size o (some f) = go (are_fields f.0)
  where
    go : (t : Bool)
        → is_ok (cond t (fraction_from size o f.0 f.1) (Err NotIon))
        ≡ is_some (check t (fraction_at f.1 >>= λ x. some (Ion.timestamp (offset_of o) f.0 x)))
    go true = fraction_reads size o f.0 f.1 (λ x. Ion.timestamp (offset_of o) f.0 x)
    go false = refl

pub timestamp_is_read : (b : List ℕ) → is_ok (timestamp_in b) ≡ is_some (timestamp_of b)
unfolding timestamp_in timestamp_of
timestamp_is_read b = go (var_int b)
  where
    go : (o : Option (Signed × List ℕ)) → is_ok (offset_from (length b) o) ≡ is_some (o >>= λ o. var_uints 6 o.1 >>= λ f.
        check (are_fields f.0) (fraction_at f.1 >>= λ x. some (Ion.timestamp (offset_of o.0) f.0 x)))
    go none = refl
    go (some o) = fields_read (length b) o.0 (var_uints 6 o.1)
