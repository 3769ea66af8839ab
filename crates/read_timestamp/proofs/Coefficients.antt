-- The coefficient of a seconds fraction, and the fraction that it makes.
-- Assumes nothing.
use Prim.Native.Nat.{ℕ, zero, suc, ◌+◌, ◌-◌, ◌*◌, ◌%◌, ◌^◌, ◌≤◌, ◌<◌}
use native.Mathlib.Omega.{arith}
use mathlib.Core.Path.{◌≡◌, refl, sym, ◌∙◌, ap}
use mathlib.Core.Bool.{Bool, true, false, cond, ◌&&◌, not, false≢true}
use mathlib.Core.List.{List, [], ◌∷◌}
use mathlib.Core.Option.{Option, none, some, some-injective}
use lib.Dec.{ltb, leb, eqb}
use lib.ListN.{length, get_or, take, drop, length-drop, drop_of_length-le}
use lib.Seq.{take_all}
use borrow.Author.Tests.{leb-false, ne_eqb, not-true}
use Rattle.ion.specs.Value as Ion
use Rattle.ion.specs.Value.{Signed, signed}
use Rattle.ion.specs.Chain.{check}
use Rattle.ion.specs.Fields.{big_endian, uint, int_field, var_int}
use Rattle.ion.specs.Scalars.{is_coefficient, fraction_of}
use Rattle.ion.proofs.Tests.{both}
use Rattle.reading.specs.Scalars.{is_some}
use Rattle.reading.specs.Bodies.{is_negative, magnitude}
use Rattle.std.specs.Prelude as Std
use Rattle.std.specs.Prelude.{Result, Ok, Err, Some, None}
use Rattle.reading.specs.declared.Refusal.{Refusal}
use Rattle.reading.specs.declared.Refusal.TheVariants.{NotIon}
use Rattle.reading.specs.declared.Fraction.{Fraction}
use Rattle.read_bodies.specs.declared.VarInt.{VarInt}
use Rattle.read_bodies.specs.Places.{signed_in, var_int_at}
use Rattle.read_bodies.proofs.VarFields.{var_int_is}
use Rattle.read_bodies.proofs.Digits.{digits_least}
use Rattle.read_timestamp.specs.Parts.{digits_in, exponent_in, fraction_in, fraction_at}

-- ---- an Int by its first byte

pub negative_none : (c : List ℕ) → length c ≡ 0 → false ≡ is_negative (int_field c)
unfolding int_field
negative_none [] h = refl
negative_none (b ∷ bs) h = absurd (omega arith)

pub negative_first : (c : List ℕ) → 0 < length c → leb 0x80 (get_or c 0 0) ≡ is_negative (int_field c)
unfolding int_field
negative_first [] h = absurd (omega arith)
negative_first (b ∷ bs) h = refl

pub zero-none : (c : List ℕ) → length c ≡ 0 → true ≡ eqb (magnitude (int_field c)) 0
unfolding int_field
zero-none [] h = refl
zero-none (b ∷ bs) h = absurd (omega arith)

pub zero_not : (c : List ℕ) → 0 < length c → 0 < get_or c 0 0 % 128 → false ≡ eqb (magnitude (int_field c)) 0
unfolding int_field
zero_not [] h k = absurd (omega arith)
zero_not (b ∷ bs) h k = sym (ne_eqb (big_endian (b % 128) bs) 0 (λ e. omega (arith, digits_least (b % 128) bs)))

pub zero_rest : (c : List ℕ) → 0 < length c → get_or c 0 0 % 128 ≡ 0 → eqb (uint (take (length c - 1) (drop 1 c))) 0 ≡ eqb (magnitude (int_field c)) 0
unfolding int_field
zero_rest [] h k = absurd (omega arith)
zero_rest (b ∷ bs) h k = rw (k, take_all (length (b ∷ bs) - 1) bs (omega arith)) refl

pub ruleset sign_of_int = (negative_none, negative_first)

pub ruleset zero_of_int = (zero-none, zero_not, zero_rest)

int_positive : (c : List ℕ) → is_negative (int_field c) ≡ false → int_field c ≡ signed false (uint c)
unfolding int_field big_endian
int_positive [] e = refl
int_positive (b ∷ bs) e =
    let h : b < 0x80 = leb-false 0x80 b e in
    let m : b % 128 ≡ 0 * 256 + b = omega arith in
    rw (e, m) refl

-- ---- below one, and not below zero

pub checked : {A : Type 0} (t : Bool) (x : A) → t ≡ is_some (check t (some x))
checked true x = refl
checked false x = refl

pub suc_not_zero : (e : ℕ) → eqb (suc e) 0 ≡ false
suc_not_zero e = ne_eqb (suc e) 0 (λ z. omega arith)

pub fits_below : (s : Bool) (e : ℕ) (c : List ℕ) → (s && (not (eqb e 0) && not (is_negative (int_field c)))) ≡ true →
    (is_coefficient (uint c) && ltb (uint c) (10 ^ e)) ≡ is_some (fraction_of (signed s e) (int_field c))
unfolding fraction_of
fits_below false e c h = absurd (false≢true h)
fits_below true zero c h = absurd (false≢true h)
fits_below true (suc e) c h =
    let p : is_negative (int_field c) ≡ false = not-true (is_negative (int_field c)) (both {a = not (eqb (suc e) 0)} h).1 in
    rw (int_positive c p) (checked (is_coefficient (uint c) && ltb (uint c) (10 ^ suc e)) (Ion.fraction (suc e) (uint c)))

pub fits-zero : (s : Bool) (e : ℕ) (z : Signed) → (s && (not (eqb e 0) && not (is_negative z))) ≡ false
    → eqb (magnitude z) 0 ≡ is_some (fraction_of (signed s e) z)
unfolding fraction_of
fits-zero false e (signed t n) h = checked (eqb n 0) Ion.no_fraction
fits-zero true zero (signed t n) h = checked (eqb n 0) Ion.no_fraction
fits-zero true (suc e) (signed true n) h = checked (eqb n 0) (Ion.fraction (suc e) 0)
fits-zero true (suc e) (signed false n) h = absurd (false≢true (sym (rw (suc_not_zero e) at h)))

-- ---- the fraction that they make

-- the coefficient stands behind the exponent
abbrev pub behind_exponent : List ℕ → Result VarInt Refusal → Result (Std.Option Fraction) Refusal
behind_exponent s (Ok e) =
    cond (is_some (fraction_of (signed e.negative e.magnitude) (int_field (drop e.next s))))
    (Ok (cond (e.negative && not (eqb e.magnitude 0)) (Some (record { digits = e.magnitude; coefficient = e.next })) None)) (Err NotIon)
behind_exponent s (Err r) = Err r

digits_checked : (size n : ℕ) (t : Bool) (x : Ion.Fraction) →
    digits_in size n (check t (some x)) ≡ cond (is_some (check t (some x))) (digits_in size n (some x)) (Err NotIon)
digits_checked size n true x = refl
digits_checked size n false x = refl

digits_by_exponent : (size n : ℕ) (t : Bool) (m : ℕ) (z : Signed) →
    digits_in size n (fraction_of (signed t m) z)
    ≡ cond (is_some (fraction_of (signed t m) z)) (Ok (cond (t && not (eqb m 0)) (Some (record { digits = m; coefficient = size - n })) None)) (Err NotIon)
unfolding fraction_of
digits_by_exponent size n false m (signed s c) = digits_checked size n (eqb c 0) Ion.no_fraction
digits_by_exponent size n true zero (signed s c) = digits_checked size n (eqb c 0) Ion.no_fraction
digits_by_exponent size n true (suc m) (signed false c) =
    rw (suc_not_zero m) (digits_checked size n (is_coefficient c && ltb c (10 ^ suc m)) (Ion.fraction (suc m) c))
digits_by_exponent size n true (suc m) (signed true c) = rw (suc_not_zero m) (digits_checked size n (eqb c 0) (Ion.fraction (suc m) 0))

front : (size : ℕ) (l : List ℕ) → 0 < length l → fraction_in size l ≡ exponent_in size (var_int l)
front size [] h = absurd (omega arith)
front size (b ∷ bs) h = refl

pub fraction_none : (s : List ℕ) (at : ℕ) → length s ≤ at → fraction_at s at ≡ Ok None
unfolding fraction_at
fraction_none s at h = rw (drop_of_length-le s {i = at} h) refl

pub fraction_some : (s : List ℕ) (at : ℕ) → at < length s → fraction_at s at ≡ behind_exponent s (var_int_at s at)
unfolding fraction_at var_int_at
fraction_some s at inside = front (length s) (drop at s) (rw (length-drop at s) (omega arith)) ∙ go (var_int (drop at s)) refl
  where
    go : (x : Option (Signed × List ℕ)) → var_int (drop at s) ≡ x → exponent_in (length s) x ≡ behind_exponent s (signed_in (length s) x)
    go none q = refl
    go (some (signed t m, rest)) q =
        let e : VarInt = record { negative = t; magnitude = m; next = length s - length rest } in
        let w = var_int_is s at e (ap (signed_in (length s)) q) in
        let p : (signed t m, rest) ≡ (signed t m, drop e.next s) = some-injective (signed t m, rest) (signed t m, drop e.next s) (sym q ∙ w.is) in
        digits_by_exponent (length s) (length rest) t m (int_field rest)
        ∙ ap (λ (y : Signed × List ℕ). cond (is_some (fraction_of (signed t m) (int_field y.1)))
        (Ok (cond (t && not (eqb m 0)) (Some (record { digits = m; coefficient = e.next })) None)) (Err NotIon)) p

pub ruleset fraction_parts = (fraction_none, fraction_some)

pub ruleset a_coefficient = (fits_below, fits-zero)
