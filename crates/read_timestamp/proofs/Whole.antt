-- A timestamp's body from its parts.
-- Assumes nothing.
use Prim.Native.Nat.{ℕ, ◌-◌, ◌≤◌}
use mathlib.Core.Path.{◌≡◌, refl, sym, ◌∙◌, ap}
use mathlib.Core.Bool.{cond}
use mathlib.Core.List.{List, [], ◌∷◌}
use mathlib.Core.Option.{Option, none, some, some-injective}
use lib.ListN.{length, drop}
use Rattle.std.specs.Prelude as Std
use Rattle.std.specs.Prelude.{Result, Ok, Err}
use Rattle.ion.specs.Value as Ion
use Rattle.ion.specs.Value.{Signed, signed}
use Rattle.ion.specs.Fields.{int_field, var_uints, var_int}
use Rattle.ion.specs.Scalars.{are_fields, fraction_of}
use Rattle.reading.specs.declared.Refusal.{Refusal}
use Rattle.reading.specs.declared.Refusal.TheVariants.{NotIon}
use Rattle.reading.specs.declared.Fields.{Fields}
use Rattle.reading.specs.declared.Fraction.{Fraction}
use Rattle.reading.specs.declared.Timestamp.{Timestamp}
use Rattle.reading.specs.Bodies.{known_offset, six_fields, fractioned, exponent_from, fraction_from, fields_from, offset_from, timestamp_in}
use Rattle.reading.specs.Told.{fields_told}
use Rattle.read_bodies.specs.declared.VarInt.{VarInt}
use Rattle.read_bodies.specs.Places.{signed_in, var_int_at}
use Rattle.read_bodies.proofs.VarFields.{var_int_is}
use Rattle.read_timestamp.specs.declared.FieldsTo.{FieldsTo}
use Rattle.read_timestamp.specs.Parts.{fields_in, fields_at, digits_in, exponent_in, fraction_in, fraction_at}
use Rattle.read_timestamp.proofs.Gathered.{fields_are}

-- ---- the parts, one behind the other

abbrev pub with_fraction : VarInt → Fields → Result (Std.Option Fraction) Refusal → Result Timestamp Refusal
with_fraction o f (Ok x) = Ok (record { offset = known_offset (signed o.negative o.magnitude); fields = f; fraction = x })
with_fraction o f (Err r) = Err r

abbrev pub with_fields : List ℕ → VarInt → Result FieldsTo Refusal → Result Timestamp Refusal
with_fields b o (Ok f) = cond (are_fields (fields_told f.fields)) (with_fraction o f.fields (fraction_at b f.next)) (Err NotIon)
with_fields b o (Err r) = Err r

abbrev pub with_offset : List ℕ → Result VarInt Refusal → Result Timestamp Refusal
with_offset b (Ok o) = with_fields b o (fields_at b o.next)
with_offset b (Err r) = Err r

-- ---- they are the body

fraction_ends : (size : ℕ) (o : VarInt) (f l : List ℕ)
    → fraction_from size (signed o.negative o.magnitude) f l ≡ with_fraction o (six_fields f) (fraction_in size l)
fraction_ends size o f [] = refl
fraction_ends size o f (b ∷ bs) = exponent (var_int (b ∷ bs))
  where
    digits : (n : ℕ) (x : Option Ion.Fraction)
        → fractioned size (signed o.negative o.magnitude) f n x ≡ with_fraction o (six_fields f) (digits_in size n x)
    digits n none = refl
    digits n (some Ion.no_fraction) = refl
    digits n (some (Ion.fraction k c)) = refl

    exponent : (e : Option (Signed × List ℕ))
        → exponent_from size (signed o.negative o.magnitude) f e ≡ with_fraction o (six_fields f) (exponent_in size e)
    exponent none = refl
    exponent (some e) = digits (length e.1) (fraction_of e.0 (int_field e.1))

fields_follow : (b : List ℕ) (o : VarInt) → o.next ≤ length b
    → fields_from (length b) (signed o.negative o.magnitude) (var_uints 6 (drop o.next b)) ≡ with_fields b o (fields_at b o.next)
unfolding fields_at fraction_at
fields_follow b o inside = go (var_uints 6 (drop o.next b)) refl
  where
    go : (x : Option (List ℕ × List ℕ)) → var_uints 6 (drop o.next b) ≡ x
        → fields_from (length b) (signed o.negative o.magnitude) x ≡ with_fields b o (fields_in (length b) x)
    go none q = refl
    go (some x) q =
        let w = fields_are b o.next x inside q in
        let l = drop (length b - length x.1) b in
        ap (λ (y : List ℕ). cond (are_fields x.0) (fraction_from (length b) (signed o.negative o.magnitude) x.0 y) (Err NotIon)) w.rest
        ∙ rw (w.told, ← fraction_ends (length b) o x.0 l) refl

pub by_parts : (b : List ℕ) → timestamp_in b ≡ with_offset b (var_int_at b 0)
unfolding timestamp_in var_int_at
by_parts b = go (var_int b) refl
  where
    go : (x : Option (Signed × List ℕ)) → var_int b ≡ x → offset_from (length b) x ≡ with_offset b (signed_in (length b) x)
    go none q = refl
    go (some (signed t m, rest)) q =
        let o : VarInt = record { negative = t; magnitude = m; next = length b - length rest } in
        let w = var_int_is b 0 o (ap (signed_in (length b)) q) in
        let e : (signed t m, rest) ≡ (signed t m, drop o.next b) = some-injective (signed t m, rest) (signed t m, drop o.next b) (sym q ∙ w.is) in
        ap (λ (y : Signed × List ℕ). fields_from (length b) (signed t m) (var_uints 6 y.1)) e ∙ fields_follow b o w.within
