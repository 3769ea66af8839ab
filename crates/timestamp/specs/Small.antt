-- How small the numbers of a timestamp are once check 7 is passed and its fields are UTC, and the bytes that they then take.
-- Assumes nothing.
use Rattle.std.specs.Prelude.{ℕ, ◌^◌, ◌≤◌, ◌<◌, List, [], ◌∷◌, ◌++◌, ℤ, nat_abs}
use Rattle.std.proofs.Props.{props}
use Rattle.std.proofs.Math.Option.{Option, none, some}
use Rattle.ion.specs.Value.{timestamp_code, Fraction, no_fraction, fraction}
use Rattle.encoding.specs.Fields.{var_uints_bytes, AllBelow}
use Rattle.encoding.specs.Headers.{type_byte, framed_bytes}
use Rattle.encoding.specs.Timestamp.{offset_bytes, fraction_bytes}
use Rattle.timestamp.specs.declared.Timestamp.{Timestamp}
use Rattle.timestamp.specs.Arguments.{offset_minutes, fraction_digits, fields_of}

-- two bytes hold the offset
abbrev pub SmallOffset : Option ℤ → Type 0
SmallOffset none = Unit {0}
SmallOffset (some z) = nat_abs z < 8192

-- two bytes hold the year, and one each field below it
abbrev pub SmallFields : List ℕ → Type 0
SmallFields [] = Unit {0}
SmallFields (y ∷ fs) = (y < 16384) × AllBelow 128 fs

-- one byte holds the exponent, which is below zero, and eight the coefficient with its sign
abbrev pub SmallFraction : Fraction → Type 0
SmallFraction no_fraction = Unit {0}
SmallFraction (fraction k c) = (1 ≤ k) × (k < 64) × (c < 2 ^ 63)

abbrev pub Small : Timestamp → Type 0
Small t = SmallOffset (offset_minutes t.offset) × SmallFields (fields_of t) × SmallFraction (fraction_digits t.fraction)

-- ---- each of these facts has one proof at most, as a fact beside a value has to

small_offset_prop : (o : Option ℤ) → IsProp (SmallOffset o)
small_offset_prop none = Prim.hlevel props
small_offset_prop (some z) = Prim.hlevel props

all_below_prop : (n : ℕ) (fs : List ℕ) → IsProp (AllBelow n fs)
all_below_prop n [] = Prim.hlevel props
all_below_prop n (f ∷ fs) = Prim.hlevel (props, all_below_prop n fs)

small_fields_prop : (fs : List ℕ) → IsProp (SmallFields fs)
small_fields_prop [] = Prim.hlevel props
small_fields_prop (y ∷ fs) = Prim.hlevel (props, all_below_prop 128 fs)

small_fraction_prop : (x : Fraction) → IsProp (SmallFraction x)
small_fraction_prop no_fraction = Prim.hlevel props
small_fraction_prop (fraction k c) = Prim.hlevel props

pub Small_prop : (t : Timestamp) → IsProp (Small t)
Small_prop t =
    Prim.hlevel (props, small_offset_prop (offset_minutes t.offset), small_fields_prop (fields_of t), small_fraction_prop (fraction_digits t.fraction))

-- ---- the bytes

-- the body of a timestamp whose fields are UTC
unfoldable pub body_of : Timestamp → List ℕ
body_of t = offset_bytes (offset_minutes t.offset) ++ (var_uints_bytes (fields_of t) ++ fraction_bytes (fraction_digits t.fraction))

unfoldable pub value_of : Timestamp → List ℕ
value_of t = framed_bytes (type_byte timestamp_code) (body_of t)
