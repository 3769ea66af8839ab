-- "Basic Field Formats" of the Ion 1.0 binary encoding: UInt, Int, VarUInt and VarInt, as functions of their bytes.
-- A byte is a number below 256. Assumes nothing.
use Rattle.std.specs.Prelude.{ℕ, zero, suc, ◌*◌, ◌+◌, ◌/◌, ◌%◌, ◌^◌, ◌≡◌, Bool, true, false, List, [], ◌∷◌, ltb, leb, eqb, ℤ, pos, neg_ℤ}
use Rattle.std.proofs.Math.Option.{Option, none, some}
use Rattle.ion.specs.Value.{Signed, signed}
use Rattle.ion.specs.Chain.{◌>>=◌, check}

-- ---- "UInt and Int Fields"

-- The big-endian number whose digits before these bytes make `acc`.
unfoldable pub big_endian : ℕ → List ℕ → ℕ
big_endian acc [] = acc
big_endian acc (b ∷ bs) = big_endian (acc * 256 + b) bs

-- UInt: a big-endian number; no bytes are zero.
abbrev pub uint : List ℕ → ℕ
uint b = big_endian 0 b

-- Int: a big-endian magnitude, but for the top bit of the first byte, which is the sign; no bytes are zero.
unfoldable pub int_field : List ℕ → Signed
int_field [] = signed false 0
int_field (b ∷ bs) = signed (leb 0x80 b) (big_endian (b % 128) bs)

-- ---- "VarUInt and VarInt Fields"

-- Seven bits a byte, most significant first, bit 80 on the last byte only. Leading zero groups are allowed.
-- Answers the number whose groups before these bytes make `acc`, and the bytes behind it.
unfoldable pub groups : ℕ → List ℕ → Option (ℕ × List ℕ)
groups acc [] = none
groups acc (b ∷ bs) = elim (ltb b 0x80) [ true ↦ groups (acc * 128 + b) bs | false ↦ some (acc * 128 + b % 128, bs) ]

-- Document 02, Item 1: a length or sid past 64 bits is outside the grammar.
abbrev pub in_u64 : Option (ℕ × List ℕ) → Option (ℕ × List ℕ)
in_u64 none = none
in_u64 (some x) = check (ltb x.0 (2 ^ 64)) (some x)

-- VarUInt: the number at the front of the bytes, and the bytes behind it.
unfoldable pub var_uint : List ℕ → Option (ℕ × List ℕ)
var_uint b = in_u64 (groups 0 b)

-- l is a VarUInt of the number n, whole
abbrev pub VarUInt : List ℕ → ℕ → Type 0
VarUInt l n = var_uint l ≡ some (n, [])

-- at most n VarUInts, as many as there are bytes for; and the bytes behind them
unfoldable pub var_uints : ℕ → List ℕ → Option (List ℕ × List ℕ)
var_uints zero b = some ([], b)
var_uints (suc n) [] = some ([], [])
var_uints (suc n) (b ∷ bs) = var_uint (b ∷ bs) >>= λ x. var_uints n x.1 >>= λ y. some (x.0 ∷ y.0, y.1)

-- Document 02, Item 1: an exponent or offset past signed 64 bits is outside the grammar.
abbrev pub is_i64 : Signed → Bool
is_i64 (signed false n) = ltb n (2 ^ 63)
is_i64 (signed true n) = leb n (2 ^ 63)

abbrev pub give_sign : Bool → Option (ℕ × List ℕ) → Option (Signed × List ℕ)
give_sign s none = none
give_sign s (some x) = check (is_i64 (signed s x.0)) (some (signed s x.0, x.1))

-- bit 40 of a VarInt's first byte
abbrev pub is_negative : ℕ → Bool
is_negative b = eqb (b / 64 % 2) 1

-- VarInt: as VarUInt, but that the first byte has a sign in bit 40 and six bits of the magnitude below it.
unfoldable pub var_int : List ℕ → Option (Signed × List ℕ)
var_int [] = none
var_int (b ∷ bs) =
    elim (ltb b 0x80) [
      | true ↦ give_sign (is_negative b) (groups (b % 64) bs)
      | false ↦ give_sign (is_negative b) (some (b % 64, bs))
    ]

-- the number of a sign and a magnitude
abbrev pub number : Signed → ℤ
number (signed false n) = pos n
number (signed true n) = neg_ℤ (pos n)
