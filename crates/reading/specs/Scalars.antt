-- What a type byte and its body stand for, where they are a scalar: "Typed Value Formats" of the Ion 1.0 binary encoding, by the functions of the grammar.
-- Assumes nothing.
use Rattle.std.specs.Prelude.{ℕ, ◌/◌, ◌%◌, Bool, true, false, cond, List, [], ◌∷◌, eqb, length}
use Rattle.std.proofs.Math.Option.{Option, none, some}
use Rattle.std.specs.Float.{binary32, binary64}
use Rattle.ion.specs.Value.{TypeCode, null_code, bool_code, positive_code, negative_code, float_code, decimal_code, timestamp_code, symbol_code}
use Rattle.ion.specs.Value.{string_code, clob_code, blob_code, list_code, sexp_code, struct_code, annotation_code, high_bits, null_type}
use Rattle.ion.specs.Value.{Scalar, null, bool, float, finite}
use Rattle.ion.specs.Chain.{◌>>=◌}
use Rattle.ion.specs.Fields.{uint, var_uints}
use Rattle.ion.specs.Scalars.{float_of, scalar_of}

-- the type code of a number: the first of these that has it
unfoldable pub code_from : List TypeCode → ℕ → Option TypeCode
code_from [] n = none
code_from (c ∷ cs) n = cond (eqb (high_bits c) n) (some c) (code_from cs n)

abbrev pub code_of : ℕ → Option TypeCode
code_of n =
    code_from (null_code ∷ bool_code ∷ positive_code ∷ negative_code ∷ float_code ∷ decimal_code ∷ timestamp_code ∷ symbol_code
    ∷ string_code ∷ clob_code ∷ blob_code ∷ list_code ∷ sexp_code ∷ struct_code ∷ annotation_code ∷ []) n

-- "1: bool"
abbrev pub bool_of : ℕ → Option Scalar
bool_of l = cond (eqb l 0) (some (bool false)) (cond (eqb l 1) (some (bool true)) none)

-- "4: float"
abbrev pub float_in : List ℕ → Option Scalar
float_in b =
    cond (eqb (length b) 0) (some (float (finite false 0)))
    (cond (eqb (length b) 4) (some (float (float_of binary32 (uint b))))
    (cond (eqb (length b) 8) (some (float (float_of binary64 (uint b)))) none))

-- by the type code, the low four bits (not 15) and the body
unfoldable pub body_of : TypeCode → ℕ → List ℕ → Option Scalar
body_of null_code l b = none
body_of bool_code l b = bool_of l
body_of positive_code l b = scalar_of positive_code b
body_of negative_code l b = scalar_of negative_code b
body_of float_code l b = float_in b
body_of decimal_code l b = scalar_of decimal_code b
body_of timestamp_code l b = scalar_of timestamp_code b
body_of symbol_code l b = scalar_of symbol_code b
body_of string_code l b = scalar_of string_code b
body_of clob_code l b = scalar_of clob_code b
body_of blob_code l b = scalar_of blob_code b
body_of list_code l b = none
body_of sexp_code l b = none
body_of struct_code l b = none
body_of annotation_code l b = none

-- The scalar of a type byte and its body; none for pads, containers and wrappers, and for bodies that do not read.
unfoldable pub scalar_in : ℕ → List ℕ → Option Scalar
scalar_in kind b =
    code_of (kind / 16) >>= λ c.
    cond (eqb (kind % 16) 15) (null_type c >>= λ t. some (null t)) (body_of c (kind % 16) b)

abbrev pub is_some : {A : Type 0} → Option A → Bool
is_some none = false
is_some (some x) = true

-- The sids that fill the bytes.
unfoldable pub sids_of : List ℕ → Option (List ℕ)
sids_of b = var_uints (length b) b >>= λ x. some x.0
