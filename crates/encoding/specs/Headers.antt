-- Headers, annotations and the version marker as the writer puts them: document 01's modules value_writer and container_writers.
-- Assumes nothing.
use Rattle.std.specs.Prelude.{ℕ, ◌+◌, ◌*◌, true, false, List, [], ◌∷◌, ◌++◌, ltb, length}
use Rattle.ion.specs.Value.{TypeCode, annotation_code, high_bits}
use Rattle.encoding.specs.Fields.{var_uint_bytes, var_uints_bytes}

-- the type code in the high four bits
abbrev pub type_byte : TypeCode → ℕ
type_byte c = high_bits c * 16

-- The header of n body bytes, given the byte with the type code: the length in the low four bits, or from 14 on E there and a VarUInt behind.
unfoldable pub header_bytes : ℕ → ℕ → List ℕ
header_bytes t n = elim (ltb n 14) [ true ↦ (t + n) ∷ [] | false ↦ (t + 14) ∷ var_uint_bytes n ]

unfoldable pub framed_bytes : ℕ → List ℕ → List ℕ
framed_bytes t body = header_bytes t (length body) ++ body

-- the sum of the sids' lengths, then the sids
unfoldable pub annotation_bytes : List ℕ → List ℕ
annotation_bytes an = var_uint_bytes (length (var_uints_bytes an)) ++ var_uints_bytes an

-- A value's bytes, its final header among them, behind its annotations; an empty annotation list means none.
unfoldable pub annotated_bytes : List ℕ → List ℕ → List ℕ
annotated_bytes [] b = b
annotated_bytes (a ∷ an) b = framed_bytes (type_byte annotation_code) (annotation_bytes (a ∷ an) ++ b)

abbrev pub marker_bytes : List ℕ
marker_bytes = 0xE0 ∷ 0x01 ∷ 0x00 ∷ 0xEA ∷ []
