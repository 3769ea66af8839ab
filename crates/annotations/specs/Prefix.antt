-- What stands before an annotated value, and the room that it asks for together with the value.
-- Assumes nothing.
use Rattle.std.specs.Prelude.{ℕ, ◌+◌, true, false, List, ◌++◌, Option, Some, None, leb, length}
use Rattle.ion.specs.Value.{annotation_code}
use Rattle.encoding.specs.Headers.{type_byte, header_bytes, annotation_bytes}
use Rattle.buffer.specs.Laid.{laid}

-- the wrapper's header and the annotations, before a value of n bytes
unfoldable pub prefix_bytes : List ℕ → ℕ → List ℕ
prefix_bytes an n = header_bytes (type_byte annotation_code) (length (annotation_bytes an) + n) ++ annotation_bytes an

-- `out` is put where it fits together with n bytes behind it: how many bytes were put, and the buffer.
unfoldable pub placed_before : List ℕ → ℕ → List ℕ → ℕ → Option ℕ × List ℕ
placed_before b at out n = elim (leb (at + length out + n) (length b)) [ true ↦ (Some (length out), laid b at out) | false ↦ (None, b) ]
