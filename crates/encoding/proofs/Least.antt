-- No value is without bytes, nor are annotations.
-- By cases on the argument. Assumes nothing.
use Prim.Native.Nat.{ℕ, ◌<◌, ◌≤◌}
use native.Mathlib.Omega.{arith}
use mathlib.Core.Bool.{true, false}
use mathlib.Core.List.{List, ◌∷◌}
use lib.Dec.{eqb}
use lib.IntN.{pos, negsuc}
use lib.ListN.{length, length-append}
use Rattle.ion.specs.Value.{struct_code, sequence_code, Tree, scalar, sequence, struct}
use Rattle.ion.proofs.Tests.{by_cases}
use Rattle.encoding.specs.Fields.{var_uint_bytes, var_uints_bytes}
use Rattle.encoding.specs.Headers.{type_byte, header_bytes, framed_bytes, annotation_bytes, annotated_bytes}
use Rattle.encoding.specs.Argument.{Argument, write_null, write_bool, write_i64, write_int, write_f32, write_f64, write_decimal, write_timestamp}
use Rattle.encoding.specs.Argument.{write_symbol, write_string, write_clob, write_blob, float32_bytes, narrows, float64_bytes, argument_bytes}
use Rattle.encoding.specs.Stream.{tree_bytes, members_bytes, fields_bytes}
use Rattle.encoding.proofs.Sizes.{var_uint_least}
use Rattle.encoding.proofs.Headers.{header_least, annotated_longer}

pub framed-some : (t : ℕ) (body : List ℕ) → 0 < length (framed_bytes t body)
unfolding framed_bytes
framed-some t body = omega (arith, length-append (header_bytes t (length body)) body, header_least t (length body))

float32_some : (b : ℕ) → 0 < length (float32_bytes b)
unfolding float32_bytes
float32_some b = by_cases (eqb b 0) (λ e. rw (e, float32_bytes) (omega arith)) (λ e. rw (e, float32_bytes) (omega arith))

float64_some : (b : ℕ) → 0 < length (float64_bytes b)
unfolding float64_bytes
float64_some b = by_cases (narrows b) (λ e. rw (e, float64_bytes) (float32_some _)) (λ e. rw (e, float64_bytes) (omega arith))

pub argument_some : (a : Argument) → 0 < length (argument_bytes a)
unfolding argument_bytes
argument_some (write_null t) = omega arith
argument_some (write_bool false) = omega arith
argument_some (write_bool true) = omega arith
argument_some (write_i64 (pos n)) = framed-some _ _
argument_some (write_i64 (negsuc n)) = framed-some _ _
argument_some (write_int s m) = framed-some _ _
argument_some (write_f32 b) = float32_some b
argument_some (write_f64 b) = float64_some b
argument_some (write_decimal s m e) = framed-some _ _
argument_some (write_timestamp o fs x) = framed-some _ _
argument_some (write_symbol n) = framed-some _ _
argument_some (write_string b) = framed-some _ _
argument_some (write_clob b) = framed-some _ _
argument_some (write_blob b) = framed-some _ _

annotated-framed : (an : List ℕ) (t : ℕ) (body : List ℕ) → 0 < length (annotated_bytes an (framed_bytes t body))
annotated-framed an t body = omega (arith, annotated_longer an (framed_bytes t body), framed-some t body)

pub tree_some : (t : Tree Argument) → 0 < length (tree_bytes t)
unfolding tree_bytes
tree_some (scalar an a) = omega (arith, annotated_longer an (argument_bytes a), argument_some a)
tree_some (sequence an k vs) = annotated-framed an (type_byte (sequence_code k)) (members_bytes vs)
tree_some (struct an fs) = annotated-framed an (type_byte struct_code) (fields_bytes fs)

-- their sum and a sid
pub annotation_least : (a : ℕ) (an : List ℕ) → 2 ≤ length (annotation_bytes (a ∷ an))
unfolding annotation_bytes var_uints_bytes
annotation_least a an =
    let sids = var_uints_bytes (a ∷ an) in
    omega (
      arith,
      length-append (var_uint_bytes (length sids)) sids,
      var_uint_least (length sids),
      length-append (var_uint_bytes a) (var_uints_bytes an),
      var_uint_least a,
    )
