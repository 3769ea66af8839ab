-- Headers, annotations and containers that the writer puts: how many bytes a header takes, and that they are those of the grammar.
-- By the two sides of the length 14. Assumes nothing.
use Prim.Native.Nat.{ℕ, ◌+◌, ◌*◌, ◌/◌, ◌^◌, ◌<◌, ◌≤◌}
use native.Mathlib.Omega.{arith}
use mathlib.Core.Path.{◌≡◌, refl, sym, ◌∙◌, ap}
use mathlib.Core.List.{List, [], ◌∷◌, ◌++◌, append_assoc}
use mathlib.Core.Option.{some}
use lib.Dec.{ltb}
use lib.ListN.{length, length-append}
use borrow.Author.Tests.{lt-ltb, le-ltb, ltb-true, ltb-false}
use Rattle.ion.specs.Value.{TypeCode, high_bits, struct_code, annotation_code, sequence_code, Scalar, SequenceType, Value, scalar, sequence, struct}
use Rattle.ion.specs.Value.{Members, Fields}
use Rattle.ion.specs.Scalars.{scalar_of}
use Rattle.ion.specs.Grammar.{Header, short, long, sids, bare, one, members, fields, ◌⟶◌, sids_end, sids_next, is_scalar, is-sequence, is_struct}
use Rattle.ion.specs.Grammar.{is_bare, is_annotated}
use Rattle.ion.proofs.Tests.{by_cases}
use Rattle.encoding.specs.Fields.{var_uint_bytes, var_uints_bytes, AllU64}
use Rattle.encoding.specs.Headers.{type_byte, header_bytes, framed_bytes, annotation_bytes, annotated_bytes}
use Rattle.encoding.proofs.Fields.{var_uint_bytes-reads}
use Rattle.encoding.proofs.Sizes.{var_uint-most}

-- ---- by the length of the body

pub header_short : (t n : ℕ) → n < 14 → header_bytes t n ≡ (t + n) ∷ []
unfolding header_bytes
header_short t n h = rw (header_bytes, lt-ltb n 14 h) refl

pub header_long : (t n : ℕ) → 14 ≤ n → header_bytes t n ≡ (t + 14) ∷ var_uint_bytes n
unfolding header_bytes
header_long t n h = rw (header_bytes, le-ltb n 14 h) refl

-- a body of less than 14 bytes
pub framed_short : (t : ℕ) (body : List ℕ) → length body < 14 → framed_bytes t body ≡ (t + length body) ∷ body
unfolding framed_bytes
framed_short t body h = ap (λ (l : List ℕ). l ++ body) (header_short t (length body) h)

-- the type does not matter
pub length_header : (t n : ℕ) → length (header_bytes t n) ≡ length (header_bytes 0 n)
length_header t n =
    by_cases (ltb n 14)
    (λ e. let h = ltb-true n 14 e in ap length (header_short t n h) ∙ sym (ap length (header_short 0 n h)))
    (λ e. let h = ltb-false n 14 e in ap length (header_long t n h) ∙ sym (ap length (header_long 0 n h)))

pub header_least : (t n : ℕ) → 1 ≤ length (header_bytes t n)
header_least t n =
    by_cases (ltb n 14)
    (λ e. rw (header_short t n (ltb-true n 14 e)) (omega arith))
    (λ e. rw (header_long t n (ltb-false n 14 e)) (omega arith))

pub header_most : (t n : ℕ) → n < 2 ^ 64 → length (header_bytes t n) ≤ 11
header_most t n h =
    by_cases (ltb n 14)
    (λ e. rw (header_short t n (ltb-true n 14 e)) (omega arith))
    (λ e. rw (header_long t n (ltb-false n 14 e)) (omega (arith, var_uint-most n h)))

-- a type byte has nothing in its low four bits
pub type_byte_high : (c : TypeCode) → type_byte c / 16 * 16 ≡ type_byte c
type_byte_high c = high (high_bits c)
  where
    high : (k : ℕ) → k * 16 / 16 * 16 ≡ k * 16
    high k = omega arith

-- ---- those of the grammar

pub header_bytes_is : (c : TypeCode) (n : ℕ) → n < 2 ^ 64 → Header c n (header_bytes (type_byte c) n)
unfolding header_bytes
header_bytes_is c n h =
    by_cases (ltb n 14)
    (λ p. rw (p, header_bytes) (short (ltb-true n 14 p)))
    (λ p. rw (p, header_bytes) (long (var_uint_bytes-reads n h)))

pub length-framed : (t : ℕ) (body : List ℕ) → length (framed_bytes t body) ≡ length (header_bytes 0 (length body)) + length body
unfolding framed_bytes
length-framed t body = length-append (header_bytes t (length body)) body ∙ rw (length_header t (length body))

pub framed_longer : (t : ℕ) (body : List ℕ) → length body ≤ length (framed_bytes t body)
unfolding framed_bytes
framed_longer t body = simp length-append (omega arith)

-- ---- what a framed body stands for

pub scalar_reads : (an : List ℕ) (c : TypeCode) (body : List ℕ) (s : Scalar) → length body < 2 ^ 64 → scalar_of c body ≡ some s
    → framed_bytes (type_byte c) body ⟶ bare an (scalar an s)
unfolding framed_bytes
scalar_reads an c body s h e = is_scalar c body (header_bytes_is c (length body) h) e

pub sequence_reads : (an body : List ℕ) (k : SequenceType) (vs : Members Scalar) → length body < 2 ^ 64 → body ⟶ members vs
    → framed_bytes (type_byte (sequence_code k)) body ⟶ bare an (sequence an k vs)
unfolding framed_bytes
sequence_reads an body k vs h r = is-sequence k (header_bytes_is (sequence_code k) (length body) h) r

pub struct_reads : (an body : List ℕ) (fs : Fields Scalar) → length body < 2 ^ 64 → body ⟶ fields fs
    → framed_bytes (type_byte struct_code) body ⟶ bare an (struct an fs)
unfolding framed_bytes
struct_reads an body fs h r = is_struct (header_bytes_is struct_code (length body) h) r

-- ---- annotations

sids_reads : (an : List ℕ) → AllU64 an → var_uints_bytes an ⟶ sids an
unfolding var_uints_bytes
sids_reads [] h = sids_end
sids_reads (a ∷ an) h = sids_next (var_uint_bytes a) (var_uint_bytes-reads a h.0) (sids_reads an h.1)

wrapper-reads : (a : ℕ) (an b : List ℕ) (v : Value) → AllU64 (a ∷ an) → length (annotation_bytes (a ∷ an) ++ b) < 2 ^ 64 → b ⟶ bare (a ∷ an) v
    → framed_bytes (type_byte annotation_code) (annotation_bytes (a ∷ an) ++ b) ⟶ one v
unfolding framed_bytes annotation_bytes
wrapper-reads a an b v h lt r =
    let s = var_uints_bytes (a ∷ an) in
    let l = var_uint_bytes (length s) in
    let e : (l ++ s) ++ b ≡ l ++ (s ++ b) = append_assoc l s b in
    let n : length (l ++ (s ++ b)) < 2 ^ 64 = rw e at lt in
    let m : length s < 2 ^ 64 = omega (arith, length-append l (s ++ b), length-append s b) in
    rw e (is_annotated l (header_bytes_is annotation_code (length (l ++ (s ++ b))) n) (var_uint_bytes-reads (length s) m) (sids_reads (a ∷ an) h) r)

pub annotated-reads : (an b : List ℕ) (v : Value) → AllU64 an → length (annotated_bytes an b) < 2 ^ 64 → b ⟶ bare an v → annotated_bytes an b ⟶ one v
unfolding annotated_bytes
annotated-reads [] b v h lt r = is_bare r
annotated-reads (a ∷ an) b v h lt r = wrapper-reads a an b v h (omega (arith, framed_longer (type_byte annotation_code) (annotation_bytes (a ∷ an) ++ b))) r

pub annotated_longer : (an b : List ℕ) → length b ≤ length (annotated_bytes an b)
unfolding annotated_bytes
annotated_longer [] b = omega arith
annotated_longer (a ∷ an) b = omega (arith, framed_longer (type_byte annotation_code) (annotation_bytes (a ∷ an) ++ b), length-append (annotation_bytes (a ∷ an)) b)
