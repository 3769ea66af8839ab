-- The other way, at one value: what is found behind a header is a pad, a scalar or a container of the grammar.
-- Assumes nothing.
use Prim.Native.Nat.{ℕ, ◌+◌, ◌*◌, ◌/◌, ◌%◌, ◌≤◌, ◌<◌}
use native.Mathlib.Omega.{arith}
use mathlib.Core.Path.{◌≡◌, refl, sym, ◌∙◌, ap, subst}
use mathlib.Core.Logic.{◌≢◌}
use mathlib.Core.Bool.{true, false, cond, ◌||◌, not, or-true}
use mathlib.Core.List.{List, [], ◌∷◌, ◌++◌}
use mathlib.Core.Option.{some, some-injective, none-ne-some}
use lib.Dec.{ltb, leb, eqb}
use lib.Ieee.{binary32, binary64}
use lib.ListN.{length}
use borrow.Author.Tests.{ltb-true, leb-true, eqb-true, eqb-false, ne_eqb, not-true}
use Rattle.ion.specs.Value.{TypeCode, null_code, bool_code, positive_code, negative_code, float_code, decimal_code, timestamp_code, symbol_code, string_code}
use Rattle.ion.specs.Value.{clob_code, blob_code, list_code, sexp_code, struct_code, annotation_code, high_bits, null_type, list, sexp}
use Rattle.ion.specs.Value.{finite, Scalar, null, bool, float, scalar, sequence, struct, Members, Fields}
use Rattle.ion.specs.Chain.{◌>>=◌}
use Rattle.ion.specs.Fields.{VarUInt, uint}
use Rattle.ion.specs.Scalars.{scalar_of, float_of}
use Rattle.ion.specs.Grammar.{sorted, padding, bare, members, fields, ◌⟶◌, pad, is-null, is_false, is_true, is_zero, is_float32, is_float64}
use Rattle.ion.specs.Grammar.{is_scalar, is-sequence, is_struct, is_sorted}
use Rattle.std.proofs.lemmas.Bool.{or_parts}
use Rattle.ion.proofs.Tests.{by_cases, both}
use Rattle.ion.proofs.Bytes.{none_nil}
use Rattle.ion.proofs.Exact.{bind_some}
use Rattle.reading.specs.Headers.{impossible, alone}
use Rattle.reading.specs.Scalars.{code_from, code_of, float_in, bool_of, body_of, scalar_in}
use Rattle.reading.specs.Items.{is_pad, opens, is_sorted_struct}
use Rattle.reading_grammar.proofs.Tests.{contrary, or_left}
use Rattle.reading_grammar.proofs.Framing.{Framing, by_itself, by_low_bits, by_field, framing_header, halves}

-- ---- pads

pub pad_reading : (k : ℕ) (tail body : List ℕ) → Framing k (length body) tail → is_pad k ≡ true → (k ∷ (tail ++ body)) ⟶ padding
pad_reading k tail body f e =
    let h : k < 15 = ltb-true k 15 e in
    let hi : k / 16 ≡ 0 = omega arith in
    let lo : k % 16 ≡ k = omega arith in
    pad body (framing_header null_code f hi (rw (hi, lo, ne_eqb k 15 (λ q. omega arith))) refl)

-- ---- a type byte alone

nothing-behind : {k : ℕ} {tail : List ℕ} (body : List ℕ) → Framing k (length body) tail → alone (k / 16) (k % 16) ≡ true → tail ++ body ≡ []
nothing-behind body (by_itself a z) e = none_nil body z
nothing-behind body (by_low_bits a m z) e = contrary a e
nothing-behind body (by_field a m f v) e = contrary a e

-- ---- scalars

find-code : (cs : List TypeCode) (n : ℕ) (c : TypeCode) → code_from cs n ≡ some c → high_bits c ≡ n
unfolding code_from
find-code [] n c e = absurd (none-ne-some c e)
find-code (d ∷ cs) n c e =
    by_cases (eqb (high_bits d) n)
    (λ p. ap high_bits (sym (some-injective d c (rw p at e))) ∙ eqb-true (high_bits d) n p)
    (λ p. find-code cs n c (rw p at e))

float_frame : {k n : ℕ} {tail : List ℕ} → Framing k n tail → k / 16 ≡ 4 → eqb (k % 16) 15 ≡ false → impossible (k / 16) (k % 16) ≡ false
    → (tail ≡ []) × (n ≡ k % 16)
float_frame (by_itself a z) h l can = contrary (rw (h, l)) a
float_frame (by_low_bits a m e) h l can = (refl, e)
float_frame {k} (by_field a m f v) h l can =
    let w : k % 16 ≡ 14 = eqb-true (k % 16) 14 (or_left m (rw h)) in
    contrary can (rw (h, w))

module _ (an : List ℕ) (k : ℕ) (tail body : List ℕ) (x : Scalar) (can : impossible (k / 16) (k % 16) ≡ false) (f : Framing k (length body) tail) where
  -- the bytes and the scalar, as the grammar has them
  as_bytes : (b : List ℕ) (y : Scalar) → b ⟶ bare an (scalar an y) → b ≡ k ∷ (tail ++ body) → y ≡ x → (k ∷ (tail ++ body)) ⟶ bare an (scalar an x)
  as_bytes b y r p q = subst (λ (z : Scalar). (k ∷ (tail ++ body)) ⟶ bare an (scalar an z)) q (subst (λ (z : List ℕ). z ⟶ bare an (scalar an y)) p r)

  null_reading : (c : TypeCode) → high_bits c ≡ k / 16 → eqb (k % 16) 15 ≡ true → (null_type c >>= λ t. some (null t)) ≡ some x
      → (k ∷ (tail ++ body)) ⟶ bare an (scalar an x)
  null_reading c h p e =
      let m = bind_some (null_type c) (λ t. some (null t)) x e in
      let q : k % 16 ≡ 15 = eqb-true (k % 16) 15 p in
      let g : high_bits c * 16 + 15 ≡ k = omega (arith, halves k) in
      as_bytes ((high_bits c * 16 + 15) ∷ []) (null m.0) (is-null c m.1) (rw (g, nothing-behind body f (rw p)))
      (some-injective (null m.0) x m.2)

  bool_reading : k / 16 ≡ 1 → bool_of (k % 16) ≡ some x → (k ∷ (tail ++ body)) ⟶ bare an (scalar an x)
  bool_reading h e =
      let z : tail ++ body ≡ [] = nothing-behind body f (rw (h, or-true (eqb (k % 16) 15))) in
      by_cases (eqb (k % 16) 0)
      (λ p.
      let g : 0x10 ≡ k = omega (arith, halves k, eqb-true (k % 16) 0 p) in
      as_bytes (0x10 ∷ []) (bool false) is_false (rw (z, g)) (some-injective (bool false) x (rw p at e)))
      (λ p. by_cases (eqb (k % 16) 1)
      (λ q.
      let g : 0x11 ≡ k = omega (arith, halves k, eqb-true (k % 16) 1 q) in
      as_bytes (0x11 ∷ []) (bool true) is_true (rw (z, g)) (some-injective (bool true) x (rw q at (rw p at e))))
      (λ q. absurd (none-ne-some x (rw q at (rw p at e)))))

  plain_reading : (c : TypeCode) → high_bits c ≡ k / 16 → eqb (high_bits c) 1 ≡ false → eqb (high_bits c) 13 ≡ false → eqb (k % 16) 15 ≡ false
      → scalar_of c body ≡ some x → (k ∷ (tail ++ body)) ⟶ bare an (scalar an x)
  plain_reading c h b d l e = is_scalar c body (framing_header c f (sym h) (rw (← h, b, l)) (rw d)) e

  float_reading : k / 16 ≡ 4 → eqb (k % 16) 15 ≡ false → float_in body ≡ some x → (k ∷ (tail ++ body)) ⟶ bare an (scalar an x)
  float_reading h l e =
      let w = float_frame f h l can in
      let size : k ≡ 64 + length body = omega (arith, halves k, w.1) in
      by_cases (eqb (length body) 0)
      (λ p.
      let n : length body ≡ 0 = eqb-true (length body) 0 p in
      let g : 0x40 ≡ k = omega arith in
      as_bytes (0x40 ∷ []) (float (finite false 0)) is_zero (rw (g, w.0, none_nil body n)) (some-injective (float (finite false 0)) x (rw p at e)))
      (λ p. by_cases (eqb (length body) 4)
      (λ q.
      let n : length body ≡ 4 = eqb-true (length body) 4 q in
      let g : 0x44 ≡ k = omega arith in
      as_bytes (0x44 ∷ body) (float (float_of binary32 (uint body))) (is_float32 body n) (rw (g, w.0))
      (some-injective (float (float_of binary32 (uint body))) x (rw q at (rw p at e))))
      (λ q. by_cases (eqb (length body) 8)
      (λ r.
      let n : length body ≡ 8 = eqb-true (length body) 8 r in
      let g : 0x48 ≡ k = omega arith in
      as_bytes (0x48 ∷ body) (float (float_of binary64 (uint body))) (is_float64 body n) (rw (g, w.0))
      (some-injective (float (float_of binary64 (uint body))) x (rw r at (rw q at (rw p at e)))))
      (λ r. absurd (none-ne-some x (rw r at (rw q at (rw p at e)))))))

  body_reading : (c : TypeCode) → high_bits c ≡ k / 16 → eqb (k % 16) 15 ≡ false → body_of c (k % 16) body ≡ some x → (k ∷ (tail ++ body)) ⟶ bare an (scalar an x)
  unfolding body_of
  body_reading null_code h l e = absurd (none-ne-some x e)
  body_reading bool_code h l e = bool_reading (sym h) e
  body_reading positive_code h l e = plain_reading positive_code h refl refl l e
  body_reading negative_code h l e = plain_reading negative_code h refl refl l e
  body_reading float_code h l e = float_reading (sym h) l e
  body_reading decimal_code h l e = plain_reading decimal_code h refl refl l e
  body_reading timestamp_code h l e = plain_reading timestamp_code h refl refl l e
  body_reading symbol_code h l e = plain_reading symbol_code h refl refl l e
  body_reading string_code h l e = plain_reading string_code h refl refl l e
  body_reading clob_code h l e = plain_reading clob_code h refl refl l e
  body_reading blob_code h l e = plain_reading blob_code h refl refl l e
  body_reading list_code h l e = absurd (none-ne-some x e)
  body_reading sexp_code h l e = absurd (none-ne-some x e)
  body_reading struct_code h l e = absurd (none-ne-some x e)
  body_reading annotation_code h l e = absurd (none-ne-some x e)

  coded_reading : (c : TypeCode) → high_bits c ≡ k / 16
      → cond (eqb (k % 16) 15) (null_type c >>= λ t. some (null t)) (body_of c (k % 16) body) ≡ some x
      → (k ∷ (tail ++ body)) ⟶ bare an (scalar an x)
  coded_reading c h e = by_cases (eqb (k % 16) 15) (λ p. null_reading c h p (rw p at e)) (λ p. body_reading c h p (rw p at e))

  pub scalar_reading : scalar_in k body ≡ some x → (k ∷ (tail ++ body)) ⟶ bare an (scalar an x)
  unfolding scalar_in
  scalar_reading e =
      let m = bind_some (code_of (k / 16)) (λ c. cond (eqb (k % 16) 15) (null_type c >>= λ t. some (null t)) (body_of c (k % 16) body)) x e in
      coded_reading m.0 (find-code _ (k / 16) m.0 m.1) m.2

-- ---- containers

pub record Opening (k : ℕ) : Type 0 where
  pub least : 0xB0 ≤ k
  pub most : k < 0xDF
  pub not_null_list : k ≢ 0xBF
  pub not_null_sexp : k ≢ 0xCF

pub opening : (k : ℕ) → opens k ≡ true → Opening k
opening k e =
    let a = both {a = leb 0xB0 k} e in
    let b = both {a = ltb k 0xDF} a.1 in
    let c = both {a = not (eqb k 0xBF)} b.1 in
    record {
      least = leb-true 0xB0 k a.0;
      most = ltb-true k 0xDF b.0;
      not_null_list = eqb-false k 0xBF (not-true (eqb k 0xBF) c.0);
      not_null_sexp = eqb-false k 0xCF (not-true (eqb k 0xCF) c.1);
    }

not_alone : (k : ℕ) → k / 16 ≢ 1 → k % 16 ≢ 15 → alone (k / 16) (k % 16) ≡ false
not_alone k p q = rw (ne_eqb (k % 16) 15 q, ne_eqb (k / 16) 1 p)

module _ (an : List ℕ) (k : ℕ) (tail body : List ℕ) (f : Framing k (length body) tail) (o : Opening k) where
  pub list_reading : k < 0xC0 → (vs : Members Scalar) → body ⟶ members vs → (k ∷ (tail ++ body)) ⟶ bare an (sequence an list vs)
  list_reading lt vs r =
      let hi : k / 16 ≡ 11 = omega arith in
      let n : k ≢ 0xBF = o.not_null_list in
      is-sequence list (framing_header list_code f hi (not_alone k (λ q. omega arith) (λ q. omega arith)) refl) r

  pub sexp_reading : 0xC0 ≤ k → k < 0xD0 → (vs : Members Scalar) → body ⟶ members vs → (k ∷ (tail ++ body)) ⟶ bare an (sequence an sexp vs)
  sexp_reading le lt vs r =
      let hi : k / 16 ≡ 12 = omega arith in
      let n : k ≢ 0xCF = o.not_null_sexp in
      is-sequence sexp (framing_header sexp_code f hi (not_alone k (λ q. omega arith) (λ q. omega arith)) refl) r

  sorted-frame : {t : List ℕ} → k ≡ 0xD1 → Framing k (length body) t → VarUInt t (length body) × (0 < length body)
  sorted-frame e (by_itself a z) = contrary (rw e) a
  sorted-frame e (by_low_bits a m z) = contrary m (rw e)
  sorted-frame e (by_field a m n v) =
      let w : (eqb (length body) 1 || eqb (length body) 0) ≡ false = rw e at n in
      let z : length body ≢ 0 = eqb-false (length body) 0 (or_parts (eqb (length body) 1) _ w).1 in
      (v, omega arith)

  pub struct_reading : 0xD0 ≤ k → (fs : Fields Scalar) → body ⟶ fields fs → (is_sorted_struct k ≡ true → sorted 0 fs ≡ true)
      → (k ∷ (tail ++ body)) ⟶ bare an (struct an fs)
  struct_reading le fs r up =
      by_cases (is_sorted_struct k)
      (λ p.
      let e : k ≡ 0xD1 = eqb-true k 0xD1 p in
      let w = sorted-frame e f in
      subst (λ (j : ℕ). (j ∷ (tail ++ body)) ⟶ bare an (struct an fs)) (sym e) (is_sorted tail w.0 w.1 r (up p)))
      (λ p.
      let hi : k / 16 ≡ 13 = omega (arith, o.most) in
      let n : k ≢ 0xD1 = eqb-false k 0xD1 p in
      is_struct (framing_header struct_code f hi (not_alone k (λ q. omega arith) (λ q. omega (arith, o.most))) (ne_eqb (k % 16) 1 (λ q. omega arith))) r)
