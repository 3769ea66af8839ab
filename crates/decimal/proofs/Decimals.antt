-- The body of a decimal: none for positive zero with exponent 0, else the exponent and the coefficient side by side.
-- By the length of the coefficient, which is none only for positive zero. Assumes nothing.
use Prim.Native.Nat.{ℕ, zero, suc, ◌+◌, ◌≤◌, ◌<◌}
use native.Mathlib.Omega.{arith}
use mathlib.Core.Path.{◌≡◌, refl, sym, ◌∙◌, ap}
use mathlib.Core.Bool.{Bool, true, false, ◌&&◌}
use mathlib.Core.List.{List, [], ◌∷◌, ◌++◌}
use borrow.Author.Tests.{ltb-true, ltb-false, lt-ltb, le-ltb, ne_eqb}
use mir.Syntax.{w64}
use mir.Val.{Fits}
use lib.Dec.{eqb, ltb}
use lib.ListN.{length, length-append}
use lib.IntN.{ℤ, pos, negsuc, nat_abs}
use Rattle.std.specs.Prelude.{Option, Some, None}
use Rattle.ion.specs.Value.{decimal_code, signed}
use Rattle.buffer.specs.Laid.{placed, written, size_of}
use Rattle.buffer.proofs.Laid.{size_of-some, written-some, placed_full, placed-room, placed-some, placed_then, placed_then_none}
use Rattle.encoding.specs.Fields.{var_int_bytes, signed_of, trimmed, int_bytes}
use Rattle.encoding.specs.Headers.{type_byte, header_bytes, framed_bytes}
use Rattle.encoding.specs.Decimal.{is_zero_decimal, decimal_body}
use Rattle.encoding.specs.Argument.{write_decimal, argument_bytes, checked_bytes}
use Rattle.ion.proofs.Tests.{by_cases}
use Rattle.encoding.proofs.Signs.{int_size-none, int_clear, int_taken, signed_of_is}
use Rattle.encoding.proofs.Sizes.{length-var_int_sign}
use Rattle.encoding.proofs.Headers.{header_least, header_most, length-framed}
use Rattle.decimal.proofs.Values.{checked_bytes_refused, checked_bytes_accepted, no_header, no_body, body_room, placed-framed, value_count}

int_nonempty : (s : Bool) (b : ℕ) (bs : List ℕ) → length (int_bytes s (b ∷ bs)) ≡ 0 → ⊥
int_nonempty s b bs =
    by_cases (ltb b 0x80)
    (λ t z. omega (arith, ap length (int_clear b bs s (ltb-true b 0x80 t))))
    (λ t z. omega (arith, ap length (int_taken b bs s (ltb-false b 0x80 t))))

-- the coefficient takes no byte, and the exponent is 0
is_zero_decimal_tests : (s : Bool) (m : List ℕ) (e : ℤ) → is_zero_decimal s m e ≡ (eqb (length (int_bytes s m)) 0 && eqb (nat_abs e) 0)
is_zero_decimal_tests false [] (pos zero) = rw (int_size-none false [] refl)
is_zero_decimal_tests false [] (pos (suc n)) = rw (int_size-none false [] refl, ne_eqb (suc n) 0 (λ z. omega arith))
is_zero_decimal_tests false [] (negsuc n) = rw (int_size-none false [] refl, ne_eqb (suc n) 0 (λ z. omega arith))
is_zero_decimal_tests true [] e = rw (int_size-none true [] refl)
is_zero_decimal_tests false (b ∷ bs) e = rw (ne_eqb (length (int_bytes false (b ∷ bs))) 0 (int_nonempty false b bs))
is_zero_decimal_tests true (b ∷ bs) e = rw (ne_eqb (length (int_bytes true (b ∷ bs))) 0 (int_nonempty true b bs))

module _ (s : Bool) (m : List ℕ) (e : ℤ) where
  pub decimal_body-none : (eqb (length (int_bytes s (trimmed m))) 0 && eqb (nat_abs e) 0) ≡ true → decimal_body s m e ≡ []
  unfolding decimal_body
  decimal_body-none h = rw (is_zero_decimal_tests s (trimmed m) e ∙ h, decimal_body)

  pub decimal_body-some : (eqb (length (int_bytes s (trimmed m))) 0 && eqb (nat_abs e) 0) ≡ false
      → decimal_body s m e ≡ var_int_bytes (signed_of e) ++ int_bytes s (trimmed m)
  unfolding decimal_body
  decimal_body-some h = rw (is_zero_decimal_tests s (trimmed m) e ∙ h, decimal_body)

  pub decimal_body_parts : (length (decimal_body s m e) ≡ 0 → ⊥) → decimal_body s m e ≡ var_int_bytes (signed_of e) ++ int_bytes s (trimmed m)
  decimal_body_parts h =
      by_cases (eqb (length (int_bytes s (trimmed m))) 0 && eqb (nat_abs e) 0)
      (λ t. absurd (h (ap length (decimal_body-none t))))
      decimal_body-some

  pub decimal_body_empty : length (decimal_body s m e) ≡ 0 → decimal_body s m e ≡ []
  decimal_body_empty h = empty (decimal_body s m e) h
    where
      empty : (l : List ℕ) → length l ≡ 0 → l ≡ []
      empty [] z = refl
      empty (b ∷ bs) z = absurd (omega arith)

  -- ---- check 8, by the length of the body

  module _ (body : ℕ) (q : body ≡ length (decimal_body s m e)) where
    pub refused : 32 < body → checked_bytes (write_decimal s m e) ≡ []
    refused h = checked_bytes_refused (write_decimal s m e) (rw (lt-ltb 32 (length (decimal_body s m e)) (omega arith)))

    module _ (h : body ≤ 32) where
      pub accepted : checked_bytes (write_decimal s m e) ≡ framed_bytes (type_byte decimal_code) (decimal_body s m e)
      unfolding argument_bytes
      accepted = checked_bytes_accepted (write_decimal s m e) (rw (le-ltb 32 (length (decimal_body s m e)) (omega arith)))

      module _ (header : ℕ) (k : header ≡ length (header_bytes 0 body)) where
        pub value_length : header + body ≡ length (checked_bytes (write_decimal s m e))
        value_length = rw (accepted, length-framed (type_byte decimal_code) (decimal_body s m e), ← q, k)

        pub sized : ◌≡◌ {A = Option ℕ} (Some (header + body)) (size_of (checked_bytes (write_decimal s m e)))
        sized = ap (λ (n : ℕ). Some n) value_length ∙ sym (size_of-some (checked_bytes (write_decimal s m e)) (omega (arith, value_length, header_least 0 body, k)))

        pub value_fits : Fits w64 (header + body)
        value_fits = record { fits = omega (arith, header_most 0 body (omega arith)) }

  -- ---- the parts of the body, by the numbers that the code has of them: `scale` is the exponent's magnitude

  module _ (scale : ℕ) (d : scale ≡ nat_abs e) where
    pub size_none : (coefficient : ℕ) → coefficient ≡ length (int_bytes s (trimmed m)) → (eqb coefficient 0 && eqb scale 0) ≡ true → 0 ≡ length (decimal_body s m e)
    size_none coefficient c h = rw (decimal_body-none (rw (← d, ← c) h))

    pub size_some : (coefficient exponent : ℕ) → coefficient ≡ length (int_bytes s (trimmed m)) → exponent ≡ length (var_int_bytes (signed false scale))
        → (eqb coefficient 0 && eqb scale 0) ≡ false → exponent + coefficient ≡ length (decimal_body s m e)
    size_some coefficient exponent c x h = rw (
      decimal_body-some (rw (← d, ← c) h),
      length-append (var_int_bytes (signed_of e)) (int_bytes s (trimmed m)),
      signed_of_is e,
      length-var_int_sign _ (nat_abs e),
      ← d,
      x,
      c,
    )

  module _ (b : List ℕ) (at : ℕ) (some : length (decimal_body s m e) ≡ 0 → ⊥) (room : at + length (decimal_body s m e) ≤ length b) where
    exponent_bytes : List ℕ
    exponent_bytes = var_int_bytes (signed_of e)

    parts_length : length exponent_bytes + length (int_bytes s (trimmed m)) ≡ length (decimal_body s m e)
    unfolding exponent_bytes
    parts_length = sym (ap length (decimal_body_parts some) ∙ length-append (var_int_bytes (signed_of e)) (int_bytes s (trimmed m)))

    -- the exponent's call has room
    pub exponent_put : (l : List ℕ) → ◌≡◌ {A = Option ℕ × List ℕ} (None, l) (placed b at (var_int_bytes (signed_of e))) → ⊥
    unfolding exponent_bytes
    exponent_put l f = placed-room b at (var_int_bytes (signed_of e)) l (omega (arith, parts_length)) f

    module _ (n : ℕ) (l : List ℕ) (f : ◌≡◌ {A = Option ℕ × List ℕ} (Some n, l) (placed b at (var_int_bytes (signed_of e)))) where
      pub exponent_count : at + n ≤ length b
      unfolding exponent_bytes
      exponent_count = omega (arith, (placed-some b at (var_int_bytes (signed_of e)) n l f).0, (placed-some b at (var_int_bytes (signed_of e)) n l f).1)

      -- so has the coefficient's
      pub coefficient_put : (l' : List ℕ) → ◌≡◌ {A = Option ℕ × List ℕ} (None, l') (placed l (at + n) (int_bytes s (trimmed m))) → ⊥
      unfolding exponent_bytes
      coefficient_put l' g = let k = placed_then_none b at (var_int_bytes (signed_of e)) n l f (int_bytes s (trimmed m)) l' g in omega (arith, parts_length)

      module _ (k : ℕ) (l' : List ℕ) (g : ◌≡◌ {A = Option ℕ × List ℕ} (Some k, l') (placed l (at + n) (int_bytes s (trimmed m)))) where
        pub body_put : ◌≡◌ {A = Option ℕ × List ℕ} (Some (n + k), l') (placed b at (decimal_body s m e))
        body_put = rw (decimal_body_parts some) (placed_then b at (var_int_bytes (signed_of e)) n l f (int_bytes s (trimmed m)) k l' g)

        pub body_count : n + k ≡ length (decimal_body s m e)
        body_count = (placed-some b at (decimal_body s m e) (n + k) l' body_put).1

  -- ---- header and body, by the numbers that the code has of them

  module _ (b : List ℕ) (at body size : ℕ) (q : body ≡ length (decimal_body s m e)) (small : body ≤ 32) (k : size ≡ length (header_bytes 0 body)) where
    abbrev headed : List ℕ
    headed = header_bytes (type_byte decimal_code) body

    whole_length : size + body ≡ length (checked_bytes (write_decimal s m e))
    whole_length = value_length body q small size k

    has_bytes : written b at (checked_bytes (write_decimal s m e)) ≡ placed b at (checked_bytes (write_decimal s m e))
    has_bytes = written-some b at (checked_bytes (write_decimal s m e)) (omega (arith, whole_length, header_least 0 body, k))

    pub full : length b < at + (size + body) → ◌≡◌ {A = Option ℕ × List ℕ} (None, b) (written b at (checked_bytes (write_decimal s m e)))
    full h = sym (has_bytes ∙ placed_full b at (checked_bytes (write_decimal s m e)) (omega (arith, whole_length)))

    module _ (h : at + (size + body) ≤ length b) where
      pub header_put : (l : List ℕ) → ◌≡◌ {A = Option ℕ × List ℕ} (None, l) (placed b at headed) → ⊥
      header_put l f = no_header b at (type_byte decimal_code) (decimal_body s m e) l (rw (← q, ← k) h) (rw (← q) f)

      module _ (n : ℕ) (l : List ℕ) (f : ◌≡◌ {A = Option ℕ × List ℕ} (Some n, l) (placed b at headed)) where
        header_at : ◌≡◌ {A = Option ℕ × List ℕ} (Some n, l) (placed b at (header_bytes (type_byte decimal_code) (length (decimal_body s m e))))
        header_at = rw (← q) f

        pub behind : at + n + body ≤ length l
        behind = omega (arith, q, body_room b at (type_byte decimal_code) (decimal_body s m e) n l header_at (rw (← q, ← k) h))

        pub body_is_put : (l' : List ℕ) → ◌≡◌ {A = Option ℕ × List ℕ} (None, l') (placed l (at + n) (decimal_body s m e)) → ⊥
        body_is_put l' g = no_body b at (type_byte decimal_code) (decimal_body s m e) n l header_at (rw (← q, ← k) h) l' g

        module _ (r : ℕ) (l' : List ℕ) (g : ◌≡◌ {A = Option ℕ × List ℕ} (Some r, l') (placed l (at + n) (decimal_body s m e))) where
          pub whole : ◌≡◌ {A = Option ℕ × List ℕ} (Some (n + r), l') (written b at (checked_bytes (write_decimal s m e)))
          whole = rw (has_bytes, accepted body q small) (placed-framed b at (type_byte decimal_code) (decimal_body s m e) n l header_at r l' g)

          pub whole_count : n + r ≡ size + body
          whole_count = value_count b at (type_byte decimal_code) (decimal_body s m e) n l header_at r l' g ∙ rw (← q, ← k) refl
