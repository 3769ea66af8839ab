-- The body of a timestamp whose numbers are small: how many bytes it has, and that they are 18 at most.
-- By the bytes of each part. Assumes nothing.
use Prim.Native.Nat.{ℕ, ◌+◌, ◌-◌, ◌%◌, ◌≤◌, ◌<◌}
use native.Mathlib.Omega.{arith}
use native.Mathlib.Nat.{mod-eq_of_lt}
use mathlib.Core.Path.{◌≡◌}
use mathlib.Core.Bool.{true, false}
use mathlib.Core.List.{List, ◌++◌, append_assoc}
use mathlib.Core.Option.{Option, none, some}
use lib.ListN.{length, length-append}
use lib.IntN.{ℤ}
use Rattle.ion.specs.Value.{signed, Fraction, no_fraction, fraction}
use Rattle.std.specs.Prelude.{Some, None}
use Rattle.std.specs.Prelude.{Option as RustOption}
use Rattle.buffer.specs.Laid.{placed}
use Rattle.encoding.specs.Fields.{var_uint_bytes, var_uints_bytes, var_int_bytes, uint_bytes, int_bytes}
use Rattle.encoding.specs.Timestamp.{offset_bytes, fraction_bytes}
use Rattle.encoding.proofs.Fractions.{fraction_bytes_is, digits-most}
use Rattle.encoding.proofs.Sizes.{length-var_int_sign}
use Rattle.encoding.proofs.TimestampLength.{unknown_most, known_most, year_most}
use Rattle.timestamp.proofs.Runs.{first_put, second_room, second_put, both_put}
use Rattle.timestamp.specs.declared.Timestamp.{Timestamp}
use Rattle.timestamp.specs.Arguments.{offset_minutes, fraction_digits, field_count, fields_of}
use Rattle.timestamp.specs.Small.{SmallOffset, SmallFraction, Small, body_of}
use Rattle.timestamp.proofs.Fields.{field_count_between, small_year, length_of_fields}

-- ---- each part

offset_most : (o : Option ℤ) → SmallOffset o → length (offset_bytes o) ≤ 2
offset_most none h = unknown_most
offset_most (some z) h = known_most z h

fraction_most : (x : Fraction) → SmallFraction x → length (fraction_bytes x) ≤ 9
fraction_most no_fraction h = omega arith
fraction_most (fraction k c) h = digits-most k c h.0 h.1 h.2

-- ---- the body

module _ (t : Timestamp) where
  -- how many fields there are below the year
  abbrev pub below_count : ℕ
  below_count = field_count t.precision - 1

  module _ (h : Small t) where
    pub year_small : t.year < 16384
    year_small = small_year t h.1

    pub fields-length : length (var_uints_bytes (fields_of t)) ≡ length (var_uint_bytes t.year) + below_count
    fields-length = length_of_fields t h.1

    pub body-length : length (body_of t)
        ≡ length (offset_bytes (offset_minutes t.offset))
        + (length (var_uint_bytes t.year) + below_count + length (fraction_bytes (fraction_digits t.fraction)))
    unfolding body_of
    body-length = simp length-append (rw fields-length)

    -- each part, and what they are at most in all
    pub offset_within : length (offset_bytes (offset_minutes t.offset)) ≤ 2
    offset_within = offset_most (offset_minutes t.offset) h.0

    pub year_within : length (var_uint_bytes t.year) ≤ 2
    year_within = year_most t.year year_small

    pub fraction_within : length (fraction_bytes (fraction_digits t.fraction)) ≤ 9
    fraction_within = fraction_most (fraction_digits t.fraction) h.2

    pub body-most : length (body_of t) ≤ 18
    body-most = rw body-length (omega (arith, offset_within, year_within, field_count_between t.precision, fraction_within))

-- ---- put one part behind the other

-- the exponent and the coefficient of a fraction
module _ (b : List ℕ) (at k x : ℕ) (s : SmallFraction (fraction k x)) (h : at + length (fraction_bytes (fraction k x)) ≤ length b) where
  abbrev exponent : List ℕ
  exponent = var_int_bytes (signed true k)

  abbrev coefficient : List ℕ
  coefficient = int_bytes false (uint_bytes x)

  parts : fraction_bytes (fraction k x) ≡ exponent ++ coefficient
  parts = fraction_bytes_is k x s.0

  room : at + (length exponent + length coefficient) ≤ length b
  room = rw (← length-append exponent coefficient, ← parts) h

  -- the code takes the exponent's lowest six bits, which are all
  exponent_is : (r : RustOption ℕ) (l : List ℕ) → ◌≡◌ {A = RustOption ℕ × List ℕ} (r, l) (placed b at (var_int_bytes (signed true (k % 64))))
      → ◌≡◌ {A = RustOption ℕ × List ℕ} (r, l) (placed b at exponent)
  exponent_is r l e = rw (mod-eq_of_lt s.1) at e

  pub no_exponent : (l : List ℕ) → ◌≡◌ {A = RustOption ℕ × List ℕ} (None, l) (placed b at (var_int_bytes (signed true (k % 64)))) → ⊥
  no_exponent l e = first_put b at exponent coefficient room l (exponent_is None l e)

  module _ (n : ℕ) (l : List ℕ) (e : ◌≡◌ {A = RustOption ℕ × List ℕ} (Some n, l) (placed b at (var_int_bytes (signed true (k % 64))))) where
    pub coefficient_room : at + n + length coefficient ≤ length b
    coefficient_room = let r = second_room b at exponent coefficient room n l (exponent_is (Some n) l e) in omega (arith, r.0, r.1)

    pub no_coefficient : (l' : List ℕ) → ◌≡◌ {A = RustOption ℕ × List ℕ} (None, l') (placed l (at + n) coefficient) → ⊥
    no_coefficient = second_put b at exponent coefficient room n l (exponent_is (Some n) l e)

    pub fraction_put : (m : ℕ) (l' : List ℕ) → ◌≡◌ {A = RustOption ℕ × List ℕ} (Some m, l') (placed l (at + n) coefficient)
        → (◌≡◌ {A = RustOption ℕ × List ℕ} (Some (n + m), l') (placed b at (fraction_bytes (fraction k x)))) × (at + (n + m) ≤ length b)
    fraction_put m l' f =
        let w = both_put b at exponent coefficient room n l (exponent_is (Some n) l e) m l' f in
        (rw parts w.0, omega (arith, w.1, room))

-- the offset, the fields and the fraction of a timestamp
module _ (b : List ℕ) (at : ℕ) (t : Timestamp) (h : at + length (body_of t) ≤ length b) where
  abbrev offset_part : List ℕ
  offset_part = offset_bytes (offset_minutes t.offset)

  abbrev fields_part : List ℕ
  fields_part = var_uints_bytes (fields_of t)

  abbrev fraction_part : List ℕ
  fraction_part = fraction_bytes (fraction_digits t.fraction)

  body_room : at + (length offset_part + (length fields_part + length fraction_part)) ≤ length b
  unfolding body_of
  body_room = simp length-append at h

  two_room : at + (length offset_part + length fields_part) ≤ length b
  two_room = omega (arith, body_room)

  all_room : at + (length (offset_part ++ fields_part) + length fraction_part) ≤ length b
  all_room = rw (length-append offset_part fields_part) (omega (arith, body_room))

  pub no_offset : (l : List ℕ) → ◌≡◌ {A = RustOption ℕ × List ℕ} (None, l) (placed b at offset_part) → ⊥
  no_offset = first_put b at offset_part fields_part two_room

  module _ (n : ℕ) (l : List ℕ) (e : ◌≡◌ {A = RustOption ℕ × List ℕ} (Some n, l) (placed b at offset_part)) where
    pub fields_room : (at + n + length fields_part ≤ length l) × (length l ≡ length b)
    fields_room = second_room b at offset_part fields_part two_room n l e

    pub no_fields : (l' : List ℕ) → ◌≡◌ {A = RustOption ℕ × List ℕ} (None, l') (placed l (at + n) fields_part) → ⊥
    no_fields = second_put b at offset_part fields_part two_room n l e

    module _ (m : ℕ) (l' : List ℕ) (f : ◌≡◌ {A = RustOption ℕ × List ℕ} (Some m, l') (placed l (at + n) fields_part)) where
      two_put : ◌≡◌ {A = RustOption ℕ × List ℕ} (Some (n + m), l') (placed b at (offset_part ++ fields_part))
      two_put = (both_put b at offset_part fields_part two_room n l e m l' f).0

      pub fraction_room : (at + (n + m) + length fraction_part ≤ length l') × (length l' ≡ length b)
      fraction_room = second_room b at (offset_part ++ fields_part) fraction_part all_room (n + m) l' two_put

      -- p is the place where the fraction is put
      module _ (p : ℕ) (q : p ≡ at + (n + m)) where
        pub no_fraction_put : (l'' : List ℕ) → ◌≡◌ {A = RustOption ℕ × List ℕ} (None, l'') (placed l' p fraction_part) → ⊥
        no_fraction_put l'' g = second_put b at (offset_part ++ fields_part) fraction_part all_room (n + m) l' two_put l'' (rw q at g)

        pub body_put : (k : ℕ) (l'' : List ℕ) → ◌≡◌ {A = RustOption ℕ × List ℕ} (Some k, l'') (placed l' p fraction_part)
            → (◌≡◌ {A = RustOption ℕ × List ℕ} (Some (n + m + k), l'') (placed b at (body_of t))) × (at + (n + m + k) ≤ length b)
        unfolding body_of
        body_put k l'' g =
            let w = both_put b at (offset_part ++ fields_part) fraction_part all_room (n + m) l' two_put k l'' (rw q at g) in
            (rw (append_assoc offset_part fields_part fraction_part) at w.0, omega (arith, w.1, all_room))

-- what the size of a body needs
pub ruleset body_parts = (offset_within, year_within, field_count_between, fraction_within, body-length, length-var_int_sign)
