-- IEEE 754-2019, 3.4 "Binary interchange format encodings": the value of a bit pattern by its fields, the standard's cases a to e.
-- The definitions read floats by lib.Ieee; this is a second account, from the standard's words, and serves only the theorem that the two agree.
-- Assumes nothing.
use Rattle.std.specs.Prelude.{ℕ, zero, suc, ◌+◌, ◌-◌, ◌*◌, ◌^◌, ◌<◌, ◌≡◌, Bool, cond, eqb}
use Rattle.std.specs.Float.{Format, binary32, binary64}
use Rattle.ion.specs.Value.{FloatValue, not_anumber, infinite, finite}
use Rattle.ion.specs.Scalars.{float_of}

-- Table 3.5: the width w of the exponent field, and the width t of the trailing significand field
abbrev pub exponent_width : Format → ℕ
exponent_width binary32 = 8
exponent_width binary64 = 11

abbrev pub significand_width : Format → ℕ
significand_width binary32 = 23
significand_width binary64 = 52

-- Figure 3.1: the sign bit S, the biased exponent E and the trailing significand T, from the highest bit down
abbrev pub pattern : Format → Bool → ℕ → ℕ → ℕ
pattern f s e t = cond s 1 0 * 2 ^ (exponent_width f + significand_width f) + e * 2 ^ significand_width f + t

-- The least number above zero, 2 ^ (emin - t), in units of 2 ^ -1074: it is 2 ^ (-126 - 23) in binary32, 2 ^ (-1022 - 52) in binary64.
abbrev pub least_number : Format → ℕ
least_number binary32 = 2 ^ 925
least_number binary64 = 1

-- Cases d and e, E = 0: a subnormal number or zero, which is T least numbers. Case c, E above 0: a normal number, 2 ^ (E - bias) * (1 + T / 2 ^ t);
-- at E = 1 a part of 2 ^ t is one least number, and each step of E doubles it.
abbrev pub least_numbers : Format → ℕ → ℕ → ℕ
least_numbers f zero t = t
least_numbers f (suc e) t = (2 ^ significand_width f + t) * 2 ^ e

-- Cases a and b, E all ones: NaN, whatever S, where T is not 0, and else an infinity.
abbrev pub ieee_value : Format → Bool → ℕ → ℕ → FloatValue
ieee_value f s e t =
    cond (eqb e (2 ^ exponent_width f - 1)) (cond (eqb t 0) (infinite s) not_anumber) (finite s (least_numbers f e t * least_number f))

-- Each pattern of each format is read as its value.
abbrev pub FloatsByIeee : Type 0
FloatsByIeee =
    (f : Format) (s : Bool) (e t : ℕ) → e < 2 ^ exponent_width f → t < 2 ^ significand_width f
    → float_of f (pattern f s e t) ≡ ieee_value f s e t
