-- Which f64 values go out in four bytes: document 01's "an f64 that binary32 holds exactly", said by values and not by bits.
-- Assumes nothing.
use Rattle.std.specs.Prelude.{ℕ, ◌^◌, ◌<◌, ◌≡◌, true, ◌↔◌}
use Rattle.std.specs.Float.{binary32, binary64}
use Rattle.ion.specs.Value.{not_anumber}
use Rattle.ion.specs.Scalars.{float_of}
use Rattle.encoding.specs.Argument.{narrows}

-- the f64 of the bits b is no NaN, and some binary32 has its value
abbrev pub HasBinary32 : ℕ → Type 0
HasBinary32 b = (float_of binary64 b ≡ not_anumber → ⊥) × ((n : ℕ) × (n < 2 ^ 32) × (float_of binary32 n ≡ float_of binary64 b))

-- Those and no others are narrowed.
abbrev pub NarrowsExactly : Type 0
NarrowsExactly = (b : ℕ) → (narrows b ≡ true) ↔ HasBinary32 b
