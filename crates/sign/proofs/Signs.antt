-- The test by which a number is below zero.
-- By its constructors. Assumes nothing.
use mathlib.Core.Path.{◌≡◌, refl}
use mathlib.Core.Bool.{not}
use native.Mathlib.Omega.{arith}
use lib.IntN.{ℤ, pos, negsuc}
use lib.Signed.{lt_z, non_neg}
use borrow.Author.Tests.{le-ltb}

pub below-zero : (z : ℤ) → lt_z z (pos 0) ≡ not (non_neg z)
below-zero (pos n) = le-ltb n 0 (omega arith)
below-zero (negsuc n) = refl
