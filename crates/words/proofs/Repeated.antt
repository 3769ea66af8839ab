-- A repeat has its length by the law of repeats, since to compute it would walk the whole array.
-- Assumes nothing.
use mathlib.Core.Path.{◌≡◌, sym}
use Prim.Native.Nat.{ℕ}
use lib.ListN.{length, replicate, length-replicate}

pub repeated : (n a : ℕ) → n ≡ length (replicate n a)
repeated n a = sym (length-replicate n a)
