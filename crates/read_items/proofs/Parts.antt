-- A part of the bytes, as a call takes it and as the definitions name it.
-- Assumes nothing.
use Prim.Native.Nat.{ℕ, ◌+◌, ◌-◌, ◌≤◌}
use native.Mathlib.Omega.{arith}
use mathlib.Core.Path.{◌≡◌, sym, ◌∙◌, ap}
use mathlib.Core.List.{List}
use lib.ListN.{length, take, drop}
use lib.Seq.{slice, take-add, drop_at, length-take-le}

pub part_slice : (s : List ℕ) (from to : ℕ) → from ≤ to → to ≤ length s → take (to - from) (drop from s) ≡ slice from to s
part_slice s from to h k =
    let e : from + (to - from) ≡ to = omega arith in
    let p = drop_at (take from s) (take (to - from) (drop from s)) from (length-take-le from s (omega arith)) in
    sym p ∙ ap (drop from) (sym (take-add from (to - from) s) ∙ ap (λ (n : ℕ). take n s) e)
