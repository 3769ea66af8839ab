-- `put_sid` puts the eight bytes of a sid, for which there is room. Assumes nothing.
use Prim.Native.Nat.{ℕ, ◌+◌, ◌≤◌}
use native.Mathlib.Omega.{arith}
use mathlib.Core.Path.{◌≡◌, ◌∙◌, ap, refl}
use mathlib.Core.List.{List, ◌++◌}
use lib.ListN.{length, take, length-append}
use lib.Seq.{take_all}
use Rattle.trial.specs.declared.run.TheConstants.{MOST_SIDS}
use Rattle.trial.proofs.run.Writer.put_sid.Goals as goal

eight : (most : ℕ) (s bytes t all : List ℕ) → length bytes ≡ 8 → t ≡ bytes → all ≡ take most (s ++ t) → length s + 8 ≤ most → all ≡ s ++ bytes
eight most s bytes t all size is whole room =
    whole ∙ take_all most (s ++ t) (omega (arith, length-append s t, ap length is)) ∙ ap (λ (l : List ℕ). s ++ l) is

pub returns : goal.returns
returns c = eight MOST_SIDS _ _ _ _ refl c.to_le_bytes.ensures c.append_array.ensures (omega (arith, c.requires))
