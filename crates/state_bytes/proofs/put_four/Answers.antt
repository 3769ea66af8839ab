-- `state_bytes::put_four` meets its contract: the part is the number's bytes.
-- Assumes nothing.
use Rattle.std.proofs.Common.{◌≡◌, ◌+◌, ◌-◌, refl}
use native.Mathlib.Omega.{arith}
use Rattle.std.proofs.lemmas.List.{drop-drop}
use Rattle.buffer.specs.Laid.{laid}
use Rattle.state_bytes.proofs.put_four.Goals as goal

pub returns : goal.returns
unfolding laid
returns c =
    let e : c.args.at + 4 - c.args.at ≡ 4 = omega arith in
    rw (e, c.copy_from_slice.ensures.after, c.four_bytes.ensures, drop-drop, laid) refl
