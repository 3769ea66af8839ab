-- `Lines::put` puts the digits, for which there is room, and a line feed behind them. Assumes nothing.
use native.Mathlib.Omega.{arith}
use Rattle.every_small_value.proofs.Line.{line}
use Rattle.every_small_value.proofs.lines.Lines.put.Goals as goal

pub returns : goal.returns
returns c =
    line 65536 c.args.size.bytes c.args.number _ _ _ _ c.args.size.small (omega (arith, c.requires)) c.spell.ensures c.append_hex.ensures c.append.ensures
