-- `print_size` ends: each turn the number that is asked from rises. Assumes nothing.
use Rattle.std.proofs.Common.{◌-◌}
use Rattle.small_values.specs.Listing.{limit}
use Rattle.every_small_value.proofs.print_size.Given as goal

abbrev pub decreases-loop-number : goal.decreases-loop-number
decreases-loop-number g l = limit l.size.bytes - l.from
