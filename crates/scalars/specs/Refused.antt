-- Why a scalar that may stand where it stands is not written: the first of its own checks that fails, or 10.
-- Assumes nothing.
use Rattle.std.specs.Prelude.{true, [], ◌∷◌, ◌++◌}
use Rattle.encoding.specs.Argument.{Argument, argument_checks}
use Rattle.machine.specs.Machine.{Verdict, first_failing}

unfoldable pub own_refusal : Argument → Verdict
own_refusal a = first_failing (argument_checks a ++ ((true, 10) ∷ []))
