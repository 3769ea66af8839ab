-- The bytes of a scalar call with its annotations.
-- Assumes nothing.
use Rattle.std.specs.Prelude.{ℕ, true, false, List, []}
use Rattle.encoding.specs.Headers.{annotated_bytes}
use Rattle.encoding.specs.Argument.{Argument, argument_bytes, argument_checks, any_holds}

-- The annotated bytes of a scalar whose own checks pass, and none otherwise; with no annotations, `checked_bytes`.
unfoldable pub annotated_checked : List ℕ → Argument → List ℕ
annotated_checked an a = elim (any_holds (argument_checks a)) [ true ↦ [] | false ↦ annotated_bytes an (argument_bytes a) ]
