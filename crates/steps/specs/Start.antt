-- What a start answers and leaves, and what a taking hands back.
-- Assumes nothing.
use Rattle.std.specs.Prelude.{ℕ, List}
use Rattle.machine.specs.Machine.{config, no_figures, start_verdict, started, taken, Outcome}
use Rattle.machine.specs.declared.State.{State}

unfoldable pub start_run : List ℕ → Outcome
start_run b = record { verdict = start_verdict b; config = started b; figures = no_figures }

abbrev pub taken_from : State → List ℕ → List ℕ
taken_from s b = taken (config s b)
