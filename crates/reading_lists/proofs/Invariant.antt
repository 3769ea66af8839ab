-- What every accepted call keeps holds after every list of calls: a refused call changes neither the state nor what is spelled.
-- Assumes nothing.
use mathlib.Core.Path.{◌≡◌, refl}
use mathlib.Core.List.{List, [], ◌∷◌}
use Rattle.encoding.specs.Argument.{Argument}
use Rattle.encoding.proofs.Writable.{NoneHolds}
use Rattle.machine.specs.Call.{Call}
use Rattle.machine.specs.Machine.{Config, effect, checks, Verdict, accepted, refused, verdict, is_accepted, if_accepted, after}
use Rattle.machine.specs.Model.{Model, spell, model_step}
use Rattle.machine.specs.Demands.{model_after}
use Rattle.machine.proofs.Steps.{none_failing}

-- with `f` for the leaves
module _ {S : Type 0} (f : Argument → S) (Kept : Config → Model S → Type 0)
    (keeps : (w : Config) (x : Model S) (c : Call) → Kept w x → NoneHolds (checks c w) → Kept (effect c w) (spell f c x)) where
  call_keeps : (w : Config) (x : Model S) (c : Call) → Kept w x → Kept (after c w) (model_step f c (is_accepted (verdict c w)) x)
  call_keeps w x c h = by_verdict (verdict c w) refl
    where
      by_verdict : (v : Verdict) → verdict c w ≡ v → Kept (if_accepted v (effect c w) w) (model_step f c (is_accepted v) x)
      by_verdict accepted e = keeps w x c h (none_failing (checks c w) (unfold verdict in e))
      by_verdict (refused n) e = h

  -- and the state that the list leaves
  pub list_keeps : (cs : List Call) (w : Config) (x : Model S) → Kept w x → (v : Config) × Kept v (model_after f cs w x)
  unfolding model_after
  list_keeps [] w x h = (w, h)
  list_keeps (c ∷ cs) w x h = list_keeps cs (after c w) (model_step f c (is_accepted (verdict c w)) x) (call_keeps w x c h)
