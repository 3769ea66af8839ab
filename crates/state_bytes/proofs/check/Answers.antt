-- `state_bytes::check` meets its contract: where it is no that none of the lines fails, one does, so that what `place::check` answers is its refusal.
-- Assumes nothing.
use Rattle.std.proofs.Common.{◌≡◌, ℕ, Bool, true, false, refl, sym, ap, ◌∙◌}
use Rattle.std.proofs.lemmas.Bool.{false≢true}
use Rattle.machine.specs.Machine.{accepted, place_verdict, is_accepted}
use Rattle.place.specs.Misplaced.{misplaced}
use Rattle.state_bytes.specs.StateBytes.{state_of, unfit_state}
use Rattle.state_bytes.proofs.Laws.{state_none, too_far}
use Rattle.state_bytes.proofs.check.Goals as goal
use Rattle.state_bytes.proofs.check.Goals.{in_default-via-in-Some+else-passes, in_default-via-in_default}

pub unreachable-requires : goal.unreachable-requires
unreachable-requires c =
    let s = state_of c.args.st.now in
    let passed : true ≡ is_accepted (place_verdict s c.args.room (misplaced c.args.call s)) = ap is_accepted c.in-Ok.ensures in
    elim c.in_default.branch [
      | in_default-via-in-Some+else-passes w ↦ false≢true (w.if-passes.ensures ∙ rw w.in-Some.ensures.cases.same (sym passed))
      | in_default-via-in_default w ↦
          let unfit : true ≡ is_accepted (place_verdict unfit_state c.args.room (misplaced c.args.call unfit_state)) =
          rw (state_none c.args.st.now w.in_default.ensures.cases) at passed in
          false≢true (too_far unfit_state c.args.room (misplaced c.args.call unfit_state) refl ∙ sym unfit)
    ]
