-- `place::check` meets its contract: each return is the first line that fails.
-- Assumes nothing.
use Rattle.std.proofs.Common.{true, false}
use borrow.Author.Tests.{lt-ltb, le-ltb}
use Rattle.machine.specs.Machine.{longest_buffer, place_verdict}
use Rattle.place.proofs.Laws.{placed_by}
use Rattle.place.proofs.check.Goals as goal

pub returns-then-room-gt-LONGEST_BUFFER : goal.returns-then-room-gt-LONGEST_BUFFER
unfolding place_verdict
returns-then-room-gt-LONGEST_BUFFER g c = rw (lt-ltb longest_buffer c.args.room c.if-room-gt-LONGEST_BUFFER.true)

pub returns-then-not-state_fits : goal.returns-then-not-state_fits
unfolding place_verdict
returns-then-not-state_fits g c =
    rw (le-ltb longest_buffer c.args.room c.if-room-gt-LONGEST_BUFFER.false, ← c.state_fits.ensures, c.if-not-state_fits.true)

pub returns-then-is_misplaced : goal.returns-then-is_misplaced
returns-then-is_misplaced g c =
    placed_by c.args.call (g.S.Standing.state c.args.s.now) c.args.room c.depth-depth.result c.in_struct.result c.waits.result true
    c.if-room-gt-LONGEST_BUFFER.false (rw c.if-not-state_fits.false at c.state_fits.ensures) c.depth-depth.ensures c.in_struct.ensures c.waits.ensures
    (rw c.if-is_misplaced.true at c.is_misplaced.ensures)

pub returns : goal.returns
returns g c =
    placed_by c.args.call (g.S.Standing.state c.args.s.now) c.args.room c.depth-depth.result c.in_struct.result c.waits.result false
    c.if-room-gt-LONGEST_BUFFER.false (rw c.if-not-state_fits.false at c.state_fits.ensures) c.depth-depth.ensures c.in_struct.ensures c.waits.ensures
    (rw c.if-is_misplaced.false at c.is_misplaced.ensures)
