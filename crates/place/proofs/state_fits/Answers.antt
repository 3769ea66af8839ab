-- `place::state_fits` meets its contract: each return is the first of the definition's tests that fails, and what is left is whether the containers fit.
-- Assumes nothing.
use Rattle.std.proofs.Common.{sym}
use Rattle.place.proofs.Laws.{fits_overused, fits_overopen, fits_nameless, fits_containers}
use Rattle.place.proofs.state_fits.Goals as goal

pub returns-then-room-used : goal.returns-then-room-used
returns-then-room-used g c =
    let s = g.S.Standing.state c.args.s.now in
    fits_overused s c.args.room (rw (← c.used-used.ensures) c.if-room-used.true)

pub returns-then-depth-gt-MOST_OPEN : goal.returns-then-depth-gt-MOST_OPEN
returns-then-depth-gt-MOST_OPEN g c =
    let s = g.S.Standing.state c.args.s.now in
    fits_overopen s c.args.room (rw (← c.used-used.ensures) c.if-room-used.false) (rw (← c.depth-depth.ensures) c.if-depth-gt-MOST_OPEN.true)

pub returns-then-waits-in_struct : goal.returns-then-waits-in_struct
returns-then-waits-in_struct g c =
    let s = g.S.Standing.state c.args.s.now in
    fits_nameless s c.args.room (rw (← c.used-used.ensures) c.if-room-used.false) (rw (← c.depth-depth.ensures) c.if-depth-gt-MOST_OPEN.false)
    (rw (← c.depth-depth.ensures, ← c.waits.ensures, ← c.in_struct.ensures) c.if-waits-in_struct.true)

pub returns : goal.returns
returns g c =
    let s = g.S.Standing.state c.args.s.now in
    rw (c.containers_fit.ensures, c.used-used.ensures, c.depth-depth.ensures) (sym (fits_containers s c.args.room
    (rw (← c.used-used.ensures) c.if-room-used.false) (rw (← c.depth-depth.ensures) c.if-depth-gt-MOST_OPEN.false)
    (rw (← c.depth-depth.ensures, ← c.waits.ensures, ← c.in_struct.ensures) c.if-waits-in_struct.false)))
