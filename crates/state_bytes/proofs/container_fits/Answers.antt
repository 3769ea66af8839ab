-- `state_bytes::container_fits` meets its contract: the lines of the definition, the limit first.
-- Assumes nothing.
use Rattle.std.proofs.Common.{◌+◌, le-leb}
use borrow.Author.Tests.{lt-leb}
use mathlib.Core.Bool.{and-false, and-true}
use Rattle.machine.specs.Machine.{container_fits}
use Rattle.state_bytes.proofs.Laws.{within, apart, between}
use Rattle.state_bytes.proofs.container_fits.Goals as goal

pub returns-then-limit-header : goal.returns-then-limit-header
unfolding container_fits
returns-then-limit-header c =
    let h = c.get_four-header.result in
    let m = c.get_four-members.result in
    rw (← c.get_four-header.ensures, ← c.get_four-members.ensures)
    (simp (within (h + 2) m c.args.limit, lt-leb (h + 2 + m) c.args.limit c.if-limit-header.true, and-false))

pub returns-then-header-start : goal.returns-then-header-start
unfolding container_fits
returns-then-header-start c =
    rw (← c.get_four-header.ensures, ← c.get_four-start.ensures)
    (simp (between c.get_four-header.result c.get_four-start.result c.if-header-start.true, and-false))

pub returns : goal.returns
unfolding container_fits
returns c =
    let h = c.get_four-header.result in
    let m = c.get_four-members.result in
    rw (← c.get_four-header.ensures, ← c.get_four-start.ensures, ← c.get_four-members.ensures)
    (simp (
      c.is_code.ensures,
      apart h c.get_four-start.result c.if-header-start.false,
      within (h + 2) m c.args.limit,
      le-leb (h + 2 + m) c.args.limit c.if-limit-header.false,
      and-true,
    ))
