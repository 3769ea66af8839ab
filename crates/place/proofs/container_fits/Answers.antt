-- `place::container_fits` meets its contract: the differences that it tests are the definition's sums.
-- Assumes nothing.
use Prim.Native.Nat.{◌+◌, ◌-◌}
use native.Mathlib.Omega.{arith}
use mathlib.Core.Path.{◌≡◌}
use mathlib.Core.Bool.{and-false, and_assoc, or_assoc}
use borrow.Author.Tests.{le-leb, lt-leb, ne_eqb}
use Rattle.machine.specs.Machine.{container_fits}
use Rattle.buffer.proofs.Laid.{leb_iff}
use Rattle.place.proofs.Laws.{same_eqb}
use Rattle.place.proofs.container_fits.Goals as goal

pub returns-then-header-start : goal.returns-then-header-start
unfolding container_fits
returns-then-header-start c = let a = c.args in
    simp (lt-leb (a.c.start + 4) a.c.header (omega arith), ne_eqb a.c.header a.c.start (λ e. omega arith), and-false)

pub returns-then-limit-header : goal.returns-then-limit-header
unfolding container_fits
returns-then-limit-header c = let a = c.args in
    simp (lt-leb (a.c.header + 2) a.limit (omega arith), and-false)

pub returns-then-held-lt2 : goal.returns-then-held-lt2
unfolding container_fits
returns-then-held-lt2 c = let a = c.args in
    simp (lt-leb (a.c.header + 2) a.limit (omega arith), and-false)

pub returns : goal.returns
unfolding container_fits
returns c = let a = c.args in
    let left : a.limit - a.c.header - 2 ≡ a.limit - (a.c.header + 2) = omega arith in
    simp (
      le-leb (a.c.header + 2) a.limit (omega arith),
      left,
      leb_iff 4 (a.c.header - a.c.start) (a.c.start + 4) a.c.header (λ h. omega arith) (λ h. omega arith),
      same_eqb (a.c.header - a.c.start) 0 a.c.header a.c.start (λ h. omega arith) (λ h. omega arith),
      and_assoc,
      or_assoc,
    )
