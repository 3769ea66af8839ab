-- The order of the one branch and of the other. By the laws of the two orders. Assumes nothing.
use mathlib.Core.Path.{◌≡◌}
use Prim.Native.Nat.{◌+◌, ◌-◌}
use native.Mathlib.Omega.{arith}
use Rattle.machine.proofs.Fit.{fit}
use Rattle.containers.specs.declared.Ending.{Ending}
use Rattle.containers.proofs.Wrapped.{moved-both, from_the_left, from_the_right}
use Rattle.containers.proofs.Ending.lay_wrapped.Goals as goal

-- the body lies behind the header's reserve, up to the end
up_to_end : (v : Ending) → v.c.header + 2 + (v.used - (v.c.header + 2)) ≡ v.used
up_to_end v = omega (arith, (fit v.c v.used v.fits).within)

pub returns-then-wrapper-lt-RESERVE-clause-moved : goal.returns-then-wrapper-lt-RESERVE-clause-moved
returns-then-wrapper-lt-RESERVE-clause-moved c =
    let a = c.args in
    let v = a.self.c in
    rw (up_to_end a.self) at (moved-both a.buf.now v.start v.header v.code (a.self.used - (v.header + 2)) a.inner a.wrapper c.requires.apart
    (omega (arith, up_to_end a.self)) c.requires.inner_size c.requires.wrapper_size c.move_bytes-body_moved.ensures.0 c.move_bytes-noted_moved.ensures.0)

pub returns-then-wrapper-lt-RESERVE-clause-bytes : goal.returns-then-wrapper-lt-RESERVE-clause-bytes
returns-then-wrapper-lt-RESERVE-clause-bytes c =
    let a = c.args in
    let v = a.self.c in
    rw (up_to_end a.self) at (from_the_left a.buf.now v.start v.header v.code (a.self.used - (v.header + 2)) a.inner a.wrapper c.requires.apart
    (omega (arith, up_to_end a.self)) c.requires.inner_size c.requires.wrapper_size c.requires.room c.if-wrapper-lt-RESERVE.true
    c.move_bytes-noted_moved.ensures.1 c.put_header.ensures c.move_bytes-body_moved.ensures.1 c.put_header-then-wrapper-lt-RESERVE.ensures)

pub returns-clause-moved : goal.returns-clause-moved
returns-clause-moved c =
    let a = c.args in
    let v = a.self.c in
    rw (up_to_end a.self) at (moved-both a.buf.now v.start v.header v.code (a.self.used - (v.header + 2)) a.inner a.wrapper c.requires.apart
    (omega (arith, up_to_end a.self)) c.requires.inner_size c.requires.wrapper_size c.move_bytes-body_moved-2.ensures.0 c.move_bytes-noted_moved-2.ensures.0)

pub returns-clause-bytes : goal.returns-clause-bytes
returns-clause-bytes c =
    let a = c.args in
    let v = a.self.c in
    rw (up_to_end a.self) at (from_the_right a.buf.now v.start v.header v.code (a.self.used - (v.header + 2)) a.inner a.wrapper c.requires.apart
    (omega (arith, up_to_end a.self)) c.requires.inner_size c.requires.wrapper_size c.requires.room c.if-wrapper-lt-RESERVE.false
    c.move_bytes-body_moved-2.ensures.1 c.put_header-2.ensures c.move_bytes-noted_moved-2.ensures.1 c.put_header-3.ensures)
