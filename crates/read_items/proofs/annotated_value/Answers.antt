-- Sids that are whole and end within the wrapper, and the value behind them. Assumes nothing.
use Rattle.std.proofs.Common.{sym, ◌∙◌, arith, ◌+◌, length, refl}
use borrow.Author.Tests.{le-leb}
use Rattle.read_items.proofs.Parts.{part_slice}
use Rattle.read_items.proofs.annotated_value.Goals as goal

pub returns-then-are_sids : goal.returns-then-are_sids
returns-then-are_sids c =
    let a = c.args in
    let p = part_slice a.s.now a.sum.next (a.sum.next + a.sum.value) (omega arith) (omega arith) in
    c.wrapped_value.ensures
    ∙ rw (le-leb 1 a.sum.value (omega arith), le-leb (a.sum.next + a.sum.value) (length a.s.now) (omega arith), ← p, sym c.are_sids.ensures, c.if-are_sids.true) refl
