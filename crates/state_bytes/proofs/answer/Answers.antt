-- `state_bytes::answer` meets its contract: each number is put where the slice holds it.
-- Assumes nothing.
use Rattle.std.proofs.Common.{ℕ, List, Option, ap}
use Rattle.state_bytes.proofs.Laws.{numbers_three}
use Rattle.state_bytes.proofs.answer.Goals as goal

pub returns : goal.returns
returns c =
    let a = c.args in
    numbers_three a.lent.now a.size a.members a.moved
    (rw c.four_bytes.ensures at (ap (λ (x : Option ℕ × List ℕ). x.1) c.copy.ensures))
    (rw c.four_bytes-2.ensures at (ap (λ (x : Option ℕ × List ℕ). x.1) c.copy-2.ensures))
    (rw c.four_bytes-3.ensures at (ap (λ (x : Option ℕ × List ℕ). x.1) c.copy-3.ensures))
