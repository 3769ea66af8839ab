-- `containers::open` meets its contract: no bytes are no annotations, and any bytes are some.
-- Assumes nothing.
use mathlib.Core.Path.{◌≡◌, refl, sym, ◌∙◌, ap}
use mathlib.Core.List.{List, [], ◌∷◌, ◌++◌}
use Prim.Native.Nat.{ℕ}
use native.Mathlib.Omega.{arith}
use borrow.Author.Tests.{eqb-true, eqb-false}
use lib.ListN.{length}
use Rattle.encoding.specs.Headers.{annotation_bytes}
use Rattle.machine.specs.Machine.{reserve}
use Rattle.buffer.specs.Laid.{placed}
use Rattle.annotations.specs.Sids.{sids_of}
use Rattle.annotations.proofs.Sids.{sids_none, sids_some}
use Rattle.containers.proofs.open.Goals as goal

-- with annotations
reserve-some : (an : List ℕ) (a : ℕ) (an' : List ℕ) → an ≡ a ∷ an' → 0 ∷ 0 ∷ (annotation_bytes an ++ (0 ∷ 0 ∷ [])) ≡ reserve an
reserve-some an a an' e = rw e refl

pub returns-then-is_empty : goal.returns-then-is_empty
returns-then-is_empty c = let a = c.args in
    c.copy.ensures
    ∙ ap (λ (an : List ℕ). placed a.buf.now a.at (reserve an))
    (sym (sids_none a.annotations.now (eqb-true (length a.annotations.now) 0 (sym c.is_empty.ensures ∙ c.if-is_empty.true))))

pub returns : goal.returns
returns c = let a = c.args in
    let some = eqb-false (length a.annotations.now) 0 (sym c.is_empty.ensures ∙ c.if-is_empty.false) in
    let s = sids_some a.annotations.now (omega (arith, some)) in
    c.open_annotated.ensures ∙ ap (placed a.buf.now a.at) (reserve-some (sids_of a.annotations.now) s.0 s.1 s.2)
