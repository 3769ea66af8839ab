-- `Filled::append` puts as many bytes as there is room for behind those in use. Assumes nothing.
use Rattle.std.proofs.Common.{◌∙◌, ap, ◌++◌, List, ℕ, take}
use Rattle.words.proofs.InUse.{append_some}
use Rattle.words.proofs.filled.Filled.append.Goals as goal

pub returns : goal.returns
returns g c =
    append_some g.row.N c.self.inside.used c.self.inside.bytes c.args.bytes.now c.self.invariant c.self.told c.min-count.result _ _ c.min-count.ensures
    c.copy_from_slice.ensures.after
    ∙ ap (λ (l : List ℕ). take g.row.N (l ++ c.args.bytes.now)) c.self.view_is
