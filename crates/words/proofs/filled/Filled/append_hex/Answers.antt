-- `Filled::append_hex` puts two digits for each byte behind the bytes in use, where there is room. Assumes nothing.
use Rattle.std.proofs.Common.{◌∙◌, ap, ◌+◌, List, ℕ, take}
use Rattle.words.specs.Hex.{with_hex}
use native.Mathlib.Omega.{arith}
use Rattle.words.proofs.InUse.{append_digits, digits_within}
use Rattle.words.proofs.filled.Filled.append_hex.Goals as goal

pub returns : goal.returns
returns g c =
    let q = c.self.inside in
    let s = c.args.bytes.now in
    ap (λ (k : ℕ). take (q.used + k) c.put.new.out) c.unwrap_or.ensures
    ∙ (append_digits g.row.N q.used q.bytes s c.self.invariant c.self.told c.put.result c.put.new.out c.put.ensures.0
    ∙ ap (λ (l : List ℕ). with_hex g.row.N l s) c.self.view_is)

pub overflow_add-self : goal.overflow_add-self
overflow_add-self g c =
    let q = c.self.inside in
    omega (arith, c.unwrap_or.ensures, g.N.fits, digits_within g.row.N q.used q.bytes c.args.bytes.now c.self.invariant c.self.told c.put.result c.put.new.out c.put.ensures.0)

pub invariant_of-self : goal.invariant_of-self
invariant_of-self g c =
    let q = c.self.inside in
    omega (arith, c.unwrap_or.ensures, digits_within g.row.N q.used q.bytes c.args.bytes.now c.self.invariant c.self.told c.put.result c.put.new.out c.put.ensures.0)
