-- The OR of all bytes is below 80 where each byte is. Assumes nothing.
use Rattle.std.proofs.Common.{◌≡◌, bit_or, rules}
use Rattle.std.specs.List.{fold}
use Rattle.text.proofs.Ascii.{fold_ascii}
use Rattle.text.proofs.is_ascii.Goals as goal

pub returns : goal.returns
returns c = let s = c.args.s.now in
    let e : c.fold.result ≡ fold bit_or 0 s = search rules in
    rw e (fold_ascii 0 s)
