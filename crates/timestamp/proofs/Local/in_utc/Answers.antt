-- `Local::in_utc` meets its contract: the local rules admit a known offset only with the minute given.
-- Assumes nothing.
use Rattle.std.proofs.Common.{◌≡◌, ◌∙◌, rules}
use mir.Syntax.{w32}
use mir.Val.{of_z, to_z}
use Rattle.timestamp.proofs.Valid.{known}
use Rattle.timestamp.proofs.UtcFields.{utc_known}
use Rattle.timestamp.proofs.Local.in_utc.Goals as goal

pub utc_minutes-requires : goal.utc_minutes-requires
utc_minutes-requires c =
    let z = c.in-Some.offset in
    let k = known c.args.self.t c.args.self.keeps z c.in-Some.is in
    let kept : to_z w32 (of_z w32 z) ≡ z = search rules in
    rw kept (k.1, k.2, k.3)

pub returns-in-Some : goal.returns-in-Some
returns-in-Some c =
    let z = c.in-Some.offset in
    let k = known c.args.self.t c.args.self.keeps z c.in-Some.is in
    let kept : to_z w32 (of_z w32 z) ≡ z = search rules in
    c.at_minute.ensures ∙ rw (c.utc_minutes.ensures, kept) (utc_known c.args.self.t z c.in-Some.is k.0)
