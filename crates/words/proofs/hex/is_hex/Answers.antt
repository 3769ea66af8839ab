-- `hex::is_hex` is yes of one digit or more, all of them digits.
-- Assumes nothing.
use Rattle.std.proofs.Common.{rules, tests, ℕ, ◌≡◌, ◌<◌, ◌∙◌, ap, length}
use Rattle.std.specs.Prelude.{is_some, not}
use Rattle.std.proofs.lemmas.Iterator.{YieldsList-from_slice}
use Rattle.std.proofs.lemmas.Iterator.Search.{all_from_yields_List}
use Rattle.words.specs.Hex.{hex_digit}
use Rattle.words.proofs.HexDigits.{hex_some, hex_none}
use Rattle.words.proofs.hex.is_hex.Goals as goal

pub returns-then-not-is_empty : goal.returns-then-not-is_empty
returns-then-not-is_empty c =
    let s = c.args.word.now in
    let h : 0 < length s = search rules in
    all_from_yields_List (λ (b : ℕ). is_some (hex_digit b)) _ _ c.all.result c.all.ensures.ran (YieldsList-from_slice s cc) (λ x b q k. search (rules, tests))
    ∙ hex_some s h

pub returns-else-not-is_empty : goal.returns-else-not-is_empty
returns-else-not-is_empty c =
    let h : length c.args.word.now ≡ 0 = search rules in
    ap not c.if-not-is_empty.false ∙ hex_none c.args.word.now h
