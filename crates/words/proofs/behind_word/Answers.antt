-- `behind_word` passes the first space, or all where there is none. Assumes nothing.
use Rattle.std.proofs.Common.{rules, tests, arith, ◌≡◌, ◌+◌, ◌-◌, ◌==◌, ◌∙◌, sym, ap, ℕ, length, drop}
use Rattle.std.specs.List.{position}
use Rattle.std.proofs.lemmas.Iterator.{YieldsList-from_slice}
use Rattle.std.proofs.lemmas.Iterator.Search.{position_from_yields_List}
use lib.Seq.{take_all}
use lib.ListN.{length-drop, drop_of_length-le}
use Rattle.words.proofs.Words.{found, not_found}
use Rattle.words.proofs.behind_word.Goals as goal

pub returns-in-Some : goal.returns-in-Some
returns-in-Some c =
    let s = c.args.text.now in
    let e : c.position.result ≡ position (λ (b : ℕ). b == 32) s =
    position_from_yields_List (λ (b : ℕ). b == 32) _ _ c.position.result c.position.ensures.ran (YieldsList-from_slice s cc) (λ x b q k. search (rules, tests)) in
    let at = found (λ (b : ℕ). b == 32) s c.in-Some.end (sym e ∙ c.in-Some.is) in
    take_all (length s - (c.in-Some.end + 1)) (drop (c.in-Some.end + 1) s) (omega (arith, length-drop (c.in-Some.end + 1) s)) ∙ ap (λ n. drop (n + 1) s) (sym at)

pub returns-in-None : goal.returns-in-None
returns-in-None c =
    let s = c.args.text.now in
    let e : c.position.result ≡ position (λ (b : ℕ). b == 32) s =
    position_from_yields_List (λ (b : ℕ). b == 32) _ _ c.position.result c.position.ensures.ran (YieldsList-from_slice s cc) (λ x b q k. search (rules, tests)) in
    let h = not_found (λ (b : ℕ). b == 32) s (sym e ∙ c.in-None.is) in
    sym (drop_of_length-le s (omega arith))
