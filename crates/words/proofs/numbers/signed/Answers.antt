-- `numbers::signed` answers the magnitude, negated behind a minus, which 64 bits hold.
-- Assumes nothing.
use Rattle.std.proofs.Common.{rules, arith, ◌≡◌, ◌≤◌, ◌∙◌, sym, ap, pos, neg_ℤ, ℕ}
use Rattle.std.specs.Prelude.{Some, None, option_map}
use mir.Syntax.{w64}
use mir.ValLaws.{to_z_pos, to_z-of_z}
use Rattle.words.proofs.Digits.{signed_minus, signed_plain}
use Rattle.words.proofs.numbers.signed.Goals as goal

pub returns-in_err-natural : goal.returns-in_err-natural
returns-in_err-natural c = let a = c.args in
    let f : c.from_residual.result ≡ None = search rules in
    let n : None ≡ c.natural.result = search rules in
    f ∙ (ap (option_map (λ (k : ℕ). neg_ℤ (pos k))) n
    ∙ signed_minus a.most a.word.now _ _ (sym c.if-has_minus.true ∙ c.has_minus.ensures) c.magnitude.ensures c.natural.ensures.value)

pub returns-then-has_minus : goal.returns-then-has_minus
returns-then-has_minus c = let a = c.args in
    let n : Some c.in_ok-natural.field-0 ≡ c.natural.result = search rules in
    ap Some (to_z-of_z w64 c.negated.result (record { sfits = c.negated.type_inv }) ∙ c.negated.ensures)
    ∙ (ap (option_map (λ (k : ℕ). neg_ℤ (pos k))) n
    ∙ signed_minus a.most a.word.now _ _ (sym c.if-has_minus.true ∙ c.has_minus.ensures) c.magnitude.ensures c.natural.ensures.value)

pub returns-in_err-natural-2 : goal.returns-in_err-natural-2
returns-in_err-natural-2 c = let a = c.args in
    let f : c.from_residual-in_err-natural-2.result ≡ None = search rules in
    let n : None ≡ c.natural-2.result = search rules in
    f ∙ (ap (option_map pos) n ∙ signed_plain a.most a.word.now _ (sym c.if-has_minus.false ∙ c.has_minus.ensures) c.natural-2.ensures.value)

pub returns : goal.returns
returns c = let a = c.args in
    let n : Some c.in_ok-natural-2.field-0 ≡ c.natural-2.result = search rules in
    let h : c.in_ok-natural-2.field-0 ≤ a.most = search rules in
    ap Some (to_z_pos w64 c.in_ok-natural-2.field-0 (omega arith))
    ∙ (ap (option_map pos) n ∙ signed_plain a.most a.word.now _ (sym c.if-has_minus.false ∙ c.has_minus.ensures) c.natural-2.ensures.value)
