-- `Answers::put` puts the digits, for which there is room, and a line feed behind them. Assumes nothing.
use Prim.Native.Nat.{ℕ, ◌+◌, ◌*◌, ◌≤◌}
use native.Mathlib.Omega.{arith}
use mathlib.Core.Path.{◌≡◌, ◌∙◌, ap}
use mathlib.Core.List.{List, [], ◌∷◌, ◌++◌, append_assoc}
use lib.ListN.{length, take, length-append}
use lib.Seq.{take_all}
use Rattle.words.specs.Hex.{hex_text, with_hex}
use Rattle.words.proofs.HexDigits.{length_text}
use Rattle.words.proofs.InUse.{with_hex-some}
use Rattle.trial.proofs.Answers.put.Goals as goal

line : (most : ℕ) (s t digits all : List ℕ) → length s + 2 * length t + 1 ≤ most → digits ≡ with_hex most s t → all ≡ take most (digits ++ (10 ∷ [])) →
    all ≡ s ++ (hex_text t ++ (10 ∷ []))
line most s t digits all room filled whole =
    let put : digits ≡ s ++ hex_text t = filled ∙ with_hex-some most s t (omega arith) in
    let size : length (digits ++ (10 ∷ [])) ≤ most =
    omega (arith, length-append digits (10 ∷ []), ap length put, length-append s (hex_text t), length_text t) in
    whole ∙ take_all most (digits ++ (10 ∷ [])) size
    ∙ ap (λ (l : List ℕ). l ++ (10 ∷ [])) put
    ∙ append_assoc s (hex_text t) (10 ∷ [])

pub returns : goal.returns
returns c = line _ _ _ _ _ (omega (arith, c.requires)) c.append_hex.ensures c.append.ensures
