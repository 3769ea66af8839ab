-- A line of hex digits and its line feed.
-- Assumes nothing.
use Prim.Native.Nat.{ℕ, ◌+◌, ◌≤◌}
use native.Mathlib.Omega.{arith}
use mathlib.Core.Path.{◌≡◌, ◌∙◌, ap}
use mathlib.Core.List.{List, [], ◌∷◌, ◌++◌, append_assoc}
use lib.ListN.{length, take, length-append}
use lib.Seq.{take_all}
use Rattle.encoding.specs.Digits.{low_digits}
use Rattle.encoding.proofs.Digits.{length-low_digits}
use Rattle.words.specs.Hex.{hex_text, with_hex}
use Rattle.words.proofs.HexDigits.{length_text}
use Rattle.words.proofs.InUse.{with_hex-some}
use Rattle.small_values.proofs.Filled.{zeros, zeros_front}

-- the digits of the string t, which is spelled in the first n bytes of an array, are put behind s, and a line feed behind them
pub line : (most n x : ℕ) (s t digits all : List ℕ) → n ≤ 3 → length s + 7 ≤ most → t ≡ low_digits 256 (length (take n zeros)) x → digits ≡ with_hex most s t →
    all ≡ take most (digits ++ (10 ∷ [])) → all ≡ s ++ (hex_text (low_digits 256 n x) ++ (10 ∷ []))
line most n x s t digits all h room e filled whole =
    let spelled : t ≡ low_digits 256 n x = e ∙ ap (λ (k : ℕ). low_digits 256 k x) (zeros_front n h) in
    let put : digits ≡ s ++ hex_text t = filled ∙ with_hex-some most s t (omega (arith, ap length spelled, length-low_digits 256 n x)) in
    let size : length (digits ++ (10 ∷ [])) ≤ most = omega (
      arith,
      length-append digits (10 ∷ []),
      ap length put,
      length-append s (hex_text t),
      length_text t,
      ap length spelled,
      length-low_digits 256 n x,
    ) in
    whole ∙ take_all most (digits ++ (10 ∷ [])) size
    ∙ ap (λ (l : List ℕ). l ++ (10 ∷ [])) put
    ∙ append_assoc s (hex_text t) (10 ∷ [])
    ∙ ap (λ (y : List ℕ). s ++ (hex_text y ++ (10 ∷ []))) spelled
