-- What stands before the first byte that is not zero and what is trimmed make up the whole. Assumes nothing.
use Rattle.std.proofs.Common.{◌≡◌, ℕ, ◌+◌, ◌≤◌, Bool, true, false, List, [], ◌∷◌, Some, None, cond, length, nat_eq, nat_lt, not, refl, arith, rules, tests, ltb-false}
use Rattle.std.specs.List.{position_or_len}
use Rattle.std.specs.Option.{unwrap_or}
use Rattle.std.proofs.lemmas.Iterator.{YieldsList-from_slice}
use Rattle.std.proofs.lemmas.Iterator.Search.{position_from_yields_List}
use Rattle.encoding.specs.Fields.{trimmed}
use Rattle.uint.proofs.leading_zero_bytes.Goals as goal

zeros_before : (m : List ℕ) → position_or_len (λ b. not (nat_eq b 0)) m + length (trimmed m) ≡ length m
unfolding trimmed
zeros_before [] = refl
zeros_before (b ∷ bs) = by_test (nat_eq b 0) (zeros_before bs)
  where
    by_test : (t : Bool) → position_or_len (λ b. not (nat_eq b 0)) bs + length (trimmed bs) ≡ length bs
        → cond (not (not t)) (1 + position_or_len (λ b. not (nat_eq b 0)) bs) 0 + length (elim t as (λ _. List ℕ) [ true ↦ trimmed bs | false ↦ b ∷ bs ]) ≡ length (b ∷ bs)
    by_test true e = omega (arith, e)
    by_test false e = omega arith

position_or_end : (n k : ℕ) → k ≤ n → unwrap_or (cond (nat_lt k n) (Some k) None) n ≡ k
position_or_end n k h = by_test (nat_lt k n) refl
  where
    by_test : (t : Bool) → nat_lt k n ≡ t → unwrap_or (cond t (Some k) None) n ≡ k
    by_test true e = refl
    by_test false e = omega (arith, ltb-false k n e)

pub returns : goal.returns
returns c = let m = c.args.magnitude.now in
    let p : ℕ → Bool = λ b. not (nat_eq b 0) in
    let whole = zeros_before m in
    let found = position_from_yields_List p _ _ c.position.result c.position.ensures.ran (YieldsList-from_slice m cc) (λ x b q k. search (rules, tests)) in
    rw (c.unwrap_or.ensures, found, position_or_end (length m) (position_or_len p m) (omega (arith, whole))) whole
