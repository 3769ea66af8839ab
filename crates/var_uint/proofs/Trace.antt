-- A fill as a trace: for each limit it leaves what so many of the field's stores leave, the last byte's first; and of a VarUInt's stores the first has the
-- end flag, no other. By one store more, and by the digits in base 128. Assumes nothing.
use mathlib.Core.Path.{◌≡◌, refl, sym, ◌∙◌, ap}
use mathlib.Core.Logic.{⊎_elim}
use mathlib.Core.List.{List, [], ◌∷◌, ◌++◌}
use Prim.Native.Nat.{ℕ, zero, suc, ◌+◌, ◌-◌, ◌/◌, ◌%◌, ◌≤◌, ◌<◌}
use native.Mathlib.Omega.{arith}
use native.Mathlib.Numerals.{add-one}
use native.Mathlib.Nat.{add-zero, eq-zero-or-pos, mod-lt}
use lib.ListN.{length, take, set, get_or, length-append, get_or-append}
use lib.Seq.{take-suc, take_all, length-take-le, get_or_at}
use Rattle.encoding.specs.Digits.{low_digits, digits, digit_count}
use Rattle.encoding.specs.Fields.{var_uint_bytes}
use Rattle.std.specs.Prelude.{Option, Some}
use Rattle.var_uint.specs.Filled.{filled, Store, stores, stored, NoEndFlag, EndFlagFirst}
use Rattle.var_uint.proofs.Filled.{filled-same, filled_none, filled_next}

length-stores : (at : ℕ) (out : List ℕ) → length (stores at out) ≡ length out
unfolding stores
length-stores at [] = refl
length-stores at (x ∷ xs) = simp (length-append, length-stores (at + 1) xs) (omega arith)

-- the store that is made behind k others
store_behind : (at : ℕ) (out : List ℕ) (k : ℕ) → k < length out → let p = length out - (k + 1) in get_or (stores at out) k (0, 0) ≡ (at + p, get_or out p 0)
unfolding stores
store_behind at [] k h = absurd (omega arith)
store_behind at (x ∷ xs) k h = ⊎_elim
    (λ z.
    let e : k ≡ length xs = omega arith in
    let p : suc (length xs) - (k + 1) ≡ 0 = omega arith in
    get_or_at (stores (at + 1) xs) (at, x) [] (0, 0) k (length-stores (at + 1) xs ∙ sym e) ∙ rw (p, add-zero at) refl)
    (λ w.
    let l : k < length xs = omega arith in
    let p : suc (length xs) - (k + 1) ≡ suc (length xs - (k + 1)) = omega arith in
    let q : at + suc (length xs - (k + 1)) ≡ at + 1 + (length xs - (k + 1)) = omega arith in
    get_or-append (stores (at + 1) xs) ((at, x) ∷ []) (0, 0) k (rw (length-stores (at + 1) xs) l) ∙ rw (p, q) (store_behind (at + 1) xs k l))
    (eq-zero-or-pos (length xs - k))

stored_snoc : (b : List ℕ) (ss : List Store) (s : Store) → stored b (ss ++ (s ∷ [])) ≡ set (stored b ss) s.0 s.1
unfolding stored
stored_snoc b [] s = refl
stored_snoc b (t ∷ ss) s = stored_snoc (set b t.0 t.1) ss s

module _ (b : List ℕ) (at : ℕ) (out : List ℕ) (room : at + length out ≤ length b) where
  pub filled_is_trace : (limit : ℕ) → filled limit b at out ≡ (Some (length (take limit (stores at out))), stored b (take limit (stores at out)))
  unfolding stored
  filled_is_trace zero = filled_none b at out room
  filled_is_trace (suc k) =
      let n = length-stores at out in ⊎_elim
      (λ z.
      let t = take_all (suc k) (stores at out) (omega arith) ∙ sym (take_all k (stores at out) (omega arith)) in
      rw t (filled-same b at out (suc k) k (omega arith) ∙ filled_is_trace k))
      (λ w.
      let l : k < length out = omega arith in
      let p = length out - (k + 1) in
      let t = take-suc (stores at out) k (0, 0) (omega arith) ∙ ap (λ (s : Store). take k (stores at out) ++ (s ∷ [])) (store_behind at out k l) in
      let m : length (take (suc k) (stores at out)) ≡ suc k = length-take-le (suc k) (stores at out) (omega arith) in
      let ss = stored b (take k (stores at out)) in
      let made : ◌≡◌ {A = Option ℕ × List ℕ} (Some k, ss) (filled k b at out) =
      sym (filled_is_trace k ∙ ap (λ (i : ℕ). (Some i, ss)) (length-take-le k (stores at out) (omega arith))) in
      let next = filled_next b at out room k ss (at + p) (get_or out p 0) made l refl refl in
      rw (m, t, stored_snoc b (take k (stores at out)) (at + p, get_or out p 0))
      (ap (λ (i : ℕ). filled i b at out) (sym (add-one k)) ∙ (sym next ∙ ap (λ (i : ℕ). (Some i, set ss (at + p) (get_or out p 0))) (add-one k))))
      (eq-zero-or-pos (length out - k))

-- the last byte's store comes first
stores_snoc : (at : ℕ) (xs : List ℕ) (v : ℕ) → stores at (xs ++ (v ∷ [])) ≡ (at + length xs, v) ∷ stores at xs
unfolding stores
stores_snoc at [] v = rw (add-zero at) refl
stores_snoc at (x ∷ xs) v =
    let e : at + 1 + length xs ≡ at + suc (length xs) = omega arith in
    ap (λ (ss : List Store). ss ++ ((at, x) ∷ [])) (stores_snoc (at + 1) xs v) ∙ rw e refl

digits_unflagged : (at k n : ℕ) → NoEndFlag (stores at (low_digits 128 k n))
unfolding low_digits stores
digits_unflagged at zero n = tt
digits_unflagged at (suc k) n = rw (stores_snoc at (low_digits 128 k (n / 128)) (n % 128)) (mod-lt n {m = 128} (omega arith), digits_unflagged at k (n / 128))

pub end_flag-first : (at n : ℕ) → EndFlagFirst (stores at (var_uint_bytes n))
unfolding var_uint_bytes digits
end_flag-first at n =
    rw (stores_snoc at (low_digits 128 (digit_count 128 (n / 128)) (n / 128)) (0x80 + n % 128))
    (omega arith, digits_unflagged at (digit_count 128 (n / 128)) (n / 128))
