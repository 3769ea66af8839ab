-- The laws of laid and placed bytes, by which a function that puts bytes in several steps is proved: each step is a run, and runs side by side are one run.
-- By splitting the buffer before and behind the run. Assumes nothing.
use mathlib.Core.Path.{◌≡◌, refl, sym, ◌∙◌, ap}
use mathlib.Core.List.{List, [], ◌∷◌, ◌++◌, append_assoc}
use mathlib.Core.Bool.{Bool, true, false}
use Prim.Native.Nat.{ℕ, ◌+◌, ◌-◌, ◌≤◌, ◌<◌}
use native.Mathlib.Omega.{arith}
use native.Mathlib.Numerals.{add-one}
use native.Mathlib.Nat.{add_assoc, add-zero}
use mathlib.Core.Logic.{◌⊎◌, inl, inr, ⊎_elim}
use lib.Dec.{leb}
use borrow.Rule.Slice.PartMut.{put_mid}
use borrow.Author.Tests.{le-leb, lt-leb, leb-true, leb-false}
use lib.ListN.{length, take, drop, get_or, set, length-append, length-drop, take-append-drop}
use lib.Seq.{get_or-take, get_or-drop, take_at, drop_at, drop-drop, length-take-le, set_split, set_at, take-take, take-append-le}
use Rattle.std.specs.Prelude.{Option, Some, None}
use Rattle.std.proofs.lemmas.Option.{none-some, same_Some}
use Rattle.buffer.specs.Laid.{laid, placed, written, size_of}

pub laid_nil : (b : List ℕ) (at : ℕ) → laid b at [] ≡ b
unfolding laid
laid_nil b at = rw add-zero (take-append-drop at b)

pub laid_is : (b : List ℕ) (at : ℕ) (out : List ℕ) → laid b at out ≡ take at b ++ (out ++ drop (at + length out) b)
unfolding laid
laid_is b at out = refl

-- a part of the buffer that a call fills, up to `end`
pub laid_part : (b : List ℕ) (at end : ℕ) (xs ys : List ℕ) → ys ≡ xs → end ≡ at + length xs → put_mid at (end - at) b ys ≡ laid b at xs
unfolding laid
laid_part b at end xs ys e f =
    let n : end - at ≡ length xs = omega arith in
    rw (e, n, drop-drop (length xs) at b) refl

-- a store
pub laid_one : (b : List ℕ) (at v : ℕ) → at < length b → set b at v ≡ laid b at (v ∷ [])
unfolding laid
laid_one b at v h = rw add-one (set_split b at v h)

module _ (b : List ℕ) (at : ℕ) (xs : List ℕ) (h : at + length xs ≤ length b) where
  head_length : length (take at b ++ xs) ≡ at + length xs
  head_length = length-append (take at b) xs ∙ ap (λ (n : ℕ). n + length xs) (length-take-le at b (omega arith))

  laid-split : laid b at xs ≡ (take at b ++ xs) ++ drop (at + length xs) b
  unfolding laid
  laid-split = sym (append_assoc (take at b) xs (drop (at + length xs) b))

  pub length-laid : length (laid b at xs) ≡ length b
  length-laid = ap length laid-split ∙ (length-append (take at b ++ xs) _ ∙ (rw (head_length, length-drop (at + length xs) b) (omega arith)))

  -- the bytes up to the end of the run
  pub take-laid : take (at + length xs) (laid b at xs) ≡ take at b ++ xs
  take-laid = ap (take (at + length xs)) laid-split ∙ take_at (take at b ++ xs) _ (at + length xs) head_length

  -- the bytes before the run stay
  pub take-before : (n : ℕ) → n ≤ at → take n (laid b at xs) ≡ take n b
  unfolding laid
  take-before n k = take-append-le n (take at b) _ (rw (length-take-le at b (omega arith)) k) ∙ take-take n at b k

  -- and so do those behind it
  pub drop-laid : (n : ℕ) → drop (at + length xs + n) (laid b at xs) ≡ drop (at + length xs + n) b
  drop-laid n = sym (drop-drop n (at + length xs) (laid b at xs))
      ∙ (ap (λ (l : List ℕ). drop n (drop (at + length xs) l)) laid-split
      ∙ (ap (drop n) (drop_at (take at b ++ xs) _ (at + length xs) head_length) ∙ drop-drop n (at + length xs) b))

  pub byte_before : (k : ℕ) → k < at → get_or (laid b at xs) k 0 ≡ get_or b k 0
  byte_before k l =
      sym (get_or-take at (laid b at xs) k 0 l) ∙ (ap (λ (x : List ℕ). get_or x k 0) (take-before at (omega arith)) ∙ get_or-take at b k 0 l)

  pub drop-behind : (k : ℕ) → at + length xs ≤ k → drop k (laid b at xs) ≡ drop k b
  drop-behind k l =
      let e : k ≡ at + length xs + (k - (at + length xs)) = omega arith in
      rw e (drop-laid (k - (at + length xs)))

  pub byte_behind : (k : ℕ) → at + length xs ≤ k → get_or (laid b at xs) k 0 ≡ get_or b k 0
  byte_behind k l =
      let e : k ≡ k + 0 = omega arith in
      rw e (sym (get_or-drop k (laid b at xs) 0 0) ∙ (ap (λ (x : List ℕ). get_or x 0 0) (drop-behind k l) ∙ get_or-drop k b 0 0))

  -- two runs side by side, the left one first
  pub laid_more : (ys : List ℕ) → laid (laid b at xs) (at + length xs) ys ≡ laid b at (xs ++ ys)
  laid_more ys =
      laid_is (laid b at xs) (at + length xs) ys
      ∙ (rw (take-laid, drop-laid (length ys)) (rw (laid_is b at (xs ++ ys), length-append xs ys, ← (add_assoc at (length xs) (length ys)))
      (append_assoc (take at b) xs _ ∙ ap (λ (l : List ℕ). take at b ++ l) (sym (append_assoc xs ys _)))))

  -- and the right one first
  pub laid-before : (ys : List ℕ) → at + (length xs + length ys) ≤ length b → laid (laid b (at + length xs) ys) at xs ≡ laid b at (xs ++ ys)
  laid-before ys k =
      let t : length (take (at + length xs) b) ≡ at + length xs = length-take-le (at + length xs) b h in
      laid_is (laid b (at + length xs) ys) at xs
      ∙ (rw (laid_is b (at + length xs) ys)
      (rw (
        drop_at (take (at + length xs) b) (ys ++ drop (at + length xs + length ys) b) (at + length xs) t,
        take-append-le at (take (at + length xs) b) (ys ++ drop (at + length xs + length ys) b) (omega arith),
        take-take at (at + length xs) b (omega arith),
        laid_is b at (xs ++ ys),
        length-append xs ys,
        ← (add_assoc at (length xs) (length ys)),
        append_assoc xs ys,
      ) refl))

  -- a store within a run, behind xs
  pub laid_set : (x : ℕ) (ys : List ℕ) (n v : ℕ) → n ≡ at + length xs → set (laid b at (xs ++ (x ∷ ys))) n v ≡ laid b at (xs ++ (v ∷ ys))
  unfolding laid
  laid_set x ys n v e = ap (λ (l : List ℕ). set l n v) (around x) ∙ (set_at (take at b ++ xs) x _ v n (head_length ∙ sym e) ∙ sym (around v))
    where
      around : (y : ℕ) → laid b at (xs ++ (y ∷ ys)) ≡ (take at b ++ xs) ++ (y ∷ (ys ++ drop (at + (length xs + length (y ∷ ys))) b))
      around y = rw (length-append xs (y ∷ ys), append_assoc xs (y ∷ ys)) (sym (append_assoc (take at b) xs _))

-- a store behind a run, and one before it
pub laid_snoc : (b : List ℕ) (at : ℕ) (xs : List ℕ) (n v : ℕ) → n ≡ at + length xs → n < length b → set (laid b at xs) n v ≡ laid b at (xs ++ (v ∷ []))
laid_snoc b at xs n v e h =
    laid_one (laid b at xs) n v (rw (length-laid b at xs (omega arith)) h)
    ∙ (ap (λ (k : ℕ). laid (laid b at xs) k (v ∷ [])) e ∙ laid_more b at xs (omega arith) (v ∷ []))

pub laid_cons : (b : List ℕ) (at : ℕ) (xs : List ℕ) (v : ℕ) → at + 1 + length xs ≤ length b → set (laid b (at + 1) xs) at v ≡ laid b at (v ∷ xs)
laid_cons b at xs v h =
    laid_one (laid b (at + 1) xs) at v (rw (length-laid b (at + 1) xs h) (omega arith))
    ∙ laid-before b at (v ∷ []) (omega arith) xs (omega arith)

-- ---- what a function answers and leaves

pub placed-fits : (b : List ℕ) (at : ℕ) (out : List ℕ) → at + length out ≤ length b → placed b at out ≡ (Some (length out), laid b at out)
unfolding placed
placed-fits b at out h = rw (placed, le-leb (at + length out) (length b) h) refl

pub placed_full : (b : List ℕ) (at : ℕ) (out : List ℕ) → length b < at + length out → placed b at out ≡ (None, b)
unfolding placed
placed_full b at out h = rw (placed, lt-leb (at + length out) (length b) h) refl

pub placed_by : (b : List ℕ) (at : ℕ) (out : List ℕ) (n : ℕ) (l : List ℕ) → at + length out ≤ length b → n ≡ length out → l ≡ laid b at out →
    ◌≡◌ {A = Option ℕ × List ℕ} (Some n, l) (placed b at out)
placed_by b at out n l h e q = rw (e, q) (sym (placed-fits b at out h))

-- one or the other
pub placed_or : (b : List ℕ) (at : ℕ) (out : List ℕ)
    → ((at + length out ≤ length b) × (placed b at out ≡ (Some (length out), laid b at out))) ⊎ ((length b < at + length out) × (placed b at out ≡ (None, b)))
placed_or b at out = go (leb (at + length out) (length b)) refl
  where
    go : (t : Bool) → leb (at + length out) (length b) ≡ t
        → ((at + length out ≤ length b) × (placed b at out ≡ (Some (length out), laid b at out))) ⊎ ((length b < at + length out) × (placed b at out ≡ (None, b)))
    go true e = let h = leb-true (at + length out) (length b) e in inl (h, placed-fits b at out h)
    go false e = let h = leb-false (at + length out) (length b) e in inr (h, placed_full b at out h)

-- no bytes, at a place of the buffer
pub placed_nil : (b : List ℕ) (at : ℕ) → at ≤ length b → placed b at [] ≡ (Some 0, b)
placed_nil b at h = placed-fits b at [] (omega arith) ∙ ap (λ (l : List ℕ). (Some 0, l)) (laid_nil b at)

-- a store, as a function leaves it
pub placed_one : (b : List ℕ) (at v : ℕ) → at < length b → ◌≡◌ {A = Option ℕ × List ℕ} (Some 1, set b at v) (placed b at (v ∷ []))
placed_one b at v h = ap (λ (l : List ℕ). (Some 1, l)) (laid_one b at v h) ∙ sym (placed-fits b at (v ∷ []) (omega arith))

-- a value's bytes are some
pub written-some : (b : List ℕ) (at : ℕ) (out : List ℕ) → 0 < length out → written b at out ≡ placed b at out
written-some b at [] h = absurd (omega arith)
written-some b at (x ∷ xs) h = refl

pub size_of-some : (out : List ℕ) → 0 < length out → size_of out ≡ Some (length out)
size_of-some [] h = absurd (omega arith)
size_of-some (x ∷ xs) h = refl

-- A call that placed bytes leaves a buffer of the same length.
pub placed-length : (b : List ℕ) (at : ℕ) (xs : List ℕ) (r : Option ℕ) (l : List ℕ) → ◌≡◌ {A = Option ℕ × List ℕ} (r, l) (placed b at xs) → length l ≡ length b
placed-length b at xs r l e =
    ap (λ (x : Option ℕ × List ℕ). length x.1) e
    ∙ ⊎_elim (λ w. ap (λ (x : Option ℕ × List ℕ). length x.1) w.1 ∙ length-laid b at xs w.0)
    (λ w. ap (λ (x : Option ℕ × List ℕ). length x.1) w.1) (placed_or b at xs)

-- none is put only where there is no room, and then nothing alters
pub placed-none : (b : List ℕ) (at : ℕ) (xs : List ℕ) (l : List ℕ) → ◌≡◌ {A = Option ℕ × List ℕ} (None, l) (placed b at xs) → (length b < at + length xs) × (l ≡ b)
placed-none b at xs l e = ⊎_elim
    (λ w. absurd (none-some (length xs) (ap (λ (x : Option ℕ × List ℕ). x.0) (e ∙ w.1))))
    (λ w. (w.0, ap (λ (x : Option ℕ × List ℕ). x.1) (e ∙ w.1)))
    (placed_or b at xs)

-- where there is room, all bytes are put
pub placed-room : (b : List ℕ) (at : ℕ) (xs : List ℕ) (l : List ℕ) → at + length xs ≤ length b → ◌≡◌ {A = Option ℕ × List ℕ} (None, l) (placed b at xs) → ⊥
placed-room b at xs l h e = let k = placed-none b at xs l e in omega (arith, k.0)

-- What is left of a call that put n bytes.
module _ (b : List ℕ) (at : ℕ) (xs : List ℕ) (n : ℕ) (l : List ℕ) (e : ◌≡◌ {A = Option ℕ × List ℕ} (Some n, l) (placed b at xs)) where
  -- some are put only where there is room for all, and then all
  pub placed-some : (at + length xs ≤ length b) × (n ≡ length xs) × (l ≡ laid b at xs)
  placed-some = ⊎_elim
      (λ w. (w.0, same_Some n (length xs) (ap (λ (x : Option ℕ × List ℕ). x.0) (e ∙ w.1)), ap (λ (x : Option ℕ × List ℕ). x.1) (e ∙ w.1)))
      (λ w. absurd (none-some n (sym (ap (λ (x : Option ℕ × List ℕ). x.0) (e ∙ w.1)))))
      (placed_or b at xs)

  -- a second call puts its bytes behind those of the first
  pub placed_then : (ys : List ℕ) (m : ℕ) (l' : List ℕ) → ◌≡◌ {A = Option ℕ × List ℕ} (Some m, l') (placed l (at + n) ys) → ◌≡◌ {A = Option ℕ × List ℕ} (Some (n + m), l') (placed b at (xs ++ ys))
  placed_then ys m l' e' =
      let p = placed-some in
      let k : length l ≡ length b = placed-length b at xs (Some n) l e in
      let q = placed_second ys m l' e' in
      placed_by b at (xs ++ ys) (n + m) l' (omega (arith, p.1, q.0, k, length-append xs ys)) (omega (arith, p.1, q.1, length-append xs ys))
      (q.2 ∙ rw (p.2, p.1) (laid_more b at xs p.0 ys))
    where
      placed_second : (ys : List ℕ) (m : ℕ) (l' : List ℕ) → ◌≡◌ {A = Option ℕ × List ℕ} (Some m, l') (placed l (at + n) ys)
          → (at + n + length ys ≤ length l) × (m ≡ length ys) × (l' ≡ laid l (at + n) ys)
      placed_second ys m l' e' = ⊎_elim
          (λ w. (w.0, same_Some m (length ys) (ap (λ (x : Option ℕ × List ℕ). x.0) (e' ∙ w.1)), ap (λ (x : Option ℕ × List ℕ). x.1) (e' ∙ w.1)))
          (λ w. absurd (none-some m (sym (ap (λ (x : Option ℕ × List ℕ). x.0) (e' ∙ w.1)))))
          (placed_or l (at + n) ys)

  -- a second call has no room for its bytes only where both have none
  pub placed_then_none : (ys : List ℕ) (l' : List ℕ) → ◌≡◌ {A = Option ℕ × List ℕ} (None, l') (placed l (at + n) ys) → length b < at + (length xs + length ys)
  placed_then_none ys l' e' =
      let p = placed-some in
      let k : length l ≡ length b = placed-length b at xs (Some n) l e in
      let q = placed-none l (at + n) ys l' e' in
      omega (arith, p.1, q.0, k)

-- a byte before those that a call has put or found no room for
pub placed_cons : (b : List ℕ) (at v : ℕ) (xs : List ℕ) (n : ℕ) (l : List ℕ) → ◌≡◌ {A = Option ℕ × List ℕ} (Some n, l) (placed b (at + 1) xs)
    → ◌≡◌ {A = Option ℕ × List ℕ} (Some (1 + n), set l at v) (placed b at (v ∷ xs))
placed_cons b at v xs n l e =
    let p = placed-some b (at + 1) xs n l e in
    placed_by b at (v ∷ xs) (1 + n) _ (omega (arith, p.0)) (omega (arith, p.1)) (ap (λ (k : List ℕ). set k at v) p.2 ∙ laid_cons b at xs v p.0)

pub placed_cons_none : (b : List ℕ) (at v : ℕ) (xs : List ℕ) (l : List ℕ) → ◌≡◌ {A = Option ℕ × List ℕ} (None, l) (placed b (at + 1) xs)
    → ◌≡◌ {A = Option ℕ × List ℕ} (None, l) (placed b at (v ∷ xs))
placed_cons_none b at v xs l e =
    let p = placed-none b (at + 1) xs l e in
    rw p.1 (sym (placed_full b at (v ∷ xs) (omega (arith, p.0))))

-- ---- what a test of the room tells

pub leb_iff : (a b x y : ℕ) → (a ≤ b → x ≤ y) → (x ≤ y → a ≤ b) → leb a b ≡ leb x y
leb_iff a b x y f g = go (leb a b) (leb x y) refl refl
  where
    go : (s t : Bool) → leb a b ≡ s → leb x y ≡ t → s ≡ t
    go true true p q = refl
    go false false p q = refl
    go true false p q = sym (le-leb x y (f (leb-true a b p))) ∙ q
    go false true p q = sym p ∙ le-leb a b (g (leb-true x y q))

module _ (r : Bool) (b : List ℕ) (end : ℕ) (e : r ≡ leb end (length b)) where
  pub no_room : r ≡ false → length b < end
  no_room t = leb-false end (length b) (sym e ∙ t)

  pub room : r ≡ true → end ≤ length b
  room t = leb-true end (length b) (sym e ∙ t)

-- a run that is laid where there is room, and none where there is none
pub ruleset laid_or_full = (placed_full, placed_one, placed_by, laid_nil, leb-false, leb-true)
