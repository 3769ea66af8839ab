-- The order of byte strings is strict, so there is one list of a set at most; and a list of shorter strings joins one of longer strings.
-- Assumes nothing.
use Prim.Native.Nat.{ℕ, ◌<◌}
use native.Mathlib.Omega.{arith}
use mathlib.Core.Path.{◌≡◌, refl, sym, ◌∙◌, ap, subst}
use mathlib.Core.Logic.{◌⊎◌, inl, inr, ⊎_elim}
use mathlib.Core.Bool.{Bool, true, false≢true, ◌&&◌, ◌||◌}
use mathlib.Core.List.{List, [], ◌∷◌, ◌++◌}
use lib.Dec.{ltb, eqb}
use lib.ListN.{length}
use borrow.Author.Tests.{ltb-true, eqb-true, lt-ltb}
use Rattle.ion.proofs.Tests.{both, either}
use Rattle.small_values.specs.Order.{by_bytes, precedes, ◌∈◌, Ordered, Lists, OneList}

-- ---- a test by two numbers first, and by r where they are equal

abbrev pub Less : ℕ → ℕ → Bool → Type 0
Less x y r = (x < y) ⊎ ((x ≡ y) × (r ≡ true))

pub less : (x y : ℕ) (r : Bool) → (ltb x y || (eqb x y && r)) ≡ true → Less x y r
less x y r e = ⊎_elim
    (λ p. inl (ltb-true x y p))
    (λ p. let q = both {a = eqb x y} p in inr (eqb-true x y q.0, q.1))
    (either (ltb x y) (eqb x y && r) e)

not_both : (x y : ℕ) (r s : Bool) → (r ≡ true → s ≡ true → ⊥) → Less x y r → Less y x s → ⊥
not_both x y r s h (inl p) (inl q) = omega arith
not_both x y r s h (inl p) (inr q) = omega (arith, q.0)
not_both x y r s h (inr p) (inl q) = omega (arith, p.0)
not_both x y r s h (inr p) (inr q) = h p.1 q.1

-- ---- the order is strict

by_bytes_asymmetric : (b c : List ℕ) → by_bytes b c ≡ true → by_bytes c b ≡ true → ⊥
unfolding by_bytes
by_bytes_asymmetric [] c p q = false≢true p
by_bytes_asymmetric (x ∷ b) [] p q = false≢true p
by_bytes_asymmetric (x ∷ b) (y ∷ c) p q =
    not_both x y (by_bytes b c) (by_bytes c b) (by_bytes_asymmetric b c) (less x y (by_bytes b c) p) (less y x (by_bytes c b) q)

pub asymmetric : (b c : List ℕ) → precedes b c ≡ true → precedes c b ≡ true → ⊥
unfolding precedes
asymmetric b c p q =
    not_both (length b) (length c) (by_bytes b c) (by_bytes c b) (by_bytes_asymmetric b c)
    (less (length b) (length c) (by_bytes b c) p)
    (less (length c) (length b) (by_bytes c b) q)

pub shorter_precedes : (b c : List ℕ) → length b < length c → precedes b c ≡ true
unfolding precedes
shorter_precedes b c h = rw (lt-ltb (length b) (length c) h) refl

-- ---- one list

heads_same : (b c : List ℕ) (l m : List (List ℕ)) → Ordered (b ∷ l) → Ordered (c ∷ m) → b ∈ (c ∷ m) → c ∈ (b ∷ l) → b ≡ c
heads_same b c l m p q (inl e) v = e
heads_same b c l m p q (inr u) (inl e) = sym e
heads_same b c l m p q (inr u) (inr v) = absurd (asymmetric b c (p.0 c v) (q.0 b u))

-- what follows the first of an ordered list is not the first
tail_in : (b c d : List ℕ) (l m : List (List ℕ)) → Ordered (b ∷ l) → b ≡ c → d ∈ l → d ∈ (c ∷ m) → d ∈ m
tail_in b c d l m p e u (inl f) =
    let g : precedes b b ≡ true = subst (λ (x : List ℕ). precedes b x ≡ true) (f ∙ sym e) (p.0 d u) in
    absurd (asymmetric b b g g)
tail_in b c d l m p e u (inr v) = v

same_list : (l m : List (List ℕ)) → Ordered l → Ordered m → ((b : List ℕ) → b ∈ l → b ∈ m) → ((b : List ℕ) → b ∈ m → b ∈ l) → l ≡ m
same_list [] [] p q f g = refl
same_list [] (c ∷ m) p q f g = absurd (g c (inl refl))
same_list (b ∷ l) [] p q f g = absurd (f b (inl refl))
same_list (b ∷ l) (c ∷ m) p q f g =
    let e = heads_same b c l m p q (f b (inl refl)) (g c (inl refl)) in
    let t = same_list l m p.1 q.1 (λ d u. tail_in b c d l m p e u (f d (inr u))) (λ d u. tail_in c b d m l q (sym e) u (g d (inr u))) in
    ap (λ (x : List ℕ). x ∷ l) e ∙ ap (λ (x : List (List ℕ)). c ∷ x) t

pub one_list : OneList
one_list P l m p q = same_list l m p.ordered q.ordered (λ b u. q.all b (p.only b u)) (λ b u. p.all b (q.only b u))

-- ---- lists joined

in_left : (b : List ℕ) (l m : List (List ℕ)) → b ∈ l → b ∈ (l ++ m)
in_left b [] m u = absurd u
in_left b (c ∷ l) m (inl e) = inl e
in_left b (c ∷ l) m (inr u) = inr (in_left b l m u)

in_right : (b : List ℕ) (l m : List (List ℕ)) → b ∈ m → b ∈ (l ++ m)
in_right b [] m u = u
in_right b (c ∷ l) m u = inr (in_right b l m u)

in_either : (b : List ℕ) (l m : List (List ℕ)) → b ∈ (l ++ m) → (b ∈ l) ⊎ (b ∈ m)
in_either b [] m u = inr u
in_either b (c ∷ l) m (inl e) = inl (inl e)
in_either b (c ∷ l) m (inr u) = ⊎_elim (λ v. inl (inr v)) (λ v. inr v) (in_either b l m u)

ordered_join : (l m : List (List ℕ)) → Ordered l → Ordered m → ((b c : List ℕ) → b ∈ l → c ∈ m → precedes b c ≡ true) → Ordered (l ++ m)
ordered_join [] m p q h = q
ordered_join (b ∷ l) m p q h =
    (λ c u. ⊎_elim (λ v. p.0 c v) (λ v. h b c (inl refl) v) (in_either c l m u), ordered_join l m p.1 q (λ d c u v. h d c (inr u) v))

pub lists_join : {P Q : List ℕ → Type 0} (l m : List (List ℕ)) → Lists P l → Lists Q m →
    ((b c : List ℕ) → P b → Q c → length b < length c) → Lists (λ b. P b ⊎ Q b) (l ++ m)
lists_join l m p q h = record {
  ordered = ordered_join l m p.ordered q.ordered (λ b c u v. shorter_precedes b c (h b c (p.only b u) (q.only c v)));
  all = λ b u. ⊎_elim (λ v. in_left b l m (p.all b v)) (λ v. in_right b l m (q.all b v)) u;
  only = λ b u. ⊎_elim (λ v. inl (p.only b v)) (λ v. inr (q.only b v)) (in_either b l m u);
}

pub lists_same : {P Q : List ℕ → Type 0} (l : List (List ℕ)) → ((b : List ℕ) → P b → Q b) → ((b : List ℕ) → Q b → P b) → Lists P l → Lists Q l
lists_same l f g p = record { ordered = p.ordered; all = λ b u. p.all b (g b u); only = λ b u. f b (p.only b u) }
