-- The fields of a timestamp, gathered one by one.
-- Assumes nothing.
use Prim.Native.Nat.{ℕ, zero, suc, ◌+◌, ◌-◌, ◌≤◌, ◌<◌}
use native.Mathlib.Omega.{arith}
use mathlib.Core.Path.{◌≡◌, refl, sym, ◌∙◌, ap, subst}
use mathlib.Core.List.{List, [], ◌∷◌, ◌++◌, append_assoc, append-nil}
use mathlib.Core.Option.{Option, none, some, none-ne-some, some-injective}
use lib.ListN.{length, get_or, set, drop, replicate, length-append, length-drop, drop_of_length-le}
use lib.Seq.{set_at, drop-drop}
use Rattle.ion.specs.Chain.{◌>>=◌}
use Rattle.ion.specs.Fields.{var_uint, var_uints}
use Rattle.read_bodies.specs.Places.{number_in, var_uint_at}
use Rattle.read_bodies.proofs.VarFields.{behind, FieldAt, var_uint_is, var_uint_no}
use Rattle.std.specs.Prelude.{Ok, Err}
use Rattle.reading.specs.declared.Fields.{Fields}
use Rattle.reading.specs.declared.Refusal.{Refusal}
use Rattle.reading.specs.declared.Refusal.TheVariants.{NotIon}
use Rattle.reading.specs.Bodies.{six_fields}
use Rattle.reading.specs.Told.{fields_told}
use Rattle.read_timestamp.specs.declared.FieldsTo.{FieldsTo}
use Rattle.read_timestamp.specs.Parts.{fields_in, fields_at}

-- ---- one field of them

-- these fields, then those of the answer
abbrev continued : List ℕ → Option (List ℕ × List ℕ) → Option (List ℕ × List ℕ)
continued fs o = o >>= λ y. some (fs ++ y.0, y.1)

continued_nil : (o : Option (List ℕ × List ℕ)) → o ≡ continued [] o
continued_nil none = refl
continued_nil (some y) = refl

continued_cons : (fs : List ℕ) (v : ℕ) (o : Option (List ℕ × List ℕ)) → continued fs (o >>= λ y. some (v ∷ y.0, y.1)) ≡ continued (fs ++ (v ∷ [])) o
continued_cons fs v none = refl
continued_cons fs v (some y) = ap (λ (l : List ℕ). some (l, y.1)) (sym (append_assoc fs (v ∷ []) y.0))

next_field : (n : ℕ) (l : List ℕ) (v : ℕ) (r : List ℕ) → 0 < length l → var_uint l ≡ some (v, r)
    → var_uints (suc n) l ≡ (var_uints n r >>= λ y. some (v ∷ y.0, y.1))
unfolding var_uints
next_field n [] v r h e = absurd (omega arith)
next_field n (b ∷ bs) v r h e = rw (e) refl

no_field : (n : ℕ) (l : List ℕ) → 0 < length l → var_uint l ≡ none → var_uints (suc n) l ≡ none
unfolding var_uints
no_field n [] h e = absurd (omega arith)
no_field n (b ∷ bs) h e = rw (e) refl

-- ---- the array holds the fields so far, and zeros

get_d_zeros : (n k : ℕ) → get_or (replicate {A = ℕ} n 0) k 0 ≡ 0
get_d_zeros zero k = refl
get_d_zeros (suc n) zero = refl
get_d_zeros (suc n) (suc k) = get_d_zeros n k

get_d_before-zeros : (fs : List ℕ) (n k : ℕ) → get_or (fs ++ replicate n 0) k 0 ≡ get_or fs k 0
get_d_before-zeros [] n k = get_d_zeros n k
get_d_before-zeros (x ∷ fs) n zero = refl
get_d_before-zeros (x ∷ fs) n (suc k) = get_d_before-zeros fs n k

pub record Gathered (s : List ℕ) (at : ℕ) (f : List ℕ) (count i : ℕ) : Type 0 where
  pub fields : List ℕ
  pub left : ℕ
  pub many : length fields ≡ count
  pub sum : count + left ≡ 6
  pub stored : f ≡ fields ++ replicate left 0
  pub within : i ≤ length s
  pub rest : var_uints 6 (drop at s) ≡ continued fields (var_uints left (drop i s))

pub gathered_none : (s : List ℕ) (at : ℕ) → at ≤ length s → Gathered s at (replicate 6 0) 0 at
gathered_none s at h =
    record { fields = []; left = 6; many = refl; sum = refl; stored = refl; within = h; rest = continued_nil (var_uints 6 (drop at s)) }

module _ (s : List ℕ) (at : ℕ) (f : List ℕ) (count i : ℕ) (w : Gathered s at f count i) where
  bytes_left : i < length s → 0 < length (drop i s)
  bytes_left h = rw (length-drop i s) (omega arith)

  module _ (few : count < 6) (inside : i < length s) where
    pub gathered_more : (v next : ℕ) → var_uint_at s i ≡ Ok (record { value = v; next = next }) → Gathered s at (set f count v) (count + 1) next
    gathered_more v next e = go (var_uint_is s i (record { value = v; next = next }) e) w.left w.sum w.stored w.rest
      where
        go : FieldAt s i (var_uint (drop i s)) v next → (n : ℕ) → count + n ≡ 6 → f ≡ w.fields ++ replicate n 0 → var_uints 6 (drop at s) ≡ continued w.fields (var_uints n (drop i s)) →
            Gathered s at (set f count v) (count + 1) next
        go x zero e p q = absurd (omega arith)
        go x (suc n) e p q =
            record {
              fields = w.fields ++ (v ∷ []);
              left = n;
              many = length-append w.fields (v ∷ []) ∙ ap (λ (k : ℕ). k + 1) w.many;
              sum = omega arith;
              stored =
                  ap (λ (l : List ℕ). set l count v) p ∙ set_at w.fields 0 (replicate n 0) v count w.many
                  ∙ sym (append_assoc w.fields (v ∷ []) (replicate n 0));
              within = x.within;
              rest =
                  q ∙ ap (continued w.fields) (next_field n (drop i s) v (drop next s) (bytes_left inside) x.is)
                  ∙ continued_cons w.fields v (var_uints n (drop next s));
            }

    pub gathered_no : (r : Refusal) → var_uint_at s i ≡ Err r → Err r ≡ fields_at s at
    unfolding fields_at
    gathered_no r e = let x = var_uint_no s i r e in rw x.0 (go x.1 w.left w.sum w.rest)
      where
        go : var_uint (drop i s) ≡ none → (n : ℕ) → count + n ≡ 6 → var_uints 6 (drop at s) ≡ continued w.fields (var_uints n (drop i s))
            → Err NotIon ≡ fields_in (length s) (var_uints 6 (drop at s))
        go x zero e q = absurd (omega arith)
        go x (suc n) e q = rw (q, no_field n (drop i s) (bytes_left inside) x) refl

  module _ (ended : count < 6 → length s ≤ i) where
    gathered_rest : var_uints 6 (drop at s) ≡ some (w.fields, drop i s)
    unfolding var_uints
    gathered_rest = go w.left w.sum w.rest
      where
        go : (n : ℕ) → count + n ≡ 6 → var_uints 6 (drop at s) ≡ continued w.fields (var_uints n (drop i s))
            → var_uints 6 (drop at s) ≡ some (w.fields, drop i s)
        go zero e q = q ∙ ap (λ (l : List ℕ). some (l, drop i s)) (append-nil w.fields)
        go (suc n) e q =
            let d : drop i s ≡ [] = drop_of_length-le s {i = i} (ended (omega arith)) in
            rw (d) (rw (d, append-nil w.fields) at q)

    get_d_gathered : (k : ℕ) → get_or f k 0 ≡ get_or w.fields k 0
    get_d_gathered k = ap (λ (l : List ℕ). get_or l k 0) w.stored ∙ get_d_before-zeros w.fields w.left k

    abbrev six : Fields
    six =
        record {
          count = count;
          year = get_or f 0 0;
          month = get_or f 1 0;
          day = get_or f 2 0;
          hour = get_or f 3 0;
          minute = get_or f 4 0;
          second = get_or f 5 0;
        }

    pub gathered_all : Ok (record { fields = six; next = i }) ≡ fields_at s at
    unfolding fields_at
    gathered_all =
        rw (
          gathered_rest,
          w.many,
          behind s i w.within,
          get_d_gathered 0,
          get_d_gathered 1,
          get_d_gathered 2,
          get_d_gathered 3,
          get_d_gathered 4,
          get_d_gathered 5,
        ) refl

-- ---- what the fields told of the body say of the bytes

-- the bytes behind, by how many are before them
record Suffix (l rest : List ℕ) : Type 0 where
  count : ℕ
  most : count ≤ length l
  is : rest ≡ drop count l

later : (l r t : List ℕ) → Suffix l r → Suffix r t → Suffix l t
later l r t a b =
    let k : length r ≡ length l - a.count = ap length a.is ∙ length-drop a.count l in
    record {
      count = a.count + b.count;
      most = omega (arith, k, a.most, b.most);
      is = b.is ∙ ap (drop b.count) a.is ∙ drop-drop b.count a.count l;
    }

one_behind : (l : List ℕ) (v : ℕ × List ℕ) → var_uint l ≡ some v → Suffix l v.1
unfolding var_uint_at
one_behind l v e =
    let x = var_uint_is l 0 (record { value = v.0; next = length l - length v.1 }) (ap (number_in (length l)) e) in
    let q : v ≡ (v.0, drop (length l - length v.1) l) = some-injective v (v.0, drop (length l - length v.1) l) (sym e ∙ x.is) in
    record { count = length l - length v.1; most = omega arith; is = ap (λ (y : ℕ × List ℕ). y.1) q }

-- the bytes behind the fields, and how many fields there are
record Taken (n : ℕ) (l : List ℕ) (x : List ℕ × List ℕ) : Type 0 where
  behind : Suffix l x.1
  few : length x.0 ≤ n

fields-taken : (n : ℕ) (l : List ℕ) (x : List ℕ × List ℕ) → var_uints n l ≡ some x → Taken n l x
unfolding var_uints
fields-taken zero l x e =
    let q : ([], l) ≡ x = some-injective ([], l) x e in
    subst (λ (y : List ℕ × List ℕ). Taken zero l y) q (record { behind = record { count = 0; most = omega arith; is = refl }; few = omega arith })
fields-taken (suc n) [] x e =
    let q : ([], []) ≡ x = some-injective ([], []) x e in
    subst (λ (y : List ℕ × List ℕ). Taken (suc n) [] y) q (record { behind = record { count = 0; most = omega arith; is = refl }; few = omega arith })
fields-taken (suc n) (b ∷ bs) x e = go (var_uint (b ∷ bs)) refl e (λ l y q. fields-taken n l y q)
  where
    more : (v : ℕ × List ℕ) → Suffix (b ∷ bs) v.1 → (o : Option (List ℕ × List ℕ)) → ((y : List ℕ × List ℕ) → o ≡ some y → Taken n v.1 y) →
        (o >>= λ y. some (v.0 ∷ y.0, y.1)) ≡ some x → Taken (suc n) (b ∷ bs) x
    more v u none k e = absurd (none-ne-some x e)
    more v u (some y) k e =
        let t = k y refl in
        let q : (v.0 ∷ y.0, y.1) ≡ x = some-injective (v.0 ∷ y.0, y.1) x e in
        subst (λ (z : List ℕ × List ℕ). Taken (suc n) (b ∷ bs) z) q
        (record { behind = later (b ∷ bs) v.1 y.1 u t.behind; few = omega (arith, t.few) })

    go : (o : Option (ℕ × List ℕ)) → var_uint (b ∷ bs) ≡ o → (o >>= λ v. var_uints n v.1 >>= λ y. some (v.0 ∷ y.0, y.1)) ≡ some x →
        ((l : List ℕ) (y : List ℕ × List ℕ) → var_uints n l ≡ some y → Taken n l y) → Taken (suc n) (b ∷ bs) x
    go none q e k = absurd (none-ne-some x e)
    go (some v) q e k = more v (one_behind (b ∷ bs) v q) (var_uints n v.1) (k v.1) e

-- a list of at most six, by its places
six_places : (fs : List ℕ) → length fs ≤ 6 → fields_told (six_fields fs) ≡ fs
six_places [] k = refl
six_places (y ∷ []) k = refl
six_places (y ∷ m ∷ []) k = refl
six_places (y ∷ m ∷ d ∷ []) k = refl
six_places (y ∷ m ∷ d ∷ h ∷ []) k = refl
six_places (y ∷ m ∷ d ∷ h ∷ i ∷ []) k = refl
six_places (y ∷ m ∷ d ∷ h ∷ i ∷ s ∷ []) k = refl
six_places (y ∷ m ∷ d ∷ h ∷ i ∷ s ∷ x ∷ r) k = absurd (omega arith)

-- fields that read at a place are six at most, and what is left begins at a place
pub record FieldsAre (s : List ℕ) (x : List ℕ × List ℕ) : Type 0 where
  pub few : length x.0 ≤ 6
  pub told : fields_told (six_fields x.0) ≡ x.0
  pub rest : x.1 ≡ drop (length s - length x.1) s

pub fields_are : (s : List ℕ) (at : ℕ) (x : List ℕ × List ℕ) → at ≤ length s → var_uints 6 (drop at s) ≡ some x → FieldsAre s x
fields_are s at x inside e =
    let t = fields-taken 6 (drop at s) x e in
    let u = t.behind in
    let r : x.1 ≡ drop (at + u.count) s = u.is ∙ drop-drop u.count at s in
    let p : length s - length x.1 ≡ at + u.count =
    ap (λ (l : List ℕ). length s - length l) r ∙ behind s (at + u.count) (omega (arith, u.most, length-drop at s)) in
    record { few = t.few; told = six_places x.0 t.few; rest = r ∙ ap (λ (j : ℕ). drop j s) (sym p) }

pub fields_few : (s : List ℕ) (at : ℕ) (x : FieldsTo) → fields_at s at ≡ Ok x → x.fields.count ≤ 6
unfolding fields_at
fields_few s at x e = go (var_uints 6 (drop at s)) refl e
  where
    go : (o : Option (List ℕ × List ℕ)) → var_uints 6 (drop at s) ≡ o → fields_in (length s) o ≡ Ok x → x.fields.count ≤ 6
    go none q e = absurd (cc)
    go (some y) q e =
        let w : ◌≡◌ {A = FieldsTo} (record { fields = six_fields y.0; next = length s - length y.1 }) x = cc in
        let k : length y.0 ≡ x.fields.count = ap (λ (z : FieldsTo). z.fields.count) w in
        omega (arith, (fields-taken 6 (drop at s) y q).few)
