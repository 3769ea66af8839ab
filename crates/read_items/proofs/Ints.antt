-- The short way past an int, test by test; and where it answers a place, an item stands before that place which is an int.
-- Assumes nothing.
use Prim.Native.Nat.{ℕ, ◌+◌, ◌-◌, ◌/◌, ◌%◌, ◌≤◌, ◌<◌}
use native.Mathlib.Omega.{arith}
use mathlib.Core.Path.{◌≡◌, refl, sym, ◌∙◌, ap, subst}
use mathlib.Core.Bool.{true, false, cond, ◌&&◌, not}
use mathlib.Core.List.{List}
use lib.Dec.{ltb, leb, eqb}
use lib.ListN.{length, get_or, take}
use lib.Seq.{slice, length-take-le, get_or-take}
use borrow.Author.Tests.{lt-ltb, le-ltb, ltb-true, ltb-false, leb-true, eqb-true, eqb-false, ne_eqb, le-leb, lt-leb}
use Rattle.ion.specs.Value.{positive_code, negative_code}
use Rattle.ion.specs.Fields.{uint}
use Rattle.ion.specs.Scalars.{scalar_of}
use Rattle.ion.proofs.Tests.{by_cases, both}
use Rattle.reading.specs.declared.Refusal.TheVariants.{NotIon}
use Rattle.reading.specs.Headers.{header_at}
use Rattle.reading.specs.Scalars.{is_some, code_from, body_of, scalar_in}
use Rattle.reading.specs.Items.{is_pad, opens, item_at}
use Rattle.read_header.specs.Usual.{usual}
use Rattle.read_header.proofs.Usual.{usual_whole}
use Rattle.read_bodies.proofs.Digits.{not_zero}
use Rattle.read_scalars.proofs.Bodies.{negative_reads}
use Rattle.read_scalars.proofs.Codes.{body_reads}
use Rattle.std.specs.Prelude.{Ok, Some, None}
use Rattle.reading.specs.declared.Item.{Item}
use Rattle.read_items.specs.Ints.{is_sequence, is_short_int, is_shortest, end_from, int_end}

pub record ShortInt (b : ℕ) : Type 0 where
  pub code : b / 32 ≡ 1
  pub least : 1 ≤ b % 16
  pub most : b % 16 < 14

pub short_int : (b : ℕ) → is_short_int b ≡ true → ShortInt b
short_int b e =
    let p = both {a = eqb (b / 32) 1} {b = ltb 0 (b % 16) && ltb (b % 16) 14} e in
    let q = both {a = ltb 0 (b % 16)} {b = ltb (b % 16) 14} p.1 in
    record { code = eqb-true (b / 32) 1 p.0; least = ltb-true 0 (b % 16) q.0; most = ltb-true (b % 16) 14 q.1 }

-- ---- the answer, test by test

module _ (s : List ℕ) (parent at : ℕ) where
  pub end_outside : is_sequence parent ≡ false → int_end s parent at ≡ None
  unfolding int_end
  end_outside e = rw (e) refl

  pub end_past : length s ≤ at → int_end s parent at ≡ None
  unfolding int_end
  end_past h = by_cases (is_sequence parent) (λ e. rw (e, le-ltb at (length s) h) refl) (λ e. rw (e) refl)

  module _ (sequence : is_sequence parent ≡ true) (within : at < length s) where
    end_within : int_end s parent at ≡ end_from s at (get_or s at 0)
    unfolding int_end
    end_within = rw (sequence, lt-ltb at (length s) within) refl

    pub end_zero : get_or s at 0 ≡ 0x20 → int_end s parent at ≡ Some (at + 1)
    end_zero e = end_within ∙ rw (e) refl

    module _ (other : get_or s at 0 ≡ 0x20 → ⊥) where
      end_shortest : int_end s parent at ≡ cond (is_shortest s at (get_or s at 0)) (Some (at + 1 + get_or s at 0 % 16)) None
      end_shortest = end_within ∙ rw (ne_eqb (get_or s at 0) 0x20 other) refl

      pub end_other : is_short_int (get_or s at 0) ≡ false → int_end s parent at ≡ None
      end_other e = end_shortest ∙ rw (e) refl

      module _ (short : is_short_int (get_or s at 0) ≡ true) where
        pub end_cut : length s - at ≤ get_or s at 0 % 16 → int_end s parent at ≡ None
        end_cut h = end_shortest ∙ rw (short, le-ltb (at + get_or s at 0 % 16) (length s) (omega arith)) refl

        module _ (whole : get_or s at 0 % 16 < length s - at) where
          pub end_zeros : get_or s (at + 1) 0 ≡ 0 → int_end s parent at ≡ None
          end_zeros z = end_shortest ∙ rw (short, lt-ltb (at + get_or s at 0 % 16) (length s) (omega arith), z) refl

          pub end_is : (get_or s (at + 1) 0 ≡ 0 → ⊥) → int_end s parent at ≡ Some (at + 1 + get_or s at 0 % 16)
          end_is n = end_shortest
              ∙ rw (short, lt-ltb (at + get_or s at 0 % 16) (length s) (omega arith), lt-ltb 0 (get_or s (at + 1) 0) (omega arith)) refl

pub ruleset an_int = (short_int, end_outside, end_past, end_zero, end_other, end_cut, end_zeros, end_is)

-- ---- the item before that place

abbrev int_of : ℕ → ℕ → ℕ → Item
int_of b at next = record { name = None; held = record { sids = at + 1; sids_end = at + 1; header = record { kind = b; start = at + 1; stop = next } } }

-- the item is an int where its header is a usual one and its body reads
module _ (s : List ℕ) (parent at b : ℕ) (sequence : is_sequence parent ≡ true) (is : get_or s at 0 ≡ b) (header : usual b ≡ true)
    (code : b / 32 ≡ 1) (whole : at + b % 16 < length s)
    (reads : is_some (scalar_in b (slice (at + 1) (at + 1 + b % 16) s)) ≡ true) where
  header_is : header_at NotIon s at ≡ Ok (record { kind = b; start = at + 1; stop = at + 1 + b % 16 })
  header_is = rw (is) at (usual_whole NotIon s at (omega arith) (rw (is) header) (rw (is) whole))

  item_is : (least depth : ℕ) → item_at s parent least depth at ≡ Ok (Some (int_of b at (at + 1 + b % 16)))
  unfolding item_at
  item_is least depth =
      let p = both {a = leb 0xB0 parent} {b = ltb parent 0xD0} sequence in
      let low = leb-true 0xB0 parent p.0 in
      let high = ltb-true parent 0xD0 p.1 in
      rw (
        le-ltb (length s) at (omega arith),
        ne_eqb at (length s) (λ e. omega arith),
        lt-leb 0xD0 parent high,
        ne_eqb parent 0 (λ e. omega arith),
        header_is,
        lt-leb 0xE1 b (omega arith),
        ne_eqb parent 0xD1 (λ e. omega arith),
        le-ltb b 0x0F (omega arith),
        ne_eqb b 0xE0 (λ e. omega arith),
        lt-leb 0xB0 b (omega arith),
        reads,
      )
      refl

-- a positive int always reads, a negative one where its first byte is not zero
module _ (s : List ℕ) (at b : ℕ) where
  positive_reads : (stop : ℕ) → b / 16 ≡ 2 → b % 16 < 14 → is_some (scalar_in b (slice (at + 1) stop s)) ≡ true
  unfolding code_from body_of scalar_of
  positive_reads stop t l = sym (body_reads b (slice (at + 1) stop s) (λ e. omega arith) 2 positive_code refl t)

  negative_body-reads : (stop : ℕ) → at + 1 < stop → stop ≤ length s → 0 < get_or s (at + 1) 0 → b / 16 ≡ 3 → b % 16 < 14
      → is_some (scalar_in b (slice (at + 1) stop s)) ≡ true
  unfolding code_from body_of scalar_of
  negative_body-reads stop h k n t l =
      let u : 0 < uint (slice (at + 1) stop s) =
      not_zero (take stop s) (at + 1) (get_or s (at + 1) 0) (omega (arith, length-take-le stop s k)) (sym (get_or-take stop s (at + 1) 0 h)) n in
      sym (ap not (sym (ne_eqb (uint (slice (at + 1) stop s)) 0 (λ e. omega arith))) ∙ negative_reads (uint (slice (at + 1) stop s))
      ∙ body_reads b (slice (at + 1) stop s) (λ e. omega arith) 3 negative_code refl t)

-- An int stands at the place, without a name: no pad, and nothing that is entered.
pub record IntItem (s : List ℕ) (parent at next : ℕ) : Type 0 where
  pub kind : ℕ
  pub is : (least depth : ℕ) → item_at s parent least depth at ≡ Ok (Some (int_of kind at next))
  pub leaf : opens kind ≡ false
  pub counts : is_pad kind ≡ false

module _ (s : List ℕ) (parent at : ℕ) (sequence : is_sequence parent ≡ true) where
  int_here : (b : ℕ) → get_or s at 0 ≡ b → usual b ≡ true → b / 32 ≡ 1 → at + b % 16 < length s
      → is_some (scalar_in b (slice (at + 1) (at + 1 + b % 16) s)) ≡ true → IntItem s parent at (at + 1 + b % 16)
  int_here b is header code whole reads = record {
    kind = b;
    is = λ least depth. item_is s parent at b sequence is header code whole reads least depth;
    leaf = rw (lt-leb 0xB0 b (omega arith)) refl;
    counts = le-ltb b 0x0F (omega arith);
  }

  zero_here : at < length s → get_or s at 0 ≡ 0x20 → IntItem s parent at (at + 1)
  zero_here h e =
      let z : at + 1 + 0x20 % 16 ≡ at + 1 = omega arith in
      subst (λ (n : ℕ). IntItem s parent at n) z
      (int_here 0x20 e refl refl (omega arith) (positive_reads s at 0x20 (at + 1 + 0x20 % 16) refl (omega arith)))

  module _ (short : is_short_int (get_or s at 0) ≡ true) (whole : get_or s at 0 % 16 < length s - at) (first : get_or s (at + 1) 0 ≡ 0 → ⊥) where
    shortest_here : IntItem s parent at (at + 1 + get_or s at 0 % 16)
    shortest_here =
        let b = get_or s at 0 in
        let k = short_int b short in
        let most = lt-ltb (b % 16) 14 k.most in
        by_cases (eqb (b / 16) 2)
        (λ p.
        let c = eqb-true (b / 16) 2 p in
        int_here b refl (rw (c, le-leb 0 (b % 16) (omega arith), most) refl) k.code (omega arith) (positive_reads s at b (at + 1 + b % 16) c k.most))
        (λ p.
        let n = eqb-false (b / 16) 2 p in
        let c : b / 16 ≡ 3 = omega (arith, k.code) in
        int_here b refl (rw (c, le-leb 1 (b % 16) k.least, most) refl) k.code (omega arith)
        (negative_body-reads s at b (at + 1 + b % 16) (omega (arith, k.least)) (omega arith) (omega arith) c k.most))

-- Where the short way answers a place, it is that behind an int.
pub int_item : (s : List ℕ) (parent at next : ℕ) → int_end s parent at ≡ Some next → IntItem s parent at next
int_item s parent at next e =
    by_cases (is_sequence parent) (λ sequence.
    by_cases (ltb at (length s)) (λ w. let h = ltb-true at (length s) w in
    by_cases (eqb (get_or s at 0) 0x20) (λ z. let zero = eqb-true (get_or s at 0) 0x20 z in
    there (at + 1) (end_zero s parent at sequence h zero) (zero_here s parent at sequence h zero))
    (λ z. let other = eqb-false (get_or s at 0) 0x20 z in
    by_cases (is_short_int (get_or s at 0)) (λ short.
    by_cases (ltb (get_or s at 0 % 16) (length s - at)) (λ v. let whole = ltb-true (get_or s at 0 % 16) (length s - at) v in
    by_cases (eqb (get_or s (at + 1) 0) 0) (λ f. none (end_zeros s parent at sequence h other short whole (eqb-true (get_or s (at + 1) 0) 0 f)))
    (λ f. let first = eqb-false (get_or s (at + 1) 0) 0 f in
    there (at + 1 + get_or s at 0 % 16) (end_is s parent at sequence h other short whole first) (shortest_here s parent at sequence short whole first)))
    (λ v. none (end_cut s parent at sequence h other short (ltb-false (get_or s at 0 % 16) (length s - at) v))))
    (λ short. none (end_other s parent at sequence h other short))))
    (λ w. none (end_past s parent at (ltb-false at (length s) w))))
    (λ outside. none (end_outside s parent at outside))
  where
    none : int_end s parent at ≡ None → IntItem s parent at next
    none q = cc (e, q)

    there : (n : ℕ) → int_end s parent at ≡ Some n → IntItem s parent at n → IntItem s parent at next
    there n q i = let same : n ≡ next = cc (e, q) in subst (λ (m : ℕ). IntItem s parent at m) same i
