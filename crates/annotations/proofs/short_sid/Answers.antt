-- Each turn takes one byte more below the others; seven bytes are below 256 ^ 7, so nothing wraps. Assumes nothing.
use mathlib.Core.Path.{◌≡◌, refl, sym, ◌∙◌, ap}
use Prim.Native.Nat.{ℕ, suc, ◌+◌, ◌-◌, ◌*◌, ◌^◌, ◌<◌, ◌≤◌}
use native.Mathlib.Omega.{arith}
use native.Mathlib.Nat.{zero-add}
use mathlib.Core.List.{List, [], ◌∷◌}
use lib.ListN.{length, take, get_or, length-append}
use lib.Seq.{take_at, take_all, take-take, get_or-take, get_or-append_seam}
use Rattle.std.specs.List.{push}
use Rattle.annotations.specs.Sids.{least_first}
use Rattle.annotations.proofs.Sids.{least_first-below, least_first_end, least_first_more}
use Rattle.annotations.proofs.short_sid.Goals as goal

-- what a turn before a rest r leaves of the bytes b, where v is the rest's last byte
module _ (b r r' : List ℕ) (v sid : ℕ) (front : r ≡ take (length r) b) (within : length r ≤ length b) (short : length b < 8)
    (e : r ≡ push r' v) (is : sid ≡ least_first b (length r) (8 - length r)) where
  one_less : length r ≡ suc (length r')
  one_less = omega (arith, ap length e, length-append r' (v ∷ []))

  below : ((i : ℕ) → get_or b i 0 < 256) → sid < 256 ^ 7
  below bytes = rw is (least_first-below b bytes (length r) (8 - length r) 7 (omega (arith, one_less)))

  front-next : r' ≡ take (length r') b
  front-next =
      sym (take_at r' (v ∷ []) (length r') refl)
      ∙ (ap (take (length r')) (sym e ∙ front) ∙ take-take (length r') (length r) b (omega (arith, one_less)))

  last : v ≡ get_or b (length r') 0
  last =
      sym (get_or-append_seam r' v [] 0)
      ∙ (ap (λ (l : List ℕ). get_or l (length r') 0) (sym e ∙ front) ∙ get_or-take (length r) b (length r') 0 (omega (arith, one_less)))

  more : v + 256 * sid ≡ least_first b (length r') (8 - length r')
  more =
      let n : length r - 1 ≡ length r' = omega (arith, one_less) in
      rw (last, is) (rw (n, zero-add (length r'), zero-add (length r)) at (least_first_more b 0 (length r) (omega (arith, one_less)) (omega arith)))

pub loop-byte-init : goal.loop-byte-init
loop-byte-init c =
    let b = c.args.bytes.now in
    let e : c.into_iter-byte-iterator.result.iter.rest.now ≡ b = rw (c.into_iter-byte-iterator.ensures.into_iter_gives, c.rev-byte-items.ensures.source) c.iter.ensures.rest in
    rw e (sym (take_all (length b) b (omega arith)), omega arith, sym (least_first_end b (length b) (8 - length b) (omega arith)))

pub overflow_mul-sid : goal.overflow_mul-sid
overflow_mul-sid c = let l = c.loop-byte in
    omega (arith, below c.args.bytes.now _ _ _ l.sid l.invariant.0 l.invariant.1 c.requires c.in-Some.ensures.steps l.invariant.2 (λ i. omega (arith, c.type_inv.bytes i)))

pub overflow_add-sid : goal.overflow_add-sid
overflow_add-sid c = let l = c.loop-byte in
    omega (
      arith,
      below c.args.bytes.now _ _ _ l.sid l.invariant.0 l.invariant.1 c.requires c.in-Some.ensures.steps l.invariant.2 (λ i. omega (arith, c.type_inv.bytes i)),
      last c.args.bytes.now _ _ _ l.sid l.invariant.0 l.invariant.1 c.requires c.in-Some.ensures.steps l.invariant.2,
      c.type_inv.bytes (length c.next.new.self.iter.rest.now),
    )

pub loop-byte-preserved : goal.loop-byte-preserved
loop-byte-preserved c = let l = c.loop-byte in
    let b = c.args.bytes.now in
    rw c.from.ensures (
      front-next b _ _ _ l.sid l.invariant.0 l.invariant.1 c.requires c.in-Some.ensures.steps l.invariant.2,
      omega (arith, one_less b _ _ _ l.sid l.invariant.0 l.invariant.1 c.requires c.in-Some.ensures.steps l.invariant.2),
      more b _ _ _ l.sid l.invariant.0 l.invariant.1 c.requires c.in-Some.ensures.steps l.invariant.2,
    )

pub returns : goal.returns
returns c = let l = c.loop-byte in
    rw (c.in-None.ensures.steps.0) at l.invariant.2
