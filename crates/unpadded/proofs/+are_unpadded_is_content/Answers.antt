-- The items of a body by what the rule says of the item at each place; what an item holds, by its type byte. Assumes nothing.
use Rattle.std.proofs.Common.{rules, ◌≡◌, ℕ, ◌-◌, ◌<◌, length, false, List, sym, ap, ◌∙◌, arith}
use Rattle.std.specs.Prelude.{not, Ok, Err, None}
use Rattle.std.proofs.Math.Seq.{length-take-le}
use Rattle.reading.specs.Scalars.{scalar_in}
use Rattle.reading.specs.Bodies.{mark_in}
use Rattle.read_items.proofs.Bounds.{found_here, one_more}
use Rattle.read_items.proofs.Parts.{part_slice}
use Rattle.unpadded.proofs.Steps.{no_item, at_pad, wrong_content, goes_past, content_inside, content_leaf}
use Rattle.unpadded.proofs.+are_unpadded_is_content.Goals as goal
use Rattle.unpadded.proofs.+are_unpadded_is_content.Goals.{are_unpadded-then-is_pad-via-then-is_pad, are_unpadded-then-is_pad-via-else-is_pad+then-not-is_content, are_unpadded-in_default, are_unpadded-in_default-2}

-- ---- the items

pub are_unpadded-loop-item-init : goal.are_unpadded-loop-item-init
are_unpadded-loop-item-init t c = (omega arith, omega arith, λ r k. k)

pub are_unpadded-is_content-requires : goal.are_unpadded-is_content-requires
are_unpadded-is_content-requires t c =
    let a = c.args in
    let q = found_here a.s.now a.holder.kind c.loop-item.least a.holder.depth c.loop-item.i c.item.ensures c.in-Ok-Some.is c.in-Ok-Some.field-0-is in
    let w = q.1.held in
    (omega (arith, w.after, w.behind, w.before, w.body, w.within), (w.body, (w.within, q.1.room)))

pub are_unpadded-returns-then-is_pad : goal.are_unpadded-returns-then-is_pad
are_unpadded-returns-then-is_pad t c =
    let a = c.args in
    let q = found_here a.s.now a.holder.kind c.loop-item.least a.holder.depth c.loop-item.i c.item.ensures c.in-Ok-Some.is c.in-Ok-Some.field-0-is in
    let w = q.1.held in
    let inside : c.loop-item.i < length a.s.now = omega (arith, w.after, w.behind, w.before, w.body, w.within) in
    elim c.then-is_pad.branch [
      | are_unpadded-then-is_pad-via-then-is_pad b ↦ c.loop-item.invariant.2 false (λ g h.
          at_pad g (omega arith) a.s.now a.holder.kind c.loop-item.least a.holder.depth c.loop-item.i inside _ q.0
          (sym c.is_pad.ensures ∙ b.if-is_pad.true))
      | are_unpadded-then-is_pad-via-else-is_pad+then-not-is_content b ↦ c.loop-item.invariant.2 false (λ g h.
          wrong_content g (omega arith) a.s.now a.holder.kind c.loop-item.least a.holder.depth c.loop-item.i inside _ q.0
          (sym c.is_pad.ensures ∙ b.if-is_pad.false)
          (sym b.if-not-is_content.true ∙ b.is_content.ensures (g - 1) (omega (arith, w.after, w.behind, w.before, w.body, w.within))))
    ]

pub are_unpadded-loop-item-smaller : goal.are_unpadded-loop-item-smaller
are_unpadded-loop-item-smaller t c =
    let a = c.args in
    let q = found_here a.s.now a.holder.kind c.loop-item.least a.holder.depth c.loop-item.i c.item.ensures c.in-Ok-Some.is c.in-Ok-Some.field-0-is in
    let w = q.1.held in
    omega (arith, w.after, w.behind, w.before, w.body, w.within)

pub are_unpadded-loop-item-preserved : goal.are_unpadded-loop-item-preserved
are_unpadded-loop-item-preserved t c =
    let a = c.args in
    let q = found_here a.s.now a.holder.kind c.loop-item.least a.holder.depth c.loop-item.i c.item.ensures c.in-Ok-Some.is c.in-Ok-Some.field-0-is in
    let w = q.1.held in
    let inside : c.loop-item.i < length a.s.now = omega (arith, w.after, w.behind, w.before, w.body, w.within) in (
      omega (arith, w.after, w.behind, w.before, w.body),
      w.within,
      λ r k. c.loop-item.invariant.2 r (λ g h.
          goes_past g (omega arith) a.s.now a.holder.kind c.loop-item.least a.holder.depth c.loop-item.i inside _ q.0
          (sym c.is_pad.ensures ∙ c.if-is_pad.false) r
          (sym c.if-not-is_content.false ∙ c.is_content.ensures (g - 1) (omega (arith, w.after, w.behind, w.before, w.body, w.within)))
          (rw c.unwrap_or-least.ensures at (k (g - 1) (omega (arith, w.after, w.behind, w.before, w.body, w.within))))),
    )

pub are_unpadded-returns : goal.are_unpadded-returns
are_unpadded-returns t c =
    let a = c.args in
    elim c.match-item.branch [
      | are_unpadded-in_default b ↦ c.loop-item.invariant.2 _ (λ g h.
          no_item g (omega arith) a.s.now a.holder.kind c.loop-item.least a.holder.depth c.loop-item.i (Ok None)
          (let none : b.in_default.field-0 ≡ None = search rules in ap Ok (sym none) ∙ sym b.in_default.is ∙ c.item.ensures) tt)
      | are_unpadded-in_default-2 b ↦ c.loop-item.invariant.2 _ (λ g h.
          no_item g (omega arith) a.s.now a.holder.kind c.loop-item.least a.holder.depth c.loop-item.i (Err b.in_default.field-0) (sym b.in_default.is ∙ c.item.ensures) tt)
    ]

-- ---- what an item holds

pub is_content-slice_bounds-are_unpadded-end : goal.is_content-slice_bounds-are_unpadded-end
is_content-slice_bounds-are_unpadded-end t c = sym (length-take-le c.args.header.stop c.args.s.now c.requires.1.0)

pub is_content-are_unpadded-requires : goal.is_content-are_unpadded-requires
is_content-are_unpadded-requires t c =
    let prefix = length-take-le c.args.header.stop c.args.s.now c.requires.1.0 in
    (omega (arith, prefix), omega (arith, prefix))

pub is_content-returns-then-is_container : goal.is_content-returns-then-is_container
is_content-returns-then-is_container t c = λ f h.
    let a = c.args in
    let prefix = length-take-le a.header.stop a.s.now c.requires.1.0 in
    let deeper = one_more _ c.inside.ensures.1.1 (c.requires.1.1 (sym c.is_container.ensures ∙ c.if-is_container.true)) in
    (rw (c.inside.ensures.0, c.inside.ensures.1.0, deeper) at (c.are_unpadded.ensures f (omega (arith, prefix)))) ∙ content_inside f a.s.now a.holder.depth a.header.kind a.header.start a.header.stop
    (sym c.is_container.ensures ∙ c.if-is_container.true)

pub is_content-returns : goal.is_content-returns
is_content-returns t c = λ f h.
    let a = c.args in
    ap not (c.has_mark.ensures
    ∙ ap (λ (l : List ℕ). mark_in (scalar_in a.header.kind l)) (part_slice a.s.now a.header.start a.header.stop c.requires.0 c.requires.1.0))
    ∙ content_leaf f a.s.now a.holder.depth a.header.kind a.header.start a.header.stop (sym c.is_container.ensures ∙ c.if-is_container.false)
