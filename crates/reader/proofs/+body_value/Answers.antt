-- A body's loop by what the walk makes of the item at each place; a value by the item that stands there. Assumes nothing.
use Rattle.std.proofs.Common.{rules, ◌≡◌, ℕ, ◌-◌, length, refl, sym, ap, ◌∙◌, arith, Ok, Err, Some, None}
use Rattle.std.proofs.Math.Seq.{length-take-le}
use Rattle.reading.specs.Items.{raised}
use Rattle.reading.specs.Walk.{Ending}
use borrow.Author.Tests.{le-ltb, eq-eqb}
use Rattle.reading.specs.Items.{item_at}
use Rattle.read_items.proofs.Bounds.{found_here, one_more}
use Rattle.reader.specs.Values.{past}
use Rattle.reader.proofs.Walks.{walk_behind, value_stops, value_none, value_int, value_leaf, value_container, value_goes_on}
use Rattle.reader.proofs.+body_value.Goals as goal
use Rattle.reader.proofs.+body_value.Goals.{any_value-then-is_container+in_ok-body, any_value-else-is_container}

-- ---- the body

pub body-returns-in_err-passed : goal.body-returns-in_err-passed
body-returns-in_err-passed t c =
    let a = c.args in
    let stopped : c.from_residual.result ≡ Err c.in_err-passed.field-0.0 = search rules in
    c.loop-passed.invariant.1 c.from_residual.result
    (λ g k. stopped ∙ walk_behind g (omega arith) a.s.now c.loop-passed.holder.kind c.loop-passed.holder.least c.loop-passed.holder.depth c.loop-passed.i (Err c.in_err-passed.field-0.0)
    (c.in_err-passed.ensures (g - 1) (omega arith)))

pub body-loop-passed-smaller : goal.body-loop-passed-smaller
body-loop-passed-smaller t c =
    let a = c.args in
    let f = length a.s.now - c.loop-passed.i in
    let w = value_goes_on f a.s.now c.loop-passed.holder.kind c.loop-passed.holder.least c.loop-passed.holder.depth c.loop-passed.i c.in-Some.passed
    (sym (ap Ok (sym c.in-Some.is) ∙ c.in_ok-passed.ensures f (omega arith))) in
    omega (arith, w.0, w.1)

pub body-loop-passed-preserved : goal.body-loop-passed-preserved
body-loop-passed-preserved t c =
    let a = c.args in
    let f = length a.s.now - c.loop-passed.i in
    let w = value_goes_on f a.s.now c.loop-passed.holder.kind c.loop-passed.holder.least c.loop-passed.holder.depth c.loop-passed.i c.in-Some.passed
    (sym (ap Ok (sym c.in-Some.is) ∙ c.in_ok-passed.ensures f (omega arith))) in (
      omega (arith, w.0),
      λ r k. c.loop-passed.invariant.1 r
          (λ g h. k (g - 1) (omega (arith, w.0, w.1))
          ∙ walk_behind g (omega arith) a.s.now c.loop-passed.holder.kind c.loop-passed.holder.least c.loop-passed.holder.depth c.loop-passed.i (Ok (Some c.in-Some.passed))
          (ap Ok (sym c.in-Some.is) ∙ c.in_ok-passed.ensures (g - 1) (omega arith))),
    )

pub body-returns : goal.body-returns
body-returns t c =
    let a = c.args in
    c.loop-passed.invariant.1 (Ok tt)
    (λ g k. walk_behind g (omega arith) a.s.now c.loop-passed.holder.kind c.loop-passed.holder.least c.loop-passed.holder.depth c.loop-passed.i (Ok None)
    (ap Ok (sym c.in_default.is) ∙ c.in_ok-passed.ensures (g - 1) (omega arith)))

-- ---- the value

pub value-returns-in-Some : goal.value-returns-in-Some
value-returns-in-Some t c = λ f h.
    let a = c.args in
    sym (value_int f a.s.now a.holder.kind a.holder.least a.holder.depth a.at c.in-Some.next (sym c.in-Some.ensures))

pub value-returns-then-at-s : goal.value-returns-then-at-s
unfolding item_at
value-returns-then-at-s t c = λ f h.
    let a = c.args in
    sym (value_none f a.s.now a.holder.kind a.holder.least a.holder.depth a.at
    (rw (le-ltb (length a.s.now) a.at (omega arith), eq-eqb a.at (length a.s.now) c.if-at-s.true) refl))

pub any_value-returns-in-Ok-None : goal.any_value-returns-in-Ok-None
any_value-returns-in-Ok-None t c = λ f h.
    let a = c.args in
    sym (value_none f a.s.now a.holder.kind a.holder.least a.holder.depth a.at (sym c.item.ensures ∙ c.in-Ok-None.is ∙ ap Ok c.in-Ok-None.field-0-is))

pub any_value-returns-in-Err : goal.any_value-returns-in-Err
any_value-returns-in-Err t c = λ f h.
    let a = c.args in
    sym (value_stops f a.s.now a.holder.kind a.holder.least a.holder.depth a.at c.in-Err.refusal (sym c.item.ensures ∙ c.in-Err.is))

pub any_value-slice_bounds-body-end : goal.any_value-slice_bounds-body-end
any_value-slice_bounds-body-end t c =
    let a = c.args in
    let q = found_here a.s.now a.holder.kind a.holder.least a.holder.depth a.at c.item.ensures c.in-Ok-Some.is c.in-Ok-Some.field-0-is in
    sym (length-take-le c.in-Ok-Some.item.held.header.stop a.s.now q.1.held.within)

pub any_value-body-requires : goal.any_value-body-requires
any_value-body-requires t c =
    let a = c.args in
    let q = found_here a.s.now a.holder.kind a.holder.least a.holder.depth a.at c.item.ensures c.in-Ok-Some.is c.in-Ok-Some.field-0-is in
    let w = q.1.held in
    let prefix = length-take-le c.in-Ok-Some.item.held.header.stop a.s.now w.within in
    (omega (arith, prefix, w.after, w.behind, w.before, w.body, w.within), tt)

pub any_value-returns-in_err-body : goal.any_value-returns-in_err-body
any_value-returns-in_err-body t c = λ f h.
    let a = c.args in
    let q = found_here a.s.now a.holder.kind a.holder.least a.holder.depth a.at c.item.ensures c.in-Ok-Some.is c.in-Ok-Some.field-0-is in
    let w = q.1.held in
    let prefix = length-take-le c.in-Ok-Some.item.held.header.stop a.s.now w.within in
    let deeper = one_more _ c.inside.ensures.1.1 (q.1.room (sym c.is_container.ensures ∙ c.if-is_container.true)) in
    let stopped : c.from_residual.result ≡ Err c.in_err-body.field-0.0 = search rules in
    stopped
    ∙ ap (λ (e : Ending). past e (record { next = c.in-Ok-Some.item.held.header.stop; least = raised a.holder.least c.in-Ok-Some.item.held.header.kind c.in-Ok-Some.item.name }))
    (rw (c.inside.ensures.0, c.inside.ensures.1.0, deeper) at
    (c.in_err-body.ensures f (omega (arith, prefix, w.after, w.behind, w.before, w.body, w.within))))
    ∙ sym (value_container f a.s.now a.holder.kind a.holder.least a.holder.depth a.at c.in-Ok-Some.item q.0 (sym c.is_container.ensures ∙ c.if-is_container.true))

pub any_value-returns : goal.any_value-returns
any_value-returns t c = λ f h.
    let a = c.args in
    let i = c.in-Ok-Some.item in
    let q = found_here a.s.now a.holder.kind a.holder.least a.holder.depth a.at c.item.ensures c.in-Ok-Some.is c.in-Ok-Some.field-0-is in
    let w = q.1.held in
    let prefix = length-take-le i.held.header.stop a.s.now w.within in
    ap (λ (l : ℕ). Ok (Some (record { next = i.held.header.stop; least = l }))) c.least_after.ensures
    ∙ (elim c.if-is_container.branch [
      | any_value-then-is_container+in_ok-body b ↦
          ap (λ (e : Ending). past e (record { next = i.held.header.stop; least = raised a.holder.least i.held.header.kind i.name }))
          (rw (b.inside.ensures.0, b.inside.ensures.1.0, one_more _ b.inside.ensures.1.1 (q.1.room (sym c.is_container.ensures ∙ b.if-is_container.true))) at
          (b.in_ok-body.ensures f (omega (arith, prefix, w.after, w.behind, w.before, w.body, w.within))))
          ∙ sym (value_container f a.s.now a.holder.kind a.holder.least a.holder.depth a.at i q.0 (sym c.is_container.ensures ∙ b.if-is_container.true))
      | any_value-else-is_container b ↦
          sym (value_leaf f a.s.now a.holder.kind a.holder.least a.holder.depth a.at i q.0 (sym c.is_container.ensures ∙ b.if-is_container.false))
    ])
