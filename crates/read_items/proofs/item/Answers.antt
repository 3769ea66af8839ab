-- An item whose name and header read stands as its judgement says. Assumes nothing.
use Rattle.std.proofs.Common.{rules, ◌≡◌, ℕ, List, ◌-◌, length, take, drop, ◌<◌, sym, ap, ◌∙◌, arith, Ok, Err, Some}
use Rattle.std.proofs.Math.Seq.{slice}
use Rattle.reading.specs.declared.Refusal.{Refusal}
use Rattle.reading.specs.declared.Name.{Name}
use Rattle.reading.specs.declared.Wrapped.{Wrapped}
use Rattle.reading.specs.Items.{name_at, head_in, unwrapped, item_at}
use Rattle.read_items.specs.Stands.{stands}
use Rattle.read_items.proofs.Bounds.{body_bounds}
use Rattle.read_items.proofs.Parts.{part_slice}
use Rattle.read_items.proofs.Stands.{item_judged, judged_refused, judged_stands}
use Rattle.read_items.proofs.item.Goals as goal

-- Name and header read; the bytes that are judged are those that the header frames.
module _ (s : List ℕ) (parent least depth at : ℕ) (n : Name) (w : Wrapped) (inside : at < length s) (named : Ok n ≡ name_at s parent at)
    (held : Ok w ≡ unwrapped s (head_in s parent n.next)) where
  part : take (w.header.stop - w.header.start) (drop w.header.start s) ≡ slice w.header.start w.header.stop s
  part = let within = body_bounds s parent n.next w held in part_slice s w.header.start w.header.stop within.0 within.1

  refused : (r : Refusal) → Err r ≡ stands parent least depth n.value w.header.kind (take (w.header.stop - w.header.start) (drop w.header.start s))
      → item_at s parent least depth at ≡ Err r
  refused r e = item_judged s parent least depth at n w inside named held ∙ judged_refused s parent least depth n.value w r (e ∙ ap (stands parent least depth n.value w.header.kind) part)

  stood : Ok (tt {0}) ≡ stands parent least depth n.value w.header.kind (take (w.header.stop - w.header.start) (drop w.header.start s))
      → item_at s parent least depth at ≡ Ok (Some (record { name = n.value; held = w }))
  stood e = item_judged s parent least depth at n w inside named held ∙ judged_stands s parent least depth n.value w (e ∙ ap (stands parent least depth n.value w.header.kind) part)

pub returns-in_err-judge : goal.returns-in_err-judge
returns-in_err-judge c =
    let a = c.args in
    let stopped : c.from_residual-in_err-judge.result ≡ Err c.in_err-judge.field-0.0 = search rules in
    stopped
    ∙ sym (refused a.s.now a.holder.kind a.holder.least a.holder.depth a.at c.in_ok-name.name c.in_ok-held.held (omega arith) c.in_ok-name.ensures c.in_ok-held.ensures
    c.in_err-judge.field-0.0 c.in_err-judge.ensures)

pub returns : goal.returns
returns c =
    let a = c.args in
    sym (stood a.s.now a.holder.kind a.holder.least a.holder.depth a.at c.in_ok-name.name c.in_ok-held.held (omega arith) c.in_ok-name.ensures c.in_ok-held.ensures
    c.in_ok-judge.ensures)
