-- `state_bytes::passes` meets its contract: it asks the tests one by one, the containers last.
-- Assumes nothing.
use Rattle.std.proofs.Common.{◌≡◌, sym, ◌∙◌}
use Rattle.place.specs.Misplaced.{misplaced}
use Rattle.state_bytes.specs.StateBytes.{state_of}
use Rattle.state_bytes.proofs.Laws.{state_is, too_far, passes_by}
use Rattle.state_bytes.proofs.passes.Goals as goal

pub returns-then-depth-room : goal.returns-then-depth-room
returns-then-depth-room c =
    let s = state_of c.args.st.now in
    let u : c.get_four-used.result ≡ s.used = c.get_four-used.ensures ∙ rw (state_is c.args.st.now c.told-st) in
    let d : c.from-depth.result ≡ s.depth = c.from-depth.ensures ∙ rw (state_is c.args.st.now c.told-st) in
    too_far s c.args.room (misplaced c.args.call s) (rw (u, d) at c.if-depth-room.true)

pub returns-then-waits-inside : goal.returns-then-waits-inside
returns-then-waits-inside c =
    sym (passes_by c.args.call c.args.st.now c.args.room c.get_four-used.result c.from-depth.result c.innermost_is_struct-inside.result c.is_misplaced.result
    c.told-st c.get_four-used.ensures c.from-depth.ensures c.innermost_is_struct-inside.ensures c.is_misplaced.ensures c.if-depth-room.false
    ∙ rw c.if-waits-inside.true)

pub returns : goal.returns
returns c =
    let s = state_of c.args.st.now in
    let u : c.get_four-used.result ≡ s.used = c.get_four-used.ensures ∙ rw (state_is c.args.st.now c.told-st) in
    let d : c.from-depth.result ≡ s.depth = c.from-depth.ensures ∙ rw (state_is c.args.st.now c.told-st) in
    c.containers_fit.ensures
    ∙ rw (u, d)
    (sym (passes_by c.args.call c.args.st.now c.args.room c.get_four-used.result c.from-depth.result c.innermost_is_struct-inside.result c.is_misplaced.result
    c.told-st c.get_four-used.ensures c.from-depth.ensures c.innermost_is_struct-inside.ensures c.is_misplaced.ensures c.if-depth-room.false
    ∙ rw c.if-waits-inside.false))
