-- Whether the items from a place on read, none of them a NOP pad and none an out-of-calendar timestamp, containers entered: by what the reader
-- answers at each place. The crate unpadded_grammar shows that the grammar says the same.
-- Assumes nothing.
use Rattle.std.specs.Prelude.{ℕ, zero, suc, ◌+◌, Bool, false, cond, ◌&&◌, ◌||◌, not, List, eqb, length, take, Ok, Err, Some, None, unwrap_or}
use Rattle.std.proofs.Math.Seq.{slice}
use Rattle.reading.specs.Scalars.{scalar_in}
use Rattle.reading.specs.Bodies.{mark_in}
use Rattle.reading.specs.Items.{is_pad, is_marker, opens, Found, item_at}

-- a scalar has no mark; what a container holds is asked of the items inside, given how to go on from a place
abbrev pub content_is : (List ℕ → ℕ → ℕ → ℕ → ℕ → Bool) → List ℕ → ℕ → ℕ → ℕ → ℕ → Bool
content_is go s depth b start stop = cond (opens b) (go (take stop s) b 0 (depth + 1) start) (not (mark_in (scalar_in b (slice start stop s))))

-- an item that is no pad raises the least name to its own
abbrev pub step_is : (List ℕ → ℕ → ℕ → ℕ → ℕ → Bool) → List ℕ → ℕ → ℕ → ℕ → Found → Bool
step_is go s parent least depth (Err r) = false
step_is go s parent least depth (Ok None) = false
step_is go s parent least depth (Ok (Some i)) =
    let h = i.held.header in
    not (is_pad h.kind) && (content_is go s depth h.kind h.start h.stop && go s parent (unwrap_or i.name 0) depth h.stop)

-- with the parent, the least name and the open containers as `item_at` has them; f bounds the items
unfoldable pub unpadded_from : ℕ → List ℕ → ℕ → ℕ → ℕ → ℕ → Bool
unpadded_from zero s parent least depth at = false
unpadded_from (suc f) s parent least depth at =
    eqb at (length s) || step_is (λ t p l d i. unpadded_from f t p l d i) s parent least depth (item_at s parent least depth at)

abbrev pub content_by : ℕ → List ℕ → ℕ → ℕ → ℕ → ℕ → Bool
content_by f s depth b start stop = content_is (λ t p l d i. unpadded_from f t p l d i) s depth b start stop

-- the first item is all of the bytes, and no version marker
abbrev pub is_whole : List ℕ → Found → Bool
is_whole s (Err r) = false
is_whole s (Ok None) = false
is_whole s (Ok (Some i)) = eqb i.held.header.stop (length s) && not (is_marker i.held.header.kind)

-- One value, without pad and mark.
unfoldable pub is_one_value : List ℕ → Bool
is_one_value s = is_whole s (item_at s 0 0 0 0) && unpadded_from (suc (length s)) s 0 0 0 0
