-- What an item holds and the items of a body, which ask each other: for any fuel above the count of the bytes that are left, they answer what the rule says.
-- The loop of a body keeps that whatever the rule says from i on, it says from the beginning; the measures are twice the bytes that are left.
-- Assumes nothing.
use Rattle.std.proofs.Common.{◌≡◌, ℕ, ◌+◌, ◌-◌, ◌*◌, ◌≤◌, Bool, length}
use Rattle.unpadded.specs.Rule.{unpadded_from}
use Rattle.unpadded.proofs.+are_unpadded_is_content.Given as goal

abbrev pub decreases-are_unpadded : goal.decreases-are_unpadded
decreases-are_unpadded l = 2 * (length l.s.now - l.at)

abbrev pub decreases-is_content : goal.decreases-is_content
decreases-is_content l = 2 * (l.header.stop - l.header.start) + 1

abbrev pub invariant-are_unpadded-loop-item : goal.invariant-are_unpadded-loop-item
invariant-are_unpadded-loop-item l =
    (l.at ≤ l.i) × (l.i ≤ length l.s)
    × ((r : Bool) → ((g : ℕ) → length l.s - l.i + 1 ≤ g → r ≡ unpadded_from g l.s l.holder.kind l.least l.holder.depth l.i)
    → (f : ℕ) → length l.s - l.at + 1 ≤ f → r ≡ unpadded_from f l.s l.holder.kind l.holder.least l.holder.depth l.at)

abbrev pub decreases-are_unpadded-loop-item : goal.decreases-are_unpadded-loop-item
decreases-are_unpadded-loop-item l = length l.s - l.i
