-- No more containers are open at once than there are bytes: recursion over the grammar's productions.
-- Assumes nothing.
use Prim.Native.Nat.{ℕ, ◌≤◌}
use native.Mathlib.Omega.{arith}
use mathlib.Core.List.{List, [], ◌∷◌, ◌++◌}
use lib.Dec.{leb}
use lib.ListN.{length, length-append}
use borrow.Author.Tests.{leb-true}
use Rattle.ion.specs.Grammar.{Phrase, padding, sids, bare, one, members, fields, stream, ◌⟶◌}
use Rattle.ion.specs.Grammar.{pad, is-null, is_false, is_true, is_zero, is_float32, is_float64, is_scalar}
use Rattle.ion.specs.Grammar.{is-sequence, is_struct, is_sorted, is_bare, is_annotated, sids_end, sids_next}
use Rattle.ion.specs.Grammar.{members_end, members_pad, members-next, fields_end, fields_pad, fields-next, stream_end, stream_pad, stream_marker, stream_next}
use Rattle.ion.proofs.Tests.{by_cases}
use Rattle.reading.specs.Walk.{higher, tree_depth, members_depth, fields_depth, stream_depth}
use Rattle.ion.proofs.Unique.{header_pos}
use Rattle.reading_grammar.proofs.Walked.{higher_within}
use Rattle.unpadded_grammar.specs.Exact.{OneValue}

-- the containers of a phrase are at most its bytes
abbrev pub Within : List ℕ → Phrase → Type 0
Within b padding = Unit {0}
Within b (sids an) = Unit {0}
Within b (bare an v) = tree_depth v ≤ length b
Within b (one v) = tree_depth v ≤ length b
Within b (members vs) = members_depth vs ≤ length b
Within b (fields fs) = fields_depth fs ≤ length b
Within b (stream is) = stream_depth is ≤ length b

pub higher-first : (m n : ℕ) → m ≤ higher m n
higher-first m n = by_cases (leb m n) (λ e. rw e (leb-true m n e)) (λ e. rw e (omega arith))

higher_append : (p b : List ℕ) (m n : ℕ) → m ≤ length p → n ≤ length b → higher m n ≤ length (p ++ b)
higher_append p b m n h k = higher_within m n (length (p ++ b)) (omega (arith, length-append p b)) (omega (arith, length-append p b))

right_append : (p b : List ℕ) (n : ℕ) → n ≤ length b → n ≤ length (p ++ b)
right_append p b n h = omega (arith, length-append p b)

pub depth_within : {b : List ℕ} {t : Phrase} → b ⟶ t → Within b t
unfolding tree_depth members_depth fields_depth stream_depth
depth_within (pad body hd) = tt
depth_within sids_end = tt
depth_within (sids_next l e r) = tt
depth_within (is-null c e) = omega arith
depth_within is_false = omega arith
depth_within is_true = omega arith
depth_within is_zero = omega arith
depth_within (is_float32 b e) = omega arith
depth_within (is_float64 b e) = omega arith
depth_within (is_scalar c body hd e) = omega arith
depth_within (is-sequence k {h} {body} hd bs) = let r = depth_within bs in omega (arith, r, length-append h body, header_pos hd)
depth_within (is_struct {h} {body} hd bs) = let r = depth_within bs in omega (arith, r, length-append h body, header_pos hd)
depth_within (is_sorted {body} l e pos bs up) = let r = depth_within bs in omega (arith, r, length-append l body)
depth_within (is_bare r) = depth_within r
depth_within (is_annotated {h} {s} {b} {v} l hd e ss r) =
    right_append h (l ++ (s ++ b)) (tree_depth v) (right_append l (s ++ b) (tree_depth v) (right_append s b (tree_depth v) (depth_within r)))
depth_within members_end = omega arith
depth_within (members_pad {p} {b} {vs} pd r) = right_append p b (members_depth vs) (depth_within r)
depth_within (members-next {p} {b} {v} {vs} x r) = higher_append p b (tree_depth v) (members_depth vs) (depth_within x) (depth_within r)
depth_within fields_end = omega arith
depth_within (fields_pad {p} {b} {fs} l e pd r) = right_append l (p ++ b) (fields_depth fs) (right_append p b (fields_depth fs) (depth_within r))
depth_within (fields-next {p} {b} {v} {fs} l e x r) =
    right_append l (p ++ b) (higher (tree_depth v) (fields_depth fs)) (higher_append p b (tree_depth v) (fields_depth fs) (depth_within x) (depth_within r))
depth_within stream_end = omega arith
depth_within (stream_pad {p} {b} {is} pd r) = right_append p b (stream_depth is) (depth_within r)
depth_within (stream_marker {b} {is} r) = right_append (0xE0 ∷ 0x01 ∷ 0x00 ∷ 0xEA ∷ []) b (stream_depth is) (depth_within r)
depth_within (stream_next {p} {b} {v} {is} x r) = higher_append p b (tree_depth v) (stream_depth is) (depth_within x) (depth_within r)

-- One value has at most as many containers open at once as it has bytes.
pub shallow : (b : List ℕ) (w : OneValue b) → tree_depth w.one ≤ length b
unfolding stream_depth
shallow b w = let h : higher (tree_depth w.one) 0 ≤ length b = depth_within w.reading in omega (arith, h, higher-first (tree_depth w.one) 0)
