-- NOP pads in what bytes stand for (document 02, Item 12): a derivation of the grammar has none, neither between values nor inside one.
-- Assumes nothing.
use Rattle.std.specs.Prelude.{Bool, true, false, ◌&&◌, List, ℕ}
use Rattle.ion.specs.Grammar.{Phrase, ◌⟶◌, pad, is-null, is_false, is_true, is_zero, is_float32, is_float64, is_scalar, is-sequence, is_struct}
use Rattle.ion.specs.Grammar.{is_sorted, is_bare, is_annotated, sids_end, sids_next, members_end, members_pad, members-next, fields_end, fields_pad}
use Rattle.ion.specs.Grammar.{fields-next, stream_end, stream_pad, stream_marker, stream_next}

unfoldable pub has_no_pad : {b : List ℕ} {t : Phrase} → b ⟶ t → Bool
has_no_pad (pad body h) = false
has_no_pad (is-null c e) = true
has_no_pad is_false = true
has_no_pad is_true = true
has_no_pad is_zero = true
has_no_pad (is_float32 b e) = true
has_no_pad (is_float64 b e) = true
has_no_pad (is_scalar c body h e) = true
has_no_pad (is-sequence k h vs) = has_no_pad vs
has_no_pad (is_struct h fs) = has_no_pad fs
has_no_pad (is_sorted l n pos fs up) = has_no_pad fs
has_no_pad (is_bare v) = has_no_pad v
has_no_pad (is_annotated l h n an v) = has_no_pad v
has_no_pad sids_end = true
has_no_pad (sids_next l n an) = true
has_no_pad members_end = true
has_no_pad (members_pad p vs) = has_no_pad p && has_no_pad vs
has_no_pad (members-next v vs) = has_no_pad v && has_no_pad vs
has_no_pad fields_end = true
has_no_pad (fields_pad l n p fs) = has_no_pad p && has_no_pad fs
has_no_pad (fields-next l n v fs) = has_no_pad v && has_no_pad fs
has_no_pad stream_end = true
has_no_pad (stream_pad p is) = has_no_pad p && has_no_pad is
has_no_pad (stream_marker is) = has_no_pad is
has_no_pad (stream_next v is) = has_no_pad v && has_no_pad is
