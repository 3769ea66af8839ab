-- Document 02, Item 1, at one item: what stands at a place, or why it does not read, line by line in the order of Item 1.
-- The bytes s reach to the end of what the item stands in. That is given by its type byte, `parent`, which is 0 for the stream itself:
-- no container has that type byte.
-- Assumes nothing.
use Rattle.std.specs.Prelude.{ℕ, ◌+◌, Bool, false, cond, ◌&&◌, ◌||◌, not, List, ltb, leb, eqb, length, take, Result, Ok, Err, Option, Some, None, unwrap_or}
use Rattle.std.proofs.Math.Seq.{slice}
use Rattle.reading.specs.declared.Refusal.{Refusal}
use Rattle.reading.specs.declared.Refusal.TheVariants.{PastTheEnd, TooDeep, NotIon}
use Rattle.reading.specs.declared.Number.{Number}
use Rattle.reading.specs.declared.Name.{Name}
use Rattle.reading.specs.declared.Header.{Header}
use Rattle.reading.specs.declared.Wrapped.{Wrapped}
use Rattle.reading.specs.declared.Item.{Item}
use Rattle.reading.specs.Headers.{var_uint_at, header_at, top_header_at}
use Rattle.reading.specs.Scalars.{scalar_in, is_some, sids_of}

-- ---- type bytes

-- "0: null": a NOP pad
abbrev pub is_pad : ℕ → Bool
is_pad b = ltb b 0x0F

abbrev pub is_marker : ℕ → Bool
is_marker b = eqb b 0xE0

-- "14: Annotations"
abbrev pub is_wrapper : ℕ → Bool
is_wrapper b = leb 0xE1 b && ltb b 0xEF

-- a list, an s-expression or a struct that is not null
abbrev pub opens : ℕ → Bool
opens b = leb 0xB0 b && (ltb b 0xDF && (not (eqb b 0xBF) && not (eqb b 0xCF)))

abbrev pub is_stream : ℕ → Bool
is_stream parent = eqb parent 0

-- in a struct each item has a name
abbrev pub has_names : ℕ → Bool
has_names parent = leb 0xD0 parent && ltb parent 0xDF

abbrev pub is_sorted_struct : ℕ → Bool
is_sorted_struct parent = eqb parent 0xD1

-- ---- the name, then the header: only where the stream ends is running out of bytes 14

abbrev pub name_of : Result Number Refusal → Result Name Refusal
name_of (Err r) = Err r
name_of (Ok n) = Ok (record { value = Some n.value; next = n.next })

abbrev pub name_at : List ℕ → ℕ → ℕ → Result Name Refusal
name_at s parent at = cond (has_names parent) (name_of (var_uint_at NotIon s at)) (Ok (record { value = None; next = at }))

abbrev pub head_in : List ℕ → ℕ → ℕ → Result Header Refusal
head_in s parent at = cond (is_stream parent) (top_header_at s at) (header_at NotIon s at)

-- ---- "14: Annotations": the bytes s reach to the wrapper's end, its body stands at a place

-- exactly one value fills the rest, which is no pad and no wrapper
abbrev pub filled : List ℕ → ℕ → ℕ → Result Header Refusal → Result Wrapped Refusal
filled s from to (Err r) = Err r
filled s from to (Ok h) =
    cond (is_pad h.kind || (is_wrapper h.kind || not (eqb h.stop (length s)))) (Err NotIon)
    (Ok (record { sids = from; sids_end = to; header = h }))

-- at least one sid; the sids end where their length says
abbrev pub annotated : List ℕ → Result Number Refusal → Result Wrapped Refusal
annotated s (Err r) = Err r
annotated s (Ok n) =
    cond (leb 1 n.value && (leb (n.next + n.value) (length s) && is_some (sids_of (slice n.next (n.next + n.value) s))))
    (filled s n.next (n.next + n.value) (header_at NotIon s (n.next + n.value)))
    (Err NotIon)

unfoldable pub wrapped_at : List ℕ → ℕ → Result Wrapped Refusal
wrapped_at s at = annotated s (var_uint_at NotIon s at)

-- a value in its wrapper, or as it stands
abbrev pub unwrapped : List ℕ → Result Header Refusal → Result Wrapped Refusal
unwrapped s (Err r) = Err r
unwrapped s (Ok h) =
    cond (is_wrapper h.kind) (wrapped_at (take h.stop s) h.start)
    (Ok (record { sids = h.start; sids_end = h.start; header = h }))

-- ---- the content

-- a scalar's body reads; a container's is not judged at its header
abbrev pub reads : ℕ → List ℕ → Bool
reads b body = is_pad b || (is_marker b || (opens b || is_some (scalar_in b body)))

abbrev pub is_below : ℕ → Option ℕ → Bool
is_below least None = false
is_below least (Some name) = ltb name least

-- in a sorted struct a name may repeat but not fall, a pad's aside
abbrev pub falls : ℕ → ℕ → ℕ → Option ℕ → Bool
falls parent least b name = is_sorted_struct parent && (not (is_pad b) && is_below least name)

-- the least name that may follow: 0 where items have none
abbrev pub raised : ℕ → ℕ → Option ℕ → ℕ
raised least b name = cond (is_pad b) least (unwrap_or name 0)

-- document 01: a state has room for 32
abbrev pub most_open : ℕ
most_open = 32

-- what stands at a place: an item, or none where the bytes end; or why it does not read
abbrev pub Found : Type 0
Found = Result (Option Item) Refusal

abbrev pub judged : List ℕ → ℕ → ℕ → ℕ → Option ℕ → Result Wrapped Refusal → Found
judged s parent least depth name (Err r) = Err r
judged s parent least depth name (Ok w) =
    cond (falls parent least w.header.kind name || not (reads w.header.kind (slice w.header.start w.header.stop s))) (Err NotIon)
    (cond (opens w.header.kind && leb most_open depth) (Err TooDeep)
    (Ok (Some (record { name = name; held = w }))))

abbrev pub named : List ℕ → ℕ → ℕ → ℕ → Result Name Refusal → Found
named s parent least depth (Err r) = Err r
named s parent least depth (Ok n) = judged s parent least depth n.value (unwrapped s (head_in s parent n.next))

-- The item at a place: with this parent, no name under `least` where the parent is sorted, and `depth` containers open.
unfoldable pub item_at : List ℕ → ℕ → ℕ → ℕ → ℕ → Found
item_at s parent least depth at =
    cond (ltb (length s) at) (Err PastTheEnd)
    (cond (eqb at (length s)) (Ok None) (named s parent least depth (name_at s parent at)))
