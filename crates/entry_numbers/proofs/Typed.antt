-- The arguments of an entry point, of the types that it declares, are arguments of a typed call: what crosses as eight bytes is a sid of 64 bits.
-- Assumes nothing.
use Prim.Native.Nat.{ℕ, zero, suc, ◌+◌, ◌*◌, ◌^◌, ◌<◌}
use native.Mathlib.Omega.{arith}
use native.Mathlib.Nat.{pow-suc}
use mathlib.Core.List.{List, [], ◌∷◌, ◌++◌}
use lib.ListN.{get_or}
use Rattle.encoding.specs.Fields.{AllU64}
use Rattle.machine.specs.Call.{TypedCall}
use Rattle.annotations.specs.Sids.{least_first, sid_at, sid_count, sids_up_to, sids_of}
use Rattle.entry_numbers.specs.EntryCall.{EntryCall, gm_write_null, gm_write_bool, gm_write_i64, gm_write_int, gm_write_f32, gm_write_f64, gm_write_decimal}
use Rattle.entry_numbers.specs.EntryCall.{gm_write_timestamp, gm_write_symbol}
use Rattle.entry_numbers.specs.EntryCall.{gm_write_string, gm_write_clob, gm_write_blob, gm_field_name, gm_open_list, gm_open_sexp, gm_open_struct, gm_close}
use Rattle.entry_numbers.specs.EntryCall.{gm_abandon, gm_version_marker, gm_finished, gm_empty}
use Rattle.entry_numbers.specs.EntryCall.{call_of, AllU8, EntryTyped}

-- ---- sids

-- a byte past the end is zero
byte_below : (b : List ℕ) (i : ℕ) → AllU8 b → get_or b i 0 < 256
byte_below [] i h = omega arith
byte_below (x ∷ b) zero h = h.0
byte_below (x ∷ b) (suc i) h = byte_below b i h.1

least_first-below : (b : List ℕ) (at k : ℕ) → AllU8 b → least_first b at k < 256 ^ k
unfolding least_first
least_first-below b at zero h = omega arith
least_first-below b at (suc k) h =
    rw (pow-suc 256 k) (joined (get_or b at 0) (least_first b (at + 1) k) (256 ^ k) (byte_below b at h) (least_first-below b (at + 1) k h))
  where
    joined : (x y p : ℕ) → x < 256 → y < p → x + 256 * y < p * 256
    joined x y p f g = omega arith

u64_snoc : (l : List ℕ) (n : ℕ) → AllU64 l → n < 2 ^ 64 → AllU64 (l ++ (n ∷ []))
u64_snoc [] n h k = (k, tt)
u64_snoc (x ∷ l) n h k = (h.0, u64_snoc l n h.1 k)

sids_typed : (b : List ℕ) (n : ℕ) → AllU8 b → AllU64 (sids_up_to b n)
unfolding sids_up_to sid_at
sids_typed b zero h = tt
sids_typed b (suc n) h = u64_snoc (sids_up_to b n) (least_first b (8 * n) 8) (sids_typed b n h) (least_first-below b (8 * n) 8 h)

annotations_typed : (b : List ℕ) → AllU8 b → AllU64 (sids_of b)
unfolding sids_of
annotations_typed b h = sids_typed b (sid_count b) h

-- ---- every entry point

pub entry_typed : (e : EntryCall) → EntryTyped e → TypedCall (call_of e)
entry_typed (gm_write_null an code) h = (annotations_typed an h.0.0, tt)
entry_typed (gm_write_bool an value) h = (annotations_typed an h.0.0, tt)
entry_typed (gm_write_i64 an value) h = (annotations_typed an h.0.0, h.1)
entry_typed (gm_write_int an negative magnitude) h = (annotations_typed an h.0.0, h.2.1)
entry_typed (gm_write_f32 an bits) h = (annotations_typed an h.0.0, h.1)
entry_typed (gm_write_f64 an bits) h = (annotations_typed an h.0.0, h.1)
entry_typed (gm_write_decimal an negative coefficient exponent) h = (annotations_typed an h.0.0, h.3)
entry_typed (gm_write_timestamp an t) h = (annotations_typed an h.0.0, tt)
entry_typed (gm_write_symbol an sid) h = (annotations_typed an h.0.0, h.1)
entry_typed (gm_write_string an bytes) h = (annotations_typed an h.0.0, h.1.1)
entry_typed (gm_write_clob an bytes) h = (annotations_typed an h.0.0, h.1.1)
entry_typed (gm_write_blob an bytes) h = (annotations_typed an h.0.0, h.1.1)
entry_typed (gm_field_name sid) h = h
entry_typed (gm_open_list an) h = annotations_typed an h.0
entry_typed (gm_open_sexp an) h = annotations_typed an h.0
entry_typed (gm_open_struct an) h = annotations_typed an h.0
entry_typed gm_close h = tt
entry_typed gm_abandon h = tt
entry_typed gm_version_marker h = tt
entry_typed gm_finished h = tt
entry_typed gm_empty h = tt
