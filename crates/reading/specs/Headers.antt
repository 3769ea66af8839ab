-- Document 02, Item 1, at one header: its type byte and where its body starts and stops, or why it does not read.
-- The bytes reach to the end of what the header stands in, the stream or its parent; `out` is what running out of them means:
-- the stream is cut short, or, where a parent ends, the bytes are outside the grammar.
-- Assumes nothing.
use Rattle.std.specs.Prelude.{ℕ, ◌+◌, ◌*◌, ◌/◌, ◌%◌, ◌^◌, Bool, cond, ◌&&◌, ◌||◌, not, List, [], ◌∷◌, ltb, leb, eqb, length, drop, get_or, Result, Ok, Err}
use Rattle.reading.specs.declared.Refusal.{Refusal}
use Rattle.reading.specs.declared.Refusal.TheVariants.{NotIon, CutShort}
use Rattle.reading.specs.declared.Number.{Number}
use Rattle.reading.specs.declared.Header.{Header}

-- ---- "VarUInt and VarInt Fields": a number, and the place behind it

-- The bytes stand at the place `at`, and the groups before them make `acc`. A number past 64 bits is outside the grammar as soon as it is.
unfoldable pub var_uint_from : Refusal → ℕ → ℕ → List ℕ → Result Number Refusal
var_uint_from out acc at [] = Err out
var_uint_from out acc at (b ∷ bs) =
    cond (ltb (acc * 128 + b % 128) (2 ^ 64))
    (cond (ltb b 0x80) (var_uint_from out (acc * 128 + b % 128) (at + 1) bs) (Ok (record { value = acc * 128 + b % 128; next = at + 1 })))
    (Err NotIon)

unfoldable pub var_uint_at : Refusal → List ℕ → ℕ → Result Number Refusal
var_uint_at out s at = var_uint_from out 0 at (drop at s)

-- ---- "Typed Value Formats": type descriptors, by their type code t and their low four bits l

-- No value, pad or wrapper begins so: the reserved code 15; a bool above 1; a float of neither 0, 4 nor 8 bytes; a null wrapper;
-- a wrapper of no bytes, whose type byte is the version marker's.
abbrev pub impossible : ℕ → ℕ → Bool
impossible t l =
    eqb t 15
    || (eqb t 1 && (ltb 1 l && ltb l 15)
    || (eqb t 4 && not (eqb l 0 || (eqb l 4 || (eqb l 8 || eqb l 15)))
    || (eqb t 14 && (eqb l 0 || eqb l 15))))

-- The type descriptor is the whole value: a null or a bool.
abbrev pub alone : ℕ → ℕ → Bool
alone t l = eqb l 15 || eqb t 1

-- A length field follows: low bits 14, and the sorted struct D1.
abbrev pub measured : ℕ → ℕ → Bool
measured t l = eqb l 14 || (eqb t 13 && eqb l 1)

-- A length n that its type never has: a negative int of none, since negative zero is outside the grammar; a timestamp under 2, an offset and a year;
-- a wrapper under 3, a length, a sid and a value; a struct of 1, since a name and a value take two; a sorted struct of none.
abbrev pub never : ℕ → ℕ → ℕ → Bool
never t l n =
    (eqb t 3 && eqb n 0)
    || ((eqb t 6 && ltb n 2)
    || ((eqb t 14 && ltb n 3)
    || (eqb t 13 && (eqb n 1 || (eqb l 1 && eqb n 0)))))

-- ---- the header at a place

-- A body of n bytes from `start`: a length that its type never has comes before a body that is cut.
abbrev pub framed : Refusal → List ℕ → ℕ → ℕ → ℕ → Result Header Refusal
framed out s b n start =
    cond (never (b / 16) (b % 16) n) (Err NotIon)
    (cond (leb (start + n) (length s)) (Ok (record { kind = b; start = start; stop = start + n })) (Err out))

abbrev pub framed_by : Refusal → List ℕ → ℕ → Result Number Refusal → Result Header Refusal
framed_by out s b (Err r) = Err r
framed_by out s b (Ok n) = framed out s b n.value n.next

-- the header whose type byte b stands at `at`
abbrev pub headed : Refusal → List ℕ → ℕ → ℕ → Result Header Refusal
headed out s at b =
    cond (impossible (b / 16) (b % 16)) (Err NotIon)
    (cond (alone (b / 16) (b % 16)) (Ok (record { kind = b; start = at + 1; stop = at + 1 }))
    (cond (measured (b / 16) (b % 16)) (framed_by out s b (var_uint_at out s (at + 1)))
    (framed out s b (b % 16) (at + 1))))

unfoldable pub header_at : Refusal → List ℕ → ℕ → Result Header Refusal
header_at out s at = cond (ltb at (length s)) (headed out s at (get_or s at 0)) (Err out)

-- ---- "Value Streams": a version marker. Another byte is outside the grammar as soon as it is there, a beginning that stops is cut short.

unfoldable pub marked : List ℕ → ℕ → List ℕ → Result Header Refusal
marked [] at l = Ok (record { kind = 0xE0; start = at; stop = at })
marked (m ∷ ms) at [] = Err CutShort
marked (m ∷ ms) at (b ∷ bs) = cond (eqb b m) (marked ms (at + 1) bs) (Err NotIon)

unfoldable pub marker_at : List ℕ → ℕ → Result Header Refusal
marker_at s at = marked (0xE0 ∷ 0x01 ∷ 0x00 ∷ 0xEA ∷ []) at (drop at s)

-- At top level: a marker, whose first byte begins nothing else, or a header that the stream may cut.
unfoldable pub top_header_at : List ℕ → ℕ → Result Header Refusal
top_header_at s at = cond (eqb (get_or s at 0) 0xE0) (marker_at s at) (header_at CutShort s at)
