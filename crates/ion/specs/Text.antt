-- UTF-8 by RFC 3629, section 4.
-- Assumes nothing.
use Rattle.std.specs.Prelude.{ℕ, Bool, true, false, ◌&&◌, List, [], ◌∷◌, leb}
use Rattle.std.proofs.Math.Option.{Option, none, some}

-- the byte b lies in the range, both ends counted
abbrev pub in_range : ℕ × ℕ → ℕ → Bool
in_range r b = leb r.0 b && leb b r.1

-- UTF8-tail
abbrev pub tail : ℕ × ℕ
tail = (0x80, 0xBF)

-- UTF8-char: each alternative of UTF8-1 to UTF8-4, as the ranges of its bytes.
abbrev pub characters : List (List (ℕ × ℕ))
characters =
    ((0x00, 0x7F) ∷ [])
    ∷ ((0xC2, 0xDF) ∷ tail ∷ [])
    ∷ ((0xE0, 0xE0) ∷ (0xA0, 0xBF) ∷ tail ∷ [])
    ∷ ((0xE1, 0xEC) ∷ tail ∷ tail ∷ [])
    ∷ ((0xED, 0xED) ∷ (0x80, 0x9F) ∷ tail ∷ [])
    ∷ ((0xEE, 0xEF) ∷ tail ∷ tail ∷ [])
    ∷ ((0xF0, 0xF0) ∷ (0x90, 0xBF) ∷ tail ∷ tail ∷ [])
    ∷ ((0xF1, 0xF3) ∷ tail ∷ tail ∷ tail ∷ [])
    ∷ ((0xF4, 0xF4) ∷ (0x80, 0x8F) ∷ tail ∷ tail ∷ [])
    ∷ []

-- What the alternative that begins with the byte b asks of the bytes after it; no byte begins two of them.
unfoldable pub begun : List (List (ℕ × ℕ)) → ℕ → Option (List (ℕ × ℕ))
begun [] b = none
begun ([] ∷ cs) b = begun cs b
begun ((r ∷ rs) ∷ cs) b = elim (in_range r b) [ true ↦ some rs | false ↦ begun cs b ]

-- The bytes end the character that still asks for `due`, and are whole characters from there on.
unfoldable pub utf8_from : List (ℕ × ℕ) → List ℕ → Bool
utf8_from [] [] = true
utf8_from (r ∷ due) [] = false
utf8_from [] (b ∷ bs) = elim (begun characters b) [ none ↦ false | some due ↦ utf8_from due bs ]
utf8_from (r ∷ due) (b ∷ bs) = in_range r b && utf8_from due bs

-- UTF8-octets: any number of characters.
unfoldable pub utf8 : List ℕ → Bool
utf8 b = utf8_from [] b
