-- UTF-8 by RFC 3629: both ends of each range of its table, and one beyond each end; no byte begins two alternatives.
-- Computation. Assumes nothing.
use Prim.Native.Nat.{ℕ, zero, suc}
use mathlib.Core.Path.{◌≡◌, refl}
use mathlib.Core.Bool.{true, false}
use mathlib.Core.List.{List, [], ◌∷◌, map, reverse}
use Rattle.ion.specs.Text.{characters, begun, utf8_from, utf8}
use Rattle.ion.proofs.Readings.{bytes_before, hex}

abbrev texts : List ℕ
texts =
    -- UTF8-1, UTF8-2
    0x01 ∷ 0x7F ∷ 0xC280 ∷ 0xC2BF ∷ 0xDF80 ∷ 0xDFBF
    -- UTF8-3: E0, E1 to EC, ED, EE and EF
    ∷ 0xE0A080 ∷ 0xE0BFBF ∷ 0xE18080 ∷ 0xE1BFBF ∷ 0xEC8080 ∷ 0xECBFBF ∷ 0xED8080 ∷ 0xED9FBF ∷ 0xEE8080 ∷ 0xEEBFBF ∷ 0xEF8080 ∷ 0xEFBFBF
    -- UTF8-4: F0, F1 to F3, F4
    ∷ 0xF0908080 ∷ 0xF0BFBFBF ∷ 0xF1808080 ∷ 0xF1BFBFBF ∷ 0xF3808080 ∷ 0xF3BFBFBF ∷ 0xF4808080 ∷ 0xF48FBFBF
    -- one character behind another, of each length
    ∷ 0x6FC3A9E282ACF09F98806F
    ∷ []

abbrev no_texts : List ℕ
no_texts =
    -- bytes that begin no character
    0x80 ∷ 0xBF ∷ 0xC180 ∷ 0xF5808080 ∷ 0xFF
    -- a second byte out of its range
    ∷ 0xC27F ∷ 0xC2C0 ∷ 0xDF7F ∷ 0xDFC0
    ∷ 0xE09F80 ∷ 0xE0C080 ∷ 0xE17F80 ∷ 0xE1C080 ∷ 0xEC7F80 ∷ 0xECC080 ∷ 0xED7F80 ∷ 0xEDA080 ∷ 0xEE7F80 ∷ 0xEEC080 ∷ 0xEF7F80 ∷ 0xEFC080
    ∷ 0xF08F8080 ∷ 0xF0C08080 ∷ 0xF17F8080 ∷ 0xF1C08080 ∷ 0xF37F8080 ∷ 0xF3C08080 ∷ 0xF47F8080 ∷ 0xF4908080
    -- a third
    ∷ 0xE0A07F ∷ 0xE0A0C0 ∷ 0xE1807F ∷ 0xE180C0 ∷ 0xED807F ∷ 0xED80C0 ∷ 0xEE807F ∷ 0xEE80C0
    ∷ 0xF0907F80 ∷ 0xF090C080 ∷ 0xF1807F80 ∷ 0xF180C080 ∷ 0xF4807F80 ∷ 0xF480C080
    -- a fourth
    ∷ 0xF090807F ∷ 0xF09080C0 ∷ 0xF180807F ∷ 0xF18080C0 ∷ 0xF480807F ∷ 0xF48080C0
    -- cut off, and one byte too long
    ∷ 0xC2 ∷ 0xE282 ∷ 0xF09F98 ∷ 0xC28080
    ∷ []

pub texts_read : utf8 [] ∷ utf8 (0x00 ∷ []) ∷ map (λ (n : ℕ). utf8 (hex n)) texts ≡ true ∷ true ∷ map (λ (n : ℕ). true) texts
unfolding bytes_before begun utf8_from utf8
texts_read = refl

pub texts_refused : map (λ (n : ℕ). utf8 (hex n)) no_texts ≡ map (λ (n : ℕ). false) no_texts
unfolding bytes_before begun utf8_from utf8
texts_refused = refl

-- ---- the order of the alternatives does not count

abbrev below : ℕ → List ℕ
below zero = []
below (suc n) = n ∷ below n

pub begun-once : map (begun (reverse characters)) (below 256) ≡ map (begun characters) (below 256)
unfolding begun reverse
begun-once = refl
