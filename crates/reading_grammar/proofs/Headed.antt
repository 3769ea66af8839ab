-- A header of the grammar is found at its place: type byte, then length, then a body that lies within the bytes.
-- Assumes nothing.
use Rattle.std.specs.Prelude.{Ok}
use Prim.Native.Nat.{ℕ, ◌+◌, ◌*◌, ◌/◌, ◌%◌, ◌≤◌, ◌<◌}
use native.Mathlib.Omega.{arith}
use mathlib.Core.Path.{◌≡◌, refl, ◌∙◌, ap}
use mathlib.Core.Logic.{◌≢◌}
use mathlib.Core.Bool.{true, false, ◌&&◌}
use mathlib.Core.List.{List, ◌∷◌, ◌++◌}
use lib.Dec.{eqb}
use lib.ListN.{length, get_or, length-append}
use borrow.Author.Tests.{lt-ltb, le-leb, ne_eqb}
use Rattle.ion.specs.Value.{TypeCode, high_bits}
use Rattle.ion.specs.Fields.{VarUInt}
use Rattle.ion.specs.Grammar.{Header, short, long}
use Rattle.reading.specs.declared.Refusal.{Refusal}
use Rattle.reading.specs.Headers.{var_uint_at, impossible, alone, measured, never, header_at}
use Rattle.reading_grammar.proofs.Places.{Rest, rest-length, rest_head, rest-tail}
use Rattle.reading_grammar.proofs.Numbers.{number-found}
use Rattle.ion.proofs.Reader.{td_high, td_low}

module _ (out : Refusal) (s : List ℕ) (at b t l : ℕ) (first : get_or s at 0 ≡ b) (inside : at < length s) (hi : b / 16 ≡ t) (lo : b % 16 ≡ l)
    (can : impossible t l ≡ false) where
  alone_header : alone t l ≡ true → header_at out s at ≡ Ok (record { kind = b; start = at + 1; stop = at + 1 })
  unfolding header_at
  alone_header a = rw (lt-ltb at (length s) inside, first, hi, lo, can, a)

  short_header : alone t l ≡ false → measured t l ≡ false → never t l l ≡ false → (stop : ℕ) → stop ≡ at + 1 + l → stop ≤ length s
      → header_at out s at ≡ Ok (record { kind = b; start = at + 1; stop = stop })
  unfolding header_at
  short_header a m n stop e h = rw (lt-ltb at (length s) inside, first, hi, lo, can, a, m, n, ← e, le-leb stop (length s) h)

  long_header : alone t l ≡ false → measured t l ≡ true → (n next : ℕ) → var_uint_at out s (at + 1) ≡ Ok (record { value = n; next = next }) → never t l n ≡ false
      → (stop : ℕ) → stop ≡ next + n → stop ≤ length s → header_at out s at ≡ Ok (record { kind = b; start = next; stop = stop })
  unfolding header_at
  long_header a m n next v k stop e h = rw (lt-ltb at (length s) inside, first, hi, lo, can, a, m, v, hi, lo, k, ← e, le-leb stop (length s) h)

-- a type code t whose headers of n bytes have nothing special
pub record Usual (t n : ℕ) : Type 0 where
  pub shortly : n < 14 → impossible t n ≡ false
  pub at_length : impossible t 14 ≡ false
  pub framed : eqb t 1 ≡ false
  pub plain : (eqb t 13 && eqb n 1) ≡ false
  pub short_fits : never t n n ≡ false
  pub long_fits : never t 14 n ≡ false

-- the type byte k of a header of n bytes
pub record First (c : TypeCode) (n k : ℕ) : Type 0 where
  pub nibble : ℕ
  pub is : k ≡ high_bits c * 16 + nibble
  pub small : nibble < 15
  pub not_one : n ≢ 1 → nibble ≢ 1
  pub not_zero : n ≢ 0 → nibble ≢ 0

pub first : {c : TypeCode} {n : ℕ} {h : List ℕ} → Header c n h → First c n (get_or h 0 0)
first {c} {n} (short lt) = record { nibble = n; is = refl; small = omega arith; not_one = λ p. p; not_zero = λ p. p }
first {c} {n} (long e) = record { nibble = 14; is = refl; small = omega arith; not_one = λ p q. omega arith; not_zero = λ p q. omega arith }

pub plain_header : (out : Refusal) {s : List ℕ} {at : ℕ} {c : TypeCode} (body : List ℕ) {h : List ℕ} (r : List ℕ) (start stop : ℕ)
    → Header c (length body) h → Usual (high_bits c) (length body) → start ≡ at + length h → stop ≡ start + length body → Rest s at (h ++ (body ++ r))
    → header_at out s at ≡ Ok (record { kind = get_or h 0 0; start = start; stop = stop })
plain_header out {s} {at} {c} body r start stop (short lt) u e f x =
    let all : length s ≡ at + (1 + (length body + length r)) = rest-length x ∙ ap (λ (k : ℕ). at + k) (omega (arith, length-append body r)) in
    rw e
    (short_header out s at (high_bits c * 16 + length body) (high_bits c) (length body) (rest_head x) (omega arith)
    (td_high c (length body) (omega arith)) (td_low c (length body) (omega arith)) (u.shortly lt)
    (rw (ne_eqb (length body) 15 (λ q. omega arith), u.framed)) (rw (ne_eqb (length body) 14 (λ q. omega arith), u.plain)) u.short_fits
    stop (omega arith) (omega arith))
plain_header out {s} {at} {c} body r start stop (long {l} v) u e f x =
    let all : length s ≡ at + (1 + (length l + (length body + length r))) =
    rest-length x ∙ ap (λ (k : ℕ). at + k) (omega (arith, length-append l (body ++ r), length-append body r)) in
    long_header out s at (high_bits c * 16 + 14) (high_bits c) 14 (rest_head x) (omega arith) (td_high c 14 (omega arith))
    (td_low c 14 (omega arith)) u.at_length
    u.framed refl (length body) start (number-found out l (body ++ r) start v (omega arith) (rest-tail x)) u.long_fits stop f (omega arith)

-- the sorted struct
pub sorted_header : (out : Refusal) {s : List ℕ} {at : ℕ} (l body r : List ℕ) (start stop : ℕ)
    → VarUInt l (length body) → 2 ≤ length body → start ≡ at + (1 + length l) → stop ≡ start + length body → Rest s at (0xD1 ∷ (l ++ (body ++ r)))
    → header_at out s at ≡ Ok (record { kind = 0xD1; start = start; stop = stop })
sorted_header out {s} {at} l body r start stop v two e f x =
    let all : length s ≡ at + (1 + (length l + (length body + length r))) =
    rest-length x ∙ ap (λ (k : ℕ). at + k) (omega (arith, length-append l (body ++ r), length-append body r)) in
    long_header out s at 0xD1 13 1 (rest_head x) (omega arith) refl refl refl
    refl refl (length body) start (number-found out l (body ++ r) start v (omega arith) (rest-tail x))
    (rw (ne_eqb (length body) 1 (λ q. omega arith), ne_eqb (length body) 0 (λ q. omega arith))) stop f (omega arith)

-- a null or a bool: the type byte alone
pub byte_header : (out : Refusal) {s : List ℕ} {at : ℕ} (b : ℕ) (r : List ℕ) → impossible (b / 16) (b % 16) ≡ false
    → alone (b / 16) (b % 16) ≡ true → Rest s at (b ∷ r)
    → header_at out s at ≡ Ok (record { kind = b; start = at + 1; stop = at + 1 })
byte_header out {s} {at} b r can a x = alone_header out s at b (b / 16) (b % 16) (rest_head x) (omega (arith, rest-length x)) refl refl can a

-- a float of 0, 4 or 8 bytes
pub float_header : (out : Refusal) {s : List ℕ} {at : ℕ} (b l : ℕ) (body r : List ℕ) (stop : ℕ) → b / 16 ≡ 4 → b % 16 ≡ l → l < 14 → impossible 4 l ≡ false
    → length body ≡ l → stop ≡ at + 1 + length body → Rest s at (b ∷ (body ++ r)) → header_at out s at ≡ Ok (record { kind = b; start = at + 1; stop = stop })
float_header out {s} {at} b l body r stop hi lo lt can n e x =
    let all : length s ≡ at + (1 + (length body + length r)) = rest-length x ∙ ap (λ (k : ℕ). at + k) (omega (arith, length-append body r)) in
    short_header out s at b 4 l (rest_head x) (omega arith) hi lo can
    (rw (ne_eqb l 15 (λ q. omega arith))) (rw (ne_eqb l 14 (λ q. omega arith))) refl stop (omega arith) (omega arith)

-- Wherever these bytes of a header and a body stand, the header is found, with the type byte k.
abbrev pub HeaderFound : ℕ → List ℕ → List ℕ → Type 0
HeaderFound k h body =
    (out : Refusal) (s : List ℕ) (at : ℕ) (r : List ℕ) (start stop : ℕ) → start ≡ at + length h → stop ≡ start + length body
    → Rest s at (h ++ (body ++ r)) → header_at out s at ≡ Ok (record { kind = k; start = start; stop = stop })
