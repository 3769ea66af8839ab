-- What check 7 leaves of a timestamp: the bytes of its UTC fields, or nothing. How many they are is told by the UTC year.
-- Assumes nothing.
use Prim.Native.Nat.{ℕ, ◌+◌, ◌≤◌, ◌<◌}
use native.Mathlib.Omega.{arith}
use mathlib.Core.Path.{◌≡◌, sym, ◌∙◌, ap}
use mathlib.Core.Bool.{Bool, true, false}
use mathlib.Core.List.{List, []}
use mir.Syntax.{w64}
use mir.Val.{Fits}
use lib.ListN.{length}
use Rattle.std.specs.Prelude.{Option, Some, None}
use Rattle.buffer.specs.Laid.{placed, written, size_of}
use Rattle.buffer.proofs.Laid.{written-some, size_of-some}
use Rattle.ion.specs.Value.{timestamp_code}
use Rattle.encoding.specs.Headers.{type_byte, header_bytes, framed_bytes}
use Rattle.encoding.specs.Timestamp.{is_timestamp}
use Rattle.encoding.specs.Argument.{argument_bytes, checked_bytes}
use Rattle.encoding.proofs.Headers.{header_least, header_most, length_header, length-framed}
use Rattle.decimal.proofs.Values.{checked_bytes_refused, checked_bytes_accepted}
use Rattle.timestamp.specs.declared.Timestamp.{Timestamp}
use Rattle.timestamp.specs.Arguments.{offset_minutes, fraction_digits, fields_of, argument_of}
use Rattle.timestamp.specs.Utc.{in_utc}
use Rattle.timestamp.specs.Small.{Small, body_of, value_of}
use Rattle.timestamp.proofs.Runs.{first_put, second_room, second_put, both_put}
use Rattle.timestamp.proofs.SmallFields.{utc_body}
use Rattle.timestamp.proofs.Body.{body-most}

-- header and body
module _ (t : Timestamp) (h : Small t) (body : ℕ) (q : body ≡ length (body_of t)) (header : ℕ) (k : header ≡ length (header_bytes 0 body)) where
  pub value_length : header + body ≡ length (value_of t)
  unfolding value_of
  value_length = rw (k, q) (sym (length-framed (type_byte timestamp_code) (body_of t)))

  pub value_fits : Fits w64 (header + body)
  value_fits = record { fits = omega (arith, body-most t h, header_most 0 body (omega (arith, body-most t h))) }

-- ---- the body's bytes put behind their header: `body` is the count of the one and `size` that of the other, as they are told before these are put

module _ (b : List ℕ) (at t : ℕ) (bytes : List ℕ) (body size : ℕ) (q : body ≡ length bytes) (k : size ≡ length (header_bytes 0 body))
    (h : at + (size + body) ≤ length b) where
  both_room : at + (length (header_bytes t body) + length bytes) ≤ length b
  both_room = rw (length_header t body, ← q, ← k) h

  pub no_header : (l : List ℕ) → ◌≡◌ {A = Option ℕ × List ℕ} (None, l) (placed b at (header_bytes t body)) → ⊥
  no_header = first_put b at (header_bytes t body) bytes both_room

  module _ (n : ℕ) (l : List ℕ) (e : ◌≡◌ {A = Option ℕ × List ℕ} (Some n, l) (placed b at (header_bytes t body))) where
    pub bytes_room : (at + n + length bytes ≤ length l) × (length l ≡ length b)
    bytes_room = second_room b at (header_bytes t body) bytes both_room n l e

    pub no_bytes : (l' : List ℕ) → ◌≡◌ {A = Option ℕ × List ℕ} (None, l') (placed l (at + n) bytes) → ⊥
    no_bytes = second_put b at (header_bytes t body) bytes both_room n l e

    pub framed_put : (m : ℕ) (l' : List ℕ) → ◌≡◌ {A = Option ℕ × List ℕ} (Some m, l') (placed l (at + n) bytes)
        → (◌≡◌ {A = Option ℕ × List ℕ} (Some (n + m), l') (placed b at (framed_bytes t bytes))) × (n + m ≡ size + body)
    unfolding framed_bytes
    framed_put m l' f =
        let w = both_put b at (header_bytes t body) bytes both_room n l e m l' f in
        (rw q at w.0, w.1 ∙ rw (length_header t body, k, q))

-- ---- what check 7 leaves of a timestamp

module _ (t : Timestamp) where
  abbrev is_valid : Bool
  is_valid = is_timestamp (offset_minutes t.offset) (fields_of t) (fraction_digits t.fraction)

  pub refused : is_valid ≡ false → checked_bytes (argument_of t) ≡ []
  refused v = checked_bytes_refused (argument_of t) (rw v)

  accepted : is_valid ≡ true → (u : Timestamp) → u ≡ in_utc t → checked_bytes (argument_of t) ≡ value_of u
  unfolding argument_bytes value_of
  accepted v u e =
      checked_bytes_accepted (argument_of t) (rw v) ∙ sym (ap value_of e ∙ ap (framed_bytes (type_byte timestamp_code)) (utc_body t))

  -- a value has one byte at least
  value_some : (u : Timestamp) → 0 < length (value_of u)
  unfolding value_of
  value_some u = omega (arith, length-framed (type_byte timestamp_code) (body_of u), header_least 0 (length (body_of u)))

  module _ (v : is_valid ≡ true) (u : Timestamp) (e : u ≡ in_utc t) where
    pub accepted_size : ◌≡◌ {A = Option ℕ} (Some (length (value_of u))) (size_of (checked_bytes (argument_of t)))
    accepted_size = rw (accepted v u e) (sym (size_of-some (value_of u) (value_some u)))

    pub accepted_put : (b : List ℕ) (at : ℕ) → placed b at (value_of u) ≡ written b at (checked_bytes (argument_of t))
    accepted_put b at = rw (accepted v u e) (sym (written-some b at (value_of u) (value_some u)))
