-- The header at a place, test by test in the order of the definition.
-- Assumes nothing.
use Prim.Native.Nat.{ℕ, ◌+◌, ◌-◌, ◌/◌, ◌%◌, ◌≤◌, ◌<◌}
use native.Mathlib.Omega.{arith}
use mathlib.Core.Path.{◌≡◌, refl, sym, ◌∙◌}
use mathlib.Core.Bool.{true, false}
use mathlib.Core.List.{List}
use lib.ListN.{length, get_or}
use borrow.Author.Tests.{lt-ltb, le-ltb, le-leb, lt-leb}
use Rattle.reading.specs.declared.Refusal.{Refusal}
use Rattle.reading.specs.declared.Refusal.TheVariants.{NotIon}
use Rattle.reading.specs.declared.Number.{Number}
use Rattle.std.specs.Prelude.{Result, Ok, Err}
use Rattle.reading.specs.Headers.{impossible, alone, measured, never, framed, framed_by, headed, header_at}
use Rattle.read_fields.proofs.VarUInts.{var_uint_bounds}
use Rattle.ion.proofs.Tests.{by_cases}
use Rattle.read_header.specs.Lengths.{length_at}

-- ---- the body within the bytes

module _ (out : Refusal) (s : List ℕ) (b n start : ℕ) where
  pub framed-never : never (b / 16) (b % 16) n ≡ true → framed out s b n start ≡ Err NotIon
  framed-never e = rw (e) refl

  module _ (possible : never (b / 16) (b % 16) n ≡ false) (inside : start ≤ length s) where
    pub framed_cut : length s - start < n → framed out s b n start ≡ Err out
    framed_cut h = rw (possible, lt-leb (start + n) (length s) (omega arith)) refl

    pub framed-whole : n ≤ length s - start → framed out s b n start ≡ Ok (record { kind = b; start = start; stop = start + n })
    framed-whole h = rw (possible, le-leb (start + n) (length s) (omega arith)) refl

-- ---- the type byte

module _ (out : Refusal) (s : List ℕ) (at : ℕ) where
  pub header_out : length s ≤ at → header_at out s at ≡ Err out
  unfolding header_at
  header_out h = rw (le-ltb at (length s) h) refl

  module _ (inside : at < length s) where
    pub header_here : header_at out s at ≡ headed out s at (get_or s at 0)
    unfolding header_at
    header_here = rw (lt-ltb at (length s) inside) refl

    pub header_impossible : impossible (get_or s at 0 / 16) (get_or s at 0 % 16) ≡ true → header_at out s at ≡ Err NotIon
    header_impossible e = header_here ∙ rw (e) refl

    module _ (possible : impossible (get_or s at 0 / 16) (get_or s at 0 % 16) ≡ false) where
      pub header_alone : alone (get_or s at 0 / 16) (get_or s at 0 % 16) ≡ true
          → header_at out s at ≡ Ok (record { kind = get_or s at 0; start = at + 1; stop = at + 1 })
      header_alone e = header_here ∙ rw (possible, e) refl

      module _ (more : alone (get_or s at 0 / 16) (get_or s at 0 % 16) ≡ false) where
        header_framed : (f : Result Number Refusal) → length_at out s (get_or s at 0) (at + 1) ≡ f → header_at out s at ≡ framed_by out s (get_or s at 0) f
        header_framed f e =
            by_cases (measured (get_or s at 0 / 16) (get_or s at 0 % 16)) (λ m. header_here ∙ rw (possible, more, m, ← e, m) refl)
            (λ m. header_here ∙ rw (possible, more, m, ← e, m) refl)

        pub header_refused : (r : Refusal) → Err r ≡ length_at out s (get_or s at 0) (at + 1) → header_at out s at ≡ Err r
        header_refused r e = header_framed (Err r) (sym e)

        module _ (n : Number) (is : Ok n ≡ length_at out s (get_or s at 0) (at + 1)) where
          pub header_within : n.next ≤ length s
          header_within =
              by_cases (measured (get_or s at 0 / 16) (get_or s at 0 % 16))
              (λ m. (var_uint_bounds out s (at + 1) n (cc (is, m))).1)
              (λ m. let e : at + 1 ≡ n.next = cc (is, m) in omega arith)

          pub header_never : never (get_or s at 0 / 16) (get_or s at 0 % 16) n.value ≡ true → header_at out s at ≡ Err NotIon
          header_never e = header_framed (Ok n) (sym is) ∙ framed-never out s (get_or s at 0) n.value n.next e

          module _ (fits : never (get_or s at 0 / 16) (get_or s at 0 % 16) n.value ≡ false) where
            pub header_cut : length s - n.next < n.value → header_at out s at ≡ Err out
            header_cut h = header_framed (Ok n) (sym is) ∙ framed_cut out s (get_or s at 0) n.value n.next fits header_within h

            pub header_whole : n.value ≤ length s - n.next
                → header_at out s at ≡ Ok (record { kind = get_or s at 0; start = n.next; stop = n.next + n.value })
            header_whole h = header_framed (Ok n) (sym is) ∙ framed-whole out s (get_or s at 0) n.value n.next fits header_within h

pub ruleset a_byte = (header_out, header_impossible, header_alone, header_refused, header_within, header_never, header_cut, header_whole)
