-- A close by parts of the buffer, and an abandonment.
-- By cases of the checks. Assumes nothing.
use mathlib.Core.Path.{◌≡◌, refl, sym, ◌∙◌, ap}
use mathlib.Core.List.{List, [], ◌++◌}
use mathlib.Core.Bool.{true, false, ◌&&◌}
use Prim.Native.Nat.{ℕ, ◌+◌, ◌-◌, ◌≤◌}
use native.Mathlib.Omega.{arith}
use lib.Dec.{leb}
use lib.ListN.{length, take, drop, length-append}
use lib.Seq.{take-take}
use borrow.Author.Tests.{eq-eqb, le-leb, ne_eqb}
use Rattle.ion.specs.Value.{annotation_code}
use Rattle.encoding.specs.Headers.{type_byte, header_bytes, framed_bytes}
use Rattle.machine.specs.declared.Container.{Container}
use Rattle.machine.specs.Machine.{closed_bytes, length_if_moved, moved_bytes, splice, container_fits}
use Rattle.std.proofs.Common.{None}
use Rattle.containers.specs.Containers.{spliced, closed_on, abandoned_on}
use Rattle.encoding.proofs.Headers.{length_header}
use Rattle.containers.proofs.Moves.{part, length_part, slice-part}

-- ---- the close

module _ (c : Container) (used : ℕ) (b : List ℕ) where
  pub closed_on-fits : (container_fits used c && leb used (length b)) ≡ true → closed_on c used b
      ≡ spliced used c.start (closed_bytes c.start c.header c.code (take used b)) (moved_bytes c.start c.header c.code (take used b)) b
  unfolding closed_on
  closed_on-fits e = rw (closed_on, e) refl

  -- of a container that fits a buffer with that used length
  pub closed_on_held : container_fits used c ≡ true → used ≤ length b → closed_on c used b
      ≡ spliced used c.start (closed_bytes c.start c.header c.code (take used b)) (moved_bytes c.start c.header c.code (take used b)) b
  closed_on_held f u = closed_on-fits (rw (f, le-leb used (length b) u) refl)

  pub closed_on_plain : container_fits used c ≡ true → used ≤ length b → c.header ≡ c.start → closed_on c used b
      ≡ spliced used c.start (closed_bytes c.start c.start c.code (take used b)) (moved_bytes c.start c.start c.code (take used b)) b
  closed_on_plain f u h =
      closed_on_held f u
      ∙ ap (λ (n : ℕ). spliced used c.start (closed_bytes c.start n c.code (take used b)) (moved_bytes c.start n c.code (take used b)) b) h

  pub closed_on_not : (container_fits used c && leb used (length b)) ≡ false → closed_on c used b ≡ (None, b)
  unfolding closed_on
  closed_on_not e = rw (closed_on, e) refl

module _ (header code used : ℕ) (b : List ℕ) (w : header + 2 ≤ used) (u : used ≤ length b) where
  body-part : drop (header + 2) (take used b) ≡ part b (header + 2) (used - (header + 2))
  body-part = slice-part b (header + 2) used w u

  pub closed_bytes-plain : closed_bytes header header code (take used b) ≡ framed_bytes code (part b (header + 2) (used - (header + 2)))
  unfolding closed_bytes
  closed_bytes-plain = rw (closed_bytes, eq-eqb header header refl, body-part) refl

  pub closed_bytes_wrapped : (start : ℕ) → start + 2 ≤ header → closed_bytes start header code (take used b)
      ≡ framed_bytes (type_byte annotation_code) (part b (start + 2) (header - (start + 2)) ++ framed_bytes code (part b (header + 2) (used - (header + 2))))
  unfolding closed_bytes
  closed_bytes_wrapped start h =
      rw (
        closed_bytes,
        ne_eqb header start (λ e. omega arith),
        body-part,
        take-take header used b (omega arith),
        slice-part b (start + 2) header h (omega arith),
      ) refl

  -- what moves, by the sizes of the headers
  pub moved_plain : (inner : ℕ) → inner ≡ length (header_bytes 0 (used - (header + 2)))
      → length_if_moved (header + 2) (header + inner) (used - (header + 2)) ≡ moved_bytes header header code (take used b)
  unfolding moved_bytes
  moved_plain inner e =
      let n = length_part b (header + 2) (used - (header + 2)) (omega arith) in
      rw (eq-eqb header header refl, moved_bytes, body-part, n, length_header code (used - (header + 2)), e) refl

  pub moved_wrapped : (start inner wrapper : ℕ) → start + 2 ≤ header → inner ≡ length (header_bytes 0 (used - (header + 2)))
      → wrapper ≡ length (header_bytes 0 (header - (start + 2) + inner + (used - (header + 2))))
      → length_if_moved (header + 2) (start + wrapper + (header - (start + 2)) + inner) (used - (header + 2))
      + length_if_moved (start + 2) (start + wrapper) (header - (start + 2))
      ≡ moved_bytes start header code (take used b)
  unfolding moved_bytes
  moved_wrapped start inner wrapper s ei ew =
      let A = part b (start + 2) (header - (start + 2)) in
      let B = part b (header + 2) (used - (header + 2)) in
      let H = header_bytes code (used - (header + 2)) in
      let a = length_part b (start + 2) (header - (start + 2)) (omega arith) in
      let n = length_part b (header + 2) (used - (header + 2)) (omega arith) in
      let h : length H ≡ inner = length_header code (used - (header + 2)) ∙ sym ei in
      let c : length (A ++ (H ++ B)) ≡ header - (start + 2) + inner + (used - (header + 2)) = length-append A (H ++ B) ∙ omega (arith, length-append H B) in
      let W = header_bytes (type_byte annotation_code) (header - (start + 2) + inner + (used - (header + 2))) in
      let m : length W ≡ wrapper = length_header (type_byte annotation_code) (header - (start + 2) + inner + (used - (header + 2))) ∙ sym ew in
      let p : start + length (W ++ (A ++ H)) ≡ start + wrapper + (header - (start + 2)) + inner = omega (arith, length-append W (A ++ H), length-append A H) in
      rw (
        ne_eqb header start (λ e. omega arith),
        moved_bytes,
        body-part,
        take-take header used b (omega arith),
        slice-part b (start + 2) header s (omega arith),
        n,
        c,
        a,
        p,
        m,
      ) refl

-- ---- the abandonment

module _ (used start : ℕ) (b : List ℕ) where
  pub abandoned_on-fits : (leb start used && leb used (length b)) ≡ true → abandoned_on used start b ≡ (true, splice used start [] b)
  unfolding abandoned_on
  abandoned_on-fits e = rw (abandoned_on, e) refl

  pub abandoned_on_not : (leb start used && leb used (length b)) ≡ false → abandoned_on used start b ≡ (false, b)
  unfolding abandoned_on
  abandoned_on_not e = rw (abandoned_on, e) refl
