-- What closing and abandoning a container answer, and what they leave in every byte of the lent buffer.
-- Assumes nothing.
use Rattle.std.specs.Prelude.{ℕ, ◌+◌, Bool, true, false, ◌&&◌, List, [], Option, Some, None, leb, length, take}
use Rattle.machine.specs.declared.Container.{Container}
use Rattle.machine.specs.Machine.{closed_bytes, moved_bytes, splice, container_fits}
use Rattle.containers.specs.declared.Closing.{Closing}

-- `out` in the place of the used bytes from p on, for which `moved` bytes moved: the used length on return, and the buffer.
-- Where it does not fit, the buffer is as it was.
unfoldable pub spliced : ℕ → ℕ → List ℕ → ℕ → List ℕ → Option Closing × List ℕ
spliced used p out moved b =
    elim (leb (p + length out) (length b)) [ true ↦ (Some (record { used = p + length out; moved = moved }), splice used p out b) | false ↦ (None, b) ]

-- a container that does not fit alters nothing
unfoldable pub closed_on : Container → ℕ → List ℕ → Option Closing × List ℕ
closed_on c used b =
    elim (container_fits used c && leb used (length b)) [
      | true ↦ spliced used c.start (closed_bytes c.start c.header c.code (take used b))
          (moved_bytes c.start c.header c.code (take used b)) b
      | false ↦ (None, b)
    ]

-- whether the bytes from the start on were given back, and the buffer
unfoldable pub abandoned_on : ℕ → ℕ → List ℕ → Bool × List ℕ
abandoned_on used start b = elim (leb start used && leb used (length b)) [ true ↦ (true, splice used start [] b) | false ↦ (false, b) ]
