-- What a container that fits tells.
-- By cases of the checks. Assumes nothing.
use Prim.Native.Nat.{ℕ, ◌+◌, ◌-◌, ◌*◌, ◌/◌, ◌≤◌}
use mathlib.Core.Path.{◌≡◌, refl}
use mathlib.Core.Bool.{true, ◌||◌, and-eq-true_iff}
use mathlib.Core.Logic.{◌⊎◌, inl, inr, ⊎_elim}
use lib.Dec.{leb, eqb}
use borrow.Author.Tests.{eqb-true, leb-true}
use Rattle.ion.proofs.Tests.{either}
use Rattle.machine.specs.declared.Container.{Container}
use Rattle.machine.specs.Machine.{container_fits}

pub record Fit (c : Container) (limit : ℕ) : Type 0 where
  pub high : c.code / 16 * 16 ≡ c.code
  pub apart : (c.header ≡ c.start) ⊎ (c.start + 4 ≤ c.header)
  pub within : c.header + 2 ≤ limit
  pub held : c.members ≤ limit - (c.header + 2)

pub fit : (c : Container) (limit : ℕ) → container_fits limit c ≡ true → Fit c limit
unfolding container_fits
fit c limit e =
    let k = (and-eq-true_iff (eqb c.code 0xB0 || (eqb c.code 0xC0 || eqb c.code 0xD0)) _).0 e in
    let p = (and-eq-true_iff (eqb c.header c.start || leb (c.start + 4) c.header) _).0 k.1 in
    let q = (and-eq-true_iff (leb (c.header + 2) limit) (leb c.members (limit - (c.header + 2)))).0 p.1 in
    record {
      high = ⊎_elim (λ x. known 0xB0 refl x) (λ y. ⊎_elim (λ x. known 0xC0 refl x) (λ x. known 0xD0 refl x) (either _ _ y)) (either _ _ k.0);
      apart = ⊎_elim (λ x. inl (eqb-true c.header c.start x)) (λ x. inr (leb-true (c.start + 4) c.header x)) (either _ _ p.0);
      within = leb-true (c.header + 2) limit q.0;
      held = leb-true c.members (limit - (c.header + 2)) q.1;
    }
  where
    known : (t : ℕ) → t / 16 * 16 ≡ t → eqb c.code t ≡ true → c.code / 16 * 16 ≡ c.code
    known t q x = rw (eqb-true c.code t x) q
