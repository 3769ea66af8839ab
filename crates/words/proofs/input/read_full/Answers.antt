-- What one more read puts stands behind what was put before.
use Rattle.std.proofs.Common.{rules, ◌≡◌, ℕ, ◌+◌, ◌≤◌, List, ◌++◌, length, take, sym, ap, ◌∙◌, subst, le_refl, drop_at, length-take-le}
use Rattle.std.proofs.lemmas.Slice.{take-put_mid_below}
use Rattle.std.proofs.KnownBytes.{Consumes-trans}
use Rattle.std.specs.Io.KnownBytes.{Consumes}
use borrow.Rule.Slice.PartMut.{put_mid, post_of}
use lib.ListN.{drop}
use lib.Seq.{take-add, take-append-le}
use Rattle.words.proofs.input.read_full.Goals as goal

take_put : (a room n : ℕ) (old new : List ℕ) → a ≤ length old → n ≤ length new →
    take (a + n) (put_mid a room old new) ≡ take a old ++ take n new
take_put a room n old new within fits =
    take-add a n (put_mid a room old new)
    ∙ (ap (λ l. l ++ take n (drop a (put_mid a room old new))) (take-put_mid_below _ _ _ _ _ (le_refl _) within)
    ∙ ap (λ l. take a old ++ l)
    (ap (take n) (drop_at (take a old) (new ++ post_of a room old) a (length-take-le a old within))
    ∙ take-append-le n new (post_of a room old) fits))

pub loop-done-preserved : goal.loop-done-preserved
loop-done-preserved g c = record {
  within = search rules;
  bytes = subst (Consumes _ _) (sym (take_put c.loop-done.done _ c.in_ok-n.n c.loop-done.text c.read.new.buf c.loop-done.invariant.within c.in_ok-n.ensures.bound.0))
      (Consumes-trans _ _ _ _ _ c.loop-done.invariant.bytes c.in_ok-n.ensures.bytes.0);
}
