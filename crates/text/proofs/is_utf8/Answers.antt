-- ASCII is UTF-8; for the rest the other loop answers. Assumes nothing.
use mathlib.Core.Path.{sym, ◌∙◌}
use Rattle.ion.specs.Text.{utf8}
use Rattle.text.proofs.Ascii.{ascii-utf8}
use Rattle.text.proofs.is_utf8.Goals as goal

pub returns-then-is_ascii : goal.returns-then-is_ascii
unfolding utf8
returns-then-is_ascii c = sym (ascii-utf8 _ (sym c.is_ascii.ensures ∙ c.if-is_ascii.true))
