-- What `?` answers where it leaves: the refusal that it met, or that of `.ok_or(why)?` or `.ok_or_else(f)?` where there was nothing.
-- Assumes nothing.
use Rattle.std.proofs.Common.{◌≡◌, refl, sym, ap, ◌∙◌, true≢false, Option, None, Some, Result, Ok, Err}
use Rattle.std.specs.Prelude.{IsErrAnd}
use Rattle.std.specs.Option.{ok_or, MatchOption}
use Rattle.std.specs.Result.{is_ok, result_ok}
use Rattle.std.proofs.lemmas.Result.{err_from_is_err_and, IfErr-at_err}

pub exit_err : {T E : Type 0} (r : Result T E) (y : E) → IsErrAnd r (λ x. x ≡ y) → r ≡ Err y
exit_err r y h = let p = err_from_is_err_and r h in p.1 ∙ ap Err p.2

pub exit_none : {T U E : Type 0} (r : Result T E) (o : Option U) (y why : E) → IsErrAnd r (λ x. x ≡ y) → Err y ≡ ok_or o why → o ≡ None → r ≡ Err why
exit_none r o y why h e none = exit_err r y h ∙ ap Err (IfErr-at_err (λ x. x ≡ why) (sym (e ∙ ap (λ q. ok_or q why) none)) refl)

-- what `.ok_or_else(f)?` says of the option before it, and of the error that f made
pub was_some : {T : Type 0} (E : Type 0) (o : Option T) (n : T) → MatchOption o ⊥ (λ x. ◌≡◌ {A = Result T E} (Ok n) (Ok x)) → o ≡ Some n
was_some E None n h = absurd h
was_some E (Some x) n h = sym (ap (λ r. result_ok r) h)

pub was_none : {T E : Type 0} (o : Option T) (P : Type 0) (y : E) → MatchOption o P (λ x. ◌≡◌ {A = Result T E} (Err y) (Ok x)) → (o ≡ None) × P
was_none None P y h = (refl, h)
was_none (Some x) P y h = absurd (true≢false (sym (ap (λ r. is_ok r) h)))
