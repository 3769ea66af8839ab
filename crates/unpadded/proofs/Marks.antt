-- Only timestamps have a mark.
-- Assumes nothing.
use Prim.Native.Nat.{ℕ, zero, suc, ◌/◌, ◌%◌, ◌^◌, ◌<◌}
use native.Mathlib.Omega.{arith}
use mathlib.Core.Path.{◌≡◌, refl, sym, ◌∙◌, ap}
use mathlib.Core.Logic.{◌≢◌}
use mathlib.Core.Bool.{Bool, true, false, cond}
use mathlib.Core.List.{List, [], ◌∷◌}
use mathlib.Core.Option.{Option, none, some}
use lib.Dec.{ltb, eqb}
use lib.ListN.{length}
use borrow.Author.Tests.{ne_eqb, eqb-true, eqb-false}
use Rattle.ion.specs.Value.{TypeCode, null_code, bool_code, positive_code, negative_code, float_code, decimal_code, timestamp_code, symbol_code}
use Rattle.ion.specs.Value.{string_code, clob_code, blob_code, list_code, sexp_code, struct_code, annotation_code, high_bits, null_type, IonType}
use Rattle.ion.specs.Value.{Signed, signed, Scalar, null, decimal, symbol, string}
use Rattle.ion.specs.Chain.{◌>>=◌, check}
use Rattle.ion.specs.Fields.{uint, int_field, var_int, number}
use Rattle.ion.specs.Text.{utf8}
use Rattle.ion.specs.Scalars.{int_of, decimal_of, timestamp_of, scalar_of}
use Rattle.ion.proofs.Tests.{by_cases}
use Rattle.mark.specs.OutOfCalendar.{is_marked}
use Rattle.reading.specs.Scalars.{code_from, bool_of, float_in, body_of, scalar_in}
use Rattle.std.specs.Prelude.{Result, Ok, Err, MatchResult}
use Rattle.reading.specs.declared.Shown.{Shown}
use Rattle.reading.specs.declared.Refusal.{Refusal}
use Rattle.reading.specs.declared.Timestamp.{Timestamp}
use Rattle.reading.specs.Bodies.{timestamp_in, mark_in, shown_with, shown_in}
use Rattle.reading.specs.Told.{timestamp_told, mark_shown}
use Rattle.reading.proofs.Whole.{timestamp_whole}

-- what is shown of a body has the mark of the timestamp that it is
shown_mark : (b : List ℕ) → mark_shown (shown_in b) ≡ mark_in (timestamp_of b)
unfolding shown_in scalar_of
shown_mark b = go (timestamp_in b) (timestamp_whole b)
  where
    go : (t : Result Timestamp Refusal) → timestamp_of b ≡ timestamp_told b t → mark_shown (shown_with (mark_in (timestamp_of b)) t) ≡ mark_in (timestamp_of b)
    go (Ok t) e = refl
    go (Err r) e = sym (ap mark_in e)

pub told_mark : (b : List ℕ) (x : Result Shown Refusal) (r : Bool) → x ≡ shown_in b → MatchResult x (λ t. r ≡ t.marked) (λ _. r ≡ false) → r ≡ mark_shown (shown_in b)
told_mark b (Ok t) r e h = h ∙ ap mark_shown e
told_mark b (Err f) r e h = h ∙ ap mark_shown e

-- a timestamp that is not null
pub timestamp_mark : (kind : ℕ) (body : List ℕ) → kind / 16 ≡ 6 → kind % 16 < 15 → mark_shown (shown_in body) ≡ mark_in (scalar_in kind body)
unfolding scalar_in code_from body_of scalar_of
timestamp_mark kind body h l = rw (h, ne_eqb (kind % 16) 15 (λ e. omega arith)) (shown_mark body)

-- ---- the others

check_unmarked : (b : Bool) (x : Scalar) → is_marked x ≡ false → mark_in (check b (some x)) ≡ false
check_unmarked true x e = e
check_unmarked false x e = refl

int_unmarked : (s : Bool) (n : ℕ) → mark_in (int_of (signed s n)) ≡ false
int_unmarked false n = refl
int_unmarked true zero = refl
int_unmarked true (suc n) = refl

decimal_unmarked : (b : List ℕ) → mark_in (decimal_of b) ≡ false
unfolding decimal_of
decimal_unmarked [] = refl
decimal_unmarked (b ∷ bs) = by_exponent (var_int (b ∷ bs))
  where
    by_exponent : (e : Option (Signed × List ℕ)) → mark_in (e >>= λ e. some (decimal (int_field e.1) (number e.0))) ≡ false
    by_exponent none = refl
    by_exponent (some e) = refl

bool_unmarked : (l : ℕ) → mark_in (bool_of l) ≡ false
bool_unmarked l = by_cases (eqb l 0) (λ p. rw p refl) (λ p. by_cases (eqb l 1) (λ q. rw (p, q) refl) (λ q. rw (p, q) refl))

float_unmarked : (b : List ℕ) → mark_in (float_in b) ≡ false
float_unmarked b =
    by_cases (eqb (length b) 0) (λ p. rw p refl)
    (λ p. by_cases (eqb (length b) 4) (λ q. rw (p, q) refl)
    (λ q. by_cases (eqb (length b) 8) (λ r. rw (p, q, r) refl) (λ r. rw (p, q, r) refl)))

body_unmarked : (c : TypeCode) (l : ℕ) (b : List ℕ) → high_bits c ≢ 6 → mark_in (body_of c l b) ≡ false
unfolding body_of scalar_of
body_unmarked null_code l b h = refl
body_unmarked bool_code l b h = bool_unmarked l
body_unmarked positive_code l b h = refl
body_unmarked negative_code l b h = int_unmarked true (uint b)
body_unmarked float_code l b h = float_unmarked b
body_unmarked decimal_code l b h = decimal_unmarked b
body_unmarked timestamp_code l b h = absurd (h refl)
body_unmarked symbol_code l b h = check_unmarked (ltb (uint b) (2 ^ 64)) (symbol (uint b)) refl
body_unmarked string_code l b h = check_unmarked (utf8 b) (string b) refl
body_unmarked clob_code l b h = refl
body_unmarked blob_code l b h = refl
body_unmarked list_code l b h = refl
body_unmarked sexp_code l b h = refl
body_unmarked struct_code l b h = refl
body_unmarked annotation_code l b h = refl

null_unmarked : (t : Option IonType) → mark_in (t >>= λ t. some (null t)) ≡ false
null_unmarked none = refl
null_unmarked (some t) = refl

code_unmarked : (c : TypeCode) (l : ℕ) (b : List ℕ) (is_null : Bool) → (is_null ≡ false → high_bits c ≢ 6)
    → mark_in (cond is_null (null_type c >>= λ t. some (null t)) (body_of c l b)) ≡ false
code_unmarked c l b true h = null_unmarked (null_type c)
code_unmarked c l b false h = body_unmarked c l b (h refl)

-- whatever code is found for the number n
found_unmarked : (cs : List TypeCode) (n l : ℕ) (b : List ℕ) (is_null : Bool) → (is_null ≡ false → n ≢ 6)
    → mark_in (code_from cs n >>= λ c. cond is_null (null_type c >>= λ t. some (null t)) (body_of c l b)) ≡ false
unfolding code_from
found_unmarked [] n l b is_null h = refl
found_unmarked (c ∷ cs) n l b is_null h =
    by_cases (eqb (high_bits c) n)
    (λ p. rw p (code_unmarked c l b is_null (λ q e. h q (sym (eqb-true (high_bits c) n p) ∙ e))))
    (λ p. rw p (found_unmarked cs n l b is_null h))

pub no_mark : (kind : ℕ) (body : List ℕ) → (kind % 16 ≢ 15 → kind / 16 ≢ 6) → false ≡ mark_in (scalar_in kind body)
unfolding scalar_in
no_mark kind body h =
    sym (found_unmarked
    (null_code ∷ bool_code ∷ positive_code ∷ negative_code ∷ float_code ∷ decimal_code ∷ timestamp_code ∷ symbol_code
    ∷ string_code ∷ clob_code ∷ blob_code ∷ list_code ∷ sexp_code ∷ struct_code ∷ annotation_code ∷ [])
    (kind / 16) (kind % 16) body (eqb (kind % 16) 15) (λ p. h (eqb-false (kind % 16) 15 p)))
