-- A minute of the calendar, shifted by an offset: it leaves the calendar where the offset is more than what is left on its side.
-- Assumes nothing.
use Prim.Native.Nat.{ℕ, zero, suc, ◌+◌, ◌-◌, ◌≤◌, ◌<◌}
use native.Mathlib.Omega.{arith}
use mathlib.Core.Path.{◌≡◌, sym, ◌∙◌}
use mathlib.Core.Bool.{true, false, not, ◌&&◌}
use borrow.Author.Tests.{ltb-true, ltb-false, leb-true, leb-false, lt-ltb, le-ltb, le-leb, lt-leb}
use lib.Dec.{ltb, leb}
use lib.IntN.{pos, ◌+ℤ◌}
use Rattle.ion.specs.Value.{signed}
use Rattle.ion.specs.Fields.{number}
use Rattle.mark.specs.OutOfCalendar.{is_calendar_minute}
use Rattle.ion.proofs.Tests.{by_cases, both}
use Rattle.calendar.proofs.Minutes.{first_minute, limit_minute}

calendar_minute : (n : ℕ) → is_calendar_minute (pos n) ≡ (leb 528480 n && ltb n 5259493440)
unfolding is_calendar_minute
calendar_minute n = rw (first_minute, limit_minute)

pub minute_range : (n : ℕ) → is_calendar_minute (pos n) ≡ true → (528480 ≤ n) × (n < 5259493440)
minute_range n e = let b = both {a = leb 528480 n} (sym (calendar_minute n) ∙ e) in (leb-true 528480 n b.0, ltb-true n 5259493440 b.1)

in-range : (n : ℕ) → 528480 ≤ n → n < 5259493440 → is_calendar_minute (pos n) ≡ true
in-range n h k = rw (calendar_minute n, le-leb 528480 n h, lt-ltb n 5259493440 k)

before_range : (n : ℕ) → n < 528480 → is_calendar_minute (pos n) ≡ false
before_range n h = rw (calendar_minute n, lt-leb 528480 n h)

behind_range : (n : ℕ) → 5259493440 ≤ n → is_calendar_minute (pos n) ≡ false
behind_range n h = rw (calendar_minute n, le-leb 528480 n (omega arith), le-ltb n 5259493440 h)

pub shifted_west : (n k : ℕ) → is_calendar_minute (pos n) ≡ true → ltb (n - 528480) k ≡ not (is_calendar_minute (pos n +ℤ number (signed true k)))
unfolding is_calendar_minute
shifted_west n zero e = let r = minute_range n e in rw (le-ltb (n - 528480) 0 (omega arith), in-range (n + 0) (omega arith) (omega arith))
shifted_west n (suc k) e =
    let r = minute_range n e in
    by_cases (ltb n (suc k))
    (λ p. rw (p, lt-ltb (n - 528480) (suc k) (omega (arith, ltb-true n (suc k) p))))
    (λ p. by_cases (ltb (n - 528480) (suc k))
    (λ q. rw (p, q, before_range (n - suc k) (omega (arith, ltb-true (n - 528480) (suc k) q))))
    (λ q. rw (p, q, in-range (n - suc k) (omega (arith, ltb-false (n - 528480) (suc k) q)) (omega arith))))

pub shifted_east : (n k : ℕ) → is_calendar_minute (pos n) ≡ true → leb (5259493440 - n) k ≡ not (is_calendar_minute (pos n +ℤ number (signed false k)))
shifted_east n k e =
    let r = minute_range n e in
    by_cases (leb (5259493440 - n) k)
    (λ p. rw (p, behind_range (n + k) (omega (arith, leb-true (5259493440 - n) k p))))
    (λ p. rw (p, in-range (n + k) (omega arith) (omega (arith, leb-false (5259493440 - n) k p))))

pub ruleset a_shift = (minute_range, shifted_west, shifted_east)
