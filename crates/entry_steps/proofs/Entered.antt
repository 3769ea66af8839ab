-- An entry point does what the machine does on the state that its slice spells: by what the call says, its answer and what it stores.
-- Assumes nothing.
use Rattle.std.proofs.Common.{◌≡◌, ℕ, ◌-◌, ◌<◌, ◌≤◌, List, [], ◌∷◌, length, get_or, set, Result, Ok, Err, sym, ap, ◌∙◌, arith, eqb, eqb-true}
use lib.Seq.{get_or-set_same}
use borrow.Author.Tests.{eqb-false}
use Rattle.ion.proofs.Tests.{by_cases}
use Rattle.machine.specs.declared.State.{State}
use Rattle.machine.specs.declared.Refusal.{Refusal}
use Rattle.encoding.specs.Argument.{Argument}
use Rattle.machine.specs.Call.{Call, ContainerType, write, opening, closing}
use Rattle.machine.specs.Machine.{most_open, no_container, config, Outcome, run}
use Rattle.machine.specs.Numbers.{number}
use Rattle.steps.specs.declared.Head.{Head}
use Rattle.steps.specs.declared.Opened.{Opened}
use Rattle.steps.specs.declared.Closed.{Closed}
use Rattle.steps.specs.Heads.{stepped, written_one, opened, closed}
use Rattle.state_bytes.specs.StateBytes.{state_size, state_of, stored_head, stored_container, stored_state, stored_by, numbers_laid, entered_by, entered, answered_by, answered}
use Rattle.state_bytes.proofs.Laws.{state_is, state_none, length_containers}
use Rattle.entry_steps.specs.Entries.{entered_as, stepped_as, written_as}

module _ (c : Call) (st b : List ℕ) where
  pub entered_run : (o : Outcome) → o ≡ run c (config (state_of st) b) → entered_by c st o ≡ entered c st b
  unfolding entered
  entered_run o r = ap (entered_by c st) r

  -- a call that stores the head alone
  pub stepped_entered : (l : List ℕ) → ((s : State) → stored_by c s st ≡ stored_state s st) → (r : Result Head Refusal)
      → stepped r (state_of st) l ≡ run c (config (state_of st) b) → stepped_as r st l ≡ entered c st b
  stepped_entered l same (Ok h) e = ap (λ (x : List ℕ). entered_as 0 x l) (sym (same _)) ∙ entered_run _ e
  stepped_entered l same (Err why) e = entered_run _ e

-- ---- a scalar

module _ (an : List ℕ) (x : Argument) (st b l : List ℕ) where
  pub written_entered : (r : Result Head Refusal) → written_one r (state_of st) l ≡ run (write an x) (config (state_of st) b)
      → written_as r st l ≡ entered (write an x) st b
  written_entered (Ok h) e = entered_run (write an x) st b _ e
  written_entered (Err why) e = entered_run (write an x) st b _ e

-- ---- an opening

containers_length : (st : List ℕ) → length (state_of st).containers ≡ most_open
containers_length st =
    by_cases (eqb (length st) state_size)
    (λ p. rw (state_is st (eqb-true (length st) state_size p)) (length_containers st 0 most_open))
    (λ p. rw (state_none st (eqb-false (length st) state_size p)))

pub opened_entered : (an : List ℕ) (k : ContainerType) (st b l : List ℕ) (o : Opened) → (0 < o.head.depth) × (o.head.depth ≤ most_open)
    → opened (Ok o) (state_of st) l ≡ run (opening an k) (config (state_of st) b)
    → entered_as 0 (stored_head o.head.used o.head.depth o.head.waiting (stored_container (o.head.depth - 1) o.container st)) l
    ≡ entered (opening an k) st b
opened_entered an k st b l o d e =
    let i = o.head.depth - 1 in
    let g : get_or (set (state_of st).containers i o.container) i no_container ≡ o.container =
    get_or-set_same (state_of st).containers i o.container no_container (omega (arith, d.0, d.1, containers_length st)) in
    sym (rw g) ∙ entered_run (opening an k) st b _ e

-- ---- what a closing answers in the slice that is lent for it

module _ (st b l lent : List ℕ) where
  answered_run : (o : Outcome) → o ≡ run closing (config (state_of st) b) → answered_by o lent ≡ answered st b lent
  unfolding answered
  answered_run o e = ap (λ (x : Outcome). answered_by x lent) e

  pub closed_answered : (c : Closed) → closed (Ok c) (state_of st) l ≡ run closing (config (state_of st) b)
      → numbers_laid 0 (c.size ∷ c.members ∷ c.moved ∷ []) lent ≡ answered st b lent
  closed_answered c e = answered_run _ e

  pub refused_answered : (why : Refusal) → closed (Err why) (state_of st) l ≡ run closing (config (state_of st) b) → lent ≡ answered st b lent
  refused_answered why e = answered_run _ e
