-- Every accepted call keeps the invariant between the machine and the model.
-- Assumes nothing.
use Prim.Native.Nat.{ℕ, ◌+◌, ◌-◌, ◌<◌, ◌≤◌}
use native.Mathlib.Omega.{arith}
use mathlib.Core.Path.{◌≡◌, refl, sym, ◌∙◌, ap}
use mathlib.Core.Bool.{Bool, true, false, false≢true, ◌||◌, not}
use mathlib.Core.List.{List, [], ◌∷◌, ◌++◌, append-nil}
use lib.Dec.{ltb, leb}
use lib.ListN.{length, take, length-set, length-take}
use lib.Seq.{take-take}
use borrow.Author.Tests.{ltb-false, leb-false, le-leb, not-false}
use Rattle.ion.specs.Value.{scalar, marker}
use Rattle.ion.proofs.Tests.{by_cases}
use Rattle.encoding.specs.Fields.{var_uint_bytes}
use Rattle.encoding.specs.Headers.{annotated_bytes, marker_bytes}
use Rattle.encoding.specs.Argument.{Argument, argument_bytes, argument_checks}
use Rattle.encoding.specs.Stream.{tree_bytes, stream_bytes}
use Rattle.encoding.proofs.Writable.{NoneHolds, Writable}
use Rattle.machine.specs.Call.{ContainerType, Call, write, name, opening, closing, abandonment, version_marker, taking, emptying, TypedCall}
use Rattle.machine.specs.Machine.{Config, most_open, open_containers, is_open, in_struct, closed_innermost, innermost_start, reserve, live, splice}
use Rattle.machine.specs.Machine.{effect, longest_buffer, container_fits, containers_fit, fits, lacks_name, lines, rule_of, checks, accepted}
use Rattle.machine.specs.Machine.{refused, first_failing, is_accepted, finished_length, taken}
use Rattle.machine.specs.Model.{Open, Model, abandon, spell}
use Rattle.machine.proofs.Growth.{writable_add_item}
use Rattle.machine.proofs.Invariant.{is_some, container_at, inside_struct, LayoutOf, WritableOf, WritableModel, add_layout, add_quiet}
use Rattle.machine.proofs.Invariant.{add_writable, or_false, ready, name_layout, opening_layout, opening_writable, under_writable, Innermost}
use Rattle.machine.proofs.Invariant.{innermost, outside, marker_layout, emptying_layout}
use Rattle.machine.proofs.Splice.{take-splice, length-splice, opened_containers, counted_containers, length-counted, closed_containers, none_open}

-- ---- the checks that an accepted call has passed

pub none_failing : (l : List (Bool × ℕ)) → first_failing l ≡ accepted → NoneHolds l
none_failing [] e = tt
none_failing (x ∷ xs) e =
    by_cases x.0
    (λ p. let q : refused x.1 ≡ accepted = rw p at e in absurd (false≢true (ap is_accepted q)))
    (λ p. (p, none_failing xs (rw p at e)))

split_holds : (l r : List (Bool × ℕ)) → NoneHolds (l ++ r) → NoneHolds l × NoneHolds r
split_holds [] r h = (tt, h)
split_holds (x ∷ l) r h = let s = split_holds l r h.1 in ((h.0, s.0), s.1)

-- the lines of a call, by name
pub record Passed (w : Config) (misplaced : Bool) (lines : List (Bool × ℕ)) (used : ℕ) : Type 0 where
  fit : fits w.state (length w.buffer) ≡ true
  pub place : misplaced ≡ false
  pub own : NoneHolds lines
  pub room : used ≤ length w.buffer

pub passed : (w : Config) (misplaced : Bool) (own : List (Bool × ℕ)) (used : ℕ) → NoneHolds (lines w misplaced own used) → Passed w misplaced own used
passed w misplaced own used h =
    let s = split_holds own ((ltb (length w.buffer) used, 10) ∷ []) h.1.1.1 in
    record {
      fit = not-false (fits w.state (length w.buffer)) h.1.0;
      place = h.1.1.0;
      own = s.0;
      room = ltb-false (length w.buffer) used s.1.0;
    }

-- ---- the invariant: the state fits its buffer, and the live bytes are laid out as the model says

pub record Invariant (done : List ℕ) (w : Config) (x : Model Argument) : Type 0 where
  pub fit : w.state.used ≤ length w.buffer
  pub short : length w.buffer ≤ longest_buffer
  pub depth : w.state.depth ≤ most_open
  pub flag : w.state.waiting ≡ is_some x.waiting
  pub records : length w.state.containers ≡ most_open
  pub layout : LayoutOf done (live w) (open_containers w.state) x

fits_outside : (w : Config) → w.state.used ≤ length w.buffer → open_containers w.state ≡ [] → w.state.waiting ≡ false
    → fits w.state (length w.buffer) ≡ true
unfolding fits container_fits containers_fit
fits_outside w h f n = rw (f, n, le-leb w.state.used (length w.buffer) h, none_open w.state.containers w.state.depth f)

-- a call that puts `out` at p, behind the bytes pre
put_keeps : (done out pre : List ℕ) (w : Config) (x : Model Argument) (y : Config) (z : Model Argument) (inv : Invariant done w x)
    → (p : ℕ) → p ≤ w.state.used → p + length out ≤ length w.buffer → take p w.buffer ≡ pre
    → y.state.used ≡ p + length out → y.buffer ≡ splice w.state.used p out w.buffer → y.state.depth ≤ most_open
    → y.state.waiting ≡ is_some z.waiting
    → length y.state.containers ≡ most_open → LayoutOf done (pre ++ out) (open_containers y.state) z → Invariant done y z
put_keeps done out pre w x y z inv p hp room front eu eb ed ef es c =
    let lp : p ≤ length w.buffer = omega (arith, inv.fit) in
    let l : length y.buffer ≡ length w.buffer = ap length eb ∙ length-splice w.state.used p out w.buffer lp inv.fit room in
    record {
      fit = omega arith;
      short = omega (arith, inv.short);
      depth = ed;
      flag = ef;
      records = es;
      layout = rw (eu, eb, take-splice w.state.used p out w.buffer lp, front) c;
    }

abbrev spell_arguments : Call → Model Argument → Model Argument
spell_arguments c x = spell (λ a. a) c x

module _ (done : List ℕ) (w : Config) (x : Model Argument) (inv : Invariant done w x) where
  pub length-live : length (live w) ≡ w.state.used
  length-live = simp length-take (omega (arith, inv.fit))

  -- line 3 of a value
  pub can : lacks_name w.state ≡ false → is_some x.waiting ≡ inside_struct x.stack
  can e = ready done (live w) (open_containers w.state) x.items x.stack x.waiting inv.layout (rw inv.flag at e)

  -- what `out` at the end of the used bytes needs
  at-end : (out : List ℕ) (y : Config) (z : Model Argument) → w.state.used + length out ≤ length w.buffer → y.state.used ≡ w.state.used + length out
      → y.buffer ≡ splice w.state.used w.state.used out w.buffer → y.state.depth ≤ most_open
      → y.state.waiting ≡ is_some z.waiting → length y.state.containers ≡ most_open
      → LayoutOf done (live w ++ out) (open_containers y.state) z → Invariant done y z
  at-end out y z room eu eb ed ef es c = put_keeps done out (live w) w x y z inv w.state.used (omega arith) room refl eu eb ed ef es c

  write_keeps : (an : List ℕ) (a : Argument) → NoneHolds (checks (write an a) w) → Invariant done (effect (write an a) w) (spell_arguments (write an a) x)
  unfolding tree_bytes
  write_keeps an a h =
      let k = passed w (lacks_name w.state) (argument_checks a) (effect (write an a) w).state.used h in
      let r = can k.place in
      at-end (annotated_bytes an (argument_bytes a)) (effect (write an a) w) (spell_arguments (write an a) x) k.room refl refl inv.depth
      (sym (add_quiet x.items x.stack x.waiting (scalar an a) r))
      (length-counted w.state.containers w.state.depth ∙ inv.records)
      (rw (counted_containers w.state.containers w.state.depth (omega (arith, inv.depth, inv.records)))
      (add_layout done (live w) (open_containers w.state) x.items x.stack x.waiting (scalar an a) inv.layout r))

  write_writable : (an : List ℕ) (a : Argument) → NoneHolds (checks (write an a) w) → TypedCall (write an a) → WritableOf x
      → WritableOf (spell_arguments (write an a) x)
  unfolding tree_bytes Writable
  write_writable an a h t o =
      let k = passed w (lacks_name w.state) (argument_checks a) (effect (write an a) w).state.used h in
      add_writable x.items x.stack x.waiting (scalar an a) o (t.0, t.1, k.own) (omega (arith, k.room, inv.short))

  name_keeps : (n : ℕ) → NoneHolds (checks (name n) w) → Invariant done (effect (name n) w) (spell_arguments (name n) x)
  name_keeps n h =
      let k = passed w (not (in_struct (open_containers w.state)) || w.state.waiting) [] (effect (name n) w).state.used h in
      at-end (var_uint_bytes n) (effect (name n) w) (spell_arguments (name n) x) k.room refl refl inv.depth refl inv.records
      (name_layout done (live w) (open_containers w.state) x.items x.stack x.waiting inv.layout n (rw inv.flag at k.place))

  opening_keeps : (an : List ℕ) (t : ContainerType) → NoneHolds (checks (opening an t) w)
      → Invariant done (effect (opening an t) w) (spell_arguments (opening an t) x)
  opening_keeps an t h =
      let k = passed w (lacks_name w.state) ((leb most_open w.state.depth, 4) ∷ []) (effect (opening an t) w).state.used h in
      let c = container_at w.state.used an t 0 in
      let m : w.state.depth < most_open = leb-false most_open w.state.depth k.own.0 in
      let d : w.state.depth < length w.state.containers = omega (arith, m, inv.records) in
      at-end (reserve an) (effect (opening an t) w) (spell_arguments (opening an t) x) k.room refl refl (omega arith) refl
      (length-set w.state.containers w.state.depth c ∙ inv.records)
      (rw (opened_containers w.state.containers w.state.depth c d) (rw length-live at (opening_layout done (live w)
      (open_containers w.state) x.items x.stack x.waiting inv.layout an t (can k.place))))

  -- the innermost container, for a closing and an abandonment
  inner : is_open (open_containers w.state) ≡ true → Innermost done (live w) (open_containers w.state) x.items x.stack x.waiting
  inner e = innermost done (live w) (open_containers w.state) x.items x.stack x.waiting inv.layout e

  -- what `out` in the place of the innermost container needs
  in_place : (out : List ℕ) (y : Config) (z : Model Argument)
      (d : Innermost done (live w) (open_containers w.state) x.items x.stack x.waiting)
      → innermost_start (open_containers w.state) w.state.used + length out ≤ length w.buffer
      → y.state.used ≡ innermost_start (open_containers w.state) w.state.used + length out
      → y.buffer ≡ splice w.state.used (innermost_start (open_containers w.state) w.state.used) out w.buffer
      → y.state.depth ≤ most_open → y.state.waiting ≡ is_some z.waiting → length y.state.containers ≡ most_open
      → LayoutOf done (d.pre ++ out) (open_containers y.state) z → Invariant done y z
  in_place out y z d room eu eb ed ef es c =
      let p = innermost_start (open_containers w.state) w.state.used in
      let at : p ≡ length d.pre = d.starts w.state.used in
      let le : p ≤ w.state.used = omega (arith, d.within, length-live) in
      let front : take p w.buffer ≡ d.pre = sym (take-take p w.state.used w.buffer le) ∙ rw at d.front in
      put_keeps done out d.pre w x y z inv p le room front eu eb ed ef es c

  closing_keeps : NoneHolds (checks closing w) → Invariant done (effect closing w) (spell_arguments closing x)
  closing_keeps h =
      let k = passed w (not (is_open (open_containers w.state)) || w.state.waiting) [] (effect closing w).state.used h in
      let b = or_false (is_open (open_containers w.state)) w.state.waiting k.place in
      let d = inner b.0 in
      in_place (closed_innermost (open_containers w.state) (live w)) (effect closing w) (spell_arguments closing x) d k.room refl refl
      (omega (arith, inv.depth)) (sym d.quiet)
      (length-counted w.state.containers (w.state.depth - 1) ∙ inv.records)
      (rw (
        counted_containers w.state.containers (w.state.depth - 1) (omega (arith, inv.depth, inv.records)),
        closed_containers w.state.containers w.state.depth,
      )
      (d.closes (sym inv.flag ∙ b.1)))

  closing_writable : NoneHolds (checks closing w) → WritableOf x → WritableOf (spell_arguments closing x)
  closing_writable h o =
      let k = passed w (not (is_open (open_containers w.state)) || w.state.waiting) [] (effect closing w).state.used h in
      let b = or_false (is_open (open_containers w.state)) w.state.waiting k.place in
      (inner b.0).writable o (sym inv.flag ∙ b.1) (omega (arith, k.room, inv.short))

  abandonment_keeps : NoneHolds (checks abandonment w) → Invariant done (effect abandonment w) (spell_arguments abandonment x)
  abandonment_keeps h =
      let k = passed w (not (is_open (open_containers w.state))) [] (effect abandonment w).state.used h in
      let d = inner (not-false (is_open (open_containers w.state)) k.place) in
      in_place [] (effect abandonment w) (spell_arguments abandonment x) d k.room refl refl (omega (arith, inv.depth)) d.again inv.records
      (rw (append-nil, closed_containers w.state.containers w.state.depth) d.abandoned)

  marker_keeps : NoneHolds (checks version_marker w) → Invariant done (effect version_marker w) (spell_arguments version_marker x)
  marker_keeps h =
      let k = passed w (is_open (open_containers w.state)) [] (effect version_marker w).state.used h in
      at-end marker_bytes (effect version_marker w) (spell_arguments version_marker x) k.room refl refl inv.depth inv.flag inv.records
      (marker_layout done (live w) (open_containers w.state) x.items x.stack x.waiting inv.layout k.place)

  -- ---- takings and emptyings

  outside_now : is_open (open_containers w.state) ≡ false → w.state.waiting ≡ false
  outside_now o = inv.flag ∙ ap is_some (outside done (live w) (open_containers w.state) x.items x.stack x.waiting inv.layout o).2

  -- with no container open a taking hands back the live bytes
  pub taken_live : is_open (open_containers w.state) ≡ false → taken w ≡ live w
  unfolding finished_length
  taken_live o =
      let r = outside done (live w) (open_containers w.state) x.items x.stack x.waiting inv.layout o in
      let n : finished_length w.state (length w.buffer) ≡ w.state.used =
      rw (le-leb (length w.buffer) longest_buffer inv.short, fits_outside w inv.fit r.0 (outside_now o), o, outside_now o) in
      ap (λ (k : ℕ). take k w.buffer) n

  -- and they end the encoding of what was written
  pub taken-whole : is_open (open_containers w.state) ≡ false → done ++ taken w ≡ stream_bytes x.items
  taken-whole o = rw (taken_live o) (outside done (live w) (open_containers w.state) x.items x.stack x.waiting inv.layout o).3

  emptying_keeps : NoneHolds (checks emptying w) → Invariant (done ++ taken w) (effect emptying w) (spell_arguments emptying x)
  emptying_keeps h =
      let k = passed w (is_open (open_containers w.state)) [] (effect emptying w).state.used h in
      record {
        fit = omega arith;
        short = inv.short;
        depth = inv.depth;
        flag = inv.flag;
        records = inv.records;
        layout =
            rw (taken_live k.place)
            (emptying_layout done (live w) (open_containers w.state) x.items x.stack x.waiting inv.layout k.place);
      }

-- ---- every call

pub accepted_keeps : (done : List ℕ) (w : Config) (x : Model Argument) (c : Call) → Invariant done w x → NoneHolds (checks c w)
    → Invariant (done ++ (rule_of c w).flushes) (effect c w) (spell_arguments c x)
accepted_keeps done w x (write an a) inv h = rw append-nil (write_keeps done w x inv an a h)
accepted_keeps done w x (name n) inv h = rw append-nil (name_keeps done w x inv n h)
accepted_keeps done w x (opening an t) inv h = rw append-nil (opening_keeps done w x inv an t h)
accepted_keeps done w x closing inv h = rw append-nil (closing_keeps done w x inv h)
accepted_keeps done w x abandonment inv h = rw append-nil (abandonment_keeps done w x inv h)
accepted_keeps done w x version_marker inv h = rw append-nil (marker_keeps done w x inv h)
accepted_keeps done w x taking inv h = rw append-nil inv
accepted_keeps done w x emptying inv h = emptying_keeps done w x inv h

abandoned_writable : (x : Model Argument) → WritableOf x → WritableOf (spell_arguments abandonment x)
abandoned_writable x o = on x.stack o
  where
    on : (st : List (Open Argument)) → WritableModel x.items st x.waiting → WritableOf (abandon x.items st x.waiting)
    on [] p = p
    on (y ∷ st) p = under_writable x.items y st x.waiting p

pub accepted_writable : (done : List ℕ) (w : Config) (x : Model Argument) (c : Call) → Invariant done w x → NoneHolds (checks c w)
    → TypedCall c → WritableOf x → WritableOf (spell_arguments c x)
accepted_writable done w x (write an a) inv h t o = write_writable done w x inv an a h t o
accepted_writable done w x (name n) inv h t o = record { items = o.items; stack = o.stack; name = omega arith }
accepted_writable done w x (opening an k) inv h t o = opening_writable an k x.items x.stack x.waiting o t
accepted_writable done w x closing inv h t o = closing_writable done w x inv h o
accepted_writable done w x abandonment inv h t o = abandoned_writable x o
accepted_writable done w x version_marker inv h t o = record { items = writable_add_item x.items marker o.items tt; stack = o.stack; name = o.name }
accepted_writable done w x taking inv h t o = o
accepted_writable done w x emptying inv h t o = o
