-- The states that calls leave fit: the open containers are laid out as the model says, one behind the other, and each member has bytes.
-- Assumes nothing.
use Prim.Native.Nat.{ℕ, ◌+◌, ◌-◌, ◌≤◌}
use native.Mathlib.Omega.{arith}
use mathlib.Core.Path.{◌≡◌, refl, sym, ◌∙◌, ap}
use mathlib.Core.Bool.{Bool, true, false, true≢false, not, ◌&&◌, ◌||◌}
use mathlib.Core.List.{List, [], ◌∷◌, ◌++◌}
use lib.Dec.{leb, eqb}
use lib.ListN.{length, length-append}
use borrow.Author.Tests.{le-leb, eq-eqb, ne_eqb}
use Rattle.ion.specs.Value.{list, sexp, list_code, sexp_code, struct_code, Members, no_members, member, Fields, no_fields, field}
use Rattle.encoding.specs.Fields.{var_uint_bytes}
use Rattle.encoding.specs.Headers.{type_byte, annotation_bytes}
use Rattle.encoding.specs.Argument.{Argument}
use Rattle.encoding.specs.Stream.{tree_bytes, members_bytes, fields_bytes}
use Rattle.encoding.proofs.Least.{tree_some, annotation_least}
use Rattle.machine.specs.Call.{ContainerType, sequence_type, struct_type, Call}
use Rattle.machine.specs.Machine.{Config, open_containers, in_struct, container_code, reserve, header_place, container_fits, containers_fit, fits}
use Rattle.machine.specs.Machine.{most_open, started, after}
use Rattle.machine.specs.Model.{Open, open_sequence, open_struct, Model, set_aside, started_model}
use Rattle.machine.specs.Counts.{how_many, how_many_pairs, after_all, OwnStatesFit}
use Rattle.machine.specs.Demands.{flushed}
use Rattle.machine.proofs.Invariant.{is_some, name_bytes, annotations_of, type_of, body_of, bytes_to, members_of, container_at, containers_of}
use Rattle.machine.proofs.Invariant.{inside_struct, in_struct_layout}
use Rattle.machine.proofs.Steps.{Invariant, length-live}
use Rattle.machine.proofs.Demands.{step_arguments, call_keeps, start_keeps}

-- ---- no container has more members than bytes

members-most : (vs : Members Argument) → how_many vs ≤ length (members_bytes vs)
unfolding tree_bytes
members-most no_members = omega arith
members-most (member v vs) = omega (arith, length-append (tree_bytes v) (members_bytes vs), tree_some v, members-most vs)

pairs-most : (fs : Fields Argument) → how_many_pairs fs ≤ length (fields_bytes fs)
unfolding tree_bytes
pairs-most no_fields = omega arith
pairs-most (field n v fs) =
    omega (arith, length-append (var_uint_bytes n) (tree_bytes v ++ fields_bytes fs), length-append (tree_bytes v) (fields_bytes fs), tree_some v, pairs-most fs)

held-most : (o : Open Argument) → members_of o ≤ length (body_of o)
held-most (open_sequence an aside k vs) = members-most vs
held-most (open_struct an aside fs) = pairs-most fs

-- ---- one container

code_fits : (k : ContainerType)
    → (eqb (container_code k) (type_byte list_code)
    || (eqb (container_code k) (type_byte sexp_code) || eqb (container_code k) (type_byte struct_code)))
    ≡ true
code_fits (sequence_type list) = refl
code_fits (sequence_type sexp) = refl
code_fits struct_type = refl

header_fits : (p : ℕ) (an : List ℕ) → (eqb (header_place p an) p || leb (p + 4) (header_place p an)) ≡ true
header_fits p [] = rw (eq-eqb p p refl)
header_fits p (a ∷ an) =
    let n = length (annotation_bytes (a ∷ an)) in
    rw (ne_eqb (p + 2 + n) p (λ e. omega arith)) (le-leb (p + 4) (p + 2 + n) (omega (arith, annotation_least a an)))

-- the body begins behind the reserve
header_end : (p : ℕ) (an : List ℕ) → header_place p an + 2 ≡ p + length (reserve an)
header_end p [] = refl
header_end p (a ∷ an) = omega (arith, length-append (annotation_bytes (a ∷ an)) (0 ∷ 0 ∷ []))

container-fits : (p limit n : ℕ) (an : List ℕ) (k : ContainerType) → p + length (reserve an) + n ≤ limit → container_fits limit (container_at p an k n) ≡ true
unfolding container_fits
container-fits p limit n an k h =
    let e = header_end p an in
    rw (code_fits k, header_fits p an, le-leb (header_place p an + 2) limit (omega arith)) (le-leb n (limit - (header_place p an + 2)) (omega arith))

-- ---- the open containers, from the innermost outwards

chain_fits : (base : List ℕ) (st : List (Open Argument)) (limit : ℕ) → length (bytes_to base st) ≤ limit → containers_fit limit (containers_of base st) ≡ true
unfolding containers_fit
chain_fits base [] limit h = refl
chain_fits base (o ∷ st) limit h =
    let pre = bytes_to base st ++ name_bytes (set_aside o) in
    let l = length-append pre (reserve (annotations_of o) ++ body_of o) in
    let m = length-append (reserve (annotations_of o)) (body_of o) in
    rw (container-fits (length pre) limit (members_of o) (annotations_of o) (type_of o) (omega (arith, held-most o)))
    (chain_fits base st (length pre) (omega (arith, length-append (bytes_to base st) (name_bytes (set_aside o)))))

named : (waits inside : Bool) → (waits && not inside) ≡ false → (not waits || inside) ≡ true
named true true e = refl
named true false e = absurd (true≢false e)
named false inside e = refl

pub invariant_chain : (done : List ℕ) (w : Config) (x : Model Argument) → Invariant done w x → containers_fit w.state.used (open_containers w.state) ≡ true
invariant_chain done w x inv =
    let y = inv.layout in
    let n : length (bytes_to y.base x.stack) ≤ w.state.used =
    omega (arith, sym (length-live done w x inv) ∙ ap length y.shown, length-append (bytes_to y.base x.stack) (name_bytes x.waiting)) in
    ap (containers_fit w.state.used) y.placed ∙ chain_fits y.base x.stack w.state.used n

pub invariant_fits : (done : List ℕ) (w : Config) (x : Model Argument) → Invariant done w x → fits w.state (length w.buffer) ≡ true
unfolding fits
invariant_fits done w x inv =
    let y = inv.layout in
    let s : (not w.state.waiting || in_struct (open_containers w.state)) ≡ true =
    rw (inv.flag, in_struct_layout done _ (open_containers w.state) x.items x.stack x.waiting y)
    (named (is_some x.waiting) (inside_struct x.stack) y.waits) in
    rw (le-leb w.state.used (length w.buffer) inv.fit, le-leb w.state.depth most_open inv.depth, invariant_chain done w x inv) s

-- ---- a list of calls

list_fits : (cs : List Call) (done : List ℕ) (w : Config) (x : Model Argument) → Invariant done w x
    → fits (after_all cs w).state (length (after_all cs w).buffer) ≡ true
unfolding after_all
list_fits [] done w x inv = invariant_fits done w x inv
list_fits (c ∷ cs) done w x inv = list_fits cs (done ++ flushed c w) (after c w) (step_arguments c w x) (call_keeps done w x c inv)

pub own_states_fit : OwnStatesFit
own_states_fit cs b s = list_fits cs [] (started b) started_model (start_keeps b s)
