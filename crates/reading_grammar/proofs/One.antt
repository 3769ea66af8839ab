-- A value, bare or in its annotation wrapper, and a pad, at a place: as the walk finds them.
-- Assumes nothing.
use Rattle.std.specs.Prelude.{Ok}
use Prim.Native.Nat.{ℕ, ◌+◌, ◌≤◌, ◌<◌}
use native.Mathlib.Omega.{arith}
use mathlib.Core.Path.{◌≡◌, refl, sym, ◌∙◌, ap}
use mathlib.Core.Logic.{◌≢◌}
use mathlib.Core.Bool.{true, false}
use mathlib.Core.List.{List, [], ◌∷◌, ◌++◌, append_assoc, append-nil}
use mathlib.Core.Option.{Option, some, some-injective}
use lib.Dec.{ltb, eqb}
use lib.ListN.{length, take, get_or, length-append, get_or-append}
use borrow.Author.Tests.{le-leb, ne_eqb, eq-eqb, le-ltb}
use Rattle.ion.specs.Value.{null_code, annotation_code, Value}
use Rattle.ion.specs.Fields.{VarUInt, var_uints}
use Rattle.ion.specs.Grammar.{Header}
use Rattle.ion.proofs.Fields.{var_uint_pos}
use Rattle.reading.specs.declared.Refusal.{Refusal}
use Rattle.reading.specs.declared.Refusal.TheVariants.{NotIon}
use Rattle.reading.specs.Headers.{header_at}
use Rattle.reading.specs.Scalars.{sids_of}
use Rattle.reading.specs.Items.{is_pad, is_marker, is_wrapper, opens, reads, wrapped_at, unwrapped}
use Rattle.reading.specs.Walk.{tree_events, tree_depth, shows}
use Rattle.reading_grammar.proofs.Tests.{contrary}
use Rattle.reading_grammar.proofs.Places.{Rest, rest-length, rest-next, rest-slice, rest_within}
use Rattle.reading_grammar.proofs.Numbers.{number-found}
use Rattle.reading_grammar.proofs.TypeBytes as K
use Rattle.reading_grammar.proofs.TypeBytes.{IsPadding}
use Rattle.ion.proofs.Unique.{header_pos}
use Rattle.reading_grammar.proofs.Headed.{Usual, first, plain_header}
use Rattle.reading_grammar.proofs.Bare.{content_walk, BareFound}

-- the bytes b are found to be the value v: x is all before the sids, y all between them and the body
pub record OneFound (b : List ℕ) (v : Value) : Type 0 where
  pub an : List ℕ
  pub names : List ℕ
  pub known : sids_of names ≡ some an
  pub kind : ℕ
  pub x : List ℕ
  pub y : List ℕ
  pub body : List ℕ
  pub joins : b ≡ x ++ (names ++ (y ++ body))
  pub pos : 0 < length x
  pub byte : get_or x 0 0 ≢ 0xE0
  pub pad : is_pad kind ≡ false
  pub marker : is_marker kind ≡ false
  pub deep : opens kind ≡ true → 0 < tree_depth v
  pub good : reads kind body ≡ true
  pub unwraps : (out : Refusal) (s : List ℕ) (at : ℕ) (r : List ℕ) (from to start stop : ℕ) → from ≡ at + length x
      → to ≡ from + length names → start ≡ to + length y → stop ≡ start + length body
      → Rest s at (b ++ r) → unwrapped s (header_at out s at) ≡ Ok (record { sids = from; sids_end = to; header = record { kind = kind; start = start; stop = stop } })
  pub walks : (t : List ℕ) (start f depth : ℕ) (name : Option ℕ) → Rest t start body → length body < f → depth + tree_depth v ≤ 32
      → content_walk f t depth name an kind start body ≡ shows (tree_events name v)

-- ---- without a wrapper

pub marker_not : (k : ℕ) → is_marker k ≡ false → k ≢ 0xE0
marker_not k e q = contrary e (eq-eqb k 0xE0 q)

unfoldable pub one_bare : (b : List ℕ) (v : Value) → BareFound b [] v → OneFound b v
unfolding sids_of var_uints
one_bare b v w = record {
  an = [];
  names = [];
  known = refl;
  kind = w.kind;
  x = w.header;
  y = [];
  body = w.body;
  joins = w.joins;
  pos = w.pos;
  byte = λ q. marker_not w.kind w.marker (sym w.byte ∙ q);
  pad = w.pad;
  marker = w.marker;
  deep = w.deep;
  good = w.good;
  unwraps = λ out s at r from to start stop p q e f z.
      let u : to ≡ from = omega arith in
      let t : start ≡ from = omega arith in
      let m : Rest s at (w.header ++ (w.body ++ r)) = rw append_assoc at (rw w.joins at z) in
      rw (w.headed out s at r start stop (omega arith) f m, w.wrapper, u, t);
  walks = w.walks;
}

-- ---- in a wrapper

pub wrapper-usual : (n : ℕ) → 3 ≤ n → Usual 14 n
wrapper-usual n h =
    let z : eqb n 0 ≡ false = ne_eqb n 0 (λ q. omega arith) in
    let y : ltb n 3 ≡ false = le-ltb n 3 h in
    record { shortly = λ lt. rw (z, ne_eqb n 15 (λ q. omega arith)); at_length = refl; framed = refl; plain = refl; short_fits = rw y; long_fits = rw y }

sids_pos : (l : List ℕ) {an : List ℕ} {a : ℕ} → sids_of l ≡ some (a ∷ an) → 0 < length l
unfolding sids_of var_uints
sids_pos [] {an} {a} e = absurd (let z : [] ≡ a ∷ an = some-injective _ _ e in let y : ◌≡◌ {A = ℕ} 0 1 = cc in omega arith)
sids_pos (b ∷ bs) e = omega arith

module _ (h l n b an : List ℕ) (a : ℕ) (v : Value) (hd : Header annotation_code (length (l ++ (n ++ b))) h) (e : VarUInt l (length n))
    (k : sids_of n ≡ some (a ∷ an)) (w : BareFound b (a ∷ an) v) where
  -- the wrapper's body, of which t is the end: its value is found
  pub wrapped_found : (t : List ℕ) (at from to start stop : ℕ) → from ≡ at + length l → to ≡ from + length n
      → start ≡ to + length w.header → stop ≡ start + length w.body → length t ≡ stop
      → Rest t at (l ++ (n ++ b)) → wrapped_at t at ≡ Ok (record { sids = from; sids_end = to; header = record { kind = w.kind; start = start; stop = stop } })
  unfolding wrapped_at
  wrapped_found t at from to start stop p q i j len x =
      let y : Rest t from (n ++ b) = rest-next l (n ++ b) from p x in
      let z : Rest t to b = rest-next n b to q y in
      let z' : Rest t to (w.header ++ (w.body ++ [])) = rw (← append-nil w.body) at (rw w.joins at z) in
      rw (
        number-found NotIon l (n ++ b) from e p x,
        le-leb 1 (length n) (sids_pos n k),
        ← q,
        le-leb to (length t) (omega arith),
        rest-slice n b to q y,
        k,
        w.headed NotIon t to [] start stop i j z',
        w.pad,
        w.wrapper,
        eq-eqb stop (length t) (sym len),
      )

  pub wrapper-size : 3 ≤ length (l ++ (n ++ b))
  wrapper-size =
      omega (
        arith,
        length-append l (n ++ b),
        length-append n b,
        ap length w.joins,
        length-append w.header w.body,
        var_uint_pos l e,
        sids_pos n k,
        w.pos,
      )

  pub wrapper_byte : is_wrapper (get_or h 0 0) ≡ true
  wrapper_byte = let f = first hd in
      let z = f.not_zero (λ q. omega (arith, wrapper-size)) in
      K.wrapper (get_or h 0 0) (omega (arith, f.is, z)) (omega (arith, f.is, f.small))

  pub byte_first : (m : List ℕ) → get_or (h ++ m) 0 0 ≢ 0xE0
  byte_first m q = let f = first hd in f.not_zero (λ u. omega (arith, wrapper-size)) (omega (arith, f.is, sym (get_or-append h m 0 0 (header_pos hd)) ∙ q))

  unfoldable pub one_wrapped : OneFound (h ++ (l ++ (n ++ b))) v
  one_wrapped = record {
    an = a ∷ an;
    names = n;
    known = k;
    kind = w.kind;
    x = h ++ l;
    y = w.header;
    body = w.body;
    joins = rw w.joins (sym (append_assoc h l (n ++ (w.header ++ w.body))));
    pos = omega (arith, length-append h l, header_pos hd);
    byte = byte_first l;
    pad = w.pad;
    marker = w.marker;
    deep = w.deep;
    good = w.good;
    unwraps = λ out s at r from to start stop p q i j z.
        let m : Rest s at (h ++ ((l ++ (n ++ b)) ++ r)) = rw (append_assoc h (l ++ (n ++ b)) r) at z in
        let size : length (l ++ (n ++ b)) ≡ length l + (length n + (length w.header + length w.body)) =
        omega (arith, length-append l (n ++ b), length-append n b, ap length w.joins, length-append w.header w.body) in
        let e₁ : from ≡ at + length h + length l = omega (arith, length-append h l) in
        let e₂ : stop ≡ at + length h + length (l ++ (n ++ b)) = omega arith in
        let in_s : Rest s (at + length h) ((l ++ (n ++ b)) ++ r) = rest-next h ((l ++ (n ++ b)) ++ r) (at + length h) refl m in
        let in_t : Rest (take stop s) (at + length h) (l ++ (n ++ b)) = rest_within (l ++ (n ++ b)) r stop e₂ in_s in
        rw (plain_header out (l ++ (n ++ b)) r (at + length h) stop hd (wrapper-usual (length (l ++ (n ++ b))) wrapper-size) refl e₂ m, wrapper_byte)
        (wrapped_found (take stop s) (at + length h) from to start stop e₁ q i j (rest-length in_t ∙ sym e₂) in_t);
    walks = w.walks;
  }

-- ---- pads

-- the bytes b are found to be a pad
pub record PadFound (b : List ℕ) : Type 0 where
  pub kind : ℕ
  pub pos : 0 < length b
  pub byte : get_or b 0 0 ≡ kind
  pub is : IsPadding kind
  pub size : ℕ
  pub headed : (out : Refusal) (s : List ℕ) (at : ℕ) (r : List ℕ) (stop : ℕ) → stop ≡ at + length b → Rest s at (b ++ r)
      → header_at out s at ≡ Ok (record { kind = kind; start = at + size; stop = stop })

pad_usual : (n : ℕ) → Usual 0 n
pad_usual n = record { shortly = λ lt. refl; at_length = refl; framed = refl; plain = refl; short_fits = refl; long_fits = refl }

pub pad_found : {h : List ℕ} (body : List ℕ) → Header null_code (length body) h → PadFound (h ++ body)
pad_found {h} body hd =
    let f = first hd in
    record {
      kind = get_or h 0 0;
      pos = omega (arith, length-append h body, header_pos hd);
      byte = get_or-append h body 0 0 (header_pos hd);
      is = K.padding (get_or h 0 0) (omega (arith, f.is, f.small));
      size = length h;
      headed =
          λ out s at r stop e z. plain_header out body r (at + length h) stop hd (pad_usual (length body)) refl
          (omega (arith, length-append h body)) (rw (append_assoc h body r) at z);
    }
