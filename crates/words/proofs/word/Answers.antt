-- `word` answers the part between spaces at an index, or nothing behind the last. Assumes nothing.
use Rattle.std.proofs.Common.{rules, tests, ◌≡◌, ◌==◌, ◌∙◌, ap, refl, ℕ, [], List}
use Rattle.std.specs.Prelude.{option_map, unwrap_or, Option, Some, None}
use Rattle.std.proofs.lemmas.Option.{unwrap_or-slice_get}
use Rattle.std.proofs.lemmas.Iterator.Consumers.{nth_from_yields_List}
use Rattle.std.proofs.lemmas.Iterator.Splits.{YieldsList-from_slice_split}
use denote.Ref.{Bor}
use Rattle.words.specs.Words.{words_of}
use Rattle.words.proofs.word.Goals as goal

now_of : (o : Option (Bor (List ℕ))) (b : Bor (List ℕ)) → (unwrap_or o b).now ≡ unwrap_or (option_map (λ (x : Bor (List ℕ)). x.now) o) b.now
now_of (Some x) b = refl
now_of None b = refl

pub returns : goal.returns
returns c =
    let s = c.args.text.now in
    let e = nth_from_yields_List c.nth.result c.nth.new.self c.args.n c.nth.ensures.ran
    (YieldsList-from_slice_split _ (λ (b : ℕ). b == 32) s c.split.ensures.rest c.split.ensures.done c.split.ensures.closure (λ x b q k. search (rules, tests))) in
    ap (λ (b : Bor (List ℕ)). b.now) c.unwrap_or.ensures
    ∙ (now_of c.nth.result _ ∙ (ap (λ o. unwrap_or o []) e ∙ unwrap_or-slice_get (words_of s) c.args.n []))
