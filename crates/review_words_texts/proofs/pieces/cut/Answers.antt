use Rattle.std.proofs.Common.{◌≡◌, ◌<◌, ℕ, List, [], ◌∷◌, length, map, sym, ap, subst, ◌∙◌, arith, Some, Bor}
use Rattle.std.proofs.lemmas.List.{map-append}
use Rattle.review_words_texts.proofs.Splitting.{Left, one_cut, none_refused, all_cut}
use Rattle.review_words_texts.proofs.pieces.cut.Goals as goal

pub loop-rest-preserved : goal.loop-rest-preserved
loop-rest-preserved c = λ fs short text.
    let now : Bor (List ℕ) → List ℕ = λ f. f.now in
    let some : 0 < length c.loop-rest.rest.now = grind (arith, c.is_empty.ensures, c.loop-rest-test.true) in
    let next = one_cut fs (map now c.loop-rest.fields.items) c.loop-rest.rest.now c.in-Some.field.now c.in-Some.after.now some (sym c.in-Some.ensures.split) (c.loop-rest.invariant fs short text) in
    let pushed = ap (map now) c.in_ok-push-in-Some.ensures.items ∙ map-append now c.loop-rest.fields.items (c.in-Some.field ∷ []) in
    subst (λ done. Left fs done c.in-Some.after.now) (sym pushed) next

pub returns-in-None : goal.returns-in-None
returns-in-None c = λ fs short text.
    let some : 0 < length c.loop-rest.rest.now = grind (arith, c.is_empty.ensures, c.loop-rest-test.true) in
    absurd (none_refused fs (map (λ f. f.now) c.loop-rest.fields.items) c.loop-rest.rest.now some (sym c.in-None.ensures.split) (c.loop-rest.invariant fs short text))

pub returns : goal.returns
returns c = λ fs short text.
    let none : length c.loop-rest.rest.now ≡ 0 = grind (arith, c.is_empty.ensures, c.loop-rest-test.false) in
    ap Some (all_cut fs (map (λ f. f.now) c.loop-rest.fields.items) c.loop-rest.rest.now none (c.loop-rest.invariant fs short text))
