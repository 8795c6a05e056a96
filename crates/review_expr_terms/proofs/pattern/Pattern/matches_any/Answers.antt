use Rattle.std.proofs.Common.{◌≡◌, ◌<◌, refl, sym, ◌∙◌, ap, true, false}
use Rattle.std.{proofs.lemmas.List.drop_all, specs.List.All, specs.List.list_any}
use Rattle.review_expr_terms.proofs.{Alike.whole_of, Lists.found_at, Lists.not_at}
use Rattle.review_expr_terms.specs.Patterns.{IsHeld, matches_whole}
use Rattle.review_expr_terms.proofs.pattern.Pattern.matches_any.Goals as goal

pub loop-path-init : goal.loop-path-init
loop-path-init c = record { same = refl; left = refl }

pub returns-then-is_found : goal.returns-then-is_found
returns-then-is_found c =
    let self = c.args.self.now in
    let path = c.path-item.result in
    let bytes : All (λ x. x < 256) path = rw (← c.as_str.ensures.text) c.is_found.ensures.bytes in
    let held : IsHeld self c.self.inside.whole.value = rw (← c.self.view_is) c.self.invariant in
    let whole = whole_of self c.self.inside.whole.value _ _ held c.loop-path.invariant.same (rw c.deref.ensures at c.in_ok-matcher.ensures.pattern) path bytes in
    let met : matches_whole self path ≡ true = sym whole ∙ sym (rw c.as_str.ensures.text at c.is_found.ensures.found) ∙ c.if-is_found.true in
    found_at (matches_whole self) c.args.paths.now c.loop-path.path-index path path _ c.loop-path-test.true (sym c.path-item.is) met c.loop-path.invariant.left

pub loop-path-preserved : goal.loop-path-preserved
loop-path-preserved c =
    let self = c.args.self.now in
    let path = c.path-item.result in
    let bytes : All (λ x. x < 256) path = rw (← c.as_str.ensures.text) c.is_found.ensures.bytes in
    let held : IsHeld self c.self.inside.whole.value = rw (← c.self.view_is) c.self.invariant in
    let whole = whole_of self c.self.inside.whole.value _ _ held c.loop-path.invariant.same (rw c.deref.ensures at c.in_ok-matcher.ensures.pattern) path bytes in
    let unmet : matches_whole self path ≡ false = sym whole ∙ sym (rw c.as_str.ensures.text at c.is_found.ensures.found) ∙ c.if-is_found.false in
    record {
      same = c.is_found.ensures.same ∙ c.loop-path.invariant.same;
      left = not_at (matches_whole self) c.args.paths.now c.loop-path.path-index path path _ c.loop-path-test.true (sym c.path-item.is) unmet c.loop-path.invariant.left;
    }

pub returns : goal.returns
returns c =
    sym (ap (list_any (matches_whole c.args.self.now)) (drop_all c.loop-path.path-index c.args.paths.now c.loop-path-test.false)) ∙ c.loop-path.invariant.left
