use Rattle.{std.proofs.Common.◌∙◌, std.proofs.lemmas.List.get_or_default, review_expr_terms.proofs.Alike.has_match_of}
use Rattle.review_expr_terms.proofs.pattern.Pattern.matches.Goals as goal

pub returns : goal.returns
returns c =
    rw (← c.self.view_is) (rw (c.in_ok-matcher.ensures.pattern, c.deref.ensures) at c.is_match.ensures.found
    ∙ has_match_of _ c.self.inside.whole.value c.self.invariant c.args.text.now
    (λ k d h. rw (get_or_default c.args.text.now k d 0 h) (c.type_inv.text k).fits))
