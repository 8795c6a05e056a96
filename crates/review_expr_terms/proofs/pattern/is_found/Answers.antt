use Rattle.std.proofs.lemmas.List.{get_or_default}
use Rattle.review_expr_terms.proofs.pattern.is_found.Goals as goal

pub returns-clause-bytes : goal.returns-clause-bytes
returns-clause-bytes c = λ k d h. rw (get_or_default c.args.text.now k d 0 h) (c.type_inv.text k).fits
