-- The status of a submit requirement.
use Rattle.std.specs.{Option.option_map_or, Prelude.not, Prelude.true, Prelude.false, Prelude.if◌then◌else◌}
use Rattle.review_words.specs.declared.shown.Status.{Status}
use Rattle.review_words.specs.declared.shown.Status.TheVariants.{NotApplicable, Overridden, Satisfied, Unsatisfied}
use Rattle.review_expr.specs.{Exprs.holds_for, declared.expr.Expr.Expr, declared.expr.Facts.Facts}
use Rattle.review_file_rules.specs.View.{RequirementView}

-- the status of a requirement by the facts of a change: the first that fits
abbrev pub status_of : RequirementView Expr → Facts → Status
status_of q f =
    if not (option_map_or (holds_for f) q.applicable_if true) then NotApplicable
    else if option_map_or (holds_for f) q.override_if false then Overridden
    else if holds_for f q.submittable_if then Satisfied
    else Unsatisfied
