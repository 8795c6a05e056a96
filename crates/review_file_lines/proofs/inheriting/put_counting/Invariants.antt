use Rattle.std.proofs.Common.{◌≡◌, drop}
use Rattle.{std.specs.Prelude.filter, std.specs.Prelude.fold, review_expr.specs.declared.expr.Expr.Expr}
use Rattle.review_file_rules.specs.{Inherited.counts, Inherited.put_by, View.RequirementView}
use Rattle.review_file_lines.proofs.inheriting.put_counting.Given as goal

abbrev pub invariant-loop-requirement : goal.invariant-loop-requirement
invariant-loop-requirement l =
    fold (put_by (λ (r : RequirementView Expr). r.name)) l.requirements.items (filter (counts l.parent) (drop l.requirement-index l.own))
    ≡ fold (put_by (λ (r : RequirementView Expr). r.name)) l.initial.requirements.items (filter (counts l.parent) l.own)
