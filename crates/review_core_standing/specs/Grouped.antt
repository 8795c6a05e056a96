-- The facts of a change, where tables tell who is in which group, and how a requirement stands by them.
use Rattle.{std.specs.Prelude.◌≡◌, review_words.specs.declared.shown.Status.Status}
use Rattle.{review_expr_judging.specs.declared.facts.ChangeFacts.ChangeFacts, review_expr.specs.declared.expr.Expr.Expr}
use Rattle.review_file_rules.specs.View.{RequirementView}
use Rattle.review_core_rules.specs.{Change.Change, Change.Setting, Facts.AreFacts, Status.status_of}
use Rattle.review_core_tables.specs.Copies.{GroupTable, group_list}
use Rattle.review_expr.specs.declared.expr.Facts.TheVariants as facts

-- the facts with the groups of a table
abbrev pub grouped : ChangeFacts → GroupTable → ChangeFacts
grouped f t = record f { groups = group_list t }

-- how a requirement stands for a change
abbrev pub IsStatus : Setting → Change → RequirementView Expr → Status → Type 0
IsStatus s c q status = (f : ChangeFacts) × AreFacts s c f × (status ≡ status_of q (facts.Change f))
