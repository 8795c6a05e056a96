use Rattle.std.proofs.Common.{◌∙◌, ap, sym}
use Rattle.review_file_rules.{proofs.Known.inherits_known, specs.Expressions.names_unknown_label}
use Rattle.review_file_lines.proofs.inheriting.inherit.Goals as goal

pub returns-clause-names : goal.returns-clause-names
returns-clause-names c = λ above.
    ap names_unknown_label c.in_ok-inherit_stored.ensures
    ∙ inherits_known c.args.parent.now c.args.own.now c.facts.ensures.names.0 c.facts-2.ensures.names.0 above (sym c.in_ok-unknown.ensures ∙ c.if-unknown.false)
