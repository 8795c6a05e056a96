use Rattle.std.proofs.Common.{◌≡◌, ◌++◌, ◌∙◌, ap, codes, append_assoc}
use Rattle.{review_names.specs.Forms.is_line, review_core_tables.proofs.Lines.label_line}
use Rattle.review_core_tables.proofs.reasons.by_label.Goals as goal

pub worded-requires : goal.worded-requires
worded-requires c =
    let l = c.args.label.now in
    let bytes : c.as_str-2.result.now ≡ codes "vote on " ++ (l ++ codes " was not copied") = c.as_str-2.ensures.value
    ∙ (c.in_ok-push_str-2.ensures.bytes
    ∙ (ap (λ x. x ++ codes " was not copied") (c.in_ok-push_str.ensures.bytes ∙ (λ i. c.in_ok-text.ensures.ok i ++ c.as_str.ensures.text i))
    ∙ append_assoc (codes "vote on ") l (codes " was not copied"))) in
    ap is_line bytes ∙ label_line c.label_form.ensures l c.as_str.ensures.form
