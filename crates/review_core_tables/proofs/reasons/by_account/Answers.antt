use Rattle.std.proofs.Common.{◌≡◌, ◌++◌, ◌∙◌, ap, codes}
use Rattle.review_names.specs.{Forms.is_line, Numerals.numeral}
use Rattle.review_core_tables.proofs.Lines.{account_line}
use Rattle.review_core_tables.proofs.reasons.by_account.Goals as goal

pub worded-requires : goal.worded-requires
worded-requires c =
    let bytes : c.as_str.result.now ≡ codes "account " ++ (numeral c.args.account ++ c.args.does.now) = c.as_str.ensures.value
    ∙ (c.in_ok-add_account.ensures ∙ (λ i. c.in_ok-text.ensures.bytes i ++ (codes "account " ++ (numeral (c.get.ensures.value i) ++ c.args.does.now)))) in
    ap is_line bytes ∙ account_line c.args.account c.args.does.now c.get.ensures.most c.requires.short c.requires.shown
