use Rattle.std.proofs.Common.{◌≡◌, ◌∙◌, Some, None, ap, sym, rules}
use Rattle.review_core_rules.specs.Parts.{TheHeader, AHeader}
use Rattle.review_machine_rows.specs.Rows.{PartKey, APart}
use Rattle.review_sql_lookups.{proofs.Telling.odd_damage, specs.Tables.tables_at, specs.Tables.told}
use Rattle.review_sql_change_lookups.proofs.Sending.{no_header, no_patch, sent_told}
use Rattle.review_sql_change_lookups.proofs.senders.sent_by.Goals as goal

pub returns-in_default : goal.returns-in_default
returns-in_default c = λ n p db stands row.
    let none : c.args.header ≡ None = search rules in
    no_header c.args.merged c.args.base.now n p db (sym stands ∙ none)

pub returns-in_default-patch : goal.returns-in_default-patch
returns-in_default-patch c = λ n p db stands row.
    let none : c.args.patch ≡ None = search rules in
    no_patch c.args.merged c.args.base.now n p db (sym row ∙ none)

pub returns-in_default-header : goal.returns-in_default-header
returns-in_default-header c = λ n p db stands row.
    let odd : c.args.header ≡ Some None = search rules in
    odd_damage (tables_at db) (PartKey n TheHeader) (ap (told (λ x. APart (AHeader x))) (sym stands ∙ odd))

pub returns-in_default-patch-2 : goal.returns-in_default-patch-2
returns-in_default-patch-2 c = λ n p db stands row.
    let some : c.args.header ≡ Some (Some c.in-Some-header.header) = search rules in
    let odd : c.args.patch ≡ Some None = search rules in
    c.odd_patch.ensures c.args.merged n p db (sym stands ∙ some) (sym row ∙ odd)

pub returns : goal.returns
returns c = λ n p db stands row.
    let h = c.in-Some-header.header in
    let x = c.in-Some-patch-2.patch in
    let some : c.args.header ≡ Some (Some h) = search rules in
    let known : c.args.patch ≡ Some (Some x) = search rules in
    sent_told c.args.merged c.args.base.now n p db h x c.is_sent_as.result (sym stands ∙ some) (sym row ∙ known) c.is_sent_as.ensures
