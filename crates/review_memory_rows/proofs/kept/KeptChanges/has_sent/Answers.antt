use Rattle.std.proofs.Common.{ap, subst, sym, ◌∙◌, nat_cmp, MatchBool}
use Rattle.review_table.specs.Rows.{row_in, rows_of}
use Rattle.review_memory_rows.specs.Kept.{IsSentAs, KeptView}
use Rattle.review_memory_rows.proofs.kept.KeptChanges.has_sent.Goals as goal

pub returns-in-Some : goal.returns-in-Some
returns-in-Some c =
    let base = c.args.base.now in
    let key = c.args.key.now in
    let there = ap (λ (v : KeptView). row_in nat_cmp (rows_of v.kept) key.change) (sym c.self.view_is) ∙ sym c.in-Some.ensures in
    subst (λ o. MatchBool c.is_sent_as.result (IsSentAs c.args.merged o base key.patch) (IsSentAs c.args.merged o base key.patch → ⊥)) (sym there) c.is_sent_as.ensures
