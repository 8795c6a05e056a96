use Rattle.{std.proofs.Common.◌∙◌, std.proofs.Common.ap, std.proofs.Common.sym, review_table.specs.Rows.rows_of}
use Rattle.review_memory_rows.{proofs.Based.seen_at, specs.Bases.BranchesView}
use Rattle.review_memory_rows.proofs.bases.Branches.stands_at.Goals as goal

pub returns : goal.returns
returns c =
    let base = c.args.base.now in
    let there = seen_at (rows_of c.self.inside.bases) c.args.self.now.bases c.in_ok-copy.field-0 c.in_ok-copy-2.field-0 base.project base.branch c.args.place
    (ap (λ (v : BranchesView). v.bases) c.self.view_is) c.in_ok-copy.ensures c.in_ok-copy-2.ensures in
    (λ is. there ∙ c.is_there.ensures.0 is, λ is. c.is_there.ensures.1 (sym there ∙ is))
