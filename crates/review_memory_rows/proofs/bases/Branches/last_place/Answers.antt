use Rattle.std.proofs.Common.{ap, sym, subst}
use Rattle.{std.specs.Option.unwrap_or, review_table.specs.Rows.rows_of}
use Rattle.review_memory_rows.specs.Bases.{BranchesView, IsLastPlace}
use Rattle.review_memory_rows.proofs.bases.Branches.last_place.Goals as goal

pub returns-in-Some : goal.returns-in-Some
returns-in-Some c =
    let key = c.args.branch.now in
    subst (λ (v : BranchesView). IsLastPlace v.bases key.project key.branch c.in-Some.place.now) c.self.view_is
    (subst (IsLastPlace (rows_of c.self.inside.bases) key.project key.branch) (ap (λ o. unwrap_or o 0) (sym c.in-Some.ensures)) (c.self.invariant.1 key.project key.branch))

pub returns-in-None : goal.returns-in-None
returns-in-None c =
    let key = c.args.branch.now in
    subst (λ (v : BranchesView). IsLastPlace v.bases key.project key.branch 0) c.self.view_is
    (subst (IsLastPlace (rows_of c.self.inside.bases) key.project key.branch) (ap (λ o. unwrap_or o 0) (sym c.in-None.ensures)) (c.self.invariant.1 key.project key.branch))
