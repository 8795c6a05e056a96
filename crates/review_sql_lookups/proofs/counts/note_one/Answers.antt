use Rattle.review_sql_tables.proofs.Common.{◌∙◌, cond, List, Some, None, sym, ap, subst, same_Some, is_at, slice_cmp, nat_cmp, row_in, rows_of}
use Rattle.review_sql_records.proofs.Common.{most_bases, BasesOf}
use Rattle.review_sql_lookups.proofs.Bounded.{renewed, unknown}
use Rattle.review_sql_lookups.specs.{Loads.Bounds, declared.counts.Bound.Bound}
use Rattle.review_sql_lookups.proofs.counts.note_one.Goals as goal

pub returns-in_default : goal.returns-in_default
returns-in_default c old new bounded grows =
    let known = rows_of c.args.bases.now in
    renewed known known c.args.project.now None (unknown known c.args.project.now (sym c.in_default.ensures)) old new bounded grows.others (λ bound e. absurd (cc))

pub returns-in-Ok : goal.returns-in-Ok
returns-in-Ok c old new bounded grows =
    let project = c.args.project.now in
    let more = grows.more project in
    renewed (rows_of c.args.bases.now) (rows_of c.set.new.bases) project (Some c.with_one-more.result) c.in-Ok.ensures.put old new bounded grows.others
    (λ bound e. subst (λ b. Bounds most_bases b (new.count (BasesOf project))) (same_Some _ bound e) (c.with_one-more.ensures _ _ (bounded project c.in-Some.bound.now (sym c.in-Some.ensures)) more.0 more.1))

pub returns-in-Err : goal.returns-in-Err
returns-in-Err c old new bounded grows =
    let project = c.args.project.now in
    renewed (rows_of c.args.bases.now) (rows_of c.remove.new.self) project None
    (λ p. c.remove.ensures.rows p ∙ ap (λ (rows : List (List _ × Bound)). cond (is_at (slice_cmp nat_cmp project) p) None (row_in (slice_cmp nat_cmp) rows p)) c.in-Err.ensures.same)
    old new bounded grows.others (λ bound e. absurd (cc))
