use Rattle.review_sql_tables.proofs.Common.{◌≡◌, ◌∙◌, refl, sym, arith, same_Some, as_counted}
use Rattle.review_sql_records.proofs.Common.{most_bases, BasesOf}
use Rattle.review_sql_lookups.{proofs.Bounded.counted_below, specs.Tables.tables_at}
use Rattle.review_sql_lookups.proofs.branches.tell_base_count.Goals as goal

pub returns : goal.returns
returns c db is bounded =
    let n = (tables_at db).count (BasesOf c.args.project.now) in
    let counted : as_counted n ≡ c.in-Some.count = same_Some _ _ (sym is ∙ c.in-Some.is) in
    ((_, refl, counted_below most_bases n c.in-Some.count (omega arith) counted), c.learn_bases.ensures (tables_at db) bounded counted)
