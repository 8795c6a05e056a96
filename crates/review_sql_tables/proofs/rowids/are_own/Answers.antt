use Rattle.std.proofs.Common.{rules, Some, None}
use Rattle.review_sql_tables.{proofs.Ids.decides_own, proofs.Ids.not_own, specs.inner.Words.AreIds}
use Rattle.review_sql_tables.proofs.rowids.are_own.Goals as goal

pub returns-in-Some : goal.returns-in-Some
returns-in-Some c =
    let read : AreIds c.args.rows.now (Some c.in-Some.ids.items) = search rules in
    decides_own c.args.rows.now c.in-Some.ids.items c.are_distinct.result read c.are_distinct.ensures

pub returns-in-None : goal.returns-in-None
returns-in-None c =
    let read : AreIds c.args.rows.now None = search rules in
    (λ no_way. absurd (let e = no_way in cc), λ own. absurd (not_own c.args.rows.now read own))
