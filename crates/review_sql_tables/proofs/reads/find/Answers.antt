use Rattle.std.proofs.Common.{rules, ◌≡◌, ◌∙◌, ap, Ok}
use Rattle.review_sql_tables.{proofs.Found.look_on, proofs.Found.one_found, specs.Search.only}
use Rattle.review_sql_tables.proofs.reads.find.Goals as goal

pub returns-clause-looks : goal.returns-clause-looks
returns-clause-looks g c =
    let s = g.L.Lookup.search in
    let key = c.args.key.now in
    let rows = c.in_ok-rows.rows in
    let same : c.deref.result.now ≡ rows.items = search rules in
    look_on _ _ _ _ rows (Ok c.in_ok-read_one.field-0) c.in_ok-rows.ensures.looks (λ db h. c.in_ok-read_one.ensures ∙ (ap (only s.read) same ∙ one_found s db key rows.items h))
