use Rattle.review_sql_tables.proofs.Common.{◌≡◌, Option, Ok, false, subst, rules, Trees, row_at}
use Rattle.review_sql_records.specs.{Forms.desk, declared.rows.DeskRow.DeskRow}
use Rattle.review_sql.{proofs.Finding.seen_open, specs.Loading.LooksIf, specs.Loading.WereSeen}
use Rattle.review_sql.proofs.loading.find_each.Goals as goal

pub returns-in_ok-_desk-clause-looks : goal.returns-in_ok-_desk-clause-looks
returns-in_ok-_desk-clause-looks g c =
    let F = WereSeen c.args.rows.now c.find_in_turn.new.rows c.args.counts.now c.find_in_turn.new.counts in
    let G : Trees → Option (Option DeskRow) → Type 0 = λ db found. found ≡ row_at desk db tt in
    let first = c.args.tx.now.conn.now in
    let mid = c.find_in_turn.new.tx.conn.now in
    let unasked : c.find_in_turn.new.is_asked ≡ false = search rules in
    seen_open g.S.Store F G first mid c.find.new.tx.conn.now c.in_ok-end.end c.in_ok-_desk._desk (subst (λ is. LooksIf g.S.Store is F first mid (Ok c.in_ok-end.end)) unasked c.in_ok-end.ensures.looks) c.in_ok-_desk.ensures.looks
