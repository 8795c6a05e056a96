use Rattle.std.proofs.Common.{rules, ◌≡◌, true}
use Rattle.{sqlite.specs.Held.state, review_sql.proofs.Raised.raised_ours}
use Rattle.review_sql.proofs.migrating.rewrite_ours.Goals as goal

pub returns-clause-ran : goal.returns-clause-ran
returns-clause-ran g c =
    let s0 = state g.S.Store c.args.tx.now.conn.now in
    let s1 = state g.S.Store c.migrate_tables.new.tx.conn.now in
    let s2 = state g.S.Store c.are_all_apart.new.tx.conn.now in
    let s3 = state g.S.Store c.put_version.new.tx.conn.now in
    let yes : c.in_ok-are_all_apart.field-0 ≡ true = search rules in
    raised_ours c.args.version c.args.numbers s0 s1 s2 s3 _ c.in_ok-migrate_tables.ensures.ran c.in_ok-are_all_apart.field-0 c.in_ok-are_all_apart.ensures.looks _ yes c.in_ok-put_version.ensures.ran
