use Rattle.{std.proofs.Common.rules, std.proofs.Common.refl, std.proofs.Common.None, sqlite.specs.Held.state}
use Rattle.{review_sql_tables.proofs.Sequences.still, review_sql_writes.specs.inner.Words.GivesUp}
use Rattle.review_sql_writes.proofs.writing.give_up.Goals as goal

pub returns-in-None-clause-ran : goal.returns-in-None-clause-ran
returns-in-None-clause-ran g c =
    let it = still (GivesUp None) (state g.S.Store c.args.tx.now.conn.now) (tt {0}) (λ db. refl) in
    search rules
