use Rattle.{review_table.specs.Rows.rows_of, review_memory.proofs.Applied.used_given}
use Rattle.review_memory.proofs.tables.MemoryTables.drop_given.Goals as goal

pub returns-else-accounts-gt1-clause-dropped : goal.returns-else-accounts-gt1-clause-dropped
returns-else-accounts-gt1-clause-dropped c = λ only has.
    used_given c.args.accounts.now (rows_of c.args.self.now.accounts) (rows_of c.args.self.now.names) c.args.given.now c.if-accounts-gt1.false only has
