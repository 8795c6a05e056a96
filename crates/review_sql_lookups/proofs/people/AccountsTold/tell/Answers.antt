use Rattle.std.proofs.Common.{ap, sym}
use Rattle.review_machine_rows.specs.Rows.{AccountKey, AccountRow}
use Rattle.review_sql_lookups.{proofs.Telling.odd_told, specs.Tables.told}
use Rattle.review_machine_rows.specs.declared.rows.Want.TheVariants as want
use Rattle.review_sql_lookups.proofs.people.AccountsTold.tell.Goals as goal

pub returns-in-Err : goal.returns-in-Err
returns-in-Err c = λ number db is. odd_told AccountRow db (AccountKey number) c.args.found (want.Account number) c.in-Err.sight (ap (told AccountRow) (sym is)) c.in-Err.ensures.err
