use Rattle.std.proofs.Common.{ap, sym}
use Rattle.review_machine_rows.specs.Rows.{FileKey, FileRow}
use Rattle.review_sql_lookups.{proofs.Telling.odd_told, specs.Tables.told}
use Rattle.review_machine_rows.specs.declared.rows.Want.TheVariants as want
use Rattle.review_sql_lookups.proofs.branches.ProjectsTold.tell.Goals as goal

pub returns-in-Err : goal.returns-in-Err
returns-in-Err c = λ project db is. odd_told FileRow db (FileKey project) c.args.found (want.File project) c.in-Err.sight (ap (told FileRow) (sym is)) c.in-Err.ensures.err
