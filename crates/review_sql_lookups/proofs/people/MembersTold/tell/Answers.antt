use Rattle.std.proofs.Common.{ap, sym}
use Rattle.review_machine_rows.specs.Rows.{MemberKey, MemberRow}
use Rattle.review_sql_lookups.{proofs.Telling.odd_told, specs.Tables.told}
use Rattle.review_machine_rows.specs.declared.rows.Want.TheVariants as want
use Rattle.review_sql_lookups.proofs.people.MembersTold.tell.Goals as goal

pub returns-in-Err : goal.returns-in-Err
returns-in-Err c = λ member db is. odd_told (λ u. MemberRow) db (MemberKey member.group member.account) c.args.found (want.Member member) c.in-Err.sight (ap (told (λ u. MemberRow)) (sym is)) c.in-Err.ensures.err
