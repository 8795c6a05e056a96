use Rattle.review_sql_tables.proofs.Common.{rules, ◌≡◌, Some, None, state}
use Rattle.review_sql.proofs.Peeking.{lacking, part_missing, tables_there}
use Rattle.review_sql.proofs.opening.find_tables.Goals as goal

pub returns-in-Ok-Some-clause-there : goal.returns-in-Ok-Some-clause-there
returns-in-Ok-Some-clause-there g c is_open =
    let says = c.requires.says (c.least_of_whole.ensures.stays.kept is_open).0 in
    let is : c.in-Ok-Some.field-0 ≡ Some c.in-Ok-Some.least = search rules in
    tables_there (state g.S.Store c.args.conn.now) c.args.said c.args.version says.0 says.1 _ (search rules) (rw is at (c.in-Ok-Some.ensures.whole is_open))

pub returns-in-Ok-None-clause-lacking : goal.returns-in-Ok-None-clause-lacking
returns-in-Ok-None-clause-lacking g c is_open =
    let says = c.requires.says (c.least_of_whole.ensures.stays.kept is_open).0 in
    let s = state g.S.Store c.args.conn.now in
    let none : c.in-Ok-None.field-0 ≡ None = search rules in
    lacking s c.args.version (part_missing s c.args.said c.args.version says.0 says.1 (c.in-Ok-None.ensures.part is_open none))
