use Rattle.review_sql_tables.proofs.Common.{◌≡◌, take, map, Int, firsts}
use Rattle.review_sql_tables.proofs.rowids.read_ids.Given as goal

abbrev pub invariant-loop-row : goal.invariant-loop-row
invariant-loop-row l = firsts (take l.row-index l.rows) ≡ map Int l.ids.items
