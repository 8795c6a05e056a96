use Rattle.std.proofs.Common.{◌≡◌, take, map, Some}
use Rattle.review_sql_tables.proofs.reads.read_all.Given as goal

abbrev pub invariant-loop-row : goal.invariant-loop-row
invariant-loop-row g l = map g.L.Lookup.search.read (take l.row-index l.rows) ≡ map Some l.items.items
