use Rattle.{std.proofs.Common.take, review_table.specs.Rows.rows_of, review_sql_tables.specs.inner.Words.WereApart}
use Rattle.review_sql_tables.proofs.fronts.find_parts.Given as goal

abbrev pub invariant-loop-row : goal.invariant-loop-row
invariant-loop-row g l = WereApart g.F.Part.Ord.cmp g.F.Lookup.search.read (take l.row-index l.row-items) (rows_of l.table)
