use Rattle.std.proofs.Common.{◌≡◌, ◌++◌, map}
use Rattle.std.specs.{BTreeMap.Range.range_contains, List.filter, Map.Iter.deref_pair}
use Rattle.{std.specs.declared.ops.Bound.TheVariants.Included, review_table.specs.Rows.rows_of}
use Rattle.review_table.proofs.table.Table.select_ordered.Given as goal

abbrev pub invariant-loop-key : goal.invariant-loop-key
invariant-loop-key g l = map deref_pair l.rows.items ++ rows_of l.key-iterator ≡ filter (λ e. range_contains g.K.Ord.cmp (Included l.fn.from) (Included l.fn.to) e.0) (rows_of l.self)
