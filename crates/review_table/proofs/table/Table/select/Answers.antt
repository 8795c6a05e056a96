use Rattle.std.proofs.Common.{◌∙◌, ap, sym, map}
use Rattle.{std.specs.Map.Iter.deref_pair, review_table.proofs.Places.select_none, review_table.specs.Rows.rows_of}
use Rattle.review_table.proofs.table.Table.select.Goals as goal

pub returns-in-Greater-clause-rows : goal.returns-in-Greater-clause-rows
returns-in-Greater-clause-rows g c =
    ap (map deref_pair) c.new.ensures.items ∙ sym (select_none g.met.K.Ord.total c.args.from c.args.to (rows_of c.args.self.now) (sym c.in-Greater.ensures))
