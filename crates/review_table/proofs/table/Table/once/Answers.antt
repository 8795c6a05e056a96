use Rattle.std.proofs.{Common.subst, lemmas.Map.Keys.IsDistinct-from_sorted}
use Rattle.std.specs.{List.Sorted.IsStrictlySortedBy, Map.keys_of}
use Rattle.review_table.proofs.{Empty.as_many, Places.row_among, Places.rows_sorted}
use Rattle.review_table.proofs.table.Table.once.Goals as goal

pub returns : goal.returns
returns g c =
    let R = g.K.Ord.cmp in
    let o = subst (λ t. IsStrictlySortedBy R (keys_of t)) c.self.view_is c.len.ensures.ordered in
    record {
      sorted = rows_sorted R c.args.self.now o;
      rows = row_among g.met.K.Ord.total c.args.self.now (IsDistinct-from_sorted R (keys_of c.args.self.now) o);
      bounded = as_many g.met.K.Ord.total c.args.self.now (IsDistinct-from_sorted R (keys_of c.args.self.now) o);
    }
