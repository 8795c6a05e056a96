use Rattle.std.proofs.Common.{◌∙◌, ap, sym, Some}
use Rattle.{std.specs.BTreeMap.is_at, review_table.proofs.Places.rows_of_removed, review_table.specs.Rows.rows_of}
use Rattle.review_table.proofs.table.Table.release_one.Goals as goal

pub returns-in-Some-None-clause-same : goal.returns-in-Some-None-clause-same
returns-in-Some-None-clause-same g c =
    ap rows_of c.remove.ensures.entries
    ∙ rows_of_removed (is_at (g.K.Ord.cmp c.args.key.now)) c.self.inside.places.entries (sym c.in-Some-None.ensures.value ∙ ap Some c.in-Some-None.field-0-is)
    ∙ ap rows_of c.self.view_is
