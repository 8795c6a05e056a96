use Rattle.std.proofs.Common.{◌∙◌, ap, sym}
use Rattle.review_table.proofs.{Empty.applied, Empty.full_applied, Places.all_placed}
use Rattle.review_table.specs.Rows.{row_at, row_edit_of, changed, place_at}
use Rattle.review_table.proofs.table.Table.apply.Goals as goal

pub returns-clause-all : goal.returns-clause-all
returns-clause-all g c = λ places q.
    let R = g.K.Ord.cmp in
    let old = c.args.self.now in
    let edits = c.args.edits.items in
    sym (c.once-2.ensures.rows q) ∙ (c.set_all.ensures.rows q
    ∙ (ap (λ cs. changed R cs q (row_at R old q)) (all_placed R old edits places)
    ∙ ap (changed R edits q) (c.once.ensures.rows q)))

pub returns-clause-only : goal.returns-clause-only
returns-clause-only g c = λ only q.
    let R = g.K.Ord.cmp in
    applied (row_edit_of R c.args.edits.items q) (place_at R c.args.self.now q) (place_at R c.set_all.new.self q) (c.set_all.ensures.each q) (only q)

pub returns-clause-mended : goal.returns-clause-mended
returns-clause-mended g c = λ rows only q.
    let R = g.K.Ord.cmp in
    full_applied R c.args.edits.items q (place_at R c.args.self.now q) (place_at R c.set_all.new.self q) rows (c.set_all.ensures.each q) (only q)
