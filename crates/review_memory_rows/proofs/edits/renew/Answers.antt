use Rattle.std.proofs.Common.{◌∙◌, ap, nat_cmp, option_map, sym, cond, Some}
use Rattle.std.specs.BTreeMap.{is_at}
use Rattle.review_table.specs.Rows.{has_place, place_at, row_in, rows_of}
use Rattle.review_memory_rows.proofs.Based.{none_spare}
use Rattle.review_memory_rows.proofs.Turned.{earlier_stays, first_renewed, put_back, row_has_place}
use Rattle.review_memory_rows.specs.Kept.{renewed}
use Rattle.review_memory_rows.proofs.edits.renew.Goals as goal

pub returns-then-is_edited-clause-rows : goal.returns-then-is_edited-clause-rows
returns-then-is_edited-clause-rows c = λ n. earlier_stays c.args.earlier.now c.args.number c.args.tables (sym c.is_edited.ensures ∙ c.if-is_edited.true) n (row_in nat_cmp (rows_of c.args.kept.now) n)

pub returns-in-Some-clause-rows : goal.returns-in-Some-clause-rows
returns-in-Some-clause-rows c =
    let k = c.args.number in
    let kept = c.args.kept.now in
    let taken = c.take.new.self in
    let was = sym c.in-Some.ensures.row in
    let place = c.take.ensures.stay k ∙ row_has_place (place_at nat_cmp kept k) c.in-Some.old (c.once.ensures.rows k ∙ was) in
    first_renewed c.args.earlier.now k c.args.tables (rows_of kept) (rows_of c.restore.new.self) (sym c.is_edited.ensures ∙ c.if-is_edited.false)
    (λ n. put_back (has_place nat_cmp taken k) (is_at (nat_cmp k) n) c.renewed.result (row_in nat_cmp (rows_of kept) n) (row_in nat_cmp (rows_of taken) n) (row_in nat_cmp (rows_of c.restore.new.self) n) place (c.take.ensures.rows n) (c.restore.ensures.rows n)
    ∙ ap (λ o. cond (is_at (nat_cmp k) n) o (row_in nat_cmp (rows_of kept) n)) (ap Some c.renewed.ensures ∙ ap (option_map (λ t. renewed t c.args.tables)) (sym was)))

pub returns-in-None-clause-rows : goal.returns-in-None-clause-rows
returns-in-None-clause-rows c =
    let k = c.args.number in
    let kept = c.args.kept.now in
    first_renewed c.args.earlier.now k c.args.tables (rows_of kept) (rows_of c.release_one.new.self) (sym c.is_edited.ensures ∙ c.if-is_edited.false)
    (λ n. ap (λ rows. row_in nat_cmp rows n) c.release_one.ensures.same ∙ c.take.ensures.rows n ∙ ap (λ o. cond (is_at (nat_cmp k) n) (option_map (λ t. renewed t c.args.tables) o) (row_in nat_cmp (rows_of kept) n)) c.in-None.ensures.row)

pub returns-in-Some-clause-full : goal.returns-in-Some-clause-full
returns-in-Some-clause-full c = λ full. c.restore.ensures.mended (c.take.ensures.only (none_spare nat_cmp (is_at (nat_cmp c.args.number)) c.args.kept.now full))

pub returns-in-None-clause-full : goal.returns-in-None-clause-full
returns-in-None-clause-full c = λ full. c.release_one.ensures.mended (c.take.ensures.only (none_spare nat_cmp (is_at (nat_cmp c.args.number)) c.args.kept.now full))
