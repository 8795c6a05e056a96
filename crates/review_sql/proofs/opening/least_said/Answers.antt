use Rattle.review_sql_tables.proofs.Common.{rules, sym, subst, IfSome, clean_if_open, state}
use Rattle.review_sql.proofs.Peeking.{lacks_if, says_if}
use Rattle.review_sql.specs.Opened.{LacksLeast, SaysLeast, ShowsEpochs}
use Rattle.review_sql.proofs.opening.least_said.Goals as goal

pub returns-in_ok-rows-in-Third-clause-is : goal.returns-in_ok-rows-in-Third-clause-is
returns-in_ok-rows-in-Third-clause-is g c is_open =
    let db = (state g.S.Store c.args.conn.now).now in
    let last = c.epochs_rows.new.conn in
    let shown = c.in_ok-rows-in-Third.ensures.shown (clean_if_open (g.S.Store.view last.store) (g.met.S.Store.shut_if_dirty last.store) is_open) in
    let same : ShowsEpochs db c.deref.result.now = search (rules, shown, c.deref.ensures.value) in
    subst (λ v. IfSome c.least_shown.result (SaysLeast v db)) (sym c.in-Third.is) (says_if db c.deref.result.now same c.least_shown.result c.least_shown.ensures)

pub returns-in_ok-rows-in-Third-clause-none : goal.returns-in_ok-rows-in-Third-clause-none
returns-in_ok-rows-in-Third-clause-none g c is_open none =
    let db = (state g.S.Store c.args.conn.now).now in
    let last = c.epochs_rows.new.conn in
    let shown = c.in_ok-rows-in-Third.ensures.shown (clean_if_open (g.S.Store.view last.store) (g.met.S.Store.shut_if_dirty last.store) is_open) in
    let same : ShowsEpochs db c.deref.result.now = search (rules, shown, c.deref.ensures.value) in
    subst (λ v. LacksLeast v db) (sym c.in-Third.is) (lacks_if db c.deref.result.now same c.least_shown.result c.least_shown.ensures none)
