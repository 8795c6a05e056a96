use Rattle.review_sql_tables.proofs.Common.{◌∙◌, ap, not, IsTrue, clean_if_open, state}
use Rattle.review_sql_tables.specs.declared.texts.TheConstants.{FIND_DESK}
use Rattle.review_sql.proofs.Asking.{asked_open, asked_rows, asked_stays, find_desk_bare}
use Rattle.review_sql.proofs.opening.desk_rows.Goals as goal

pub returns-clause-shown : goal.returns-clause-shown
returns-clause-shown g c clean = asked_rows FIND_DESK.now find_desk_bare (state g.S.Store c.args.conn.now) (state g.S.Store c.query_all.new.self) (λ v. v.items) c.query_all.result (c.query_all.ensures.ok clean)

pub returns-clause-stays : goal.returns-clause-stays
returns-clause-stays g c =
    let last = c.query_all.new.self in
    let auto : IsTrue c.is_autocommit-settled.result = c.is_autocommit-settled.ensures.value ∙ ap not c.requires.mode in
    asked_stays FIND_DESK.now find_desk_bare (state g.S.Store c.args.conn.now) (state g.S.Store last) (λ v. v.items) c.query_all.result (λ was. c.is_autocommit-settled.ensures.settled auto was)
    (λ is_open. clean_if_open (g.S.Store.view last.store) (g.met.S.Store.shut_if_dirty last.store) is_open) c.query_all.ensures.ok c.query_all.ensures.err c.query_all.ensures.survives

pub returns-clause-opens : goal.returns-clause-opens
returns-clause-opens g c clean = asked_open FIND_DESK.now find_desk_bare (state g.S.Store c.args.conn.now) (state g.S.Store c.query_all.new.self) (λ v. v.items) c.query_all.result (c.query_all.ensures.ok clean)
