use Rattle.review_sql_tables.proofs.Common.{◌∙◌, [], ap, not, subst, IsTrue, clean_if_open, state, IsNotRun}
use Rattle.review_sql.proofs.Staying.{not_understood, stays_prepared}
use Rattle.review_sql.proofs.there.is_understood.Goals as goal

pub returns-in-Ok-clause-stays : goal.returns-in-Ok-clause-stays
returns-in-Ok-clause-stays g c =
    let last = c.prepare.new.self in
    let auto : IsTrue c.is_autocommit-settled.result = c.is_autocommit-settled.ensures.value ∙ ap not c.requires.mode in
    stays_prepared (state g.S.Store c.args.conn.now) (state g.S.Store last) (λ was. c.is_autocommit-settled.ensures.settled auto was) _ c.args.sql.now c.prepare.result (λ is_open. clean_if_open (g.S.Store.view last.store) (g.met.S.Store.shut_if_dirty last.store) is_open) c.prepare.ensures.ok c.prepare.ensures.err c.prepare.ensures.survives

pub returns-in-Err : goal.returns-in-Err
returns-in-Err g c =
    let last = c.prepare.new.self in
    let auto : IsTrue c.is_autocommit-settled.result = c.is_autocommit-settled.ensures.value ∙ ap not c.requires.mode in
    record {
      mode = c.prepare.ensures.mode c.requires.mode;
      stays = stays_prepared (state g.S.Store c.args.conn.now) (state g.S.Store last) (λ was. c.is_autocommit-settled.ensures.settled auto was) _ c.args.sql.now c.prepare.result (λ is_open. clean_if_open (g.S.Store.view last.store) (g.met.S.Store.shut_if_dirty last.store) is_open) c.prepare.ensures.ok c.prepare.ensures.err c.prepare.ensures.survives;
      is = λ _. tt;
      unknown = λ _. tt;
      opens = λ _. tt;
    }

pub returns-clause-stays : goal.returns-clause-stays
returns-clause-stays g c =
    let last = c.prepare.new.self in
    let auto : IsTrue c.is_autocommit-settled.result = c.is_autocommit-settled.ensures.value ∙ ap not c.requires.mode in
    stays_prepared (state g.S.Store c.args.conn.now) (state g.S.Store last) (λ was. c.is_autocommit-settled.ensures.settled auto was) _ c.args.sql.now c.prepare.result (λ is_open. clean_if_open (g.S.Store.view last.store) (g.met.S.Store.shut_if_dirty last.store) is_open) c.prepare.ensures.ok c.prepare.ensures.err c.prepare.ensures.survives

pub returns-clause-unknown : goal.returns-clause-unknown
returns-clause-unknown g c clean same =
    let s0 = state g.S.Store c.args.conn.now in
    let s1 = state g.S.Store c.prepare.new.self in
    (not_understood s0 s1 c.args.sql.now c.in-Err-SqlInputError.field-0-0 (subst (λ e. IsNotRun s0 s1 c.args.sql.now [] e) c.in-Err-SqlInputError.field-0-is (c.in-Err-SqlInputError.ensures.err clean []))).1

pub returns-clause-opens : goal.returns-clause-opens
returns-clause-opens g c clean =
    let s0 = state g.S.Store c.args.conn.now in
    let s1 = state g.S.Store c.prepare.new.self in
    (not_understood s0 s1 c.args.sql.now c.in-Err-SqlInputError.field-0-0 (subst (λ e. IsNotRun s0 s1 c.args.sql.now [] e) c.in-Err-SqlInputError.field-0-is (c.in-Err-SqlInputError.ensures.err clean []))).0.0.is_open
