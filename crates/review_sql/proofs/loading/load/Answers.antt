use Rattle.review_sql_tables.proofs.Common.{rules, ◌≡◌, ◌∙◌, sym, ap, not, subst, IsTrue, Ok, Err, refl, clean_if_open, Held, state, Serves}
use Rattle.review_sql_records.proofs.Common.{look_failed, look_ended}
use Rattle.review_sql.specs.Loading.{WereSeen}
use Rattle.review_sql.proofs.loading.load.Goals as goal

pub returns-in_err-end-clause-serves : goal.returns-in_err-end-clause-serves
returns-in_err-end-clause-serves g c =
    let F = WereSeen c.args.rows.now c.find_each.new.rows c.args.counts.now c.find_each.new.counts in
    let last = c.drop-tx.new.self.0 in
    let same : last ≡ c.conn-1.given.0 = search rules in
    let s0 = state g.S.Store c.args.conn.now in
    let s2 = state g.S.Store c.find_each.new.tx.conn.now in
    let auto : IsTrue c.is_autocommit-settled.result = c.is_autocommit-settled.ensures.value ∙ ap not c.requires.mode in
    let inside = rw c.transaction-tx.ensures.begun at c.in_err-end.ensures.looks in
    let is : c.from_residual.result ≡ Err c.in_err-end.field-0.0 = search rules in
    subst (λ (h : Held _). Serves F s0 (state g.S.Store h) c.from_residual.result) same
    (subst (Serves F s0 (state g.S.Store last)) (sym is) (look_failed F s0 s2 (state g.S.Store last) (λ was. c.is_autocommit-settled.ensures.settled auto was) (λ is_open. clean_if_open (g.S.Store.view last.store) (g.met.S.Store.shut_if_dirty last.store) is_open) F _ _ inside c.drop-tx.ensures.undone c.drop-tx.ensures.survives))

pub returns-in_err-commit-clause-serves : goal.returns-in_err-commit-clause-serves
returns-in_err-commit-clause-serves g c =
    let F = WereSeen c.args.rows.now c.find_each.new.rows c.args.counts.now c.find_each.new.counts in
    let last = c.commit.new.self.0 in
    let same : last ≡ c.conn-2-1.given.0 = search rules in
    let s0 = state g.S.Store c.args.conn.now in
    let s2 = state g.S.Store c.find_each.new.tx.conn.now in
    let auto : IsTrue c.is_autocommit-settled.result = c.is_autocommit-settled.ensures.value ∙ ap not c.requires.mode in
    let inside = rw c.transaction-tx.ensures.begun at c.in_ok-end.ensures.looks in
    let e = c.in_err-commit.field-0.0 in
    let is : c.from_residual-in_err-commit.result ≡ Err e = search rules in
    subst (λ (h : Held _). Serves F s0 (state g.S.Store h) c.from_residual-in_err-commit.result) same
    (subst (Serves F s0 (state g.S.Store last)) (sym is)
    (look_ended F s0 s2 (state g.S.Store last) (λ was. c.is_autocommit-settled.ensures.settled auto was) (λ is_open. clean_if_open (g.S.Store.view last.store) (g.met.S.Store.shut_if_dirty last.store) is_open) c.in_ok-end.end
    (Err e) inside c.in_err-commit.ensures.ok c.in_err-commit.ensures.err c.in_err-commit.ensures.survives (Err e) (e, refl)))

pub returns-clause-serves : goal.returns-clause-serves
returns-clause-serves g c =
    let F = WereSeen c.args.rows.now c.find_each.new.rows c.args.counts.now c.find_each.new.counts in
    let last = c.commit.new.self.0 in
    let same : last ≡ c.conn-2-1.given.0 = search rules in
    let s0 = state g.S.Store c.args.conn.now in
    let s2 = state g.S.Store c.find_each.new.tx.conn.now in
    let auto : IsTrue c.is_autocommit-settled.result = c.is_autocommit-settled.ensures.value ∙ ap not c.requires.mode in
    let inside = rw c.transaction-tx.ensures.begun at c.in_ok-end.ensures.looks in
    let end = c.in_ok-end.end in
    subst (λ (h : Held _). Serves F s0 (state g.S.Store h) (Ok end)) same
    (look_ended F s0 s2 (state g.S.Store last) (λ was. c.is_autocommit-settled.ensures.settled auto was) (λ is_open. clean_if_open (g.S.Store.view last.store) (g.met.S.Store.shut_if_dirty last.store) is_open) end
    (Ok c.in_ok-commit.field-0) inside c.in_ok-commit.ensures.ok c.in_ok-commit.ensures.err c.in_ok-commit.ensures.survives (Ok end) refl)
