use Rattle.review_sql_tables.proofs.Common.{rules, Bool, ◌≡◌, ◌∙◌, ap, not, subst, IsTrue, Decides, clean_if_open, Held, state, Trees}
use Rattle.review_sql.{proofs.Peeking.peeked, specs.Opened.AreAllApart, specs.Opened.Peeks}
use Rattle.review_sql.proofs.opening.peek.Goals as goal

pub returns-clause-peeks : goal.returns-clause-peeks
returns-clause-peeks g c =
    let F : Trees → Bool → Type 0 = λ db is. Decides is (AreAllApart db) in
    let last = c.rollback.new.self.0 in
    let same : last ≡ c.conn-1.given.0 = search rules in
    let s0 = state g.S.Store c.args.conn.now in
    let s2 = state g.S.Store c.are_all_apart-peeked.new.tx.conn.now in
    let auto : IsTrue c.is_autocommit-settled.result = c.is_autocommit-settled.ensures.value ∙ ap not c.requires.mode in
    let inside = rw c.transaction-tx.ensures.begun at c.are_all_apart-peeked.ensures.looks in
    subst (λ (h : Held _). Peeks F s0 (state g.S.Store h) c.are_all_apart-peeked.result) same
    (peeked F s0 s2 (state g.S.Store last) (λ was. c.is_autocommit-settled.ensures.settled auto was) (λ is_open. clean_if_open (g.S.Store.view last.store) (g.met.S.Store.shut_if_dirty last.store) is_open) c.are_all_apart-peeked.result inside c.rollback.ensures.undone c.rollback.ensures.survives)
