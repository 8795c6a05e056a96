use Rattle.review_sql_tables.proofs.Common.{rules, refl, ◌≡◌, ◌∙◌, sym, ap, not, subst, IsTrue, Err, clean_if_open, Held, state, Transacts}
use Rattle.review_sql_records.proofs.Common.{failed, ended}
use Rattle.review_sql_writes.specs.Commits.{Commits}
use Rattle.review_sql_writes.proofs.writing.transact.Goals as goal

pub returns-in_err-write-clause-acts : goal.returns-in_err-write-clause-acts
returns-in_err-write-clause-acts g c =
    let R = Commits c.args.delta.now c.args.kept.now c.args.numbers.now in
    let last = c.drop-tx.new.self.0 in
    let same : last ≡ c.conn-1.given.0 = search rules in
    let s0 = state g.S.Store c.args.conn.now in
    let s2 = state g.S.Store c.write.new.tx.conn.now in
    let auto : IsTrue c.is_autocommit-settled.result = c.is_autocommit-settled.ensures.value ∙ ap not c.requires.mode in
    let inside = rw c.transaction-tx.ensures.begun at c.in_err-write.ensures.ran in
    let is : c.from_residual.result ≡ Err c.in_err-write.field-0.0 = search rules in
    subst (λ (h : Held _). Transacts R s0 (state g.S.Store h) c.from_residual.result) same
    (subst (Transacts R s0 (state g.S.Store last)) (sym is) (failed R s0 s2 (state g.S.Store last) (λ was. c.is_autocommit-settled.ensures.settled auto was) (λ is_open. clean_if_open (g.S.Store.view last.store) (g.met.S.Store.shut_if_dirty last.store) is_open) _ _ inside c.drop-tx.ensures.undone c.drop-tx.ensures.survives))

pub returns-clause-acts : goal.returns-clause-acts
returns-clause-acts g c =
    let R = Commits c.args.delta.now c.args.kept.now c.args.numbers.now in
    let last = c.commit.new.self.0 in
    let same : last ≡ c.conn-2-1.given.0 = search rules in
    let s0 = state g.S.Store c.args.conn.now in
    let s2 = state g.S.Store c.write.new.tx.conn.now in
    let auto : IsTrue c.is_autocommit-settled.result = c.is_autocommit-settled.ensures.value ∙ ap not c.requires.mode in
    let inside = rw c.transaction-tx.ensures.begun at c.in_ok-write.ensures.ran in
    subst (λ (h : Held _). Transacts R s0 (state g.S.Store h) c.commit.result) same
    (ended R s0 s2 (state g.S.Store last) (λ was. c.is_autocommit-settled.ensures.settled auto was) (λ is_open. clean_if_open (g.S.Store.view last.store) (g.met.S.Store.shut_if_dirty last.store) is_open) _ c.commit.result inside (λ clean. c.in_ok-write.ensures.open clean (rw c.transaction-tx.ensures.begun refl)) c.commit.ensures.ok c.commit.ensures.err c.commit.ensures.survives)
