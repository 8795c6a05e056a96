use Rattle.review_sql_tables.proofs.Common.{rules, refl, ◌≡◌, ◌∙◌, sym, ap, not, subst, false, true, IsTrue, Ok, Err, arith, clean_if_open, Held, state, HasCleanDisk, Transacts, Within}
use Rattle.review_sql_records.proofs.Common.{begun, failed, ended}
use Rattle.review_sql.specs.Migrated.{Upgrades, if_whole}
use Rattle.review_sql.proofs.migrating.raise.Goals as goal

pub returns-in_err-rewrite-clause-acts : goal.returns-in_err-rewrite-clause-acts
returns-in_err-rewrite-clause-acts g c =
    let R = Upgrades c.args.version c.args.is_ours c.args.numbers in
    let last = c.drop-tx.new.self.0 in
    let same : last ≡ c.conn-1.given.0 = search rules in
    let s0 = state g.S.Store c.args.conn.now in
    let s2 = state g.S.Store c.rewrite.new.tx.conn.now in
    let auto : IsTrue c.is_autocommit-settled.result = c.is_autocommit-settled.ensures.value ∙ ap not c.requires.mode in
    let inside = rw c.transaction-tx.ensures.begun at c.in_err-rewrite.ensures.ran in
    let is : c.from_residual.result ≡ Err c.in_err-rewrite.field-0.0 = search rules in
    subst (λ (h : Held _). Transacts R s0 (state g.S.Store h) (if_whole c.from_residual.result)) same
    (subst (λ r. Transacts R s0 (state g.S.Store last) (if_whole r)) (sym is) (failed R s0 s2 (state g.S.Store last) (λ was. c.is_autocommit-settled.ensures.settled auto was) (λ is_open. clean_if_open (g.S.Store.view last.store) (g.met.S.Store.shut_if_dirty last.store) is_open) _ _ inside c.drop-tx.ensures.undone c.drop-tx.ensures.survives))

pub returns-then-not-branch-clause-acts : goal.returns-then-not-branch-clause-acts
returns-then-not-branch-clause-acts g c =
    let R = Upgrades c.args.version c.args.is_ours c.args.numbers in
    let last = c.rollback.new.self.0 in
    let same : last ≡ c.conn-then-not-branch-1.given.0 = search rules in
    let s0 = state g.S.Store c.args.conn.now in
    let s2 = state g.S.Store c.rewrite.new.tx.conn.now in
    let auto : IsTrue c.is_autocommit-settled.result = c.is_autocommit-settled.ensures.value ∙ ap not c.requires.mode in
    let no : c.in_ok-rewrite.field-0 ≡ false = search rules in
    let ran = rw c.transaction-tx.ensures.begun at c.in_ok-rewrite.ensures.ran in
    let inside = subst (λ b. Within R (begun s0) s2 (if_whole (Ok b))) no ran in
    subst (λ (h : Held _). Transacts R s0 (state g.S.Store h) (if_whole (Ok false))) same
    (failed R s0 s2 (state g.S.Store last) (λ was. c.is_autocommit-settled.ensures.settled auto was) (λ is_open. clean_if_open (g.S.Store.view last.store) (g.met.S.Store.shut_if_dirty last.store) is_open) _ _ inside c.rollback.ensures.undone c.rollback.ensures.survives)

pub returns-then-not-branch-clause-apart : goal.returns-then-not-branch-clause-apart
returns-then-not-branch-clause-apart g c told is_open has apart =
    let last = c.rollback.new.self.0 in
    let same : last ≡ c.conn-then-not-branch-1.given.0 = search rules in
    let clean = clean_if_open (g.S.Store.view last.store) (g.met.S.Store.shut_if_dirty last.store) (subst (λ (h : Held _). IsTrue (state g.S.Store h).is_open) (sym same) is_open) in
    let before : HasCleanDisk (state g.S.Store c.rewrite.new.tx.conn.now) = omega (arith, c.rollback.ensures.survives.clean, clean) in
    let no : c.in_ok-rewrite.field-0 ≡ false = search rules in
    let hindered = rw c.transaction-tx.ensures.begun at c.in_ok-rewrite.ensures.hindered in
    hindered before refl no has apart

pub returns-in_err-commit-clause-acts : goal.returns-in_err-commit-clause-acts
returns-in_err-commit-clause-acts g c =
    let R = Upgrades c.args.version c.args.is_ours c.args.numbers in
    let last = c.commit.new.self.0 in
    let same : last ≡ c.conn-2-1.given.0 = search rules in
    let s0 = state g.S.Store c.args.conn.now in
    let s2 = state g.S.Store c.rewrite.new.tx.conn.now in
    let auto : IsTrue c.is_autocommit-settled.result = c.is_autocommit-settled.ensures.value ∙ ap not c.requires.mode in
    let yes : c.in_ok-rewrite.field-0 ≡ true = search rules in
    let ran = rw c.transaction-tx.ensures.begun at c.in_ok-rewrite.ensures.ran in
    let inside = subst (λ b. Within R (begun s0) s2 (if_whole (Ok b))) yes ran in
    let opens = subst (λ b. Rattle.review_sql_tables.specs.Ran.Opens (begun s0) s2 (if_whole (Ok b))) yes (rw c.transaction-tx.ensures.begun at c.in_ok-rewrite.ensures.open) in
    let failed_so : c.commit.result ≡ Err c.in_err-commit.field-0.0 = search rules in
    let is : c.from_residual-in_err-commit.result ≡ Err c.in_err-commit.field-0.0 = search rules in
    let all = ended R s0 s2 (state g.S.Store last) (λ was. c.is_autocommit-settled.ensures.settled auto was) (λ is_open. clean_if_open (g.S.Store.view last.store) (g.met.S.Store.shut_if_dirty last.store) is_open) _ c.commit.result inside (λ clean. opens clean refl) c.commit.ensures.ok c.commit.ensures.err c.commit.ensures.survives in
    subst (λ (h : Held _). Transacts R s0 (state g.S.Store h) (if_whole c.from_residual-in_err-commit.result)) same
    (subst (λ r. Transacts R s0 (state g.S.Store last) (if_whole r)) (sym is) (subst (Transacts R s0 (state g.S.Store last)) failed_so all))
