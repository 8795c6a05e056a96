use Rattle.review_sql_tables.proofs.Common.{Vec, Global, ◌≡◌, ◌∙◌, ℕ, Option, Some, None, option_map, true, false, Ok, subst, rules, arith, state, Trees, Looks, AreFound}
use Rattle.{review_sql_records.proofs.Common.look_on, review_sql_change_records.specs.Forms.sent}
use Rattle.review_sql_change_lookups.proofs.Placed.{sent_odd}
use Rattle.review_sql_change_lookups.proofs.Sending.{KnowsSent, seen_all, seen_damaged, seen_more, seen_sent}
use Rattle.review_sql_change_lookups.specs.Joins.{Examines}
use Rattle.review_sql_change_lookups.proofs.senders.find_sent.Goals as goal

pub returns-in-Some-true-clause-looks : goal.returns-in-Some-true-clause-looks
returns-in-Some-true-clause-looks g c =
    let base = c.args.base.now in
    let e = c.one-item.result in
    let s0 = state g.S.Store c.args.tx.now.conn.now in
    let s1 = state g.S.Store c.loop-one.tx.conn.now in
    let s2 = state g.S.Store c.examine.new.tx.conn.now in
    let is : c.in_ok-is.is' ≡ Some true = search rules in
    let sent = subst (λ o. Looks (Examines c.args.merged base e) s1 s2 (Ok o)) is c.in_ok-is.ensures.looks in
    seen_sent c.args.merged base c.deref-one-items.result.now c.loop-one.one-index e s0 s1 s2 c.loop-one-test.true c.one-item.is c.loop-one.invariant.looks sent

pub loop-one-preserved : goal.loop-one-preserved
loop-one-preserved g c =
    let base = c.args.base.now in
    let items = c.deref-one-items.result.now in
    let e = c.one-item.result in
    let s0 = state g.S.Store c.args.tx.now.conn.now in
    let s1 = state g.S.Store c.loop-one.tx.conn.now in
    let s2 = state g.S.Store c.examine.new.tx.conn.now in
    let is : c.in_ok-is.is' ≡ Some false = search rules in
    record {
      reference = c.examine.ensures.same_reference ∙ c.loop-one.invariant.reference;
      looks = seen_more c.args.merged base items c.loop-one.one-index e s0 s1 s2 c.loop-one-test.true c.one-item.is c.loop-one.invariant.looks (subst (λ o. Looks (Examines c.args.merged base e) s1 s2 (Ok o)) is c.in_ok-is.ensures.looks);
    }

pub returns-clause-looks : goal.returns-clause-looks
returns-clause-looks g c =
    let items = c.deref-one-items.result.now in
    let s0 = state g.S.Store c.args.tx.now.conn.now in
    let s1 = state g.S.Store c.loop-one.tx.conn.now in
    seen_all c.args.merged c.args.base.now items c.loop-one.one-index s0 s1 (omega (arith, c.loop-one-test.false)) c.loop-one.invariant.looks

pub returns-in-None-clause-looks : goal.returns-in-None-clause-looks
returns-in-None-clause-looks g c =
    let base = c.args.base.now in
    let e = c.one-item.result in
    let s0 = state g.S.Store c.args.tx.now.conn.now in
    let s1 = state g.S.Store c.loop-one.tx.conn.now in
    let s2 = state g.S.Store c.examine.new.tx.conn.now in
    let is : c.in_ok-is.is' ≡ None = search rules in
    let odd = subst (λ o. Looks (Examines c.args.merged base e) s1 s2 (Ok o)) is c.in_ok-is.ensures.looks in
    seen_damaged c.args.merged base c.deref-one-items.result.now c.loop-one.one-index e s0 s1 s2 c.loop-one.invariant.looks odd

pub returns-in_default-clause-looks : goal.returns-in_default-clause-looks
returns-in_default-clause-looks g c =
    let base = c.args.base.now in
    let F : Trees → Option (Vec (ℕ × ℕ) Global) → Type 0 = λ db found. AreFound sent db base.commit (option_map (λ items. items.items) found) in
    let is : c.in_ok-found.found ≡ None = search rules in
    look_on F (KnowsSent c.args.merged base) _ _ c.in_ok-found.found (Ok None) c.in_ok-found.ensures.looks (λ db h. sent_odd base db (subst (F db) is h))
