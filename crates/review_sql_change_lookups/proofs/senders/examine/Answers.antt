use Rattle.review_sql_tables.proofs.Common.{◌≡◌, ℕ, ◌∙◌, sym, Bool, true, false, Option, Some, None, Ok, subst, rules, state, Trees}
use Rattle.review_sql_records.proofs.Common.{look_both, look_on}
use Rattle.review_sql_change_lookups.proofs.Sending.{looks_so, sent_and_last}
use Rattle.review_sql_change_lookups.specs.Joins.{HasSent, TellsIf}
use Rattle.review_sql_change_lookups.proofs.senders.examine.Goals as goal

pub returns-in-Some-false-clause-looks : goal.returns-in-Some-false-clause-looks
returns-in-Some-false-clause-looks g c =
    let e : ℕ × ℕ = (c.args.change, c.args.patch) in
    let F : Trees → Option Bool → Type 0 = λ db is. TellsIf db (HasSent c.args.merged c.args.base.now e db) is in
    let is : c.in_ok-sent.sent ≡ Some false = search rules in
    look_on F _ _ _ c.in_ok-sent.sent (Ok (Some false)) c.in_ok-sent.ensures.looks (λ db h. let not_sent = subst (F db) is h in (λ sent. not_sent sent.0))

pub returns-then-not-merged-clause-looks : goal.returns-then-not-merged-clause-looks
returns-then-not-merged-clause-looks g c =
    let e : ℕ × ℕ = (c.args.change, c.args.patch) in
    let F : Trees → Option Bool → Type 0 = λ db is. TellsIf db (HasSent c.args.merged c.args.base.now e db) is in
    let is : c.in_ok-sent.sent ≡ Some true = search rules in
    let not_to_be : c.args.merged ≡ false = search rules in
    look_on F _ _ _ c.in_ok-sent.sent (Ok (Some true)) c.in_ok-sent.ensures.looks (λ db h. (subst (F db) is h, λ yes. absurd (let f = sym not_to_be ∙ yes in cc)))

pub returns-clause-looks : goal.returns-clause-looks
returns-clause-looks g c =
    let base = c.args.base.now in
    let e : ℕ × ℕ = (c.args.change, c.args.patch) in
    let F : Trees → Option Bool → Type 0 = λ db is. TellsIf db (HasSent c.args.merged base e db) is in
    let s0 = state g.S.Store c.args.tx.now.conn.now in
    let s2 = state g.S.Store c.find_is_last.new.tx.conn.now in
    let is : c.in_ok-sent.sent ≡ Some true = search rules in
    let to_be : c.args.merged ≡ true = search rules in
    let both = look_both F _ s0 _ s2 c.in_ok-sent.sent c.find_is_last.result c.in_ok-sent.ensures.looks c.find_is_last.ensures.looks in
    looks_so _ _ s0 s2 c.find_is_last.result both (λ db o h. sent_and_last c.args.merged base e db o to_be (subst (F db) is h.0) h.1)

pub returns-in-None-clause-looks : goal.returns-in-None-clause-looks
returns-in-None-clause-looks g c =
    let e : ℕ × ℕ = (c.args.change, c.args.patch) in
    let F : Trees → Option Bool → Type 0 = λ db is. TellsIf db (HasSent c.args.merged c.args.base.now e db) is in
    let is : c.in_ok-sent.sent ≡ None = search rules in
    look_on F _ _ _ c.in_ok-sent.sent (Ok None) c.in_ok-sent.ensures.looks (λ db h. subst (F db) is h)
