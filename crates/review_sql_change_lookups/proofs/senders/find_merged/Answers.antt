use Rattle.std.proofs.Common.{◌≡◌, Some, None, true, Ok, subst, rules}
use Rattle.{sqlite.specs.Held.state, review_sql_tables.proofs.Found.look_both, review_sql_tables.proofs.Found.look_on}
use Rattle.review_sql_change_lookups.proofs.Sending.{KnowsSent, is_outside, looks_so, stands_merged_so}
use Rattle.review_sql_change_lookups.proofs.senders.find_merged.Goals as goal

pub returns-then-is_some-clause-looks : goal.returns-then-is_some-clause-looks
returns-then-is_some-clause-looks g c =
    let base = c.args.base.now in
    let is : c.in_ok-found.found ≡ Some c.in-Some.merged = search rules in
    look_on (KnowsSent true base) _ _ _ c.in_ok-found.found (Ok c.tell_standing.result) c.in_ok-found.ensures.looks
    (λ db h not_base. c.tell_standing.ensures base db (stands_merged_so base db c.in-Some.merged (search rules) (subst (KnowsSent true base db) is h)))

pub returns-clause-looks : goal.returns-clause-looks
returns-clause-looks g c =
    let base = c.args.base.now in
    let s0 = state g.S.Store c.args.tx.now.conn.now in
    let s2 = state g.S.Store c.find_outside.new.tx.conn.now in
    let is : c.in_ok-found.found ≡ Some None = search rules in
    let both = look_both (KnowsSent true base) _ s0 _ s2 c.in_ok-found.found c.find_outside.result c.in_ok-found.ensures.looks c.find_outside.ensures.looks in
    looks_so _ _ s0 s2 c.find_outside.result both (λ db s h not_base. h.1 (is_outside base db not_base (subst (KnowsSent true base db) is h.0)))
