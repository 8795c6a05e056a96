use Rattle.review_sql_tables.proofs.Common.{◌≡◌, Bool, Option, Some, true, false, Ok, inl, subst, rules, state, Trees}
use Rattle.review_sql_records.proofs.Common.{look_both, look_on, IsBaseOrNot}
use Rattle.review_sql_lookups.specs.{Loads.IfTold, Tables.tables_at}
use Rattle.review_sql_change_lookups.proofs.Sending.{looks_so}
use Rattle.review_sql_change_lookups.proofs.senders.find_standing.Goals as goal

pub returns-then-is-clause-looks : goal.returns-then-is-clause-looks
returns-then-is-clause-looks g c =
    let base = c.args.base.now in
    let F : Trees → Option Bool → Type 0 = λ db is. IfTold db (IsBaseOrNot (tables_at db).row base) is in
    let is : c.in_ok-found.found ≡ Some true = search rules in
    look_on F _ _ _ c.in_ok-found.found (Ok c.tell_standing.result) c.in_ok-found.ensures.looks (λ db h. c.tell_standing.ensures base db (inl (subst (F db) is h)))

pub returns-clause-looks : goal.returns-clause-looks
returns-clause-looks g c =
    let F : Trees → Option Bool → Type 0 = λ db is. IfTold db (IsBaseOrNot (tables_at db).row c.args.base.now) is in
    let s0 = state g.S.Store c.args.tx.now.conn.now in
    let s2 = state g.S.Store c.find_merged.new.tx.conn.now in
    let is : c.in_ok-found.found ≡ Some false = search rules in
    let both = look_both F _ s0 _ s2 c.in_ok-found.found c.find_merged.result c.in_ok-found.ensures.looks c.find_merged.ensures.looks in
    looks_so _ _ s0 s2 c.find_merged.result both (λ db s h. h.1 (subst (F db) is h.0))
