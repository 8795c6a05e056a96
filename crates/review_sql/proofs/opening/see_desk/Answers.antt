use Rattle.review_sql_tables.proofs.Common.{rules, ◌≡◌, ◌∙◌, true, ap, subst, Decides, clean_if_open, Database, state}
use Rattle.review_sql.{proofs.Peeking.seen_ours, specs.Opened.AreAllApart}
use Rattle.review_sql.proofs.opening.see_desk.Goals as goal

pub returns-in-Ok-clause-seen : goal.returns-in-Ok-clause-seen
returns-in-Ok-clause-seen g c is_open =
    let last = c.peek.new.conn in
    let it = c.in-Ok.ensures.peeks in
    let back = it.stays.kept is_open in
    let first = c.see_tables.ensures.stays.kept back.0 in
    let ours : c.in_ok-seen.seen.is_ours ≡ true = search rules in
    let has = c.in_ok-seen.ensures.form.0 ours in
    let apart = it.found (clean_if_open (g.S.Store.view last.store) (g.met.S.Store.shut_if_dirty last.store) is_open) (λ _. ap (λ (db : Database). db.schema) first.1 ∙ has) is_open in
    seen_ours (state g.S.Store c.args.conn.now) c.in_ok-seen.seen.numbers c.in-Ok.is_ours has (c.in_ok-seen.ensures.live first.0).0 (c.in_ok-seen.ensures.there back.0) (subst (λ (db : Database). Decides c.in-Ok.is_ours (AreAllApart db.trees)) first.1 apart)
