use Rattle.review_sql_tables.proofs.Common.{rules, ◌≡◌, inl, true, false, clean_if_open, state}
use Rattle.review_sql.proofs.Peeking.{part_after, whole_after}
use Rattle.review_sql.proofs.opening.least_of_whole.Goals as goal

pub returns-then-not-branch-clause-part : goal.returns-then-not-branch-clause-part
returns-then-not-branch-clause-part g c is_open fails =
    let last = c.are_all_there.new.conn in
    let missing : c.in_ok-are_all_there.field-0 ≡ false = search rules in
    inl (c.in_ok-are_all_there.ensures.missing (clean_if_open (g.S.Store.view last.store) (g.met.S.Store.shut_if_dirty last.store) is_open) missing)

pub returns-clause-whole : goal.returns-clause-whole
returns-clause-whole g c is_open =
    let last = c.are_all_there.new.conn in
    let back = c.least_said.ensures.stays.kept is_open in
    let first = c.are_all_there.ensures.stays.kept back.0 in
    let found : c.in_ok-are_all_there.field-0 ≡ true = search rules in
    let all = c.in_ok-are_all_there.ensures.all (clean_if_open (g.S.Store.view last.store) (g.met.S.Store.shut_if_dirty last.store) back.0) found back.0 in
    whole_after c.args.version (state g.S.Store c.args.conn.now) (state g.S.Store last) c.least_said.result first.1 all (c.least_said.ensures.is is_open)

pub returns-clause-part : goal.returns-clause-part
returns-clause-part g c is_open =
    let first = c.are_all_there.ensures.stays.kept (c.least_said.ensures.stays.kept is_open).0 in
    part_after c.args.version (state g.S.Store c.args.conn.now) (state g.S.Store c.are_all_there.new.conn) c.least_said.result first.1 (c.least_said.ensures.none is_open)
