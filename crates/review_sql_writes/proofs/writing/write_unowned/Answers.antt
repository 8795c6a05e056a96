use Rattle.review_sql_tables.proofs.Common.{rules, ◌≡◌, Ok, subst, state, Inside, SetsRows}
use Rattle.review_sql_records.{proofs.Common.next, specs.Forms.accounts, specs.Forms.members}
use Rattle.review_sql_writes.proofs.writing.write_unowned.Goals as goal

pub returns-clause-ran : goal.returns-clause-ran
returns-clause-ran g c =
    let s0 = state g.S.Store c.args.tx.now.conn.now in
    let s1 = state g.S.Store c.change_all.new.tx.conn.now in
    let s2 = state g.S.Store c.change_all-2.new.tx.conn.now in
    let same : c.deref.result.now ≡ c.args.delta.now.accounts.items = search rules in
    let too : c.deref-2.result.now ≡ c.args.delta.now.members.items = search rules in
    let one = subst (λ xs. Inside (SetsRows accounts xs) s0 s1 (Ok c.in_ok-change_all.field-0)) same c.in_ok-change_all.ensures.ran in
    let two = subst (λ xs. Inside (SetsRows members xs) s1 s2 (Ok c.in_ok-change_all-2.field-0)) too c.in_ok-change_all-2.ensures.ran in
    let both = next _ _ s0 s1 s2 _ _ one two in
    let three = next _ _ s0 s2 _ _ _ both c.in_ok-put_row.ensures.ran in
    next _ _ s0 _ _ _ c.put_row-2.result three c.put_row-2.ensures.ran
