use Rattle.review_sql_tables.proofs.Common.{rules, ◌≡◌, Ok, subst, state, SetsParts, Inside}
use Rattle.review_sql_records.proofs.Common.{next}
use Rattle.review_sql_change_records.specs.Forms.{attention_entries, comments, patches, roles, votes}
use Rattle.review_sql_writes.proofs.writing.write_edit.Goals as goal

pub returns-clause-ran : goal.returns-clause-ran
returns-clause-ran g c =
    let e = c.args.edit.now in
    let s1 = state g.S.Store c.rewrite.new.tx.conn.now in
    let s2 = state g.S.Store c.change_parts.new.tx.conn.now in
    let s3 = state g.S.Store c.change_parts-2.new.tx.conn.now in
    let s4 = state g.S.Store c.change_parts-3.new.tx.conn.now in
    let s5 = state g.S.Store c.change_parts-4.new.tx.conn.now in
    let s6 = state g.S.Store c.change_parts-5.new.tx.conn.now in
    let same_patches : c.deref.result.now ≡ e.patches.items = search rules in
    let same_votes : c.deref-2.result.now ≡ e.votes.items = search rules in
    let same_roles : c.deref-3.result.now ≡ e.roles.items = search rules in
    let same_comments : c.deref-4.result.now ≡ e.comments.items = search rules in
    let same_attention : c.deref-5.result.now ≡ e.attention.items = search rules in
    let step_0 = next _ _ _ s1 s2 _ _ c.in_ok-rewrite.ensures.ran (subst (λ xs. Inside (SetsParts patches e.change xs) s1 s2 (Ok c.in_ok-change_parts.field-0)) same_patches c.in_ok-change_parts.ensures.ran) in
    let step_1 = next _ _ _ s2 s3 _ _ step_0 (subst (λ xs. Inside (SetsParts votes e.change xs) s2 s3 (Ok c.in_ok-change_parts-2.field-0)) same_votes c.in_ok-change_parts-2.ensures.ran) in
    let step_2 = next _ _ _ s3 s4 _ _ step_1 (subst (λ xs. Inside (SetsParts roles e.change xs) s3 s4 (Ok c.in_ok-change_parts-3.field-0)) same_roles c.in_ok-change_parts-3.ensures.ran) in
    let step_3 = next _ _ _ s4 s5 _ _ step_2 (subst (λ xs. Inside (SetsParts comments e.change xs) s4 s5 (Ok c.in_ok-change_parts-4.field-0)) same_comments c.in_ok-change_parts-4.ensures.ran) in
    next _ _ _ s5 s6 _ c.change_parts-5.result step_3 (subst (λ xs. Inside (SetsParts attention_entries e.change xs) s5 s6 c.change_parts-5.result) same_attention c.change_parts-5.ensures.ran)
