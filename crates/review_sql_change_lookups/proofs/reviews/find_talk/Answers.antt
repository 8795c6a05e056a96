use Rattle.review_sql_tables.proofs.Common.{ℕ, List, Option, option_map, Ok, nat_cmp, Trees, rows_of, AreParts}
use Rattle.review_core_rules.specs.declared.rows.{AttentionEntry.AttentionEntry, CommentRow.CommentRow}
use Rattle.review_sql_records.proofs.Common.{Role, look_both, look_on}
use Rattle.review_sql_change_records.specs.Forms.{attention_entries, comments, roles, change_attention, change_comments, change_roles}
use Rattle.review_sql_change_lookups.specs.Reviews.{AreFoundTalk}
use Rattle.review_sql_change_lookups.proofs.reviews.find_talk.Goals as goal

pub returns-clause-looks : goal.returns-clause-looks
returns-clause-looks g c =
    let n = c.args.number in
    let F_roles : Trees → Option (List (ℕ × Option Role)) → Type 0 = λ db found. AreParts nat_cmp change_roles roles n db (option_map (λ t. rows_of t) found) in
    let F_comments : Trees → Option (List (ℕ × Option CommentRow)) → Type 0 = λ db found. AreParts nat_cmp change_comments comments n db (option_map (λ t. rows_of t) found) in
    let F_attention : Trees → Option (List (ℕ × Option AttentionEntry)) → Type 0 = λ db found. AreParts nat_cmp change_attention attention_entries n db (option_map (λ t. rows_of t) found) in
    let step_0 = look_both F_roles F_comments _ _ _ c.in_ok-roles.roles (Ok c.in_ok-comments.comments) c.in_ok-roles.ensures.looks c.in_ok-comments.ensures.looks in
    let step_1 = look_both _ F_attention _ _ _ c.in_ok-comments.comments (Ok c.in_ok-attention.attention) step_0 c.in_ok-attention.ensures.looks in
    look_on _ (AreFoundTalk n) _ _ c.in_ok-attention.attention (Ok _) step_1 (λ db h. record { roles = h.0.0; comments = h.0.1; attention = h.1 })
