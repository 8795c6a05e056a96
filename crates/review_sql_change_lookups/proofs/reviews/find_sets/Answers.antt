use Rattle.review_sql_tables.proofs.Common.{ℕ, ℤ, List, Option, option_map, Ok, nat_cmp, Trees, rows_of, AreParts}
use Rattle.review_core_rules.specs.{Seen.vote_cmp, declared.rows.PatchRow.PatchRow, declared.rows.VoteKey.VoteKey}
use Rattle.review_sql_records.proofs.Common.{look_both, look_on}
use Rattle.review_sql_change_records.specs.Forms.{patches, votes, change_patches, change_votes}
use Rattle.review_sql_change_lookups.specs.Reviews.{AreFoundSets}
use Rattle.review_sql_change_lookups.proofs.reviews.find_sets.Goals as goal

pub returns-clause-looks : goal.returns-clause-looks
returns-clause-looks g c =
    let n = c.args.number in
    let F_patches : Trees → Option (List (ℕ × Option PatchRow)) → Type 0 = λ db found. AreParts nat_cmp change_patches patches n db (option_map (λ t. rows_of t) found) in
    let F_votes : Trees → Option (List (VoteKey × Option ℤ)) → Type 0 = λ db found. AreParts vote_cmp change_votes votes n db (option_map (λ t. rows_of t) found) in
    let step_0 = look_both _ F_patches _ _ _ c.in_ok-header.header (Ok c.in_ok-patches.patches) c.in_ok-header.ensures.looks c.in_ok-patches.ensures.looks in
    let step_1 = look_both _ F_votes _ _ _ c.in_ok-patches.patches (Ok c.in_ok-votes.votes) step_0 c.in_ok-votes.ensures.looks in
    look_on _ (AreFoundSets n) _ _ c.in_ok-votes.votes (Ok _) step_1 (λ db h. record { header = h.0.0; patches = h.0.1; votes = h.1 })
