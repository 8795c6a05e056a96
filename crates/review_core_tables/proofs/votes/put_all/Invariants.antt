use Rattle.{std.proofs.Common.◌≡◌, review_table.specs.Edited.edited_row, review_core_rules.specs.Seen.vote_cmp}
use Rattle.{review_core_rules.specs.declared.rows.VoteKey.VoteKey, review_core_tables.specs.Tables.put_in}
use Rattle.review_core_tables.proofs.votes.put_all.Given as goal

abbrev pub invariant-loop-key : goal.invariant-loop-key
invariant-loop-key l = record {
  table : l.votes.rows ≡ l.fn.votes.rows;
  votes : (q : VoteKey) → put_in vote_cmp l.key-iterator.rest.items q (edited_row vote_cmp l.votes q) ≡ put_in vote_cmp l.fn.rows.items q (edited_row vote_cmp l.fn.votes q);
}
