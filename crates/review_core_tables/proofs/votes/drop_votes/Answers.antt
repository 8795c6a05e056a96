use Rattle.std.{proofs.Common.pos, proofs.lemmas.Result.IfOk-weaker, specs.BTreeMap.is_at, specs.List.list_any}
use Rattle.std.specs.Prelude.{◌≡◌, ℕ, List, None, if◌then◌else◌}
use Rattle.review_table.specs.Edited.{edited_row}
use Rattle.review_core_rules.specs.{EditedRows.edited_vote, Seen.vote_cmp, declared.rows.VoteKey.VoteKey}
use Rattle.review_core_tables.{proofs.Copied.vote_key, proofs.Copied.votes_dropped, specs.inner.Words.is_of}
use Rattle.review_core_tables.proofs.votes.drop_votes.Goals as goal

pub returns-clause-votes : goal.returns-clause-votes
returns-clause-votes c =
    let keys = c.in_ok-keys.keys.items in
    let old = c.args.votes.now in
    let new = c.take_away.new.self in
    IfOk-weaker c.take_away.result (λ x. (q : VoteKey) → edited_row vote_cmp new q ≡ (if list_any (is_at (vote_cmp q)) keys then None else edited_row vote_cmp old q))
    (λ x. (n : ℕ) (l : List ℕ) (a : ℕ) → edited_vote new n l a ≡ (if is_of c.args.patch c.args.account (vote_key n l a) then pos 0 else edited_vote old n l a))
    (λ x is. votes_dropped c.args.patch c.args.account keys (edited_row vote_cmp new) (edited_row vote_cmp old) c.in_ok-keys.ensures.all c.in_ok-keys.ensures.only is)
    c.take_away.ensures.rows
