-- A change with edits beside its rows.
use Rattle.std.specs.Prelude.{◌≡◌, ◌++◌, []}
use Rattle.review_table.specs.{Edited.edited_row, Rows.row_in, Rows.rows_of}
use Rattle.review_core_rules.specs.{Change.Change, EditedRows.edited_account, EditedRows.edited_vote, Seen.vote_cmp}
use Rattle.review_core_rules.specs.{Sound.IsSound, declared.edited_change.EditedChange.EditedChange}
use Rattle.review_core_rules.specs.declared.rows.{ChangeRows.ChangeRows, VoteKey.VoteKey}

-- the change that the edits make
abbrev pub after_edits : EditedChange → Change
after_edits d = record {
  project = d.header.project;
  branch = d.header.branch;
  subject = d.header.subject;
  owner = d.header.owner;
  state = d.header.state;
  wip = d.header.wip;
  place = d.header.place;
  updated = d.header.updated;
  patches = d.rows.now.patches.items ++ d.patches.items;
  vote = edited_vote d.votes;
  role = edited_account d.roles;
  comments = d.rows.now.comments.items ++ d.comments.items;
  attention = edited_account d.attention;
}

-- an edited change adds no patch set to these rows, and leaves each of their votes as it is
pub record IsUnedited (rows : ChangeRows) (d : EditedChange) : Type 0 where
  pub patches : d.patches.items ≡ []
  pub votes : (q : VoteKey) → edited_row vote_cmp d.votes q ≡ row_in vote_cmp (rows_of rows.votes) q

-- an edited change over these rows makes this change, which is sound
pub record Makes (rows : ChangeRows) (change : Change) (d : EditedChange) : Type 0 where
  pub over : d.rows.now ≡ rows
  pub made : after_edits d ≡ change
  pub sound : IsSound change

-- rows with a header and patch sets alone
pub record IsBare (rows : ChangeRows) : Type 0 where
  pub votes : rows.votes ≡ []
  pub roles : rows.roles ≡ []
  pub comments : rows.comments.items ≡ []
  pub attention : rows.attention ≡ []
