-- What the rows of a change show.
use Rattle.std.specs.{Cmp.Lexicographic.slice_cmp, Ordering.nat_cmp, Ordering.ordering_then}
use Rattle.std.specs.Prelude.{ℕ, ℤ, pos, List, Option, Some, None}
use Rattle.{std.specs.declared.cmp.Ordering.Ordering, review_table.specs.Rows.row_in, review_table.specs.Rows.rows_of}
use Rattle.review_core_rules.specs.{Change.Change, declared.rows.ChangeRows.ChangeRows, declared.rows.VoteKey.VoteKey}

-- by patch set, then by label, then by account
abbrev pub vote_cmp : VoteKey → VoteKey → Ordering
vote_cmp j k = ordering_then (nat_cmp j.patch k.patch) (ordering_then (slice_cmp nat_cmp j.label k.label) (nat_cmp j.account k.account))

-- the value of a vote that is there, 0 where there is none
abbrev pub value_of : Option ℤ → ℤ
value_of None = pos 0
value_of (Some v) = v

-- a table of votes
abbrev pub Votes : Type 0
Votes = List (VoteKey × Option ℤ)

-- the vote of an account on a label of a patch set
abbrev pub vote_in : Votes → ℕ → List ℕ → ℕ → ℤ
vote_in t n l a = value_of (row_in vote_cmp (rows_of t) (record { patch = n; label = l; account = a }))

-- the row of an account
abbrev pub of_account : {X : Type 0} → List (ℕ × Option X) → ℕ → Option X
of_account t u = row_in nat_cmp (rows_of t) u

-- the change that its rows show
abbrev pub seen : ChangeRows → Change
seen rows = record {
  project = rows.header.project;
  branch = rows.header.branch;
  subject = rows.header.subject;
  owner = rows.header.owner;
  state = rows.header.state;
  wip = rows.header.wip;
  place = rows.header.place;
  updated = rows.header.updated;
  patches = rows.patches.items;
  vote = vote_in rows.votes;
  role = of_account rows.roles;
  comments = rows.comments.items;
  attention = of_account rows.attention;
}
