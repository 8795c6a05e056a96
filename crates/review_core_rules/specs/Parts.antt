-- The rows of a change, one by one.
use Rattle.std.specs.Prelude.{ℕ, ℤ, List, Option, Some, None, option_map, if◌then◌else◌}
use Rattle.review_words.specs.declared.changes.Role.{Role}
use Rattle.review_core_rules.specs.Change.{Change, of_number}
use Rattle.review_core_rules.specs.{Votes.voted, declared.rows.AttentionEntry.AttentionEntry}
use Rattle.review_core_rules.specs.declared.rows.{CommentRow.CommentRow, Header.Header, PatchRow.PatchRow}

-- which row of a change it is: its header, the patch set of a number, the vote of an account on a label of a patch set, the role of an account, the comment of a number, or that an account is in the attention set
pub data Part : Type 0 where
  TheHeader : Part
  PatchOf : ℕ → Part
  VoteOf : ℕ → List ℕ → ℕ → Part
  RoleOf : ℕ → Part
  CommentOf : ℕ → Part
  AttentionOf : ℕ → Part

-- the rest of such a row
pub data PartRow : Type 0 where
  AHeader : Header → PartRow
  APatch : PatchRow → PartRow
  AVote : ℤ → PartRow
  ARole : Role → PartRow
  AComment : CommentRow → PartRow
  AnAttentionEntry : AttentionEntry → PartRow

-- the header of a change
abbrev pub header_of : Change → Header
header_of c = record {
  project = c.project;
  branch = c.branch;
  subject = c.subject;
  owner = c.owner;
  state = c.state;
  wip = c.wip;
  place = c.place;
  updated = c.updated;
}

-- a row of a change, or none where there is none
abbrev pub part_row : Change → Part → Option PartRow
part_row c TheHeader = Some (AHeader (header_of c))
part_row c (PatchOf n) = option_map APatch (of_number c.patches n)
part_row c (VoteOf n l a) = if voted (c.vote n l a) then Some (AVote (c.vote n l a)) else None
part_row c (RoleOf u) = option_map ARole (c.role u)
part_row c (CommentOf k) = option_map AComment (of_number c.comments k)
part_row c (AttentionOf u) = option_map AnAttentionEntry (c.attention u)
