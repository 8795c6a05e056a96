-- The tables of changes: how their rows are looked up and stored.
use Rattle.std.specs.List.{list_all}
use Rattle.std.specs.Prelude.{ℕ, ◌&&◌, ◌==◌, Bool, true, false, nat_le, length, List, [], ◌∷◌, ◌++◌, Option, Some, None, if◌then◌else◌, is_some, ℤ, zero, suc, pos, negsuc, int_le}
use Rattle.std.specs.Str.{bytes_eq, is_utf8}
use Rattle.sqlite_value.specs.{Order.Row, Order.column, declared.value.Value.Value}
use Rattle.sqlite_value.specs.declared.value.Value.TheVariants.{Null, Int, Real, Text, Blob}
use Rattle.review_names.specs.Forms.{is_path, most_paths, text_set, with_front, is_label, is_within, most_changes, most_comments, most_patches, is_commit, is_line, is_message, is_place, is_slashed_name}
use Rattle.review_names.specs.Kinds.{kind_name, kind_named}
use Rattle.review_names.specs.{Names.is_account_number, declared.kinds.ChangeKind.ChangeKind}
use Rattle.review_words.specs.{States.state_name, States.state_named, Texts.role_name, Texts.role_named}
use Rattle.review_words.specs.declared.{changes.Role.Role, shown.State.State}
use Rattle.review_sql_tables.specs.Search.{text_in, number_in, Search, Form, with_rowid, with_number}
use Rattle.review_core_rules.specs.Votes.{voted}
use Rattle.review_core_rules.specs.declared.rows.{AttentionEntry.AttentionEntry, CommentRow.CommentRow, Header.Header}
use Rattle.review_core_rules.specs.declared.rows.{PatchRow.PatchRow, VoteKey.VoteKey}
use Rattle.review_machine_rows.specs.declared.rows.{BranchKey.BranchKey, PlaceKey.PlaceKey}
use Rattle.review_sql_records.specs.Forms.{is_number, where_is, both, is_small}
use Rattle.review_sql_tables.specs.Desk as table

-- ---- sets of paths as one text: the paths in their order, joined by line feeds

-- what stands between line feeds
abbrev pub lines : List ℕ → List (List ℕ)
lines [] = [] ∷ []
lines (c ∷ cs) = if c == 10 then [] ∷ lines cs else with_front c (lines cs)

-- a text with one line more
abbrev pub with_line : List ℕ → List ℕ → List ℕ
with_line [] p = p
with_line (c ∷ cs) p = c ∷ cs ++ 10 ∷ p

-- a text with more lines
abbrev pub with_lines : List ℕ → List (List ℕ) → List ℕ
with_lines text [] = text
with_lines text (p ∷ ps) = with_lines (with_line text p) ps

-- paths as one text
abbrev pub paths_text : List (List ℕ) → List ℕ
paths_text paths = with_lines [] paths

-- the set of some paths, where there are not too many
abbrev pub set_in : List (List ℕ) → Option (List (List ℕ))
set_in paths = if nat_le (length (text_set paths)) most_paths then Some (text_set paths) else None

-- the paths of a text, where it is one of paths
abbrev pub paths_in : List ℕ → Option (List (List ℕ))
paths_in [] = Some []
paths_in (c ∷ cs) = if list_all is_path (lines (c ∷ cs)) then set_in (lines (c ∷ cs)) else None

-- whether two lists of texts are the same
abbrev pub are_same : List (List ℕ) → List (List ℕ) → Bool
are_same [] [] = true
are_same (p ∷ ps) (q ∷ qs) = bytes_eq p q && are_same ps qs
are_same _ _ = false

-- whether what was read is these paths
abbrev pub were_read : Option (List (List ℕ)) → List (List ℕ) → Bool
were_read None paths = false
were_read (Some read) paths = are_same read paths

-- whether the text of paths reads as the same paths
abbrev pub are_read_back : List (List ℕ) → Bool
are_read_back paths = were_read (paths_in (paths_text paths)) paths

-- ---- which stored rows have a key of their table

abbrev pub header_keyed : Row → Bool
header_keyed r = is_number (is_within most_changes) (column r 0)

-- the change that a row belongs to
abbrev pub has_change : Row → Bool
has_change r = is_number (is_within most_changes) (column r 1)

abbrev pub patch_keyed : Row → Bool
patch_keyed r = has_change r && is_number (is_within most_patches) (column r 2)

abbrev pub vote_keyed : Row → Bool
vote_keyed r = has_change r && (is_number (is_within most_patches) (column r 2) && (is_some (where_is is_label (text_in (column r 3))) && is_number is_account_number (column r 4)))

-- of a role, and of an account in the attention set
abbrev pub account_keyed : Row → Bool
account_keyed r = has_change r && is_number is_account_number (column r 2)

abbrev pub comment_keyed : Row → Bool
comment_keyed r = has_change r && is_number (is_within most_comments) (column r 2)

-- ---- values of columns

-- what a name stands for
abbrev pub named : {X : Type 0} → (List ℕ → Option X) → Option (List ℕ) → Option X
named of None = None
named of (Some name) = of name

-- 1 where it is so, and 0 where it isn't
abbrev pub flag_number : Bool → ℕ
flag_number false = 0
flag_number true = 1

-- whether it is so
abbrev pub flagged : Option ℕ → Option Bool
flagged None = None
flagged (Some zero) = Some false
flagged (Some (suc zero)) = Some true
flagged (Some (suc (suc n))) = None

-- the value of a vote: a whole number of 8 bits that isn't 0
abbrev pub is_vote : ℤ → Bool
is_vote v = voted v && (int_le (negsuc 127) v && int_le v (pos 127))

-- a whole number
abbrev pub integer_in : Value → Option ℤ
integer_in Null = None
integer_in (Int n) = Some n
integer_in (Real x) = None
integer_in (Text t) = None
integer_in (Blob b) = None

-- the comment that is answered: 0 for none
abbrev pub answers_number : Option ℕ → ℕ
answers_number None = 0
answers_number (Some k) = k

abbrev pub answered : Option ℕ → Option (Option ℕ)
answered None = None
answered (Some zero) = Some None
answered (Some (suc k)) = if is_within most_comments (suc k) then Some (Some (suc k)) else None

-- a comment that can be answered, or none
abbrev pub is_answer : Option ℕ → Bool
is_answer None = true
is_answer (Some k) = is_within most_comments k

-- ---- headers

abbrev pub headed : Option (List ℕ) → Option (List ℕ) → Option (List ℕ) → Option ℕ → Option State → Option Bool → Option ℕ → Option ℕ → Option Header
headed (Some project) (Some branch) (Some subject) (Some owner) (Some state) (Some wip) (Some place) (Some updated) =
    Some (record { project = project; branch = branch; subject = subject; owner = owner; state = state; wip = wip; place = place; updated = updated })
headed _ _ _ _ _ _ _ _ = None

-- the header of a change
abbrev pub headers : Search ℕ Header
headers = record {
  tree = table.changes.tree;
  keyed = header_keyed;
  at = λ number. (0, Int (pos number)) ∷ [];
  columns = 2 ∷ 3 ∷ 4 ∷ 5 ∷ 6 ∷ 7 ∷ 8 ∷ 9 ∷ [];
  read = λ r. headed (where_is is_slashed_name (text_in (column r 0))) (where_is is_slashed_name (text_in (column r 1))) (where_is is_line (text_in (column r 2)))
      (where_is is_account_number (number_in (column r 3))) (named state_named (text_in (column r 4))) (flagged (number_in (column r 5))) (where_is is_small (number_in (column r 6))) (number_in (column r 7));
}

abbrev pub header_form : Form ℕ Header
header_form = with_number (λ number h. Int (pos number) ∷ Text h.project ∷ Text h.branch ∷ Text h.subject ∷ Int (pos h.owner) ∷ Text (state_name h.state) ∷ Int (pos (flag_number h.wip)) ∷ Int (pos h.place) ∷ Int (pos h.updated) ∷ []) (is_within most_changes) (λ h. (is_utf8 h.project && is_slashed_name h.project) && ((is_utf8 h.branch && is_slashed_name h.branch) && ((is_utf8 h.subject && is_line h.subject) && (is_account_number h.owner && is_small h.place))))

-- ---- patch sets

abbrev pub patched : Option (List ℕ) → Option (List ℕ) → Option ChangeKind → Option ℕ → Option (List (List ℕ)) → Option PatchRow
patched (Some commit) (Some parent) (Some kind) (Some uploader) (Some paths) = Some (record { commit = commit; parent = parent; kind = kind; uploader = uploader; paths = paths })
patched _ _ _ _ _ = None

abbrev pub patch_in : Value → Value → Value → Value → Value → Option PatchRow
patch_in commit parent kind uploader paths =
    patched (where_is is_commit (text_in commit)) (where_is is_commit (text_in parent)) (named kind_named (text_in kind)) (where_is is_account_number (number_in uploader)) (named paths_in (text_in paths))

-- a patch set of a change
abbrev pub patches : Search (ℕ × ℕ) PatchRow
patches = record {
  tree = table.patches.tree;
  keyed = patch_keyed;
  at = λ p. (1, Int (pos p.0)) ∷ (2, Int (pos p.1)) ∷ [];
  columns = 3 ∷ 4 ∷ 5 ∷ 6 ∷ 7 ∷ [];
  read = λ r. patch_in (column r 0) (column r 1) (column r 2) (column r 3) (column r 4);
}

-- the patch sets of a change
abbrev pub change_patches : Search ℕ (ℕ × PatchRow)
change_patches = record {
  tree = table.patches.tree;
  keyed = patch_keyed;
  at = λ change. (1, Int (pos change)) ∷ [];
  columns = 2 ∷ 3 ∷ 4 ∷ 5 ∷ 6 ∷ 7 ∷ [];
  read = λ r. both (where_is (is_within most_patches) (number_in (column r 0))) (patch_in (column r 1) (column r 2) (column r 3) (column r 4) (column r 5));
}

abbrev pub patch_form : Form (ℕ × ℕ) PatchRow
patch_form = with_rowid (λ p x. Int (pos p.0) ∷ Int (pos p.1) ∷ Text x.commit ∷ Text x.parent ∷ Text (kind_name x.kind) ∷ Int (pos x.uploader) ∷ Text (paths_text x.paths) ∷ []) (λ p. is_within most_changes p.0 && is_within most_patches p.1) (λ x. (is_utf8 x.commit && is_commit x.commit) && ((is_utf8 x.parent && is_commit x.parent) && (is_account_number x.uploader && (is_utf8 (paths_text x.paths) && are_read_back x.paths))))

-- ---- votes

abbrev pub vote_key : Option ℕ → Option (List ℕ) → Option ℕ → Option VoteKey
vote_key (Some patch) (Some label) (Some account) = Some (record { patch = patch; label = label; account = account })
vote_key _ _ _ = None

-- a vote on a change
abbrev pub votes : Search (ℕ × VoteKey) ℤ
votes = record {
  tree = table.votes.tree;
  keyed = vote_keyed;
  at = λ p. (1, Int (pos p.0)) ∷ (2, Int (pos p.1.patch)) ∷ (3, Text p.1.label) ∷ (4, Int (pos p.1.account)) ∷ [];
  columns = 5 ∷ [];
  read = λ r. where_is is_vote (integer_in (column r 0));
}

-- the votes on a change
abbrev pub change_votes : Search ℕ (VoteKey × ℤ)
change_votes = record {
  tree = table.votes.tree;
  keyed = vote_keyed;
  at = λ change. (1, Int (pos change)) ∷ [];
  columns = 2 ∷ 3 ∷ 4 ∷ 5 ∷ [];
  read = λ r. both (vote_key (where_is (is_within most_patches) (number_in (column r 0))) (where_is is_label (text_in (column r 1))) (where_is is_account_number (number_in (column r 2)))) (where_is is_vote (integer_in (column r 3)));
}

abbrev pub vote_form : Form (ℕ × VoteKey) ℤ
vote_form = with_rowid (λ p v. Int (pos p.0) ∷ Int (pos p.1.patch) ∷ Text p.1.label ∷ Int (pos p.1.account) ∷ Int v ∷ []) (λ p. is_within most_changes p.0 && (is_within most_patches p.1.patch && ((is_utf8 p.1.label && is_label p.1.label) && is_account_number p.1.account))) (is_vote)

-- ---- roles

-- the role of an account
abbrev pub roles : Search (ℕ × ℕ) Role
roles = record { tree = table.reviewers.tree; keyed = account_keyed; at = λ p. (1, Int (pos p.0)) ∷ (2, Int (pos p.1)) ∷ []; columns = 3 ∷ []; read = λ r. named role_named (text_in (column r 0)) }

-- the roles of a change
abbrev pub change_roles : Search ℕ (ℕ × Role)
change_roles = record {
  tree = table.reviewers.tree;
  keyed = account_keyed;
  at = λ change. (1, Int (pos change)) ∷ [];
  columns = 2 ∷ 3 ∷ [];
  read = λ r. both (where_is is_account_number (number_in (column r 0))) (named role_named (text_in (column r 1)));
}

abbrev pub role_form : Form (ℕ × ℕ) Role
role_form = with_rowid (λ p x. Int (pos p.0) ∷ Int (pos p.1) ∷ Text (role_name x) ∷ []) (λ p. is_within most_changes p.0 && is_account_number p.1) (λ x. true)

-- ---- comments

abbrev pub commented : Option ℕ → Option (List ℕ) → Option ℕ → Option ℕ → Option (List ℕ) → Option Bool → Option (Option ℕ) → Option ℕ → Option CommentRow
commented (Some patch) (Some path) (Some line) (Some author) (Some message) (Some unresolved) (Some answers) (Some request) =
    Some (record { patch = patch; path = path; line = line; author = author; message = message; unresolved = unresolved; answers = answers; request = request })
commented _ _ _ _ _ _ _ _ = None

abbrev pub comment_in : Value → Value → Value → Value → Value → Value → Value → Value → Option CommentRow
comment_in patch path line author message unresolved answers request =
    commented (where_is (is_within most_patches) (number_in patch)) (where_is is_place (text_in path)) (where_is is_small (number_in line)) (where_is is_account_number (number_in author))
    (where_is is_message (text_in message)) (flagged (number_in unresolved)) (answered (number_in answers)) (number_in request)

-- a comment of a change
abbrev pub comments : Search (ℕ × ℕ) CommentRow
comments = record {
  tree = table.comments.tree;
  keyed = comment_keyed;
  at = λ p. (1, Int (pos p.0)) ∷ (2, Int (pos p.1)) ∷ [];
  columns = 3 ∷ 4 ∷ 5 ∷ 6 ∷ 7 ∷ 8 ∷ 9 ∷ 10 ∷ [];
  read = λ r. comment_in (column r 0) (column r 1) (column r 2) (column r 3) (column r 4) (column r 5) (column r 6) (column r 7);
}

-- the comments of a change
abbrev pub change_comments : Search ℕ (ℕ × CommentRow)
change_comments = record {
  tree = table.comments.tree;
  keyed = comment_keyed;
  at = λ change. (1, Int (pos change)) ∷ [];
  columns = 2 ∷ 3 ∷ 4 ∷ 5 ∷ 6 ∷ 7 ∷ 8 ∷ 9 ∷ 10 ∷ [];
  read = λ r. both (where_is (is_within most_comments) (number_in (column r 0))) (comment_in (column r 1) (column r 2) (column r 3) (column r 4) (column r 5) (column r 6) (column r 7) (column r 8));
}

abbrev pub comment_form : Form (ℕ × ℕ) CommentRow
comment_form = with_rowid (λ p x. Int (pos p.0) ∷ Int (pos p.1) ∷ Int (pos x.patch) ∷ Text x.path ∷ Int (pos x.line) ∷ Int (pos x.author) ∷ Text x.message ∷ Int (pos (flag_number x.unresolved)) ∷ Int (pos (answers_number x.answers)) ∷ Int (pos x.request) ∷ []) (λ p. is_within most_changes p.0 && is_within most_comments p.1) (λ x. is_within most_patches x.patch && ((is_utf8 x.path && is_place x.path) && (is_small x.line && (is_account_number x.author && ((is_utf8 x.message && is_message x.message) && is_answer x.answers)))))

-- ---- entries of attention sets

abbrev pub attention_entry : Option (List ℕ) → Option ℕ → Option AttentionEntry
attention_entry (Some reason) (Some request) = Some (record { reason = reason; request = request })
attention_entry _ _ = None

-- that an account is in the attention set
abbrev pub attention_entries : Search (ℕ × ℕ) AttentionEntry
attention_entries = record {
  tree = table.attention.tree;
  keyed = account_keyed;
  at = λ p. (1, Int (pos p.0)) ∷ (2, Int (pos p.1)) ∷ [];
  columns = 3 ∷ 4 ∷ [];
  read = λ r. attention_entry (where_is is_line (text_in (column r 0))) (number_in (column r 1));
}

-- the attention set of a change
abbrev pub change_attention : Search ℕ (ℕ × AttentionEntry)
change_attention = record {
  tree = table.attention.tree;
  keyed = account_keyed;
  at = λ change. (1, Int (pos change)) ∷ [];
  columns = 2 ∷ 3 ∷ 4 ∷ [];
  read = λ r. both (where_is is_account_number (number_in (column r 0))) (attention_entry (where_is is_line (text_in (column r 1))) (number_in (column r 2)));
}

abbrev pub attention_form : Form (ℕ × ℕ) AttentionEntry
attention_form = with_rowid (λ p x. Int (pos p.0) ∷ Int (pos p.1) ∷ Text x.reason ∷ Int (pos x.request) ∷ []) (λ p. is_within most_changes p.0 && is_account_number p.1) (λ x. is_utf8 x.reason && is_line x.reason)

-- ---- other look-ups

-- a branch, where both of its names are there
abbrev pub branched : Option (List ℕ) → Option (List ℕ) → Option BranchKey
branched (Some project) (Some branch) = Some (record { project = project; branch = branch })
branched _ _ = None

-- the branch that a change is for
abbrev pub change_branches : Search ℕ BranchKey
change_branches = record {
  tree = table.changes.tree;
  keyed = header_keyed;
  at = λ number. (0, Int (pos number)) ∷ [];
  columns = 2 ∷ 3 ∷ [];
  read = λ r. branched (where_is is_slashed_name (text_in (column r 0))) (where_is is_slashed_name (text_in (column r 1)));
}

-- the numbers of changes
abbrev pub change_numbers : Search (Unit {0}) ℕ
change_numbers = record { tree = table.changes.tree; keyed = header_keyed; at = λ u. []; columns = 0 ∷ []; read = λ r. number_in (column r 0) }

-- the changes for a branch, each with its place
abbrev pub change_places : Search BranchKey (ℕ × ℕ)
change_places = record {
  tree = table.changes.tree;
  keyed = header_keyed;
  at = λ b. (2, Text b.project) ∷ (3, Text b.branch) ∷ [];
  columns = 0 ∷ 8 ∷ [];
  read = λ r. both (where_is (is_within most_changes) (number_in (column r 0))) (where_is is_small (number_in (column r 1)));
}

-- the patch sets that have a commit
abbrev pub sent : Search (List ℕ) (ℕ × ℕ)
sent = record {
  tree = table.patches.tree;
  keyed = patch_keyed;
  at = λ commit. (3, Text commit) ∷ [];
  columns = 1 ∷ 2 ∷ [];
  read = λ r. both (where_is (is_within most_changes) (number_in (column r 0))) (where_is (is_within most_patches) (number_in (column r 1)));
}

-- the change at a place of a branch
abbrev pub changes_at : Search PlaceKey ℕ
changes_at = record {
  tree = table.changes.tree;
  keyed = header_keyed;
  at = λ k. (2, Text k.project) ∷ (3, Text k.branch) ∷ (8, Int (pos k.place)) ∷ [];
  columns = 0 ∷ [];
  read = λ r. where_is (is_within most_changes) (number_in (column r 0));
}

-- the numbers of the patch sets of a change
abbrev pub patch_numbers : Search ℕ ℕ
patch_numbers = record { tree = table.patches.tree; keyed = patch_keyed; at = change_patches.at; columns = 2 ∷ []; read = λ r. where_is (is_within most_patches) (number_in (column r 0)) }
