-- A change, and what each accepted request makes of it.
use Rattle.std.specs.{Cmp.Lexicographic.pointwise, List.list_any, Option.option_map_or}
use Rattle.std.specs.Prelude.{ℕ, zero, suc, ℤ, pos, ◌+◌, ◌==◌, ◌&&◌, ◌||◌, not, Bool, true, false, List, [], ◌∷◌, ◌++◌, length, map, find, slice_get, Option, Some, None, if◌then◌else◌, is_some, is_none, unwrap_or, option_map, codes}
use Rattle.{std.specs.Str.bytes_eq, review_names.specs.Forms.patch_set_level}
use Rattle.review_names.specs.{Groups.GroupList, Numerals.numeral, declared.kinds.ChangeKind.TheVariants.Rework}
use Rattle.review_words.specs.declared.changes.{Given.Given, NewChange.NewChange, NewComment.NewComment}
use Rattle.review_words.specs.declared.changes.{NewPatch.NewPatch, Review.Review as ReviewOf, Role.Role}
use Rattle.review_words.specs.declared.changes.Role.TheVariants.{Reviewer, Cc}
use Rattle.review_words.specs.declared.command.ChangeCommand.{ChangeCommand}
use Rattle.review_words.specs.declared.command.ChangeCommand.TheVariants.{Upload, Review, AddReviewer, RemoveReviewer, SetWip, SetReady, Abandon, Restore, AddAttention, RemoveAttention}
use Rattle.review_words.specs.declared.shown.State.{State, TheVariants.New, TheVariants.Merged, TheVariants.Abandoned}
use Rattle.review_expr_judging.specs.declared.facts.{ValueRange.ValueRange, VoteFacts.VoteFacts}
use Rattle.review_expr.specs.{Exprs.holds_for, declared.expr.Expr.Expr}
use Rattle.review_file_rules.specs.{Rights.least_value, Rights.greatest_value, View.FileView, View.LabelView}
use Rattle.review_core_rules.specs.{Votes.voted, declared.rows.AttentionEntry.AttentionEntry}
use Rattle.review_core_rules.specs.declared.rows.{CommentRow.CommentRow, PatchRow.PatchRow, Post.Post, Why.Why}
use Rattle.review_core_rules.specs.declared.rows.Why.TheVariants.{Added, Ready, Replied, RepliedInThread, LeftUnresolved, NotCopied, Told}
use Rattle.review_expr.specs.declared.expr.Facts.TheVariants as facts

-- A change as it stands: its patch sets and comments in order, the vote of an account on a label of a patch set (0 is none), the role of an account, and why an account is in the attention set.
pub record Change : Type 0 where
  pub project : List ℕ
  pub branch : List ℕ
  pub subject : List ℕ
  pub owner : ℕ
  pub state : State
  pub wip : Bool
  pub place : ℕ
  pub updated : ℕ
  pub patches : List PatchRow
  pub vote : ℕ → List ℕ → ℕ → ℤ
  pub role : ℕ → Option Role
  pub comments : List CommentRow
  pub attention : ℕ → Option AttentionEntry

-- the effective file of the change's project and the groups, before a request
pub record Setting : Type 0 where
  pub file : FileView Expr
  pub groups : GroupList

-- the item of a number, counted from 1
abbrev pub of_number : {X : Type 0} → List X → ℕ → Option X
of_number xs zero = None
of_number xs (suc n) = slice_get xs n

-- ---- patch sets

-- the number of the current patch set, which is the last
abbrev pub current : Change → ℕ
current c = length c.patches

-- who sent the last of some patch sets
abbrev pub last_uploader : ℕ → List PatchRow → ℕ
last_uploader before [] = before
last_uploader before (p ∷ ps) = last_uploader p.uploader ps

-- who sent the current patch set
abbrev pub uploader : Change → ℕ
uploader c = last_uploader c.owner c.patches

-- the paths of the last of some patch sets
abbrev pub last_paths : List (List ℕ) → List PatchRow → List (List ℕ)
last_paths before [] = before
last_paths before (p ∷ ps) = last_paths p.paths ps

-- the paths of the current patch set
abbrev pub paths : Change → List (List ℕ)
paths c = last_paths [] c.patches

-- the current patch set
abbrev pub current_patch : Change → Option PatchRow
current_patch c = of_number c.patches (current c)

-- the commit of the current patch set
abbrev pub commit : Change → List ℕ
commit c = option_map_or (λ p. p.commit) (current_patch c) []

-- the commit that the current patch set stands on
abbrev pub parent : Change → List ℕ
parent c = option_map_or (λ p. p.parent) (current_patch c) []

-- the patch sets after a request
abbrev pub patches_by : ChangeCommand → ℕ → List PatchRow → List PatchRow
patches_by (Upload p) caller before = before ++ record { commit = p.commit; parent = p.parent; kind = p.kind; uploader = caller; paths = p.paths } ∷ []
patches_by _ caller before = before

-- ---- votes

-- the value of a label after those that a review gives, where it was this before
abbrev pub given_or : List Given → List ℕ → ℤ → ℤ
given_or [] l before = before
given_or (g ∷ gs) l before = given_or gs l (if bytes_eq g.label l then g.value else before)

-- whether a copy condition holds for a vote; a label without one copies nothing
abbrev pub condition_holds : Option Expr → VoteFacts → Bool
condition_holds None vote = false
condition_holds (Some e) vote = holds_for (facts.Vote vote) e

-- the range of a label's values
abbrev pub range_of : LabelView Expr → ValueRange
range_of label = record { least = least_value label.values; greatest = greatest_value label.values }

-- a vote on the current patch set, as a copy condition sees it when a patch set is sent
abbrev pub vote_facts : Setting → NewPatch → ℕ → Change → LabelView Expr → ℕ → ℤ → VoteFacts
vote_facts s p caller c label a v = record {
  value = v;
  voter = a;
  range = range_of label;
  kind = p.kind;
  uploader = caller;
  unchanged_files = pointwise (pointwise ◌==◌) (paths c) p.paths;
  groups = s.groups;
}

-- the label of a name in a file
abbrev pub label_in : FileView Expr → List ℕ → Option (LabelView Expr)
label_in file l = find (λ x. bytes_eq x.name l) file.labels

-- whether a vote on the current patch set is copied when a patch set is sent
abbrev pub is_copied : Setting → NewPatch → ℕ → Change → List ℕ → ℕ → ℤ → Bool
is_copied s p caller c l a v = option_map_or (λ label. condition_holds label.copy_condition (vote_facts s p caller c label a v)) (label_in s.file l) false

-- which votes are copied when a patch set is sent, and the labels in the order in which lost votes are looked for
pub record Copying : Type 0 where
  pub copies : List ℕ → ℕ → ℤ → Bool
  pub labels : List (List ℕ)

-- no votes are copied, where no patch set is sent
abbrev pub no_copying : Copying
no_copying = record { copies = λ l a v. false; labels = [] }

-- what a request copies: the file and the groups before it decide
abbrev pub copying : Setting → ChangeCommand → ℕ → Change → Copying
copying s (Upload p) caller c = record { copies = is_copied s p caller c; labels = map (λ x. x.name) s.file.labels }
copying s _ caller c = no_copying

-- the vote on the current patch set, where it is copied
abbrev pub carried : Copying → Change → List ℕ → ℕ → ℤ
carried k c l a = let v = c.vote (current c) l a in if k.copies l a v then v else pos 0

-- the patch set that is reviewed
abbrev pub reviewed : ReviewOf → Change → ℕ
reviewed r c = unwrap_or r.patch (current c)

-- the vote of an account after a request, by what it was before
abbrev pub vote_by : Copying → ChangeCommand → ℕ → Change → ℕ → List ℕ → ℕ → ℤ
vote_by k (Upload p) caller c n l a = if current c + 1 == n then carried k c l a else c.vote n l a
vote_by k (Review r) caller c n l a = if (reviewed r c == n) && (caller == a) then given_or r.labels l (c.vote n l a) else c.vote n l a
vote_by k (RemoveReviewer u) caller c n l a = if (current c == n) && (u == a) then pos 0 else c.vote n l a
vote_by k _ caller c n l a = c.vote n l a

-- ---- roles

-- a review gives a vote other than 0
abbrev pub gives_vote : ReviewOf → Bool
gives_vote r = list_any (λ g. voted g.value) r.labels

-- a review has a message or a comment
abbrev pub says_something : ReviewOf → Bool
says_something r = not (length r.message == 0) || not (length r.comments == 0)

-- the role of who wrote a review, where it was this before
abbrev pub writer_role : ReviewOf → ℕ → ℕ → Option Role → Option Role
writer_role r owner caller was =
    if gives_vote r then Some Reviewer
    else if says_something r && (not (caller == owner) && is_none was) then Some Cc
    else was

-- the role of an account after a request
abbrev pub role_by : ChangeCommand → ℕ → Change → ℕ → Option Role
role_by (Review r) caller c u = if caller == u then writer_role r c.owner caller (c.role caller) else c.role u
role_by (AddReviewer v role) caller c u = if v == u then Some role else c.role u
role_by (RemoveReviewer v) caller c u = if v == u then None else c.role u
role_by _ caller c u = c.role u

-- eligible are the owner, the current uploader, the reviewers and the CCs
abbrev pub eligible : Change → ℕ → Bool
eligible c u = (c.owner == u) || ((uploader c == u) || is_some (c.role u))

-- ---- comments

-- the stored comment that a new one answers
abbrev pub answered : List CommentRow → NewComment → Option CommentRow
answered stored new = option_map_or (of_number stored) new.in_reply_to None

-- a new comment as it is stored; where it doesn't say whether it is unresolved, it is as the comment that it answers
abbrev pub stored_as : List CommentRow → ℕ → ℕ → ℕ → NewComment → CommentRow
stored_as stored patch author request new = record {
  patch = patch;
  path = new.path;
  line = new.line;
  author = author;
  message = new.message;
  unresolved = unwrap_or new.unresolved (option_map_or (λ x. x.unresolved) (answered stored new) false);
  answers = new.in_reply_to;
  request = request;
}

-- the comment that a message is kept as
abbrev pub message_of : List ℕ → List NewComment
message_of [] = []
message_of (b ∷ bs) = record { path = patch_set_level; line = 0; message = b ∷ bs; unresolved = Some false; in_reply_to = None } ∷ []

-- what a review has to say: its message, where there is one, then its comments
abbrev pub said : ReviewOf → List NewComment
said r = message_of r.message ++ r.comments

-- the new comments of a review
abbrev pub new_comments : ReviewOf → ℕ → ℕ → Change → List CommentRow
new_comments r caller request c = map (stored_as c.comments (reviewed r c) caller request) (said r)

-- the comments after a request
abbrev pub comments_by : ChangeCommand → ℕ → ℕ → Change → List CommentRow
comments_by (Review r) caller request c = c.comments ++ new_comments r caller request c
comments_by _ caller request c = c.comments

-- ---- threads

-- the number of the comment that begins a comment's thread: the one that begins the thread of the comment which it answers, or else itself
abbrev pub root_of : List Post → CommentRow → ℕ
root_of earlier x = option_map_or (λ p. p.root) (option_map_or (of_number earlier) x.answers None) (length earlier + 1)

-- comments with the threads that they are in, after earlier ones
abbrev pub threaded : List Post → List CommentRow → List Post
threaded earlier [] = earlier
threaded earlier (x ∷ xs) = threaded (earlier ++ record { author = x.author; root = root_of earlier x; unresolved = x.unresolved } ∷ []) xs

-- the comments of a change with the threads that they are in
abbrev pub posts : List CommentRow → List Post
posts comments = threaded [] comments

-- some thread is unresolved: its comment with the greatest number is, which no later comment of the thread follows
abbrev pub has_unresolved : List Post → Bool
has_unresolved [] = false
has_unresolved (p ∷ ps) = (p.unresolved && not (list_any (λ q. q.root == p.root) ps)) || has_unresolved ps

-- ---- the state

-- the state of a change after a request
abbrev pub state_by : ChangeCommand → State → State
state_by Abandon before = Abandoned
state_by Restore before = New
state_by _ before = before

-- the work in progress flag after a request
abbrev pub wip_by : ChangeCommand → Bool → Bool
wip_by SetWip before = true
wip_by SetReady before = false
wip_by _ before = before

-- open means new
abbrev pub is_open : State → Bool
is_open New = true
is_open _ = false

-- ---- the attention set

-- a role is that of a reviewer
abbrev pub is_reviewer : Option Role → Bool
is_reviewer (Some Reviewer) = true
is_reviewer _ = false

-- a comment of a review answers one of the thread with this root
abbrev pub answers_thread : List Post → List NewComment → ℕ → Bool
answers_thread stored new root = list_any (λ n. option_map_or (λ p. p.root == root) (option_map_or (of_number stored) n.in_reply_to None) false) new

-- an account wrote in a thread that a review answers
abbrev pub wrote_in_answered : List Post → List NewComment → ℕ → Bool
wrote_in_answered stored new u = list_any (λ p. (p.author == u) && answers_thread stored new p.root) stored

-- an account's vote on a label isn't copied
abbrev pub is_lost : Copying → Change → ℕ → List ℕ → Bool
is_lost k c u l = voted (c.vote (current c) l u) && not (k.copies l u (c.vote (current c) l u))

-- the first label of the file, whose labels stand by name, on which an account's vote isn't copied
abbrev pub first_lost : Copying → Change → ℕ → Option (List ℕ)
first_lost k c u = find (is_lost k c u) k.labels

-- the request takes an account out: `b` is the change before it, and `a` after it
abbrev pub removes : ChangeCommand → ℕ → Change → Change → ℕ → Bool
removes (Upload p) caller b a u = (uploader b == u) && not (eligible a (uploader b))
removes (Review r) caller b a u = (caller == u) && (not (is_open b.state) || not b.wip)
removes (RemoveReviewer v) caller b a u = (v == u) && not ((b.owner == v) || (uploader b == v))
removes SetWip caller b a u = true
removes Abandon caller b a u = true
removes (RemoveAttention v reason) caller b a u = v == u
removes _ caller b a u = false

-- why a reply on an open change calls an account: among these stored comments, by these new ones
abbrev pub why_replied : List Post → List NewComment → ℕ → ℕ → ℕ → ℕ → Option Why
why_replied stored new caller owner sender u =
    if not (caller == owner) && ((owner == u) || (sender == u)) then Some (Replied caller)
    else if wrote_in_answered stored new u then Some (RepliedInThread caller)
    else None

-- why new comments on a closed change call an account
abbrev pub why_commented : List CommentRow → ℕ → ℕ → ℕ → Option Why
why_commented new caller owner u =
    if not (caller == owner) && ((owner == u) && list_any (λ x. x.unresolved) new) then Some (LeftUnresolved caller) else None

-- why the rules call an account
abbrev pub why_called : Copying → ChangeCommand → ℕ → ℕ → Change → ℕ → Option Why
why_called k (Upload p) caller request b u = option_map NotCopied (first_lost k b u)
why_called k (Review r) caller request b u =
    if is_open b.state then why_replied (posts b.comments) r.comments caller b.owner (uploader b) u else why_commented (new_comments r caller request b) caller b.owner u
why_called k (AddReviewer v role) caller request b u = if (v == u) && (is_reviewer (Some role) && is_open b.state) then Some Added else None
why_called k SetReady caller request b u = if is_reviewer (b.role u) then Some Ready else None
why_called k _ caller request b u = None

-- Why a request calls an account. AddAttention calls whom it names. All other rules call nobody but the eligible, never the caller, and nobody on a change in work in progress.
abbrev pub called_by : Copying → ChangeCommand → ℕ → ℕ → Change → Change → ℕ → Option Why
called_by k (AddAttention v reason) caller request b a u = if v == u then Some (Told reason) else None
called_by k command caller request b a u = if eligible a u && (not (caller == u) && not a.wip) then why_called k command caller request b u else None

-- the words for why an account is called
abbrev pub reason_of : Why → List ℕ
reason_of Added = codes "Reviewer was added"
reason_of Ready = codes "Change is ready for review"
reason_of (Replied n) = codes "account " ++ (numeral n ++ codes " replied on the change")
reason_of (RepliedInThread n) = codes "account " ++ (numeral n ++ codes " replied in a thread")
reason_of (LeftUnresolved n) = codes "account " ++ (numeral n ++ codes " left an unresolved comment")
reason_of (NotCopied l) = codes "vote on " ++ (l ++ codes " was not copied")
reason_of (Told reason) = reason

-- who is in stays in as before
abbrev pub kept_or : Option AttentionEntry → Option Why → ℕ → Option AttentionEntry
kept_or (Some was) new request = Some was
kept_or None (Some why) request = Some (record { reason = reason_of why; request = request })
kept_or None None request = None

-- why an account is in the attention set after a request: removals come before additions
abbrev pub attention_by : Copying → ChangeCommand → ℕ → ℕ → Change → Change → ℕ → Option AttentionEntry
attention_by k command caller request b a u = kept_or (if removes command caller b a u then None else b.attention u) (called_by k command caller request b a u) request

-- ---- the change

-- the change after a request that copies these votes, but for the attention set
abbrev pub settled : Copying → ChangeCommand → ℕ → ℕ → Change → Change
settled k command caller request c = record c {
  state = state_by command c.state;
  wip = wip_by command c.wip;
  updated = request;
  patches = patches_by command caller c.patches;
  vote = vote_by k command caller c;
  role = role_by command caller c;
  comments = comments_by command caller request c;
}

-- the change after a request that copies these votes
abbrev pub after_copying : Copying → ChangeCommand → ℕ → ℕ → Change → Change
after_copying k command caller request c = record (settled k command caller request c) {
  attention = attention_by k command caller request c (settled k command caller request c);
}

-- the change after a request that names it
abbrev pub after : Setting → ChangeCommand → ℕ → ℕ → Change → Change
after s command caller request c = after_copying (copying s command caller c) command caller request c

-- the change after a request that sends no patch set: no file is asked
abbrev pub after_plain : ChangeCommand → ℕ → ℕ → Change → Change
after_plain command caller request c = after_copying no_copying command caller request c

-- a new change
abbrev pub begun : NewChange → ℕ → ℕ → Change
begun n caller request = record {
  project = n.project;
  branch = n.branch;
  subject = n.subject;
  owner = caller;
  state = New;
  wip = n.wip;
  place = 0;
  updated = request;
  patches = record { commit = n.commit; parent = n.parent; kind = Rework; uploader = caller; paths = n.paths } ∷ [];
  vote = λ n l a. pos 0;
  role = λ u. None;
  comments = [];
  attention = λ u. None;
}

-- a change that a request makes join its branch at a place: nobody is called any more
abbrev pub joined_at : ℕ → ℕ → Change → Change
joined_at place request c = record c {
  state = Merged;
  place = place;
  updated = request;
  attention = λ u. None;
}
