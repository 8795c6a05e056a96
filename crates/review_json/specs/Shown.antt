-- The JSON of numbers and texts, and of what questions about a change or a branch are told; the members of an object stand in the order of their keys.
use Rattle.std.specs.Prelude.{ℕ, List, map, codes, Option, Some, None}
use Rattle.serde_json.specs.Data.{Data, number, unsigned, string, Items, boolean, array, object, Members, no_members, member}
use Rattle.serde_json.specs.{Find.of_integer, View.items_of}
use Rattle.review_words.specs.States.{state_name, status_name}
use Rattle.review_words.specs.declared.shown.{JoinedChange.JoinedChange, ShownAttentionEntry.ShownAttentionEntry}
use Rattle.review_words.specs.declared.shown.{ShownChange.ShownChange, ShownComment.ShownComment}
use Rattle.review_words.specs.declared.shown.{ShownRequirement.ShownRequirement, ShownVote.ShownVote, Thread.Thread}

-- a whole number as JSON
abbrev pub number_data : ℕ → Data
number_data n = number (unsigned n)

-- texts in their order
abbrev pub texts_data : List (List ℕ) → Items
texts_data texts = items_of (map (λ text. string text) texts)

-- numbers in their order
abbrev pub numbers_data : List ℕ → Items
numbers_data numbers = items_of (map number_data numbers)

-- a vote
abbrev pub vote_data : ShownVote → Data
vote_data vote =
    object (member (codes "account") (number_data vote.account)
    (member (codes "label") (string vote.label)
    (member (codes "value") (number (of_integer vote.value)) no_members)))

-- votes in their order
abbrev pub votes_data : List ShownVote → Items
votes_data votes = items_of (map vote_data votes)

-- the first members of a change, in front of further ones
abbrev pub first_members : ShownChange → Members → Members
first_members c members =
    member (codes "branch") (string c.branch)
    (member (codes "ccs") (array (numbers_data c.ccs))
    (member (codes "change") (number_data c.change)
    (member (codes "commit") (string c.commit)
    (member (codes "current_patch_set") (number_data c.patch)
    (member (codes "owner") (number_data c.owner)
    (member (codes "project") (string c.project) members))))))

-- the last members of a change
abbrev pub last_members : ShownChange → Members
last_members c =
    member (codes "reviewers") (array (numbers_data c.reviewers))
    (member (codes "status") (string (state_name c.state))
    (member (codes "subject") (string c.subject)
    (member (codes "updated") (number_data c.updated)
    (member (codes "uploader") (number_data c.uploader)
    (member (codes "votes") (array (votes_data c.votes))
    (member (codes "work_in_progress") (boolean c.wip) no_members))))))

-- a change
abbrev pub change_data : ShownChange → Data
change_data c = object (first_members c (last_members c))

-- a change that joined its branch
abbrev pub joined_change_data : JoinedChange → Data
joined_change_data joined =
    object (member (codes "change") (number_data joined.change)
    (member (codes "commit") (string joined.commit) no_members))

-- the changes that joined a branch, in their order
abbrev pub joined_data : List JoinedChange → Items
joined_data joined = items_of (map joined_change_data joined)

-- a submit requirement
abbrev pub requirement_data : ShownRequirement → Data
requirement_data requirement =
    object (member (codes "name") (string requirement.name)
    (member (codes "status") (string (status_name requirement.status)) no_members))

-- submit requirements in their order
abbrev pub requirements_data : List ShownRequirement → Items
requirements_data requirements = items_of (map requirement_data requirements)

-- the comment that is answered, if one is, in front of further members
abbrev pub with_answered : Option ℕ → Members → Members
with_answered (Some comment) members = member (codes "in_reply_to") (number_data comment) members
with_answered None members = members

-- the last members of a comment
abbrev pub words_members : ShownComment → Members
words_members comment =
    member (codes "line") (number_data comment.line)
    (member (codes "message") (string comment.message)
    (member (codes "patch_set") (number_data comment.patch)
    (member (codes "path") (string comment.path)
    (member (codes "unresolved") (boolean comment.unresolved) no_members))))

-- a comment
abbrev pub comment_data : ShownComment → Data
comment_data comment =
    object (member (codes "author") (number_data comment.author)
    (member (codes "id") (number_data comment.number)
    (with_answered comment.answers (words_members comment))))

-- comments in their order
abbrev pub comments_data : List ShownComment → Items
comments_data comments = items_of (map comment_data comments)

-- a thread
abbrev pub thread_data : Thread → Data
thread_data thread =
    object (member (codes "comments") (array (comments_data thread.comments))
    (member (codes "root") (number_data thread.root)
    (member (codes "unresolved") (boolean thread.unresolved) no_members)))

-- threads in their order
abbrev pub threads_data : List Thread → Items
threads_data threads = items_of (map thread_data threads)

-- that an account is in the attention set
abbrev pub attention_entry_data : ShownAttentionEntry → Data
attention_entry_data call =
    object (member (codes "account") (number_data call.account)
    (member (codes "reason") (string call.reason)
    (member (codes "request") (number_data call.request) no_members)))

-- an attention set in its order
abbrev pub attention_data : List ShownAttentionEntry → Items
attention_data calls = items_of (map attention_entry_data calls)
