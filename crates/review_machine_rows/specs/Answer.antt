-- The answer to a command, and which lists of entries are histories.
use Rattle.std.specs.{Bool.MatchBool, List.list_all, List.list_any, Option.option_map_or, Ordering.int_eq}
use Rattle.std.specs.Prelude.{ℕ, ◌+◌, ◌<◌, ◌≡◌, ◌⊎◌, ◌==◌, List, [], ◌∷◌, ◌++◌, Option, Some, None, Bool, true, false, not, is_some, nat_le, nat_lt, int_le, ◌&&◌, ◌||◌, length, if◌then◌else◌, MatchOption}
use Rattle.std.specs.Str.{bytes_eq}
use Rattle.review_names.specs.Forms.{is_within, most_changes, most_patches, most_comments}
use Rattle.review_names.specs.Names.{registered_users}
use Rattle.review_words.specs.History.{Asking, Entry, IsFirst, asking_of, may_follow, account_count, is_account, is_project, project_count}
use Rattle.review_words.specs.declared.changes.{Given.Given, NewPatch.NewPatch, Review.Review as ReviewOf, Role.Role}
use Rattle.review_words.specs.declared.changes.Role.TheVariants.{Reviewer, Cc}
use Rattle.review_words.specs.declared.command.ChangeCommand.{ChangeCommand}
use Rattle.review_words.specs.declared.command.ChangeCommand.TheVariants.{Upload, Review, AddReviewer, RemoveReviewer, SetWip, SetReady, Abandon, Restore, AddAttention, RemoveAttention}
use Rattle.review_words.specs.declared.command.Command.{Command}
use Rattle.review_words.specs.declared.command.Command.TheVariants.{CreateAccount, PutGroup, PutProject, RecordBase, CreateChange, OnChange, Submit, CloseEpoch}
use Rattle.review_words.specs.declared.faults.FileFault.{FileFault, TheVariants.UnknownKey, TheVariants.UnknownLabel}
use Rattle.review_words.specs.declared.reply.Answer.{Answer}
use Rattle.review_words.specs.declared.reply.Answer.TheVariants.{Account, Nothing, Change as AChange, Patch, Reviewed}
use Rattle.review_words.specs.declared.reply.Refusal.{Refusal}
use Rattle.review_words.specs.declared.reply.Refusal.TheVariants.{UnknownCaller, NotAdmin, NoProject, NoBranch, NoChange, NoPatchSet, NoAccount, NoComment, NotAllowed, Closed, SameState, WorkInProgress, StalePatchSet, NoLabel, ValueOut, VoteRestricted, CommitKnown, UnknownParent, NotEligible, NameTaken, BadFile, LabelNarrowed, Limit, NoParent, ParentFixed, ParentDepth, EpochAhead}
use Rattle.review_words.specs.declared.reply.Reply.{Reply, TheVariants.Done, TheVariants.Refused}
use Rattle.review_file_rules.specs.{Inherited.inherit, Inherited.inherits_unknown_label, Reading.has_parent_key}
use Rattle.review_file_rules.specs.Rights.{granted, greatest_of, least_of, may}
use Rattle.review_file_rules.specs.declared.parts.Right.{Right}
use Rattle.review_core_rules.specs.Change.{Change, carried, copying, current, eligible, is_lost, is_open, is_reviewer, label_in, reviewed, said}
use Rattle.review_core_rules.specs.{Counts.AreMany, Shown.is_cc, Sound.answer_stored, Votes.voted}
use Rattle.review_machine_rows.specs.Changes.{Reading, Reads, change, change_count, depth, file_of, own_of, setting_of}
use Rattle.review_machine_rows.specs.{Desks.facts_of, Facts.DeskFacts}
use Rattle.review_machine_rows.specs.Files.{File, IsRead, IsFileFault, covers}
use Rattle.review_machine_rows.specs.{Lines.most_depth, Submits.IsSubmitAnswer}
use Rattle.review_file_rules.specs.declared.parts.Right.TheVariants as right
pub use Rattle.review_machine_rows.specs.Limits.{most_requests, most_accounts, most_projects, most_bases}
pub use Rattle.review_machine_rows.specs.Submits.{IsOf, is_merged}

-- whether an account has a right, by a file
abbrev pub has_right : DeskFacts → File → Right → ℕ → Bool
has_right facts file right account = may file right (facts.is_in account)

-- the checks of a new patch set in a branch: its commit is new there, and what it stands on is known
abbrev pub commit_checks : DeskFacts → List ℕ → List ℕ → List ℕ → List ℕ → List (Bool × Refusal)
commit_checks facts project branch commit parent = (not (facts.is_known project branch commit), CommitKnown) ∷ (facts.is_known project branch parent, UnknownParent) ∷ []

-- the checks of a new patch set of a change
abbrev pub upload_checks : DeskFacts → ℕ → NewPatch → Change → List (Bool × Refusal)
upload_checks facts caller p c =
    ((caller == c.owner) || has_right facts (facts.file c.project) right.Upload caller, NotAllowed) ∷ (is_open c.state, Closed)
    ∷ (commit_checks facts c.project c.branch p.commit p.parent ++ (nat_lt (current c) most_patches, Limit) ∷ [])

-- whether a value is one of a label
abbrev pub is_value_of : File → Given → Bool
is_value_of file g = option_map_or (λ label. list_any (λ v. int_eq v.0 g.value) label.values) (label_in file g.label) false

-- whether a value lies in the range of an account on a label, by a file: from the least of 0 and what its groups are granted to the greatest
abbrev pub is_in_range : DeskFacts → File → ℕ → Given → Bool
is_in_range facts file account g = int_le (least_of (granted file g.label (facts.is_in account))) g.value && int_le g.value (greatest_of (granted file g.label (facts.is_in account)))

-- the checks of values on labels of a change, each over all of them, by the file of its project; none where no values are given
abbrev pub given_checks : DeskFacts → File → ℕ → ReviewOf → Change → List Given → List (Bool × Refusal)
given_checks facts file caller r c [] = []
given_checks facts file caller r c (g ∷ gs) =
    (is_open c.state, Closed) ∷ (reviewed r c == current c, StalePatchSet) ∷ (list_all (λ x. is_some (label_in file x.label)) (g ∷ gs), NoLabel)
    ∷ (list_all (is_value_of file) (g ∷ gs), ValueOut) ∷ (list_all (is_in_range facts file caller) (g ∷ gs), VoteRestricted) ∷ []

-- the checks of the comments of a review: each answer is to a comment that is stored, and there is room for all
abbrev pub said_checks : ReviewOf → Change → List (Bool × Refusal)
said_checks r c = (answer_stored (length c.comments) r.comments, NoComment) ∷ (nat_le (length c.comments + length (said r)) most_comments, Limit) ∷ []

-- the checks of a review of a change
abbrev pub review_checks : DeskFacts → ℕ → ReviewOf → Change → List (Bool × Refusal)
review_checks facts caller r c = (is_within (current c) (reviewed r c), NoPatchSet) ∷ (given_checks facts (facts.file c.project) caller r c r.labels ++ said_checks r c)

-- whether an account has just this role
abbrev pub has_role : Role → Option Role → Bool
has_role Reviewer was = is_reviewer was
has_role Cc was = is_cc was

-- whether an account runs a change: its owner, or who runs the desk
abbrev pub runs : DeskFacts → ℕ → Change → Bool
runs facts caller c = (caller == c.owner) || facts.is_admin caller

-- whether an account may abandon a change and restore it: who runs it, or has the right to
abbrev pub may_abandon : DeskFacts → ℕ → Change → Bool
may_abandon facts caller c = runs facts caller c || has_right facts (facts.file c.project) right.Abandon caller

-- the checks of AddReviewer
abbrev pub role_checks : DeskFacts → ℕ → Role → Change → List (Bool × Refusal)
role_checks facts account role c = (facts.is_account account, NoAccount) ∷ (not (has_role role (c.role account)), SameState) ∷ []

-- the checks of RemoveReviewer
abbrev pub removal_checks : DeskFacts → ℕ → ℕ → Change → List (Bool × Refusal)
removal_checks facts caller account c =
    (facts.is_account account, NoAccount) ∷ ((caller == account) || runs facts caller c, NotAllowed) ∷ (is_open c.state, Closed) ∷ (is_some (c.role account), SameState) ∷ []

-- the checks of SetWip and of SetReady, where the flag of work in progress has to be this one
abbrev pub flag_checks : DeskFacts → ℕ → Bool → Change → List (Bool × Refusal)
flag_checks facts caller was c = (runs facts caller c, NotAllowed) ∷ (is_open c.state, Closed) ∷ (if was then c.wip else not c.wip, SameState) ∷ []

-- the checks of Abandon
abbrev pub abandon_checks : DeskFacts → ℕ → Change → List (Bool × Refusal)
abandon_checks facts caller c = (may_abandon facts caller c, NotAllowed) ∷ (is_open c.state, Closed) ∷ []

-- the checks of Restore
abbrev pub restore_checks : DeskFacts → ℕ → Change → List (Bool × Refusal)
restore_checks facts caller c = (may_abandon facts caller c, NotAllowed) ∷ (not (is_merged c.state), Closed) ∷ (not (is_open c.state), SameState) ∷ []

-- the checks of AddAttention
abbrev pub call_checks : DeskFacts → ℕ → Change → List (Bool × Refusal)
call_checks facts account c = (facts.is_account account, NoAccount) ∷ (is_open c.state, Closed) ∷ (eligible c account, NotEligible) ∷ (not (is_some (c.attention account)), SameState) ∷ []

-- the checks of RemoveAttention
abbrev pub leave_checks : DeskFacts → ℕ → Change → List (Bool × Refusal)
leave_checks facts account c = (facts.is_account account, NoAccount) ∷ (is_open c.state, Closed) ∷ (is_some (c.attention account), SameState) ∷ []

-- the checks of a request on a change
abbrev pub request_checks : DeskFacts → ℕ → ChangeCommand → Change → List (Bool × Refusal)
request_checks facts caller (Upload patch) c = upload_checks facts caller patch c
request_checks facts caller (Review review) c = review_checks facts caller review c
request_checks facts caller (AddReviewer account role) c = role_checks facts account role c
request_checks facts caller (RemoveReviewer account) c = removal_checks facts caller account c
request_checks facts caller SetWip c = flag_checks facts caller false c
request_checks facts caller SetReady c = flag_checks facts caller true c
request_checks facts caller Abandon c = abandon_checks facts caller c
request_checks facts caller Restore c = restore_checks facts caller c
request_checks facts caller (AddAttention account reason) c = call_checks facts account c
request_checks facts caller (RemoveAttention account reason) c = leave_checks facts account c

-- the checks of a submit of a change
abbrev pub submit_checks : DeskFacts → ℕ → Change → List (Bool × Refusal)
submit_checks facts caller c = (has_right facts (facts.file c.project) right.Submit caller, NotAllowed) ∷ (is_open c.state, Closed) ∷ (not c.wip, WorkInProgress) ∷ []

-- checks of a change, where there is one
abbrev pub of_change : (Change → List (Bool × Refusal)) → Option Change → List (Bool × Refusal)
of_change each None = (false, NoChange) ∷ []
of_change each (Some c) = each c

-- The checks of a command in their order, by the rules of the latest version, each with the refusal where it fails. What is asked of the file that a PutProject puts, and of the epochs of a CloseEpoch, comes after them.
abbrev pub checks : DeskFacts → ℕ → Command → List (Bool × Refusal)
checks facts caller (CreateAccount name) = (facts.is_admin caller, NotAdmin) ∷ (not (facts.is_taken name), NameTaken) ∷ (nat_lt facts.accounts most_accounts, Limit) ∷ []
checks facts caller (PutGroup group members) =
    (facts.is_admin caller, NotAdmin) ∷ (not (bytes_eq group registered_users), NameTaken) ∷ (list_all facts.is_account members, NoAccount) ∷ []
checks facts caller (PutProject project file) = (facts.is_admin caller, NotAdmin) ∷ []
checks facts caller (RecordBase project branch commit) =
    (facts.is_admin caller, NotAdmin) ∷ (facts.is_project project, NoProject) ∷ (not (facts.is_known project branch commit), CommitKnown) ∷ (facts.has_room project, Limit) ∷ []
checks facts caller (CreateChange new) =
    (facts.is_project new.project, NoProject) ∷ (facts.is_branch new.project new.branch, NoBranch) ∷ (has_right facts (facts.file new.project) right.Create caller, NotAllowed)
    ∷ (commit_checks facts new.project new.branch new.commit new.parent ++ (nat_lt facts.changes most_changes, Limit) ∷ [])
checks facts caller (OnChange n command) = of_change (request_checks facts caller command) (facts.change n)
checks facts caller (Submit n) = of_change (submit_checks facts caller) (facts.change n)
checks facts caller (CloseEpoch least) = (facts.is_admin caller, NotAdmin) ∷ []

-- the refusal of the first check that fails
abbrev pub first_refusal : List (Bool × Refusal) → Option Refusal
first_refusal [] = None
first_refusal (c ∷ cs) = if c.0 then first_refusal cs else Some c.1

-- what refuses a command: that the caller is no account, before all others, or the first of its checks that fails
abbrev pub refused_by : Reading → List Entry → ℕ → Command → Option Refusal
refused_by reading h caller command = first_refusal ((is_account h caller, UnknownCaller) ∷ checks (facts_of reading h) caller command)

-- the numbers of new comments, after so many
abbrev pub numbers_after : {X : Type 0} → ℕ → List X → List ℕ
numbers_after n [] = []
numbers_after n (x ∷ xs) = (n + 1) ∷ numbers_after (n + 1) xs

-- the numbers that the comments of a review get
abbrev pub comment_numbers : ReviewOf → Option Change → List ℕ
comment_numbers r None = []
comment_numbers r (Some c) = numbers_after (length c.comments) (said r)

-- what a request on a change gives that is done, but for an Upload, whose answer counts votes
abbrev pub done_on : ChangeCommand → Option Change → Answer
done_on (Review review) c = Reviewed (comment_numbers review c)
done_on _ c = Nothing

-- what a command gives that is done, where it asks nothing of a change
abbrev pub done : Reading → List Entry → Command → Answer
done reading h (CreateAccount name) = Account (account_count h + 1)
done reading h (CreateChange new) = AChange (change_count h + 1) 1
done reading h _ = Nothing

-- a refusal where there is one, and otherwise this answer
abbrev pub refused_or : Option Refusal → Answer → Reply
refused_or None otherwise = Done otherwise
refused_or (Some refusal) otherwise = Refused refusal

-- whether two projects, or none, are the same
abbrev pub is_same_parent : Option (List ℕ) → Option (List ℕ) → Bool
is_same_parent None None = true
is_same_parent (Some a) (Some b) = bytes_eq a b
is_same_parent _ _ = false

-- whether a project has the parent that its new file names: one that has no file yet may have any
abbrev pub keeps_parent : List Entry → List ℕ → Option (List ℕ) → Bool
keeps_parent h project parent = option_map_or (λ f. is_same_parent f.parent parent) (own_of h project) true

-- the effective file of a project that gets this own file: it goes on from that of its parent
abbrev pub file_with : Reading → List Entry → File → File
file_with reading h own = option_map_or (λ parent. inherit (file_of reading h parent) own) own.parent own

-- whether an own requirement, whether or not it counts, names a label that isn't among the effective ones; of a file without a parent its text was asked that
abbrev pub puts_unknown_label : Reading → List Entry → File → Bool
puts_unknown_label reading h own = option_map_or (λ parent. inherits_unknown_label (file_of reading h parent) own) own.parent false

-- The checks of the file that a PutProject puts: the project keeps its parent, which is there and not at the greatest depth; its requirements name labels
-- that it has; each label that it had keeps its values; and a new project is among the most.
abbrev pub file_checks : Reading → List Entry → List ℕ → File → List (Bool × Refusal)
file_checks reading h project own =
    (keeps_parent h project own.parent, ParentFixed) ∷ (option_map_or (is_project h) own.parent true, NoParent)
    ∷ (option_map_or (λ parent. nat_lt (depth h parent) most_depth) own.parent true, ParentDepth) ∷ (not (puts_unknown_label reading h own), BadFile UnknownLabel)
    ∷ (not (is_project h project) || covers (file_of reading h project) (file_with reading h own), LabelNarrowed)
    ∷ (is_project h project || nat_lt (project_count h) most_projects, Limit) ∷ []

-- what a PutProject is told where its text spells a file
abbrev pub IsFileAnswer : Reading → List Entry → List ℕ → List ℕ → Reply → Type 0
IsFileAnswer reading h project text reply = (own : File) × IsRead text own × (reply ≡ refused_or (first_refusal (file_checks reading h project own)) Nothing)

-- what a PutProject is told where its text has a fault
abbrev pub IsFaultAnswer : List ℕ → Reply → Type 0
IsFaultAnswer text reply = (fault : FileFault) × IsFileFault text fault × (reply ≡ Refused (BadFile fault))

-- what an Upload is told: the number of the new patch set, and how many votes of the one before were copied and how many not
pub record IsUploadAnswer (reading : Reading) (h : List Entry) (caller n : ℕ) (patch : NewPatch) (c : Change) (reply : Reply) : Type 0 where
  pub copied : ℕ
  pub outdated : ℕ
  pub many_copied : AreMany (λ l u. voted (carried (copying (setting_of reading h c.project) (Upload patch) caller c) c l u)) copied
  pub many_outdated : AreMany (λ l u. is_lost (copying (setting_of reading h c.project) (Upload patch) caller c) c u l) outdated
  pub reply_is : reply ≡ Done (Patch n (current c + 1) copied outdated)

-- what a request on a change is told that no check refuses
abbrev pub IsRequestOutcome : Reading → List Entry → ℕ → ℕ → ChangeCommand → Reply → Type 0
IsRequestOutcome reading h caller n (Upload patch) reply = IsOf (λ c. IsUploadAnswer reading h caller n patch c reply) (change reading h n)
IsRequestOutcome reading h caller n command reply = reply ≡ Done (done_on command (change reading h n))

-- What a command is told that no check refuses; a CloseEpoch is told so where its epochs pass too. One place is left free: which fault a text is told, or whether it is read, where a pattern in it nests deeper
-- than the pattern engine reads.
abbrev pub IsOutcome : Reading → List Entry → ℕ → Command → Reply → Type 0
IsOutcome reading h caller (PutProject project text) reply = IsFaultAnswer text reply ⊎ IsFileAnswer reading h project text reply
IsOutcome reading h caller (OnChange n command) reply = IsRequestOutcome reading h caller n command reply
IsOutcome reading h caller (Submit n) reply = IsOf (λ c. IsSubmitAnswer reading h n c reply) (change reading h n)
IsOutcome reading h caller command reply = reply ≡ Done (done reading h command)

-- The reply is an answer to the command by the rules of the latest version, by what is read of the texts that were put; of a CloseEpoch without what is asked of its epochs.
abbrev pub IsAnswerBy : Reading → List Entry → ℕ → Command → Reply → Type 0
IsAnswerBy reading h caller command reply = MatchOption (refused_by reading h caller command) (IsOutcome reading h caller command reply) (λ refusal. reply ≡ Refused refusal)

-- The checks of a CloseEpoch in a request of this epoch, after those that the caller is an account and an administrator: the epoch that is to be the least open one is not beyond the
-- request's own, and it is above the present one.
abbrev pub epoch_checks : DeskFacts → ℕ → ℕ → List (Bool × Refusal)
epoch_checks facts epoch least = (nat_le least epoch, EpochAhead) ∷ (nat_lt facts.least_open least, SameState) ∷ []

-- What a command is told in a request of this epoch. The answer to each but CloseEpoch doesn't depend on the epoch.
abbrev pub IsAnswerAt : Reading → List Entry → ℕ → ℕ → Command → Reply → Type 0
IsAnswerAt reading h caller epoch (CloseEpoch least) reply =
    MatchOption (refused_by reading h caller (CloseEpoch least)) (reply ≡ refused_or (first_refusal (epoch_checks (facts_of reading h) epoch least)) Nothing) (λ refusal. reply ≡ Refused refusal)
IsAnswerAt reading h caller epoch command reply = IsAnswerBy reading h caller command reply

-- The reply is an answer to the command of a request of this epoch, where each text that was put is read right.
abbrev pub IsAnswer : List Entry → ℕ → ℕ → Command → Reply → Type 0
IsAnswer h caller epoch command reply = (reading : Reading) → Reads reading h → IsAnswerAt reading h caller epoch command reply

-- whether a command puts a text with the key `parent`
abbrev pub puts_parent : Command → Bool
puts_parent (PutProject project text) = has_parent_key text
puts_parent command = false

-- The reply is that of version 1 to a text with the key `parent`, which was unknown then: it is refused for that, unless an earlier check refuses the command.
abbrev pub IsAnswerWithoutParents : List Entry → ℕ → Command → Reply → Type 0
IsAnswerWithoutParents h caller command reply =
    (reading : Reading) → Reads reading h → MatchOption (refused_by reading h caller command) (reply ≡ Refused (BadFile UnknownKey)) (λ refusal. reply ≡ Refused refusal)

-- The reply is an answer to the command, asked so: by the rules of that version. Those of version 1 know no parents, and are otherwise those of version 2.
abbrev pub IsAnswerIn : List Entry → Asking → Command → Reply → Type 0
IsAnswerIn h asking command reply =
    MatchBool (nat_lt asking.version 2 && puts_parent command) (IsAnswerWithoutParents h asking.caller command reply) (IsAnswer h asking.caller asking.epoch command reply)

-- A history: each identity stands once, and its epoch was open before it; each reply is an answer after what stood before by the rules of its version;
-- there are at most so many requests, and versions never fall. Nothing is asked of the forms of names and numbers in it, nor that entries of version 1 are of epoch 0 and close none, nor that an epoch is at most 1,000,000,000,
-- so where a history is assumed, more lists are spoken of than the desk can make.
abbrev pub IsHistory : List Entry → Type 0
IsHistory [] = Unit {0}
IsHistory (e ∷ h) =
    IsFirst h e.identity × IsAnswerIn h (asking_of e) e.command e.reply × (length h < most_requests) × IsHistory h × (may_follow h e.version ≡ true)
