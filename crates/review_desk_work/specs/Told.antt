-- What the replies to questions tell, and the page that is made of them.
use Rattle.std.specs.Io.KnownBytes.{Appends}
use Rattle.std.specs.Prelude.{◌≡◌, ℕ, List, [], Option, Result, Ok, Err, length, take, ◌+◌, ℤ, pos, negsuc, ◌∷◌, ◌++◌, flat_map, codes, Bool, true, false}
use Rattle.review_names.specs.Numerals.{numeral}
use Rattle.review_words.specs.{States.state_name, States.status_name, Texts.signed}
use Rattle.review_words.specs.declared.command.{ChangeQuery.ChangeQuery, Delivery.Delivery, Delivery.TheVariants.Read}
use Rattle.review_words.specs.declared.command.Query.TheVariants.{Branch, OnChange}
use Rattle.review_words.specs.declared.reply.{Answer.Answer, NotTaken.NotTaken as Cause, Refusal.Refusal, Reply.Reply}
use Rattle.review_words.specs.declared.reply.Reply.TheVariants.{Done, Refused, IdentityReused, EpochClosed, NotTaken}
use Rattle.review_words.specs.declared.shown.{JoinedChange.JoinedChange, ShownAttentionEntry.ShownAttentionEntry}
use Rattle.review_words.specs.declared.shown.{ShownChange.ShownChange, ShownRequirement.ShownRequirement}
use Rattle.{review_words.specs.declared.shown.ShownVote.ShownVote, review_machine_rows.specs.Shelf.Shown}
use Rattle.{review_machine_deliveries.specs.Delivered.WasRun, review_json_lines.specs.Answers.IsPartOf}
use Rattle.review_desk_work.specs.declared.show_fault.ShowFault.{ShowFault}
use Rattle.review_desk_work.specs.declared.show_fault.ShowFault.TheVariants.{Memory, Output, Store, Damaged, Pattern, NoChange, NoProject, NoBranch}
use Rattle.review_words.specs.declared.command.ChangeQuery.TheVariants as asks
use Rattle.review_words.specs.declared.reply.Answer.TheVariants as answer
use Rattle.review_words.specs.declared.reply.NotTaken.TheVariants as cause
use Rattle.review_words.specs.declared.reply.Refusal.TheVariants as refusal

-- ---- what was asked and written

-- questions were a run with these replies, which may be fewer where there was no memory for them
abbrev pub WereAsked : List Delivery → List Reply → Shown → Shown → Type 0
WereAsked questions replies old new = WasRun (take (length replies) questions) replies old new

-- a page, or why there is none; memory may lack for any
abbrev pub IsPage : {S : Type 0} → (S → List ℕ) → Result (List ℕ) ShowFault → Result S ShowFault → Type 0
IsPage bytes page (Ok text) = page ≡ Ok (bytes text)
IsPage bytes page (Err Memory) = Unit {0}
IsPage bytes page (Err fault) = page ≡ Err fault

-- What was written of a page: all of it; a first part where the writer failed; nothing where there is no page, or no memory for it.
abbrev pub IsWritten : {X : Type 0} → Result (List ℕ) ShowFault → List ℕ → Result X ShowFault → Type 0
IsWritten page text (Ok done) = page ≡ Ok text
IsWritten page text (Err Output) = (whole : List ℕ) × (page ≡ Ok whole) × IsPartOf text whole
IsWritten page text (Err Memory) = text ≡ []
IsWritten page text (Err fault) = (page ≡ Err fault) × (text ≡ [])

-- Questions were asked, and what their replies make of a page was written.
pub record Showed (questions : List Delivery) (page : List Reply → Result (List ℕ) ShowFault) (before after : Option (List ℕ)) (told : Result (Unit {0}) ShowFault) (old new : Shown) : Type 0 where
  pub replies : List Reply
  pub asked : WereAsked questions replies old new
  pub text : List ℕ
  pub written : Appends before after text
  pub is : IsWritten (page replies) text told

-- ---- the pages of a change and of a branch, line by line

-- what follows the first word of a line: the other words, each behind a space, and a line feed
abbrev pub line_rest : List (List ℕ) → List ℕ
line_rest [] = 10 ∷ []
line_rest (word ∷ words) = 32 ∷ (word ++ line_rest words)

-- a line: words with a space between them, and a line feed
abbrev pub line : List (List ℕ) → List ℕ
line [] = 10 ∷ []
line (word ∷ words) = word ++ line_rest words

-- yes or no
abbrev pub yes_or_no : Bool → List ℕ
yes_or_no true = codes "yes"
yes_or_no false = codes "no"

-- a plus for a value that isn't below 0
abbrev pub plus : ℤ → List ℕ
plus (pos n) = codes "+"
plus (negsuc n) = []

-- the value of a vote with its sign
abbrev pub vote_value : ℤ → List ℕ
vote_value value = plus value ++ signed value

-- `change 1 NEW`: a change and where it stands
abbrev pub state_line : ShownChange → List ℕ
state_line c = line (codes "change" ∷ numeral c.change ∷ state_name c.state ∷ [])

-- `subject Fix parser`
abbrev pub subject_line : ShownChange → List ℕ
subject_line c = line (codes "subject" ∷ c.subject ∷ [])

-- `branch tools main`: the project and the branch
abbrev pub branch_line : ShownChange → List ℕ
branch_line c = line (codes "branch" ∷ c.project ∷ c.branch ∷ [])

-- `owner 2`, and so a reviewer and a CC: an account in a role
abbrev pub role_line : List ℕ → ℕ → List ℕ
role_line role account = line (role ∷ numeral account ∷ [])

-- `patch set 1 COMMIT by 2`: the current patch set, its commit and who sent it
abbrev pub patch_line : ShownChange → List ℕ
patch_line c = line (codes "patch" ∷ codes "set" ∷ numeral c.patch ∷ c.commit ∷ codes "by" ∷ numeral c.uploader ∷ [])

-- `wip no`: whether it is in work in progress
abbrev pub wip_line : ShownChange → List ℕ
wip_line c = line (codes "wip" ∷ yes_or_no c.wip ∷ [])

-- `vote Code-Review +2 by 3`: a vote on the current patch set
abbrev pub vote_line : ShownVote → List ℕ
vote_line v = line (codes "vote" ∷ v.label ∷ vote_value v.value ∷ codes "by" ∷ numeral v.account ∷ [])

-- `requirement Code-Review SATISFIED`: how a submit requirement stands
unfoldable pub requirement_line : ShownRequirement → List ℕ
requirement_line r = line (codes "requirement" ∷ r.name ∷ status_name r.status ∷ [])

-- `attention 2 since 10: account 3 replied on the change`: who has to act, since which request, and why
unfoldable pub attention_line : ShownAttentionEntry → List ℕ
attention_line call = line (codes "attention" ∷ numeral call.account ∷ codes "since" ∷ (numeral call.request ++ codes ":") ∷ call.reason ∷ [])

-- the lines of what a change is
abbrev pub about_lines : ShownChange → List ℕ
about_lines c = state_line c ++ (subject_line c ++ (branch_line c ++ (role_line (codes "owner") c.owner ++ (patch_line c ++ wip_line c))))

-- the lines of its votes and of those who review it
abbrev pub reviewing_lines : ShownChange → List ℕ
reviewing_lines c = flat_map vote_line c.votes ++ (flat_map (role_line (codes "reviewer")) c.reviewers ++ flat_map (role_line (codes "cc")) c.ccs)

-- the page of a change: what it is, who reviews it, how its requirements stand, and who has to act
abbrev pub change_text : ShownChange → List ShownRequirement → List ShownAttentionEntry → List ℕ
change_text c requirements calls =
    about_lines c ++ (reviewing_lines c ++ (flat_map requirement_line requirements ++ flat_map attention_line calls))

-- `1 1 COMMIT`: the place of a change that joined its branch, the change, and the commit by which it joined
abbrev pub joined_line : ℕ → JoinedChange → List ℕ
joined_line place j = line (numeral place ∷ numeral j.change ∷ j.commit ∷ [])

-- the lines of changes whose first has this place
abbrev pub joined_from : ℕ → List JoinedChange → List ℕ
joined_from place [] = []
joined_from place (j ∷ js) = joined_line place j ++ joined_from (place + 1) js

-- the page of a branch: the changes that joined it, by their places from 1
abbrev pub joined_text : List JoinedChange → List ℕ
joined_text joined = joined_from 1 joined

-- ---- replies

-- a question about a change, asked by account 1
abbrev pub about : ℕ → ChangeQuery → Delivery
about change query = Read 1 (OnChange change query)

-- what is asked for the page of a change
abbrev pub change_questions : ℕ → List Delivery
change_questions change = about change asks.Change ∷ about change asks.Requirements ∷ about change asks.Attention ∷ []

-- what is asked for the page of a branch
abbrev pub branch_questions : List ℕ → List ℕ → List Delivery
branch_questions project branch = Read 1 (Branch project branch) ∷ []

-- the fault of a question that was not taken
abbrev pub untaken : Cause → ShowFault
untaken cause.Memory = Memory
untaken cause.Store = Store
untaken cause.Damaged = Damaged
untaken cause.Pattern = Pattern
untaken cause.Full = Damaged

-- the fault of a question that was refused: what isn't there; any other refusal comes from damaged tables
abbrev pub missing : Refusal → ShowFault
missing refusal.NoChange = NoChange
missing refusal.NoProject = NoProject
missing refusal.NoBranch = NoBranch
missing _ = Damaged

-- the answer of a reply, or why it has none
abbrev pub answer_of : Reply → Result Answer ShowFault
answer_of (Done a) = Ok a
answer_of (Refused r) = Err (missing r)
answer_of IdentityReused = Err Damaged
answer_of EpochClosed = Err Damaged
answer_of (NotTaken c) = Err (untaken c)

-- what is made of what was found, unless a fault came
abbrev pub if_told : {X Y : Type 0} → Result X ShowFault → (X → Result Y ShowFault) → Result Y ShowFault
if_told (Ok x) next = next x
if_told (Err fault) next = Err fault

-- the change of an answer
abbrev pub change_of : Answer → Result ShownChange ShowFault
change_of (answer.Shown c) = Ok c
change_of _ = Err Damaged

-- the submit requirements of an answer
abbrev pub requirements_of : Answer → Result (List ShownRequirement) ShowFault
requirements_of (answer.Requirements rs) = Ok rs
requirements_of _ = Err Damaged

-- the attention set of an answer
abbrev pub attention_of : Answer → Result (List ShownAttentionEntry) ShowFault
attention_of (answer.Attention calls) = Ok calls
attention_of _ = Err Damaged

-- the changes that joined, of an answer
abbrev pub joined_of : Answer → Result (List JoinedChange) ShowFault
joined_of (answer.Branch bases joined) = Ok joined
joined_of _ = Err Damaged

-- what a change's reply, that on its requirements and that on its attention set tell
abbrev pub change_told : Reply → Result ShownChange ShowFault
change_told r = if_told (answer_of r) change_of

abbrev pub requirements_told : Reply → Result (List ShownRequirement) ShowFault
requirements_told r = if_told (answer_of r) requirements_of

abbrev pub attention_told : Reply → Result (List ShownAttentionEntry) ShowFault
attention_told r = if_told (answer_of r) attention_of

-- what a branch's reply tells
abbrev pub joined_told : Reply → Result (List JoinedChange) ShowFault
joined_told r = if_told (answer_of r) joined_of

-- the page of a change from the three replies, or the fault of the first that tells nothing
abbrev pub page_of_three : Reply → Reply → Reply → Result (List ℕ) ShowFault
page_of_three first second third =
    if_told (change_told first) (λ c. if_told (requirements_told second) (λ rs. if_told (attention_told third) (λ calls. Ok (change_text c rs calls))))

-- the page of a change from the replies to its questions; they are missing where there was no memory for them
abbrev pub change_page : List Reply → Result (List ℕ) ShowFault
change_page (first ∷ second ∷ third ∷ []) = page_of_three first second third
change_page _ = Err Memory

-- the page of a branch from the reply to its question
abbrev pub joined_page : List Reply → Result (List ℕ) ShowFault
joined_page (r ∷ []) = if_told (joined_told r) (λ joined. Ok (joined_text joined))
joined_page _ = Err Memory
