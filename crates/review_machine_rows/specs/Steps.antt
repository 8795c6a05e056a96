-- What a command or a question asks of the tables, in steps.
use Rattle.std.specs.List.{All, filter}
use Rattle.std.specs.Prelude.{ℕ, zero, suc, Bool, true, false, ◌+◌, ◌<◌, ◌≡◌, ◌&&◌, Option, Some, None, List, [], ◌∷◌, ◌++◌, map, flat_map, option_map, option_and_then, option_to_list, not, is_some, length, if◌then◌else◌}
use Rattle.review_names.specs.Names.{administrators}
use Rattle.review_words.specs.declared.{changes.Given.Given, command.ChangeCommand.ChangeCommand}
use Rattle.review_words.specs.declared.command.ChangeCommand.TheVariants.{Upload, Review, AddReviewer, RemoveReviewer, Abandon, Restore, AddAttention, RemoveAttention}
use Rattle.review_words.specs.declared.command.ChangeQuery.{ChangeQuery, TheVariants.Requirements}
use Rattle.review_words.specs.declared.command.Command.{Command}
use Rattle.review_words.specs.declared.command.Command.TheVariants.{CreateAccount, PutGroup, PutProject, RecordBase, CreateChange, OnChange, Submit, CloseEpoch}
use Rattle.review_words.specs.declared.command.Query.{Query}
use Rattle.review_chain.specs.Parts.{HasWalked, Want as ChainWant, TheChange, TheCommit}
use Rattle.review_chain.specs.{Steps.wanted, Steps.left as left_in_chain, declared.walks.Walked.Walked}
use Rattle.review_file_rules.specs.{Inherited.IsEffective, Named.copy_groups, Named.required_groups}
use Rattle.review_file_rules.specs.{Reading.named_parent, Rights.grants_of}
use Rattle.review_core_rules.specs.Change.{Change, is_open}
use Rattle.review_machine_rows.specs.Files.{File}
use Rattle.review_machine_rows.specs.Known.{known, IsKnown, StaysKnown, change_in, file_in}
use Rattle.review_machine_rows.specs.{Lines.line_of, Lines.most_depth, Links.links_in, declared.matter.Matter.Matter}
use Rattle.review_machine_rows.specs.declared.rows.{Need.Need, Rows.Rows, StoredFile.StoredFile, Want.Want}
use Rattle.review_machine_rows.specs.declared.step.Step.{Step}
use Rattle.review_words.specs.declared.command.Query.TheVariants as asked
use Rattle.review_machine_rows.specs.declared.rows.Counted.TheVariants as counted
use Rattle.review_machine_rows.specs.declared.rows.Want.TheVariants as want
use Rattle.review_machine_rows.specs.declared.step.Step.TheVariants as step
use Rattle.review_machine_rows.specs.declared.matter.Matter.TheVariants as matter

-- what is to be answered, as a value
pub data Topic : Type 0 where
  OfCommand : Command → Topic
  OfQuery : Query → Topic

-- the value of what is to be answered
abbrev pub topic_of : Matter → Topic
topic_of (matter.Command command) = OfCommand command.now
topic_of (matter.Query query) = OfQuery query.now

-- whether a request on a change is judged by who runs the change
abbrev pub is_for_who_runs : ChangeCommand → Bool
is_for_who_runs (Upload patch) = false
is_for_who_runs (Review review) = false
is_for_who_runs (AddReviewer account role) = false
is_for_who_runs (AddAttention account reason) = false
is_for_who_runs (RemoveAttention account reason) = false
is_for_who_runs _ = true

-- whether a command is judged by whether the caller is an administrator
abbrev pub asks_admin : Command → Bool
asks_admin (CreateChange new) = false
asks_admin (OnChange change command) = is_for_who_runs command
asks_admin (Submit change) = false
asks_admin _ = true

-- whether the caller is an administrator, where that is asked
abbrev pub admin_wants : ℕ → Bool → List Want
admin_wants caller true = want.Member (record { group = administrators; account = caller }) ∷ []
admin_wants caller false = []

-- every command asks how many requests there are, whether the caller is an account, and, where it is judged by that, whether an administrator
abbrev pub caller_wants : ℕ → Command → List Want
caller_wants caller command = want.Requests ∷ want.Account caller ∷ admin_wants caller (asks_admin command)

-- whether a commit is known in a branch: as a base, or as that of a patch set
abbrev pub commit_wants : List ℕ → List ℕ → List ℕ → List Want
commit_wants project branch commit =
    want.Base (record { project = project; branch = branch; commit = commit }) ∷ want.ChangeOf (record { project = project; branch = branch; commit = commit }) ∷ []

-- what a new patch set asks of the project and the branch that its change is for
abbrev pub patch_wants : List ℕ → List ℕ → List ℕ → List ℕ → List Want
patch_wants project branch commit parent = want.File project ∷ (commit_wants project branch commit ++ commit_wants project branch parent)

-- the account that a request on a change names
abbrev pub named_in : ChangeCommand → List ℕ
named_in (AddReviewer account role) = account ∷ []
named_in (RemoveReviewer account) = account ∷ []
named_in (AddAttention account reason) = account ∷ []
named_in (RemoveAttention account reason) = account ∷ []
named_in _ = []

-- what a command asks beside that
abbrev pub command_wants : Command → List Want
command_wants (CreateAccount name) = want.AccountNamed name ∷ want.LastAccount ∷ []
command_wants (PutGroup group members) = want.Group group ∷ map want.Account members
command_wants (PutProject project file) = want.File project ∷ want.Room counted.Projects ∷ []
command_wants (RecordBase project branch commit) =
    want.Project project
    ∷ (commit_wants project branch commit ++ want.Room (counted.BasesOf project) ∷ want.LastPlace (record { project = project; branch = branch }) ∷ [])
command_wants (CreateChange new) =
    want.LastPlace (record { project = new.project; branch = new.branch }) ∷ want.LastChange ∷ patch_wants new.project new.branch new.commit new.parent
command_wants (OnChange change command) = want.Change change ∷ map want.Account (named_in command)
command_wants (Submit change) = want.Change change ∷ []
command_wants (CloseEpoch least) = want.LeastEpoch ∷ []

-- what a question asks
abbrev pub query_wants : ℕ → Query → List Want
query_wants caller (asked.Branch project branch) =
    want.Account caller ∷ want.Project project ∷ want.Bases (record { project = project; branch = branch }) ∷ want.Joined (record { project = project; branch = branch }) ∷ []
query_wants caller (asked.OnChange change query) = want.Account caller ∷ want.Change change ∷ []

-- what a command or a question asks first
abbrev pub first_wants : ℕ → Topic → List Want
first_wants caller (OfCommand command) = caller_wants caller command ++ command_wants command
first_wants caller (OfQuery query) = query_wants caller query

-- whether values on labels are given
abbrev pub has_some : List Given → Bool
has_some [] = false
has_some (g ∷ gs) = true

-- what values on labels ask: the project's file; nothing where none are given
abbrev pub given_wants : List Given → List ℕ → List Want
given_wants [] project = []
given_wants (g ∷ gs) project = want.File project ∷ []

-- what a request on a change asks by it
abbrev pub request_wants : ChangeCommand → Change → List Want
request_wants (Upload patch) c = patch_wants c.project c.branch patch.commit patch.parent
request_wants (Review review) c = given_wants review.labels c.project
request_wants Abandon c = want.File c.project ∷ []
request_wants Restore c = want.File c.project ∷ []
request_wants _ c = []

-- what a submit asks by its change: the project's file, and the last place that a change joined the branch at
abbrev pub submit_wants : Change → List Want
submit_wants c = want.File c.project ∷ want.LastJoined (record { project = c.project; branch = c.branch }) ∷ []

-- what a question about a change asks by it
abbrev pub question_wants : ChangeQuery → Change → List Want
question_wants Requirements c = want.File c.project ∷ []
question_wants _ c = []

-- what is asked by a change, where there is one
abbrev pub wants_by : (Change → List Want) → Option Change → List Want
wants_by each None = []
wants_by each (Some c) = each c

-- what a command or a question asks next, by the change that it names
abbrev pub change_wants : Rows → Topic → List Want
change_wants rows (OfCommand (OnChange change command)) = wants_by (request_wants command) (change_in (known rows (want.Change change)))
change_wants rows (OfCommand (Submit change)) = wants_by submit_wants (change_in (known rows (want.Change change)))
change_wants rows (OfQuery (asked.OnChange change query)) = wants_by (question_wants query) (change_in (known rows (want.Change change)))
change_wants rows topic = []

-- whether the caller is in these groups
abbrev pub caller_in : ℕ → List (List ℕ) → List Want
caller_in caller groups = map (λ group. want.Member (record { group = group; account = caller })) groups

-- the groups that have a range of one of these labels
abbrev pub granted_groups : File → List Given → List (List ℕ)
granted_groups file given = flat_map (λ g. map (λ grant. grant.group) (grants_of file g.label)) given

-- what a request on a change asks of groups, by the project's file: whether the caller is in those of a right or of a range, and the members of those that copy conditions name
abbrev pub request_groups : File → ℕ → ChangeCommand → List Want
request_groups file caller (Upload patch) = caller_in caller file.access.upload ++ map want.Group (copy_groups file)
request_groups file caller (Review review) = caller_in caller (granted_groups file review.labels)
request_groups file caller Abandon = caller_in caller file.access.abandon
request_groups file caller Restore = caller_in caller file.access.abandon
request_groups file caller _ = []

-- what a submit asks of groups, by the project's file: whether the caller is in those that may submit, and the members of those that submit requirements name
abbrev pub submit_groups : File → ℕ → List Want
submit_groups file caller = caller_in caller file.access.submit ++ map want.Group (required_groups file)

-- what a question about a change asks of groups, by the project's file: the members of those that submit requirements name
abbrev pub question_groups : File → ChangeQuery → List Want
question_groups file Requirements = map want.Group (required_groups file)
question_groups file _ = []

-- what is asked of groups, by the file that was read
abbrev pub file_wants : Option File → ℕ → Topic → List Want
file_wants None caller topic = []
file_wants (Some file) caller (OfCommand (CreateChange new)) = caller_in caller file.access.create
file_wants (Some file) caller (OfCommand (OnChange change command)) = request_groups file caller command
file_wants (Some file) caller (OfCommand (Submit change)) = submit_groups file caller
file_wants (Some file) caller (OfQuery (asked.OnChange change query)) = question_groups file query
file_wants (Some file) caller topic = []

-- whether a request on a change is judged by the file of the change's project: a review only where it gives values on labels
abbrev pub needs_file : ChangeCommand → Bool
needs_file (Upload patch) = true
needs_file (Review review) = has_some review.labels
needs_file Abandon = true
needs_file Restore = true
needs_file _ = false

-- whether a question about a change is answered by the file of the change's project
abbrev pub asks_file : ChangeQuery → Bool
asks_file Requirements = true
asks_file _ = false

-- the project of a change, where its file is needed
abbrev pub project_for : Bool → Option Change → Option (List ℕ)
project_for true found = option_map (λ c. c.project) found
project_for false found = None

-- the project by whose file a command or a question is judged, as rows know it
abbrev pub project_of : Rows → Topic → Option (List ℕ)
project_of rows (OfCommand (PutProject project text)) = Some project
project_of rows (OfCommand (CreateChange new)) = Some new.project
project_of rows (OfCommand (OnChange change command)) = project_for (needs_file command) (change_in (known rows (want.Change change)))
project_of rows (OfCommand (Submit change)) = project_for true (change_in (known rows (want.Change change)))
project_of rows (OfQuery (asked.OnChange change query)) = project_for (asks_file query) (change_in (known rows (want.Change change)))
project_of rows topic = None

-- the file that a project is known to have of its own
abbrev pub own_in : Rows → List ℕ → Option StoredFile
own_in rows project = file_in (known rows (want.File project))

-- the parent that a project is known to have
abbrev pub known_parent : Rows → List ℕ → Option (List ℕ)
known_parent rows project = option_and_then (λ f. f.parent) (own_in rows project)

-- the parent of a file that is there, or else this one
abbrev pub parent_or : Option (List ℕ) → Option StoredFile → Option (List ℕ)
parent_or named None = named
parent_or named (Some f) = f.parent

-- the parent of the project by whose file a command or a question is judged; of a project that gets its first file the one that this names
abbrev pub parent_of : Rows → Topic → Option (List ℕ)
parent_of rows (OfCommand (PutProject project text)) = parent_or (named_parent text) (own_in rows project)
parent_of rows topic = option_and_then (known_parent rows) (project_of rows topic)

-- the file of a project, where there is one to ask for
abbrev pub line_wants : Option (List ℕ) → List Want
line_wants None = []
line_wants (Some project) = want.File project ∷ []

-- what is asked of a project and its ancestors: one file in each step
abbrev pub line_steps : Rows → ℕ → Option (List ℕ) → List (List Want)
line_steps rows zero project = []
line_steps rows (suc n) project = line_wants project ∷ line_steps rows n (option_and_then (known_parent rows) project)

-- The look-ups of a command or a question, step by step, where this file was read: what a step asks may depend on what the steps before it found.
abbrev pub steps : Option File → Rows → ℕ → Topic → List (List Want)
steps file rows caller topic = first_wants caller topic ∷ change_wants rows topic ∷ (line_steps rows most_depth (parent_of rows topic) ++ file_wants file caller topic ∷ [])

-- the texts of the line of a project, its own first, as rows know them
abbrev pub texts_in : Rows → Option (List ℕ) → List (List ℕ)
texts_in rows None = []
texts_in rows (Some project) = line_of (own_in rows) most_depth project

-- the texts of the file that is to be read, its own first
abbrev pub texts_for : Rows → Topic → List (List ℕ)
texts_for rows topic = texts_in rows (project_of rows topic)

-- the texts of the parent from whose file a file that is put goes on
abbrev pub texts_above : Rows → Command → List (List ℕ)
texts_above rows (PutProject project text) = texts_in rows (parent_of rows (OfCommand (PutProject project text)))
texts_above rows command = []

-- The file that is read, which is the effective one of these texts; none where there are no texts.
abbrev pub HasFile : List (List ℕ) → Option File → Type 0
HasFile [] file = file ≡ None
HasFile (text ∷ above) file = (f : File) × IsEffective (text ∷ above) f × (file ≡ Some f)

-- those of some look-ups that weren't made
abbrev pub unknown : Rows → List Want → List Want
unknown rows wants = filter (λ w. not (is_some (known rows w))) wants

-- the first list, or else the second where it is empty
abbrev pub or_next : List Want → List Want → List Want
or_next [] later = later
or_next (w ∷ ws) later = w ∷ ws

-- what is to be asked next: the look-ups of the first step that has some left
abbrev pub next_of : Rows → List (List Want) → List Want
next_of rows [] = []
next_of rows (step ∷ later) = or_next (unknown rows step) (next_of rows later)

-- what is looked up for what a chain wants in the branch
abbrev pub look_up : List ℕ → List ℕ → ChainWant → Want
look_up project branch (TheChange n) = want.Change n
look_up project branch (TheCommit x) = want.Standing (record { project = project; branch = branch; commit = x })

-- what is wanted for the chain of a change: nothing where it isn't open or is in work in progress
abbrev pub wanted_for : Rows → ℕ → Change → Option ChainWant
wanted_for rows n c = if is_open c.state && not c.wip then wanted (links_in rows c.project c.branch) n else None

-- what the chain of a change asks
abbrev pub chain_wants : Rows → ℕ → Change → List Want
chain_wants rows n c = option_to_list (option_map (look_up c.project c.branch) (wanted_for rows n c))

-- What a command or a question asks last, one look-up after the other: a submit what is wanted for the chain of its change.
abbrev pub last_wants : Rows → Topic → List Want
last_wants rows (OfCommand (Submit change)) = unknown rows (wants_by (chain_wants rows change) (change_in (known rows (want.Change change))))
last_wants rows topic = []

-- what a command or a question asks next; nothing where the rows decide it
abbrev pub next : Option File → Rows → ℕ → Topic → List Want
next file rows caller topic = or_next (next_of rows (steps file rows caller topic)) (last_wants rows topic)

-- the look-ups of a need, where there is one
abbrev pub wants_in : Option Need → Option (List Want)
wants_in None = None
wants_in (Some need) = Some need.wants.items

-- some look-ups; nothing where there are none
abbrev pub unless_none : List Want → Option (List Want)
unless_none [] = None
unless_none (w ∷ ws) = Some (w ∷ ws)

-- how many steps are left, where the first has these look-ups left
abbrev pub left_where : List Want → ℕ → ℕ → ℕ
left_where [] later all = later
left_where (w ∷ ws) later all = all

-- how many look-ups are left for the chain of a change
abbrev pub chain_left : Rows → ℕ → Option Change → ℕ
chain_left rows n None = 0
chain_left rows n (Some c) = left_in_chain (links_in rows c.project c.branch) n

-- how many look-ups are left of those that are asked last
abbrev pub last_of : Rows → Topic → ℕ
last_of rows (OfCommand (Submit change)) = chain_left rows change (change_in (known rows (want.Change change)))
last_of rows topic = 0

-- how many are left where these are asked: none where nothing is
abbrev pub left_if : List Want → ℕ → ℕ
left_if [] more = 0
left_if (w ∷ ws) more = more + 1

-- how many are left, where this many steps are left before those that are asked last
abbrev pub left_before : ℕ → ℕ → ℕ
left_before zero last = last
left_before (suc steps) last = 201 + suc steps

-- how many of the steps are left
abbrev pub left_of : Rows → List (List Want) → ℕ
left_of rows [] = 0
left_of rows (step ∷ later) = left_where (unknown rows step) (left_of rows later) (length later + 1)

-- how many steps of a command or a question are left
abbrev pub left : Option File → Rows → ℕ → Topic → ℕ
left file rows caller topic = left_before (left_of rows (steps file rows caller topic)) (left_if (last_wants rows topic) (last_of rows topic))

-- where something is asked next, rows that know it have fewer steps left
abbrev pub AskingLowers : Type 0
AskingLowers = (file : Option File) (rows more : Rows) (caller : ℕ) (topic : Topic) (w : Want) (ws : List Want) →
    next file rows caller topic ≡ w ∷ ws → All (IsKnown more) (w ∷ ws) → StaysKnown rows more → left file more caller topic < left file rows caller topic

-- a walk to the change of this number, which is open and not in work in progress, in its branch
pub record IsWalkTo (rows : Rows) (n : ℕ) (w : Walked) : Type 0 where
  pub change_is : w.change ≡ n
  pub change : Change
  pub found : change_in (known rows (want.Change n)) ≡ Some change
  pub is_ready : is_open change.state && not change.wip ≡ true
  pub walks : HasWalked (links_in rows change.project change.branch) w

-- the walk that a look for the chain of a change has come to, if it was begun
abbrev pub MayGoOn : Rows → ℕ → Option Walked → Type 0
MayGoOn rows n None = Unit {0}
MayGoOn rows n (Some w) = IsWalkTo rows n w

-- the same of what is to be answered: only a submit begins one, to its change
abbrev pub MayGoOnFor : Rows → Topic → Option Walked → Type 0
MayGoOnFor rows topic None = Unit {0}
MayGoOnFor rows topic (Some w) = (topic ≡ OfCommand (Submit w.change)) × IsWalkTo rows w.change w

-- How far asking has come: of the steps before this one nothing is left, and a walk that was begun may go on.
abbrev pub HasComeTo : Option File → Rows → ℕ → Topic → Step → Type 0
HasComeTo file rows caller topic step.First = Unit {0}
HasComeTo file rows caller topic step.ByChange = unknown rows (first_wants caller topic) ≡ []
HasComeTo file rows caller topic step.Above = (unknown rows (first_wants caller topic) ≡ []) × (unknown rows (change_wants rows topic) ≡ [])
HasComeTo file rows caller topic step.ByFile =
    (unknown rows (first_wants caller topic) ≡ []) × (unknown rows (change_wants rows topic) ≡ []) × (next_of rows (line_steps rows most_depth (parent_of rows topic)) ≡ [])
HasComeTo file rows caller topic (step.Last walked) = (next_of rows (steps file rows caller topic) ≡ []) × MayGoOnFor rows topic walked

-- once these look-ups are made beside what was known, asking has come to this step
abbrev pub ComesTo : Option File → Rows → ℕ → Topic → List Want → Step → Type 0
ComesTo file rows caller topic wants step = (more : Rows) → All (IsKnown more) wants → StaysKnown rows more → HasComeTo file more caller topic step
