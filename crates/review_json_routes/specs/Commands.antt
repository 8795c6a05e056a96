-- The commands that bodies complete routes to, which routes are questions, and which need a body.
use Rattle.std.specs.Prelude.{ℕ, List, Option, Some, None, option_and_then, codes, Bool, false, option_map, unwrap_or, if◌then◌else◌, not, ◌&&◌, is_some, is_none}
use Rattle.serde_json.specs.{Data.Data, Data.object, Data.no_members, Find.get, Find.as_str}
use Rattle.review_names.specs.Forms.{is_slashed_name, is_line, is_commit}
use Rattle.review_names.specs.{Names.is_word, Numerals.◌>>=◌, Numerals.account_of as account_shown}
use Rattle.review_words.specs.{Texts.role_named, declared.changes.NewChange.NewChange}
use Rattle.review_words.specs.declared.changes.{NewPatch.NewPatch, Role.Role, Role.TheVariants.Reviewer}
use Rattle.review_words.specs.declared.command.{ChangeCommand.ChangeCommand, Command.Command, Query.Query}
use Rattle.review_json_routes.specs.Parts.{account_of, or_absent, name_at, flag_at, kind_at, paths_at, text_at, members_at, epoch_at, body_spelled}
use Rattle.review_json_routes.specs.{Reviews.has_refused, Reviews.said, declared.route.ChangeRoute.ChangeRoute}
use Rattle.review_json_routes.specs.declared.route.ChangeRoute.TheVariants.{Upload, Review, AddReviewer, RemoveReviewer, SetWip, SetReady, Abandon, Restore, AddAttention, RemoveAttention}
use Rattle.review_json_routes.specs.declared.route.Route.{Route}
use Rattle.review_json_routes.specs.declared.route.Route.TheVariants.{CreateAccount, PutGroup, PutProject, RecordBase, CreateChange, OnChange, Submit, CloseEpoch, Branch, AskChange}
use Rattle.review_words.specs.declared.command.ChangeCommand.TheVariants as change_command
use Rattle.review_words.specs.declared.command.Command.TheVariants as command
use Rattle.review_words.specs.declared.command.Query.TheVariants as query

-- the account whose number a text shows, or without a text the account of a number
abbrev pub account_by : Option (List ℕ) → Data → Option ℕ
account_by (Some text) d = account_shown text
account_by None d = account_of d

-- an account by its number, or by the number's decimal text
abbrev pub account_named : Data → Option ℕ
account_named d = account_by (as_str d) d

-- the account that a member names
unfoldable pub account_named_at : List ℕ → Data → Option ℕ
account_named_at key d = option_and_then account_named (get key d)

-- a role by its name
abbrev pub role_of : Data → Option Role
role_of d = option_and_then role_named (as_str d)

-- the role that a body gives, a reviewer's where nothing is said of it
unfoldable pub role_in : Data → Option Role
role_in body = or_absent Reviewer role_of (get (codes "state") body)

-- whether a change is in work in progress, which it isn't where nothing is said of it
unfoldable pub wip_in : Data → Option Bool
wip_in body = option_map (λ flag. unwrap_or flag false) (flag_at (codes "work_in_progress") body)

-- the body has all parts of the change and of its first patch set
unfoldable pub new_change : Data → Option NewChange
new_change body = do
  project ← name_at is_slashed_name (codes "project") body
  branch ← name_at is_slashed_name (codes "branch") body
  subject ← name_at is_line (codes "subject") body
  commit ← name_at is_commit (codes "commit") body
  parent ← name_at is_commit (codes "parent") body
  paths ← paths_at (codes "paths") body
  wip ← wip_in body
  Some (record { project = project; branch = branch; subject = subject; commit = commit; parent = parent; paths = paths; wip = wip })

-- the body has all parts of the patch set
unfoldable pub new_patch : Data → Option NewPatch
new_patch body = do
  commit ← name_at is_commit (codes "commit") body
  parent ← name_at is_commit (codes "parent") body
  kind ← kind_at (codes "kind") body
  paths ← paths_at (codes "paths") body
  Some (record { commit = commit; parent = parent; kind = kind; paths = paths })

-- what is asked of a change, with what the body says of it
unfoldable pub change_command_in : ChangeRoute → Data → Option ChangeCommand
change_command_in Upload body = option_map (λ patch. change_command.Upload patch) (new_patch body)
change_command_in (Review patch) body = if has_refused body then None else option_map (λ what. change_command.Review what) (said patch body)
change_command_in AddReviewer body = do
  account ← account_named_at (codes "reviewer") body
  role ← role_in body
  Some (change_command.AddReviewer account role)
change_command_in (RemoveReviewer account) body = Some (change_command.RemoveReviewer account)
change_command_in SetWip body = Some change_command.SetWip
change_command_in SetReady body = Some change_command.SetReady
change_command_in Abandon body = Some change_command.Abandon
change_command_in Restore body = Some change_command.Restore
change_command_in AddAttention body = do
  account ← account_named_at (codes "user") body
  reason ← name_at is_line (codes "reason") body
  Some (change_command.AddAttention account reason)
change_command_in (RemoveAttention account) body = option_map (λ reason. change_command.RemoveAttention account reason) (name_at is_line (codes "reason") body)

-- the command that a body completes a route to, which is none where the route is a question
unfoldable pub command_in : Route → Data → Option Command
command_in CreateAccount body = option_map (λ name. command.CreateAccount name) (name_at is_word (codes "name") body)
command_in (PutGroup group) body = option_map (λ members. command.PutGroup group members) (members_at (codes "members") body)
command_in (PutProject project) body = option_map (λ file. command.PutProject project file) (text_at (codes "file") body)
command_in (RecordBase project branch) body = option_map (λ commit. command.RecordBase project branch commit) (name_at is_commit (codes "commit") body)
command_in CreateChange body = option_map (λ change. command.CreateChange change) (new_change body)
command_in (OnChange change asked) body = option_map (λ what. command.OnChange change what) (change_command_in asked body)
command_in (Submit change) body = Some (command.Submit change)
command_in CloseEpoch body = option_map (λ epoch. command.CloseEpoch epoch) (epoch_at (codes "epoch") body)
command_in (Branch project branch) body = None
command_in (AskChange change query) body = None

-- the command that the bytes of a body complete a route to
unfoldable pub command_of : Route → List ℕ → Option Command
command_of route bytes = option_and_then (command_in route) (body_spelled bytes)

-- the question that a route is
abbrev pub query_of : Route → Option Query
query_of (Branch project branch) = Some (query.Branch project branch)
query_of (AskChange change asked) = Some (query.OnChange change asked)
query_of _ = None

-- whether a route is a question
abbrev pub is_question : Route → Bool
is_question route = is_some (query_of route)

-- whether a route needs a body: it is a command, and `{}` completes it to none
abbrev pub needs_body : Route → Bool
needs_body route = not (is_question route) && is_none (command_in route (object no_members))
