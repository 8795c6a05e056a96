-- The delivery that a line spells, and its route.
use Rattle.std.specs.Prelude.{ℕ, List, if◌then◌else◌, Option, Some, None, option_map, option_and_then, codes}
use Rattle.std.specs.Str.{bytes_eq}
use Rattle.serde_json.specs.{Data.Data, Data.object, Data.no_members, Find.get}
use Rattle.review_names.specs.{Forms.is_slashed_name, Names.is_word, Numerals.◌>>=◌}
use Rattle.review_words.specs.declared.command.ChangeQuery.{ChangeQuery}
use Rattle.review_words.specs.declared.command.ChangeQuery.TheVariants.{Change, Requirements, Threads, Attention}
use Rattle.review_words.specs.declared.command.{Command.Command, Delivery.Delivery}
use Rattle.review_words.specs.declared.command.Delivery.TheVariants.{Write, Read}
use Rattle.review_json_routes.specs.Commands.{command_in, query_of, is_question}
use Rattle.review_json_routes.specs.Parts.{name_at, account_at, change_at, or_absent, text_at, epoch_or_first, value_spelled, if_object}
use Rattle.review_json_routes.specs.{Reviews.patch_in, declared.route.ChangeRoute.ChangeRoute}
use Rattle.review_json_routes.specs.declared.route.ChangeRoute.TheVariants.{Upload, Review, AddReviewer, RemoveReviewer, SetWip, SetReady, Abandon, Restore, AddAttention, RemoveAttention}
use Rattle.review_json_routes.specs.declared.route.Route.{Route}
use Rattle.review_json_routes.specs.declared.route.Route.TheVariants.{CreateAccount, PutGroup, PutProject, RecordBase, CreateChange, OnChange, Submit, CloseEpoch, Branch, AskChange}

-- what a question of the name asks of a change
unfoldable pub change_query_named : List ℕ → Option ChangeQuery
change_query_named name =
    if bytes_eq name (codes "Change") then Some Change
    else (if bytes_eq name (codes "Requirements") then Some Requirements
    else (if bytes_eq name (codes "Threads") then Some Threads
    else (if bytes_eq name (codes "Attention") then Some Attention else None)))

-- what a command of the name asks of a change: the line of a review has the patch set, that of a removal the account
unfoldable pub change_route_named : List ℕ → Data → Option ChangeRoute
change_route_named name line =
    if bytes_eq name (codes "Upload") then Some Upload
    else (if bytes_eq name (codes "Review") then option_map (λ patch. Review patch) (patch_in line)
    else (if bytes_eq name (codes "AddReviewer") then Some AddReviewer
    else (if bytes_eq name (codes "RemoveReviewer") then option_map (λ account. RemoveReviewer account) (account_at (codes "account") line)
    else (if bytes_eq name (codes "SetWip") then Some SetWip
    else (if bytes_eq name (codes "SetReady") then Some SetReady
    else (if bytes_eq name (codes "Abandon") then Some Abandon
    else (if bytes_eq name (codes "Restore") then Some Restore
    else (if bytes_eq name (codes "AddAttention") then Some AddAttention
    else (if bytes_eq name (codes "RemoveAttention") then option_map (λ account. RemoveAttention account) (account_at (codes "account") line) else None)))))))))

-- the question about a change, where there is one, or what is asked of it otherwise
abbrev pub asked_or : ℕ → Option ChangeRoute → Option ChangeQuery → Option Route
asked_or change asked (Some query) = Some (AskChange change query)
asked_or change asked None = option_map (λ what. OnChange change what) asked

-- the line has the change, of which something is asked under a name
unfoldable pub route_of_change : List ℕ → Data → Option Route
route_of_change name line = option_and_then (λ change. asked_or change (change_route_named name line) (change_query_named name)) (change_at (codes "change") line)

-- the line has the project and the branch
abbrev pub of_branch : (List ℕ → List ℕ → Route) → Data → Option Route
of_branch route line = do
  project ← name_at is_slashed_name (codes "project") line
  branch ← name_at is_slashed_name (codes "branch") line
  Some (route project branch)

-- the route of a name, with what it needs of the line
unfoldable pub route_named : List ℕ → Data → Option Route
route_named name line =
    if bytes_eq name (codes "CreateAccount") then Some CreateAccount
    else (if bytes_eq name (codes "PutGroup") then option_map (λ group. PutGroup group) (name_at is_word (codes "group") line)
    else (if bytes_eq name (codes "PutProject") then option_map (λ project. PutProject project) (name_at is_slashed_name (codes "project") line)
    else (if bytes_eq name (codes "RecordBase") then of_branch (λ project branch. RecordBase project branch) line
    else (if bytes_eq name (codes "CreateChange") then Some CreateChange
    else (if bytes_eq name (codes "Submit") then option_map (λ change. Submit change) (change_at (codes "change") line)
    else (if bytes_eq name (codes "CloseEpoch") then Some CloseEpoch
    else (if bytes_eq name (codes "Branch") then of_branch (λ project branch. Branch project branch) line else route_of_change name line)))))))

-- the body of a line, an object, `{}` where it is absent
unfoldable pub body_in : Data → Option Data
body_in line = or_absent (object no_members) if_object (get (codes "body") line)

-- the command that the body of a line completes a route to
unfoldable pub command_in_line : Route → Data → Option Command
command_in_line route line = option_and_then (command_in route) (body_in line)

-- a write: the request's id, its epoch, which is the first one where the line names none, and the command
unfoldable pub write_in : ℕ → Route → Data → Option Delivery
write_in caller route line = do
  id ← name_at is_word (codes "id") line
  epoch ← epoch_or_first (codes "epoch") line
  command ← command_in_line route line
  Some (Write caller epoch id command)

-- a read: the question, without an id, an epoch and a body
unfoldable pub read_in : ℕ → Route → Option Delivery
read_in caller route = option_map (λ query. Read caller query) (query_of route)

-- the caller, and the question or the command on the route of the member `do`
unfoldable pub delivery_in : Data → Option Delivery
delivery_in line = do
  caller ← account_at (codes "caller") line
  name ← text_at (codes "do") line
  route ← route_named name line
  if is_question route then read_in caller route else write_in caller route line

-- the delivery that the bytes of a line spell
unfoldable pub delivery_spelled : List ℕ → Option Delivery
delivery_spelled bytes = option_and_then delivery_in (value_spelled bytes)
