-- Routes, each what a method asks of the resource that a path names: the segments of a path, the names and numbers that they are once decoded, and the methods that a resource takes.
use Rattle.std.specs.List.{slice_index_or, slice_split}
use Rattle.std.specs.Prelude.{ℕ, List, [], Bool, if◌then◌else◌, Option, Some, None, option_map, option_and_then, codes, ◌==◌, ◌||◌}
use Rattle.{std.specs.Str.bytes_eq, percent_encoding.specs.Percent.percent_decode}
use Rattle.review_names.specs.Forms.{most_changes, most_patches, is_slashed_name}
use Rattle.review_names.specs.{Names.is_word, Numerals.account_of, Numerals.number_of}
use Rattle.review_json_routes.specs.Parts.{within, name_of_bytes}
use Rattle.review_json_routes.specs.declared.route.{ChangeRoute.ChangeRoute, Route.Route}
use Rattle.review_json_routes.specs.declared.route.Route.TheVariants.{CreateAccount, PutGroup, PutProject, RecordBase, CreateChange, OnChange, Submit, CloseEpoch, Branch, AskChange}
use Rattle.review_http_requests.specs.declared.methods.Methods.{Methods}
use Rattle.review_http_requests.specs.declared.methods.Methods.TheVariants.{Get, GetAndPost, GetAndPut, Post, Put}
use Rattle.review_http_requests.specs.declared.table.Resource.{Resource}
use Rattle.review_words.specs.declared.command.ChangeQuery.TheVariants as query
use Rattle.review_json_routes.specs.declared.route.ChangeRoute.TheVariants as asked
use Rattle.review_http_requests.specs.declared.table.Resource.TheVariants as resource

-- what stands behind so many slashes of a path, up to the next slash or the end of the path; nothing where the path has fewer slashes
abbrev pub segment : ℕ → List ℕ → List ℕ
segment index path = slice_index_or (slice_split (λ b. b == 47) path) index []

-- the name that a segment is once decoded
unfoldable pub name_in : (List ℕ → Bool) → List ℕ → Option (List ℕ)
name_in is_form segment = name_of_bytes is_form (percent_decode segment)

-- the account whose number a segment is once decoded
unfoldable pub account_in : List ℕ → Option ℕ
account_in segment = account_of (percent_decode segment)

-- the number that bytes show, up to the greatest one
abbrev pub numbered : ℕ → List ℕ → Option ℕ
numbered most bytes = option_and_then (within most) (number_of bytes)

-- the patch set that bytes mean: `current`, which no number stands for, or one by its number
abbrev pub patch_shown : List ℕ → Option (Option ℕ)
patch_shown bytes = if bytes_eq bytes (codes "current") then Some None else option_map (λ patch. Some patch) (numbered most_patches bytes)

-- the patch set that a segment means once decoded
unfoldable pub patch_in : List ℕ → Option (Option ℕ)
patch_in segment = patch_shown (percent_decode segment)

-- ---- methods

-- the names of methods in the order of bytes, with a comma and a space between them
abbrev pub methods_text : Methods → List ℕ
methods_text Get = codes "GET"
methods_text GetAndPost = codes "GET, POST"
methods_text GetAndPut = codes "GET, PUT"
methods_text Post = codes "POST"
methods_text Put = codes "PUT"

-- whether a method is one of these, told apart by case
abbrev pub takes : Methods → List ℕ → Bool
takes Get method = bytes_eq method (codes "GET")
takes GetAndPost method = bytes_eq method (codes "GET") || bytes_eq method (codes "POST")
takes GetAndPut method = bytes_eq method (codes "GET") || bytes_eq method (codes "PUT")
takes Post method = bytes_eq method (codes "POST")
takes Put method = bytes_eq method (codes "PUT")

-- the methods that a resource takes
abbrev pub methods_of : Resource → Methods
methods_of (resource.Asked query) = Get
methods_of resource.Attention = GetAndPost
methods_of resource.Branch = GetAndPut
methods_of resource.Group = Put
methods_of resource.Project = Put
methods_of _ = Post

-- ---- routes

-- a branch of a project, the second and the fourth segment: it is asked for, or a base of it is recorded
unfoldable pub branch_at : Bool → List ℕ → Option Route
branch_at is_get path =
    option_and_then (λ project. option_map (λ branch. if is_get then Branch project branch else RecordBase project branch) (name_in is_slashed_name (segment 4 path))) (name_in is_slashed_name (segment 2 path))

-- the change whose number the second segment of a path is once decoded
unfoldable pub change_at : List ℕ → Option ℕ
change_at path = numbered most_changes (percent_decode (segment 2 path))

-- what is asked of the change that a path names
abbrev pub on_change : ChangeRoute → List ℕ → Option Route
on_change asked path = option_map (λ change. OnChange change asked) (change_at path)

-- the attention set of a change: it is asked for, or added to
abbrev pub attention_at : Bool → List ℕ → Option Route
attention_at is_get path = option_map (λ change. if is_get then AskChange change query.Attention else OnChange change asked.AddAttention) (change_at path)

-- the route of a path that names a resource, asked for by GET or not: its segments decoded, of which the fourth is an account, a patch set or a branch
unfoldable pub route_at : Resource → Bool → List ℕ → Option Route
route_at resource.Accounts is_get path = Some CreateAccount
route_at resource.Group is_get path = option_map (λ group. PutGroup group) (name_in is_word (segment 2 path))
route_at resource.Project is_get path = option_map (λ project. PutProject project) (name_in is_slashed_name (segment 2 path))
route_at resource.Branch is_get path = branch_at is_get path
route_at resource.Changes is_get path = Some CreateChange
route_at (resource.Asked query) is_get path = option_map (λ change. AskChange change query) (change_at path)
route_at resource.Attention is_get path = attention_at is_get path
route_at resource.Revisions is_get path = on_change asked.Upload path
route_at resource.Review is_get path = option_and_then (λ patch. on_change (asked.Review patch) path) (patch_in (segment 4 path))
route_at resource.Reviewers is_get path = on_change asked.AddReviewer path
route_at resource.ReviewerDelete is_get path = option_and_then (λ account. on_change (asked.RemoveReviewer account) path) (account_in (segment 4 path))
route_at resource.Wip is_get path = on_change asked.SetWip path
route_at resource.Ready is_get path = on_change asked.SetReady path
route_at resource.Abandon is_get path = on_change asked.Abandon path
route_at resource.Restore is_get path = on_change asked.Restore path
route_at resource.Submit is_get path = option_map (λ change. Submit change) (change_at path)
route_at resource.AttentionDelete is_get path = option_and_then (λ account. on_change (asked.RemoveAttention account) path) (account_in (segment 4 path))
route_at resource.EpochsClose is_get path = Some CloseEpoch
