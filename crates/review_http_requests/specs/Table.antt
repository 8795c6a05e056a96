-- The table of paths, as the router's definition has it.
use Rattle.std.specs.Prelude.{ℕ, List, [], ◌∷◌, Option, option_map, codes, Result, Ok, Err, ◌≡◌, length}
use Rattle.matchit.specs.{Order.placed, Route.Scan, Route.parse_route, Router.RouteOf, Router.route_from, Rows.RowsOf}
use Rattle.matchit.specs.{Seek.first, declared.error.InsertError.InsertError}
use Rattle.review_words.specs.declared.command.ChangeQuery.TheVariants.{Change, Requirements, Threads}
use Rattle.review_http_requests.specs.declared.table.Resource.{Resource}
use Rattle.review_http_requests.specs.declared.table.Resource.TheVariants.{Accounts, Group, Project, Branch, Changes, Asked, Attention, Revisions, Review, Reviewers, ReviewerDelete, Wip, Ready, Abandon, Restore, Submit, AttentionDelete, EpochsClose}

-- paths as the router keeps them, each with the resource that it names
abbrev pub Rows : Type 0
Rows = RowsOf (RouteOf Resource)

-- the paths with one more, as the router read it
abbrev pub add_read : Result Scan InsertError → Resource → Rows → Rows
add_read (Ok s) resource rows = placed ((route_from s resource).pattern, route_from s resource) rows
add_read (Err e) resource rows = rows

-- the paths with one more
unfoldable pub with_path : List ℕ → Resource → Rows → Rows
with_path text resource rows = add_read (parse_route text) resource rows

-- the paths that there are, each with the resource that it names; a name or a number is left open between braces
abbrev pub paths : List (List ℕ × Resource)
paths =
    (codes "/accounts", Accounts)
    ∷ (codes "/groups/{group}", Group)
    ∷ (codes "/projects/{project}", Project)
    ∷ (codes "/projects/{project}/branches/{branch}", Branch)
    ∷ (codes "/changes/", Changes)
    ∷ (codes "/changes/{change}", Asked Change)
    ∷ (codes "/changes/{change}/requirements", Asked Requirements)
    ∷ (codes "/changes/{change}/threads", Asked Threads)
    ∷ (codes "/changes/{change}/attention", Attention)
    ∷ (codes "/changes/{change}/revisions", Revisions)
    ∷ (codes "/changes/{change}/revisions/{patch_set}/review", Review)
    ∷ (codes "/changes/{change}/reviewers", Reviewers)
    ∷ (codes "/changes/{change}/reviewers/{account}/delete", ReviewerDelete)
    ∷ (codes "/changes/{change}/wip", Wip)
    ∷ (codes "/changes/{change}/ready", Ready)
    ∷ (codes "/changes/{change}/abandon", Abandon)
    ∷ (codes "/changes/{change}/restore", Restore)
    ∷ (codes "/changes/{change}/submit", Submit)
    ∷ (codes "/changes/{change}/attention/{account}/delete", AttentionDelete)
    ∷ (codes "/epochs/close", EpochsClose)
    ∷ []

-- the paths with more, one after the other
abbrev pub with_paths : List (List ℕ × Resource) → Rows → Rows
with_paths [] rows = rows
with_paths ((text, resource) ∷ more) rows = with_paths more (with_path text resource rows)

-- the table of paths
unfoldable pub table : Rows
table = with_paths paths []

-- the resource that a path names, by the router's definition
abbrev pub resource_of : List ℕ → Option Resource
resource_of path = option_map (λ r. r.value) (first table path)

-- no path is left out of the table: each is one that the router reads
abbrev pub HoldsEachPath : Type 0
HoldsEachPath = length table ≡ length paths
