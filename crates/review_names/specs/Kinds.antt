-- The names of what a patch set changed.
use Rattle.std.specs.Prelude.{ℕ, List, if◌then◌else◌, codes, Option, Some, None}
use Rattle.{std.specs.Str.bytes_eq, review_names.specs.declared.kinds.ChangeKind.ChangeKind}
use Rattle.review_names.specs.declared.kinds.ChangeKind.TheVariants as kind

-- the name of a kind of change
abbrev pub kind_name : ChangeKind → List ℕ
kind_name kind.NoChange = codes "NO_CHANGE"
kind_name kind.NoCodeChange = codes "NO_CODE_CHANGE"
kind_name kind.TrivialRebase = codes "TRIVIAL_REBASE"
kind_name kind.TrivialRebaseWithMessageUpdate = codes "TRIVIAL_REBASE_WITH_MESSAGE_UPDATE"
kind_name kind.MergeFirstParentUpdate = codes "MERGE_FIRST_PARENT_UPDATE"
kind_name kind.Rework = codes "REWORK"

-- the kind of change that has a name
unfoldable pub kind_named : List ℕ → Option ChangeKind
kind_named name =
    if bytes_eq name (codes "NO_CHANGE") then Some kind.NoChange
    else if bytes_eq name (codes "NO_CODE_CHANGE") then Some kind.NoCodeChange
    else if bytes_eq name (codes "TRIVIAL_REBASE") then Some kind.TrivialRebase
    else if bytes_eq name (codes "TRIVIAL_REBASE_WITH_MESSAGE_UPDATE") then Some kind.TrivialRebaseWithMessageUpdate
    else if bytes_eq name (codes "MERGE_FIRST_PARENT_UPDATE") then Some kind.MergeFirstParentUpdate
    else if bytes_eq name (codes "REWORK") then Some kind.Rework
    else None
