-- Words that only proofs and private clauses use.
use Rattle.std.specs.List.{list_any}
use Rattle.std.specs.Prelude.{[], ◌≡◌, Option, Some, None, ℕ, ◌==◌, Bool, List, true, false, ◌++◌, ◌∷◌}
use Rattle.{sqlite_trees.specs.Tree.Trees, review_names.specs.Names.admin_name, review_names.specs.Names.administrators}
use Rattle.review_sql_tables.specs.Content.{RemovesWhere}
use Rattle.review_sql_tables.specs.{Search.SetsParts, Search.Search, Search.SetsRow, Search.SetsRows, inner.Words.Then}
use Rattle.review_machine_rows.specs.{Rows.kept_row, View.tables_version}
use Rattle.review_machine_rows.specs.declared.rows.{ChangeEdit.ChangeEdit, Delta.Delta, Kept.Kept, Put.Put}
use Rattle.review_sql_records.specs.Forms.{accounts, members, projects, bases, answers, kept_answer, request_key, epochs, is_of_lower, desk}
use Rattle.review_sql_change_records.specs.Forms.{headers, patches, votes, roles, comments, attention_entries}

-- ---- what a delta does to the trees, table by table

-- a row is put, where there is one
abbrev pub SetsPut : {A X : Type 0} → Search A X → Option (Put A X) → Trees → Trees → Type 0
SetsPut s None old new = new ≡ old
SetsPut s (Some put) old new = SetsRow s put.key (Some put.row) old new

-- the rows of a delta that no change owns are put or taken away
abbrev pub SetsUnowned : Delta → Trees → Trees → Type 0
SetsUnowned delta =
    Then (Then (Then (SetsRows accounts delta.accounts.items) (SetsRows members delta.members.items)) (SetsPut projects delta.file)) (SetsPut bases delta.base)

-- the rows of a change are put or taken away
abbrev pub SetsEdit : ChangeEdit → Trees → Trees → Type 0
SetsEdit e =
    Then (Then (Then (Then (Then (SetsRow headers e.change (Some e.header)) (SetsParts patches e.change e.patches.items)) (SetsParts votes e.change e.votes.items)) (SetsParts roles e.change e.roles.items)) (SetsParts comments e.change e.comments.items))
    (SetsParts attention_entries e.change e.attention.items)

-- whether one of the edits is of a change
abbrev pub is_named : List ChangeEdit → ℕ → Bool
is_named edits n = list_any (λ e. e.change == n) edits

-- an edit is made, unless one before it is of the same change
abbrev pub SetsUnless : Bool → ChangeEdit → Trees → Trees → Type 0
SetsUnless true e old new = new ≡ old
SetsUnless false e old new = SetsEdit e old new

-- edits are made that stand after others, the last first; the first of a change decides
abbrev pub SetsEdits : List ChangeEdit → List ChangeEdit → Trees → Trees → Type 0
SetsEdits before [] old new = new ≡ old
SetsEdits before (e ∷ es) old new = (mid : Trees) × SetsEdits (before ++ e ∷ []) es old mid × SetsUnless (is_named before e.change) e mid new

-- the rows of a delta are put or taken away
abbrev pub SetsDelta : Delta → Trees → Trees → Type 0
SetsDelta delta = Then (SetsUnowned delta) (SetsEdits [] delta.changes.items)

-- the request is stored
abbrev pub SetsKept : Kept → Trees → Trees → Type 0
SetsKept kept = SetsRow answers (request_key (kept_row kept).identity) (Some (kept_answer kept))

-- an epoch is the least open one
abbrev pub SetsLeast : ℕ → Trees → Trees → Type 0
SetsLeast least = SetsRow epochs tt (Some least)

-- an epoch becomes the least open one, if one is named, and the kept answers of lower ones go
abbrev pub GivesUp : Option ℕ → Trees → Trees → Type 0
GivesUp None old new = new ≡ old
GivesUp (Some least) old new = Then (RemovesWhere answers.tree (is_of_lower least)) (SetsLeast least) old new

-- the desk has version 3 and so many requests
abbrev pub SetsDesk : ℕ → Trees → Trees → Type 0
SetsDesk requests = SetsRow desk tt (Some (record { version = tables_version; requests = requests }))

-- ---- commits

-- the first account, which is the one administrator, the first epoch and no request
abbrev pub SetsFirst : Trees → Trees → Type 0
SetsFirst = Then (Then (Then (SetsRow accounts 1 (Some admin_name)) (SetsRow members (record { group = administrators; account = 1 }) (Some tt))) (SetsLeast 0)) (SetsDesk 0)
