-- What the texts of look-ups are understood as.
use Rattle.review_sql_tables.proofs.Common.{ℕ, ℤ, List, [], ◌∷◌, codes, refl, understood, everything, Int, Text, accounts, members, projects_2, bases, changes, patches, votes, reviewers, comments, attention, answers_3, desk, epochs, Asks, rows_where, last_where, FIND_ANSWER, FIND_DESK, FIND_EPOCHS, count_where}
use Rattle.review_sql_tables.specs.declared.texts.TheConstants.{FIND_ACCOUNT, FIND_MEMBER, FIND_PROJECT, FIND_BASE, FIND_CHANGE, FIND_PATCH, FIND_ACCOUNT_NAMED, FIND_GROUP, FIND_PROJECT_NAME, FIND_BASE_COMMIT, FIND_BRANCH, FIND_PATCHES, FIND_VOTES, FIND_REVIEWERS, FIND_COMMENTS, FIND_CALLS, FIND_CHANGE_BRANCH, FIND_SENT, FIND_CHANGE_AT, FIND_LAST_ACCOUNT, FIND_LAST_PLACE, FIND_LAST_CHANGE, FIND_LAST_JOINED, FIND_LAST_PATCH, COUNT_PROJECTS, COUNT_BASES}

pub find_account : (number : ℤ) → Asks FIND_ACCOUNT.now (rows_where accounts.tree ((0, Int number) ∷ []) (2 ∷ []))
unfolding understood everything
find_account number = record { names = codes "name" ∷ []; is = refl; plain = (refl, refl); unlisted = refl }

pub find_member : (grp : List ℕ) (account : ℤ) → Asks FIND_MEMBER.now (rows_where members.tree ((1, Text grp) ∷ (2, Int account) ∷ []) (2 ∷ []))
unfolding understood everything
find_member grp account = record { names = codes "account" ∷ []; is = refl; plain = (refl, refl); unlisted = refl }

pub find_project : (name : List ℕ) → Asks FIND_PROJECT.now (rows_where projects_2.tree ((1, Text name) ∷ []) (2 ∷ 3 ∷ []))
unfolding understood everything
find_project name = record { names = codes "file" ∷ codes "parent" ∷ []; is = refl; plain = (refl, refl); unlisted = refl }

pub find_base : (project : List ℕ) (branch : List ℕ) (place : ℤ) → Asks FIND_BASE.now (rows_where bases.tree ((1, Text project) ∷ (2, Text branch) ∷ (3, Int place) ∷ []) (4 ∷ []))
unfolding understood everything
find_base project branch place = record { names = codes "commit_name" ∷ []; is = refl; plain = (refl, refl); unlisted = refl }

pub find_change : (number : ℤ) → Asks FIND_CHANGE.now (rows_where changes.tree ((0, Int number) ∷ []) (2 ∷ 3 ∷ 4 ∷ 5 ∷ 6 ∷ 7 ∷ 8 ∷ 9 ∷ []))
unfolding understood everything
find_change number = record { names = codes "project" ∷ codes "branch" ∷ codes "subject" ∷ codes "owner" ∷ codes "status" ∷ codes "wip" ∷ codes "place" ∷ codes "updated" ∷ []; is = refl; plain = (refl, refl); unlisted = refl }

pub find_patch : (change : ℤ) (patch : ℤ) → Asks FIND_PATCH.now (rows_where patches.tree ((1, Int change) ∷ (2, Int patch) ∷ []) (3 ∷ 4 ∷ 5 ∷ 6 ∷ 7 ∷ []))
unfolding understood everything
find_patch change patch = record { names = codes "commit_name" ∷ codes "parent" ∷ codes "kind" ∷ codes "uploader" ∷ codes "paths" ∷ []; is = refl; plain = (refl, refl); unlisted = refl }

pub find_answer : (caller : ℤ) (epoch : ℤ) (request_id : List ℕ) → Asks FIND_ANSWER.now (rows_where answers_3.tree ((1, Int caller) ∷ (2, Int epoch) ∷ (3, Text request_id) ∷ []) (4 ∷ 5 ∷ 6 ∷ []))
unfolding understood everything
find_answer caller epoch request_id = record { names = codes "request" ∷ codes "content" ∷ codes "reply" ∷ []; is = refl; plain = (refl, refl); unlisted = refl }

pub find_desk : Asks FIND_DESK.now (rows_where desk.tree [] (1 ∷ 2 ∷ []))
unfolding understood everything
find_desk = record { names = codes "version" ∷ codes "requests" ∷ []; is = refl; plain = (refl, refl); unlisted = refl }

pub find_epochs : Asks FIND_EPOCHS.now (rows_where epochs.tree [] (1 ∷ []))
unfolding understood everything
find_epochs = record { names = codes "least" ∷ []; is = refl; plain = (refl, refl); unlisted = refl }

pub find_account_named : (name : List ℕ) → Asks FIND_ACCOUNT_NAMED.now (rows_where accounts.tree ((2, Text name) ∷ []) (0 ∷ []))
unfolding understood everything
find_account_named name = record { names = codes "number" ∷ []; is = refl; plain = (refl, refl); unlisted = refl }

pub find_group : (grp : List ℕ) → Asks FIND_GROUP.now (rows_where members.tree ((1, Text grp) ∷ []) (2 ∷ []))
unfolding understood everything
find_group grp = record { names = codes "account" ∷ []; is = refl; plain = (refl, refl); unlisted = refl }

pub find_project_name : (name : List ℕ) → Asks FIND_PROJECT_NAME.now (rows_where projects_2.tree ((1, Text name) ∷ []) (1 ∷ []))
unfolding understood everything
find_project_name name = record { names = codes "name" ∷ []; is = refl; plain = (refl, refl); unlisted = refl }

pub find_base_commit : (project : List ℕ) (branch : List ℕ) (commit_name : List ℕ) → Asks FIND_BASE_COMMIT.now (rows_where bases.tree ((1, Text project) ∷ (2, Text branch) ∷ (4, Text commit_name) ∷ []) (3 ∷ []))
unfolding understood everything
find_base_commit project branch commit_name = record { names = codes "place" ∷ []; is = refl; plain = (refl, refl); unlisted = refl }

pub find_branch : (project : List ℕ) (branch : List ℕ) → Asks FIND_BRANCH.now (rows_where bases.tree ((1, Text project) ∷ (2, Text branch) ∷ []) (3 ∷ 4 ∷ []))
unfolding understood everything
find_branch project branch = record { names = codes "place" ∷ codes "commit_name" ∷ []; is = refl; plain = (refl, refl); unlisted = refl }

pub find_patches : (change : ℤ) → Asks FIND_PATCHES.now (rows_where patches.tree ((1, Int change) ∷ []) (2 ∷ 3 ∷ 4 ∷ 5 ∷ 6 ∷ 7 ∷ []))
unfolding understood everything
find_patches change = record { names = codes "patch" ∷ codes "commit_name" ∷ codes "parent" ∷ codes "kind" ∷ codes "uploader" ∷ codes "paths" ∷ []; is = refl; plain = (refl, refl); unlisted = refl }

pub find_votes : (change : ℤ) → Asks FIND_VOTES.now (rows_where votes.tree ((1, Int change) ∷ []) (2 ∷ 3 ∷ 4 ∷ 5 ∷ []))
unfolding understood everything
find_votes change = record { names = codes "patch" ∷ codes "label" ∷ codes "account" ∷ codes "value" ∷ []; is = refl; plain = (refl, refl); unlisted = refl }

pub find_reviewers : (change : ℤ) → Asks FIND_REVIEWERS.now (rows_where reviewers.tree ((1, Int change) ∷ []) (2 ∷ 3 ∷ []))
unfolding understood everything
find_reviewers change = record { names = codes "account" ∷ codes "role" ∷ []; is = refl; plain = (refl, refl); unlisted = refl }

pub find_comments : (change : ℤ) → Asks FIND_COMMENTS.now (rows_where comments.tree ((1, Int change) ∷ []) (2 ∷ 3 ∷ 4 ∷ 5 ∷ 6 ∷ 7 ∷ 8 ∷ 9 ∷ 10 ∷ []))
unfolding understood everything
find_comments change = record { names = codes "number" ∷ codes "patch" ∷ codes "path" ∷ codes "line" ∷ codes "author" ∷ codes "message" ∷ codes "unresolved" ∷ codes "answers_to" ∷ codes "request" ∷ []; is = refl; plain = (refl, refl); unlisted = refl }

pub find_calls : (change : ℤ) → Asks FIND_CALLS.now (rows_where attention.tree ((1, Int change) ∷ []) (2 ∷ 3 ∷ 4 ∷ []))
unfolding understood everything
find_calls change = record { names = codes "account" ∷ codes "reason" ∷ codes "request" ∷ []; is = refl; plain = (refl, refl); unlisted = refl }

pub find_change_branch : (number : ℤ) → Asks FIND_CHANGE_BRANCH.now (rows_where changes.tree ((0, Int number) ∷ []) (2 ∷ 3 ∷ []))
unfolding understood everything
find_change_branch number = record { names = codes "project" ∷ codes "branch" ∷ []; is = refl; plain = (refl, refl); unlisted = refl }

pub find_sent : (commit_name : List ℕ) → Asks FIND_SENT.now (rows_where patches.tree ((3, Text commit_name) ∷ []) (1 ∷ 2 ∷ []))
unfolding understood everything
find_sent commit_name = record { names = codes "change" ∷ codes "patch" ∷ []; is = refl; plain = (refl, refl); unlisted = refl }

pub find_change_at : (project : List ℕ) (branch : List ℕ) (place : ℤ) → Asks FIND_CHANGE_AT.now (rows_where changes.tree ((2, Text project) ∷ (3, Text branch) ∷ (8, Int place) ∷ []) (0 ∷ []))
unfolding understood everything
find_change_at project branch place = record { names = codes "number" ∷ []; is = refl; plain = (refl, refl); unlisted = refl }

pub find_last_account : Asks FIND_LAST_ACCOUNT.now (last_where accounts.tree [] (0 ∷ []) 0)
unfolding understood everything
find_last_account = record { names = codes "number" ∷ []; is = refl; plain = (refl, refl); unlisted = refl }

pub find_last_place : (project : List ℕ) (branch : List ℕ) → Asks FIND_LAST_PLACE.now (last_where bases.tree ((1, Text project) ∷ (2, Text branch) ∷ []) (3 ∷ []) 3)
unfolding understood everything
find_last_place project branch = record { names = codes "place" ∷ []; is = refl; plain = (refl, refl); unlisted = refl }

pub find_last_change : Asks FIND_LAST_CHANGE.now (last_where changes.tree [] (0 ∷ []) 0)
unfolding understood everything
find_last_change = record { names = codes "number" ∷ []; is = refl; plain = (refl, refl); unlisted = refl }

pub find_last_joined : (project : List ℕ) (branch : List ℕ) → Asks FIND_LAST_JOINED.now (last_where changes.tree ((2, Text project) ∷ (3, Text branch) ∷ []) (0 ∷ 8 ∷ []) 8)
unfolding understood everything
find_last_joined project branch = record { names = codes "number" ∷ codes "place" ∷ []; is = refl; plain = (refl, refl); unlisted = refl }

pub find_last_patch : (change : ℤ) → Asks FIND_LAST_PATCH.now (last_where patches.tree ((1, Int change) ∷ []) (2 ∷ []) 2)
unfolding understood everything
find_last_patch change = record { names = codes "patch" ∷ []; is = refl; plain = (refl, refl); unlisted = refl }

pub count_projects : Asks COUNT_PROJECTS.now (count_where projects_2.tree [])
unfolding understood everything
count_projects = record { names = codes "count(*)" ∷ []; is = refl; plain = (refl, refl); unlisted = refl }

pub count_bases : (project : List ℕ) → Asks COUNT_BASES.now (count_where bases.tree ((1, Text project) ∷ []))
unfolding understood everything
count_bases project = record { names = codes "count(*)" ∷ []; is = refl; plain = (refl, refl); unlisted = refl }
