-- What the texts of changes are understood as.
use Rattle.sqlite_rules.{proofs.TableLemmas.int_is as table_int_is, specs.Edit.next_rowid}
use Rattle.review_sql_tables.proofs.Common.{◌≡◌, ◌∙◌, IsTrue, true, ap, ℕ, ℤ, pos, List, [], ◌∷◌, refl, and_parts, understood, cast, id_in, Integer, everything, rowid, is_int, Row, column, Null, Int, Text, has_key, accounts, members, projects_2, bases, changes, patches, votes, reviewers, comments, attention, answers_3, desk, epochs, Deletes, Inserts, Updates, DeletesBelow}
use Rattle.review_sql_tables.proofs.{Meaning.cast_null, Meaning.cast_int, Meaning.tested, Values.int_is}
use Rattle.review_sql_tables.specs.declared.texts.TheConstants.{INSERT_ACCOUNT, DELETE_ACCOUNT, INSERT_MEMBER, DELETE_MEMBER, INSERT_PROJECT, DELETE_PROJECT, INSERT_BASE, DELETE_BASE, INSERT_CHANGE, UPDATE_CHANGE, DELETE_CHANGE, INSERT_PATCH, DELETE_PATCH, INSERT_VOTE, DELETE_VOTE, INSERT_REVIEWER, DELETE_REVIEWER, INSERT_COMMENT, DELETE_COMMENT, INSERT_ATTENTION, DELETE_ATTENTION, INSERT_ANSWER, DELETE_ANSWER, INSERT_DESK, UPDATE_DESK, DELETE_DESK, INSERT_EPOCHS, UPDATE_EPOCHS, DELETE_EPOCHS, DELETE_ANSWERS_BELOW}

-- a rowid stays what it is
cast_id : (r : Row) → IsTrue (is_int (rowid r)) → cast Integer (column r 0) ≡ Int (id_in (rowid r))
cast_id r keyed = ap (cast Integer) (table_int_is (rowid r) keyed) ∙ cast_int (id_in (rowid r))

-- so does one that is a number of a key
cast_number : (r : Row) (number : ℤ) → has_key ((0, Int number) ∷ []) r ≡ true → cast Integer (column r 0) ≡ Int number
cast_number r number has = ap (cast Integer) (int_is (column r 0) number (and_parts _ _ has).0) ∙ cast_int number

pub insert_account : (number : ℤ) (name : List ℕ) → Inserts INSERT_ACCOUNT.now accounts.tree (Int number ∷ Text name ∷ []) (λ id. Int number ∷ Null ∷ Text name ∷ [])
unfolding understood everything
insert_account number name = record {
  alters = record { table = accounts; at = 0; there = refl; tree_is = refl; is = refl; plain = (refl, refl) };
  row = λ db. (pos 0, rw (cast_null, cast_int number) refl);
}

pub delete_account : (number : ℤ) → Deletes DELETE_ACCOUNT.now accounts.tree ((0, Int number) ∷ [])
unfolding understood everything
delete_account number = record { table = accounts; at = 0; there = refl; tree_is = refl; is = refl; plain = (refl, refl) }

pub insert_member : (grp : List ℕ) (account : ℤ) → Inserts INSERT_MEMBER.now members.tree (Text grp ∷ Int account ∷ []) (λ id. Int id ∷ Text grp ∷ Int account ∷ [])
unfolding understood everything
insert_member grp account = record {
  alters = record { table = members; at = 1; there = refl; tree_is = refl; is = refl; plain = (refl, refl) };
  row = λ db. (next_rowid (db members.tree), rw (cast_null, cast_int account) refl);
}

pub delete_member : (grp : List ℕ) (account : ℤ) → Deletes DELETE_MEMBER.now members.tree ((1, Text grp) ∷ (2, Int account) ∷ [])
unfolding understood everything
delete_member grp account = record { table = members; at = 1; there = refl; tree_is = refl; is = refl; plain = (refl, refl) }

pub insert_project : (name : List ℕ) (file : List ℕ) (parent : List ℕ) → Inserts INSERT_PROJECT.now projects_2.tree (Text name ∷ Text file ∷ Text parent ∷ []) (λ id. Int id ∷ Text name ∷ Text file ∷ Text parent ∷ [])
unfolding understood everything
insert_project name file parent = record {
  alters = record { table = projects_2; at = 10; there = refl; tree_is = refl; is = refl; plain = (refl, refl) };
  row = λ db. (next_rowid (db projects_2.tree), rw (cast_null) refl);
}

pub delete_project : (name : List ℕ) → Deletes DELETE_PROJECT.now projects_2.tree ((1, Text name) ∷ [])
unfolding understood everything
delete_project name = record { table = projects_2; at = 10; there = refl; tree_is = refl; is = refl; plain = (refl, refl) }

pub insert_base : (project : List ℕ) (branch : List ℕ) (place : ℤ) (commit_name : List ℕ) → Inserts INSERT_BASE.now bases.tree (Text project ∷ Text branch ∷ Int place ∷ Text commit_name ∷ []) (λ id. Int id ∷ Text project ∷ Text branch ∷ Int place ∷ Text commit_name ∷ [])
unfolding understood everything
insert_base project branch place commit_name = record {
  alters = record { table = bases; at = 2; there = refl; tree_is = refl; is = refl; plain = (refl, refl) };
  row = λ db. (next_rowid (db bases.tree), rw (cast_null, cast_int place) refl);
}

pub delete_base : (project : List ℕ) (branch : List ℕ) (place : ℤ) → Deletes DELETE_BASE.now bases.tree ((1, Text project) ∷ (2, Text branch) ∷ (3, Int place) ∷ [])
unfolding understood everything
delete_base project branch place = record { table = bases; at = 2; there = refl; tree_is = refl; is = refl; plain = (refl, refl) }

pub insert_change : (number : ℤ) (project : List ℕ) (branch : List ℕ) (subject : List ℕ) (owner : ℤ) (status : List ℕ) (wip : ℤ) (place : ℤ) (updated : ℤ) → Inserts INSERT_CHANGE.now changes.tree (Int number ∷ Text project ∷ Text branch ∷ Text subject ∷ Int owner ∷ Text status ∷ Int wip ∷ Int place ∷ Int updated ∷ []) (λ id. Int number ∷ Null ∷ Text project ∷ Text branch ∷ Text subject ∷ Int owner ∷ Text status ∷ Int wip ∷ Int place ∷ Int updated ∷ [])
unfolding understood everything
insert_change number project branch subject owner status wip place updated = record {
  alters = record { table = changes; at = 3; there = refl; tree_is = refl; is = refl; plain = (refl, refl) };
  row = λ db. (pos 0, rw (cast_null, cast_int number, cast_int owner, cast_int wip, cast_int place, cast_int updated) refl);
}

pub update_change : (number : ℤ) (project : List ℕ) (branch : List ℕ) (subject : List ℕ) (owner : ℤ) (status : List ℕ) (wip : ℤ) (place : ℤ) (updated : ℤ) → Updates UPDATE_CHANGE.now changes.tree ((0, Int number) ∷ []) (Int number ∷ Text project ∷ Text branch ∷ Text subject ∷ Int owner ∷ Text status ∷ Int wip ∷ Int place ∷ Int updated ∷ []) (λ id. Int number ∷ Null ∷ Text project ∷ Text branch ∷ Text subject ∷ Int owner ∷ Text status ∷ Int wip ∷ Int place ∷ Int updated ∷ [])
unfolding understood everything
update_change number project branch subject owner status wip place updated = record {
  alters = record { table = changes; at = 3; there = refl; tree_is = refl; is = refl; plain = (refl, refl) };
  passing = λ r. tested ((0, Int number) ∷ []) r;
  row = λ r has keyed. rw (cast_number r number has, cast_null, cast_int owner, cast_int wip, cast_int place, cast_int updated) refl;
}

pub delete_change : (number : ℤ) → Deletes DELETE_CHANGE.now changes.tree ((0, Int number) ∷ [])
unfolding understood everything
delete_change number = record { table = changes; at = 3; there = refl; tree_is = refl; is = refl; plain = (refl, refl) }

pub insert_patch : (change : ℤ) (patch : ℤ) (commit_name : List ℕ) (parent : List ℕ) (kind : List ℕ) (uploader : ℤ) (paths : List ℕ) → Inserts INSERT_PATCH.now patches.tree (Int change ∷ Int patch ∷ Text commit_name ∷ Text parent ∷ Text kind ∷ Int uploader ∷ Text paths ∷ []) (λ id. Int id ∷ Int change ∷ Int patch ∷ Text commit_name ∷ Text parent ∷ Text kind ∷ Int uploader ∷ Text paths ∷ [])
unfolding understood everything
insert_patch change patch commit_name parent kind uploader paths = record {
  alters = record { table = patches; at = 4; there = refl; tree_is = refl; is = refl; plain = (refl, refl) };
  row = λ db. (next_rowid (db patches.tree), rw (cast_null, cast_int change, cast_int patch, cast_int uploader) refl);
}

pub delete_patch : (change : ℤ) (patch : ℤ) → Deletes DELETE_PATCH.now patches.tree ((1, Int change) ∷ (2, Int patch) ∷ [])
unfolding understood everything
delete_patch change patch = record { table = patches; at = 4; there = refl; tree_is = refl; is = refl; plain = (refl, refl) }

pub insert_vote : (change : ℤ) (patch : ℤ) (label : List ℕ) (account : ℤ) (value : ℤ) → Inserts INSERT_VOTE.now votes.tree (Int change ∷ Int patch ∷ Text label ∷ Int account ∷ Int value ∷ []) (λ id. Int id ∷ Int change ∷ Int patch ∷ Text label ∷ Int account ∷ Int value ∷ [])
unfolding understood everything
insert_vote change patch label account value = record {
  alters = record { table = votes; at = 5; there = refl; tree_is = refl; is = refl; plain = (refl, refl) };
  row = λ db. (next_rowid (db votes.tree), rw (cast_null, cast_int change, cast_int patch, cast_int account, cast_int value) refl);
}

pub delete_vote : (change : ℤ) (patch : ℤ) (label : List ℕ) (account : ℤ) → Deletes DELETE_VOTE.now votes.tree ((1, Int change) ∷ (2, Int patch) ∷ (3, Text label) ∷ (4, Int account) ∷ [])
unfolding understood everything
delete_vote change patch label account = record { table = votes; at = 5; there = refl; tree_is = refl; is = refl; plain = (refl, refl) }

pub insert_reviewer : (change : ℤ) (account : ℤ) (role : List ℕ) → Inserts INSERT_REVIEWER.now reviewers.tree (Int change ∷ Int account ∷ Text role ∷ []) (λ id. Int id ∷ Int change ∷ Int account ∷ Text role ∷ [])
unfolding understood everything
insert_reviewer change account role = record {
  alters = record { table = reviewers; at = 6; there = refl; tree_is = refl; is = refl; plain = (refl, refl) };
  row = λ db. (next_rowid (db reviewers.tree), rw (cast_null, cast_int change, cast_int account) refl);
}

pub delete_reviewer : (change : ℤ) (account : ℤ) → Deletes DELETE_REVIEWER.now reviewers.tree ((1, Int change) ∷ (2, Int account) ∷ [])
unfolding understood everything
delete_reviewer change account = record { table = reviewers; at = 6; there = refl; tree_is = refl; is = refl; plain = (refl, refl) }

pub insert_comment : (change : ℤ) (number : ℤ) (patch : ℤ) (path : List ℕ) (line : ℤ) (author : ℤ) (message : List ℕ) (unresolved : ℤ) (answers_to : ℤ) (request : ℤ) → Inserts INSERT_COMMENT.now comments.tree (Int change ∷ Int number ∷ Int patch ∷ Text path ∷ Int line ∷ Int author ∷ Text message ∷ Int unresolved ∷ Int answers_to ∷ Int request ∷ []) (λ id. Int id ∷ Int change ∷ Int number ∷ Int patch ∷ Text path ∷ Int line ∷ Int author ∷ Text message ∷ Int unresolved ∷ Int answers_to ∷ Int request ∷ [])
unfolding understood everything
insert_comment change number patch path line author message unresolved answers_to request = record {
  alters = record { table = comments; at = 7; there = refl; tree_is = refl; is = refl; plain = (refl, refl) };
  row = λ db. (next_rowid (db comments.tree), rw (cast_null, cast_int change, cast_int number, cast_int patch, cast_int line, cast_int author, cast_int unresolved, cast_int answers_to, cast_int request) refl);
}

pub delete_comment : (change : ℤ) (number : ℤ) → Deletes DELETE_COMMENT.now comments.tree ((1, Int change) ∷ (2, Int number) ∷ [])
unfolding understood everything
delete_comment change number = record { table = comments; at = 7; there = refl; tree_is = refl; is = refl; plain = (refl, refl) }

pub insert_attention : (change : ℤ) (account : ℤ) (reason : List ℕ) (request : ℤ) → Inserts INSERT_ATTENTION.now attention.tree (Int change ∷ Int account ∷ Text reason ∷ Int request ∷ []) (λ id. Int id ∷ Int change ∷ Int account ∷ Text reason ∷ Int request ∷ [])
unfolding understood everything
insert_attention change account reason request = record {
  alters = record { table = attention; at = 8; there = refl; tree_is = refl; is = refl; plain = (refl, refl) };
  row = λ db. (next_rowid (db attention.tree), rw (cast_null, cast_int change, cast_int account, cast_int request) refl);
}

pub delete_attention : (change : ℤ) (account : ℤ) → Deletes DELETE_ATTENTION.now attention.tree ((1, Int change) ∷ (2, Int account) ∷ [])
unfolding understood everything
delete_attention change account = record { table = attention; at = 8; there = refl; tree_is = refl; is = refl; plain = (refl, refl) }

pub insert_answer : (caller : ℤ) (epoch : ℤ) (request_id : List ℕ) (request : ℤ) (content : List ℕ) (reply : List ℕ) → Inserts INSERT_ANSWER.now answers_3.tree (Int caller ∷ Int epoch ∷ Text request_id ∷ Int request ∷ Text content ∷ Text reply ∷ []) (λ id. Int id ∷ Int caller ∷ Int epoch ∷ Text request_id ∷ Int request ∷ Text content ∷ Text reply ∷ [])
unfolding understood everything
insert_answer caller epoch request_id request content reply = record {
  alters = record { table = answers_3; at = 11; there = refl; tree_is = refl; is = refl; plain = (refl, refl) };
  row = λ db. (next_rowid (db answers_3.tree), rw (cast_null, cast_int caller, cast_int epoch, cast_int request) refl);
}

pub delete_answer : (caller : ℤ) (epoch : ℤ) (request_id : List ℕ) → Deletes DELETE_ANSWER.now answers_3.tree ((1, Int caller) ∷ (2, Int epoch) ∷ (3, Text request_id) ∷ [])
unfolding understood everything
delete_answer caller epoch request_id = record { table = answers_3; at = 11; there = refl; tree_is = refl; is = refl; plain = (refl, refl) }

pub delete_answers_below : DeletesBelow DELETE_ANSWERS_BELOW.now answers_3.tree 2 1 3
unfolding understood everything
delete_answers_below = record { table = answers_3; at = 11; there = refl; tree_is = refl; is = refl; plain = (refl, refl) }

pub insert_desk : (version : ℤ) (requests : ℤ) → Inserts INSERT_DESK.now desk.tree (Int version ∷ Int requests ∷ []) (λ id. Int id ∷ Int version ∷ Int requests ∷ [])
unfolding understood everything
insert_desk version requests = record {
  alters = record { table = desk; at = 9; there = refl; tree_is = refl; is = refl; plain = (refl, refl) };
  row = λ db. (next_rowid (db desk.tree), rw (cast_null, cast_int version, cast_int requests) refl);
}

pub update_desk : (version : ℤ) (requests : ℤ) → Updates UPDATE_DESK.now desk.tree [] (Int version ∷ Int requests ∷ []) (λ id. Int id ∷ Int version ∷ Int requests ∷ [])
unfolding understood everything
update_desk version requests = record {
  alters = record { table = desk; at = 9; there = refl; tree_is = refl; is = refl; plain = (refl, refl) };
  passing = λ r. refl;
  row = λ r has keyed. rw (cast_id r keyed, cast_int version, cast_int requests) refl;
}

pub delete_desk : Deletes DELETE_DESK.now desk.tree []
unfolding understood everything
delete_desk = record { table = desk; at = 9; there = refl; tree_is = refl; is = refl; plain = (refl, refl) }

pub insert_epochs : (least : ℤ) → Inserts INSERT_EPOCHS.now epochs.tree (Int least ∷ []) (λ id. Int id ∷ Int least ∷ [])
unfolding understood everything
insert_epochs least = record {
  alters = record { table = epochs; at = 12; there = refl; tree_is = refl; is = refl; plain = (refl, refl) };
  row = λ db. (next_rowid (db epochs.tree), rw (cast_null, cast_int least) refl);
}

pub update_epochs : (least : ℤ) → Updates UPDATE_EPOCHS.now epochs.tree [] (Int least ∷ []) (λ id. Int id ∷ Int least ∷ [])
unfolding understood everything
update_epochs least = record {
  alters = record { table = epochs; at = 12; there = refl; tree_is = refl; is = refl; plain = (refl, refl) };
  passing = λ r. refl;
  row = λ r has keyed. rw (cast_id r keyed, cast_int least) refl;
}

pub delete_epochs : Deletes DELETE_EPOCHS.now epochs.tree []
unfolding understood everything
delete_epochs = record { table = epochs; at = 12; there = refl; tree_is = refl; is = refl; plain = (refl, refl) }
