-- Rows that no key of a commit names stay.
use Rattle.std.proofs.lemmas.Bool.{not-false}
use Rattle.review_sql_tables.proofs.Common.{◌≡◌, ◌∙◌, ℕ, List, [], ◌∷◌, ◌++◌, Option, Some, None, Bool, true, false, filter, IfSome, string_bytes, sym, ap, subst, inl, inr, eqb, eqb-true, not, ◌==◌, cases_Bool, eqb-false, AllByRecursion, Trees, Raw, RowEdit, is_tree, SetsParts, Search, SetsRow, SetsRows, Then}
use Rattle.review_sql_records.proofs.Common.{kept_row, ChangeEdit, Delta, Kept, Put, projects, answers, is_of_lower, request_key}
use Rattle.review_sql_records.specs.Forms.{accounts, members, bases, desk, epochs}
use Rattle.review_sql_change_records.specs.Forms.{headers, patches, votes, roles, comments, attention_entries}
use Rattle.review_sql_writes.proofs.Unkeyed.{pass_still}
use Rattle.review_sql_writes.specs.Commits.{Test, Spares, SparesAll, SparesParts, SparesEdit, SparesNamed, KeepsRest}
use Rattle.review_sql_writes.specs.inner.Words.{GivesUp, SetsDelta, SetsEdit, SetsEdits, SetsUnless, SetsKept, SetsPut, SetsDesk, is_named}

module _ (tree : ℕ) (test : Test) (is : is_tree tree ≡ true) where
  abbrev Same : Trees → Trees → Type 0
  Same old new = filter test (new tree) ≡ filter test (old tree)

  row_same : {A X : Type 0} (s : Search A X) (key : A) (row : Option X) (old new : Trees) → Spares tree test s key → SetsRow s key row old new → Same old new
  row_same s key row old new spares sets = elim (cases_Bool (eqb tree s.tree)) [
    | inl here ↦
        let at = eqb-true tree s.tree here in
        subst (λ t. filter test (new t) ≡ filter test (old t)) (sym at) (sets.apart test (spares at))
    | inr other ↦ ap (filter test) (sets.others tree is (λ e. eqb-false tree s.tree other e))
  ]

  rows_same : {A X : Type 0} (s : Search A X) (changes : List (RowEdit A X)) (old new : Trees) → SparesAll tree test s changes → SetsRows s changes old new → Same old new
  rows_same s [] old new spares sets = ap (λ (db : Trees). filter test (db tree)) sets
  rows_same s (c ∷ changes) old new spares sets = row_same s c.key c.row sets.0 new spares.0 sets.2 ∙ rows_same s changes old sets.0 spares.1 sets.1

  parts_same : {O K X : Type 0} (s : Search (O × K) X) (owner : O) (changes : List (RowEdit K X)) (old new : Trees) → SparesParts tree test s owner changes → SetsParts s owner changes old new → Same old new
  parts_same s owner [] old new spares sets = ap (λ (db : Trees). filter test (db tree)) sets
  parts_same s owner (c ∷ changes) old new spares sets = row_same s (owner, c.key) c.row sets.0 new spares.0 sets.2 ∙ parts_same s owner changes old sets.0 spares.1 sets.1

  put_same : {A X : Type 0} (s : Search A X) (put : Option (Put A X)) (old new : Trees) → IfSome put (λ r. Spares tree test s r.key) → SetsPut s put old new → Same old new
  put_same s None old new spares sets = ap (λ (db : Trees). filter test (db tree)) sets
  put_same s (Some r) old new spares sets = row_same s r.key (Some r.row) old new spares sets

  edit_same : (e : ChangeEdit) (old new : Trees) → SparesEdit tree test e → SetsEdit e old new → Same old new
  edit_same e old new spares sets =
      parts_same attention_entries e.change e.attention.items sets.0 new spares.of_attention sets.2
      ∙ (parts_same comments e.change e.comments.items sets.1.0 sets.0 spares.of_comments sets.1.2
      ∙ (parts_same roles e.change e.roles.items sets.1.1.0 sets.1.0 spares.of_roles sets.1.1.2
      ∙ (parts_same votes e.change e.votes.items sets.1.1.1.0 sets.1.1.0 spares.of_votes sets.1.1.1.2
      ∙ (parts_same patches e.change e.patches.items sets.1.1.1.1.0 sets.1.1.1.0 spares.of_patches sets.1.1.1.1.2
      ∙ row_same headers e.change (Some e.header) old sets.1.1.1.1.0 spares.header sets.1.1.1.1.1))))

  unless_same : (b : Bool) (e : ChangeEdit) (old new : Trees) → SparesEdit tree test e → SetsUnless b e old new → Same old new
  unless_same true e old new spares sets = ap (λ (db : Trees). filter test (db tree)) sets
  unless_same false e old new spares sets = edit_same e old new spares sets

  edits_same : (before edits : List ChangeEdit) (old new : Trees) → AllByRecursion (SparesEdit tree test) edits → SetsEdits before edits old new → Same old new
  edits_same before [] old new spares sets = ap (λ (db : Trees). filter test (db tree)) sets
  edits_same before (e ∷ edits) old new spares sets = unless_same (is_named before e.change) e sets.0 new spares.0 sets.2 ∙ edits_same (before ++ e ∷ []) edits old sets.0 spares.1 sets.1

  delta_same : (delta : Delta) (kept : Kept) (old new : Trees) → SparesNamed delta kept tree test → SetsDelta delta old new → Same old new
  delta_same delta kept old new spares sets =
      edits_same [] delta.changes.items sets.0 new spares.of_changes sets.2
      ∙ (put_same bases delta.base sets.1.0 sets.0 spares.of_base sets.1.2
      ∙ (put_same projects delta.file sets.1.1.0 sets.1.0 spares.of_file sets.1.1.2
      ∙ (rows_same members delta.members.items sets.1.1.1.0 sets.1.1.0 spares.of_members sets.1.1.1.2
      ∙ rows_same accounts delta.accounts.items old sets.1.1.1.0 spares.of_accounts sets.1.1.1.1)))

  given_up_same : (epoch : Option ℕ) (old new : Trees) → IfSome epoch (λ least. Spares tree test epochs tt) → IfSome epoch (λ least. tree ≡ 28 → (r : Raw) → is_of_lower least r ≡ true → test r ≡ false) → GivesUp epoch old new → Same old new
  given_up_same None old new row closed gives = ap (λ (db : Trees). filter test (db tree)) gives
  given_up_same (Some least) old new row closed gives = row_same epochs tt (Some least) gives.0 new row gives.2 ∙ elim (cases_Bool (tree == 28)) [
    | inl here ↦
        let same : tree ≡ 28 = eqb-true tree 28 here in
        subst (λ n. filter test (gives.0 n) ≡ filter test (old n)) (sym same)
        (ap (filter test) gives.1.rows ∙ pass_still test (λ r. not (is_of_lower least r)) (old 28)
        (λ r gone. closed same r (not-false (is_of_lower least r) gone)))
    | inr other ↦ ap (filter test) (gives.1.others tree is (eqb-false tree 28 other))
  ]

pub keeps_rest : (delta : Delta) (kept : Kept) (n : ℕ) (old new : Trees) → Then (Then (Then (SetsDelta delta) (SetsKept kept)) (GivesUp delta.least_epoch)) (SetsDesk n) old new → KeepsRest delta kept old new
keeps_rest delta kept n old new sets = record {
  each = λ tree test is spares.
      row_same tree test is desk tt (Some (record { version = 3; requests = n })) sets.0 new spares.of_desk sets.2
      ∙ (given_up_same tree test is delta.least_epoch sets.1.0 sets.0 spares.of_epochs spares.of_closed sets.1.2
      ∙ (row_same tree test is answers (request_key (kept_row kept).identity) (Some (record { request = kept.request; content = string_bytes kept.content; reply = string_bytes kept.reply })) sets.1.1.0 sets.1.0 spares.of_answer sets.1.1.2
      ∙ delta_same tree test is delta kept old sets.1.1.0 spares sets.1.1.1));
}
