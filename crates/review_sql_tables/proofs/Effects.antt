-- What the texts of changes do.
use Rattle.std.proofs.lemmas.Bool.Decides.{Decides-eqb}
use Rattle.review_sql_tables.proofs.Common.{◌≡◌, ◌∙◌, ◌/◌, ℕ, suc, zero, ℤ, List, [], ◌∷◌, Some, Ok, Bool, ◌||◌, true, false, refl, sym, ap, subst, length, slice_get, eqb, filter, not, pos, ◌&&◌, AllByRecursion, list_any, command_of, value_rows, understood, State, Executes, cast_row, edit_of, id_in, Chosen, Delete, Update, Table, Term, col, eval_all, rowid, Row, column, Int, Adds, Remakes, Removes, RemovesWhere, SparesOthers, has_key, is_number_below, is_natural, is_text, desk_schema, IsReady, At, Deletes, Inserts, Updates, over_table, tests_from, values_of, IsSimple, DeletesBelow, tests_below}
use Rattle.review_sql_tables.proofs.{Meaning.tested, Meaning.tested_below, Meaning.plain, Queries.passes}
use Rattle.review_sql_tables.proofs.Statements.{inserts, updates, deletes}
use Rattle.review_sql_tables.specs.Texts.{Alters, changed_terms, new_terms}

-- ---- the tables of a desk

pub are_simple : AllByRecursion IsSimple desk_schema.tables
are_simple = (refl, (refl, (refl, (refl, (refl, (refl, (refl, (refl, (refl, (refl, (refl, (refl, (refl, tt)))))))))))))

at_place : (P : Table → Type 0) (tables : List Table) (at : ℕ) (t : Table) → AllByRecursion P tables → slice_get tables at ≡ Some t → P t
at_place P [] at t all is = absurd (cc)
at_place P (x ∷ tables) zero t all is = let e : x ≡ t = cc in subst P e all.0
at_place P (x ∷ tables) (suc at) t all is = at_place P tables at t all.1 is

pub is_there : (tables : List Table) (at : ℕ) (t : Table) → slice_get tables at ≡ Some t → list_any (λ x. eqb x.tree t.tree) tables ≡ true
is_there [] at t is = absurd (cc)
is_there (x ∷ tables) zero t is = let e : x ≡ t = cc in rw (e, (Decides-eqb t.tree t.tree).1 refl) refl
is_there (x ∷ tables) (suc at) t is = more (eqb x.tree t.tree) _ (is_there tables at t is)
  where
    more : (a b : Bool) → b ≡ true → (a || b) ≡ true
    more true b is = refl
    more false b is = is

module _ (sql : List ℕ) (old new : State) (has : IsReady old.now) (count : ℕ) where
  -- the rows that pass the tests of a text are taken out
  removes : (tree : ℕ) (params : Row) (tests : List Term) → Alters sql tree (λ at table. Delete at (record { lets = []; body = over_table tree tests (col 1 0 ∷ []) [] })) → Executes sql params old new (Ok count)
      → (test : Row → Bool) → ((row : Row) → passes params tests row ≡ test row) → IsReady new.now × (new.now.trees tree ≡ filter (λ r. not (test r)) (old.now.trees tree)) × SparesOthers tree old.now.trees new.now.trees
  removes tree params tests it h test same =
      let t = it.table in
      let is : command_of (understood desk_schema sql) ≡ Delete it.at (record { lets = []; body = over_table t.tree tests (col 1 0 ∷ []) [] }) = subst (λ n. command_of (understood desk_schema sql) ≡ Delete it.at (record { lets = []; body = over_table n tests (col 1 0 ∷ []) [] })) (sym it.tree_is) it.is in
      let simply = at_place IsSimple desk_schema.tables it.at t are_simple it.there in
      subst (λ n. IsReady new.now × (new.now.trees n ≡ filter (λ r. not (test r)) (old.now.trees n)) × SparesOthers n old.now.trees new.now.trees) it.tree_is
      (deletes t.name t.tree t.columns t.key t.primary t.uniques t.orders sql params old new has it.plain it.at (it.there ∙ ap Some simply) (is_there desk_schema.tables it.at t it.there) tests is (plain old.now.trees t.tree) count h test same)

  -- the rows of a key are taken out
  pub deleted : (tree : ℕ) (key : At) → Deletes sql tree key → Executes sql (values_of key) old new (Ok count) → IsReady new.now × Removes tree key old.now.trees new.now.trees
  deleted tree key it h = let done = removes tree (values_of key) (tests_from 0 key) it h (has_key key) (tested key) in (done.0, record { rows = done.1; others = done.2 })

  -- the rows of a number below another are taken out
  pub deleted_below : (tree place number text least : ℕ) → DeletesBelow sql tree place number text → Executes sql (Int (pos least) ∷ []) old new (Ok count)
      → IsReady new.now × RemovesWhere tree (λ r. is_number_below least (column r place) && (is_natural (column r number) && is_text (column r text))) old.now.trees new.now.trees
  deleted_below tree place number text least it h =
      let done = removes tree (Int (pos least) ∷ []) (tests_below place number text) it h _ (tested_below place number text least) in (done.0, record { rows = done.1; others = done.2 })

  -- values are put in as a row
  pub inserted : (tree : ℕ) (values : Row) (stored : ℤ → Row) → Inserts sql tree values stored → Executes sql values old new (Ok count) → IsReady new.now × ((id : ℤ) × Adds tree (stored id) old.now.trees new.now.trees)
  inserted tree values stored it h =
      let t = it.alters.table in
      let terms = new_terms t in
      let simply = at_place IsSimple desk_schema.tables it.alters.at t are_simple it.alters.there in
      let row = it.row old.now.trees in
      let news = subst (λ x. (edit_of old.now.trees x [] Chosen 0 (value_rows values (length terms) (length terms / length terms) terms)).news ≡ stored row.0 ∷ []) simply row.1 in
      let done = inserts t.name t.tree t.columns t.key t.primary t.uniques t.orders sql values old new has it.alters.plain it.alters.at (it.alters.there ∙ ap Some simply) (is_there desk_schema.tables it.alters.at t it.alters.there)
      terms (length terms) it.alters.is count h (stored row.0) news in
      (done.0, (row.0, subst (λ n. Adds n (stored row.0) old.now.trees new.now.trees) it.alters.tree_is done.1))

  -- the rows of a key are given other values
  pub updated : (tree : ℕ) (key : At) (values : Row) (stored : ℤ → Row) → Updates sql tree key values stored → ((id : ℤ) → has_key key (stored id) ≡ true) → Executes sql values old new (Ok count)
      → IsReady new.now × Remakes tree key stored count old.now.trees new.now.trees
  updated tree key values stored it keyed h =
      let t = it.alters.table in
      let terms = changed_terms t in
      let simply = at_place IsSimple desk_schema.tables it.alters.at t are_simple it.alters.there in
      let is : command_of (understood desk_schema sql) ≡ Update it.alters.at (record { lets = []; body = over_table t.tree (tests_from 0 key) (col 1 0 ∷ terms) [] }) =
      subst (λ n. command_of (understood desk_schema sql) ≡ Update it.alters.at (record { lets = []; body = over_table n (tests_from 0 key) (col 1 0 ∷ terms) [] })) (sym it.alters.tree_is) it.alters.is in
      subst (λ n. IsReady new.now × Remakes n key stored count old.now.trees new.now.trees) it.alters.tree_is
      (updates t.name t.tree t.columns t.key t.primary t.uniques t.orders sql values old new has it.alters.plain it.alters.at (it.alters.there ∙ ap Some simply) (is_there desk_schema.tables it.alters.at t it.alters.there)
      (tests_from 0 key) terms is (plain old.now.trees t.tree) count h key it.passing stored keyed (λ r has_it has_id. subst (λ x. cast_row x (eval_all terms (values ∷ r ∷ [])) ≡ stored (id_in (rowid r))) simply (it.row r has_it has_id)))
