-- What a fixed INSERT, DELETE or SELECT does, whatever the table.
use Rattle.{std.specs.Bool.MatchBool, sqlite.proofs.Callers.one_step}
use Rattle.sqlite.specs.Does.{Does, AtPlace, OnRows, Concludes, Drops}
use Rattle.sqlite.specs.Effect.{IsSource, Answers}
use Rattle.sqlite.specs.Rows.{Part, Written, Task, stamped, Inserts, Updates, Deletes}
use Rattle.sqlite.specs.declared.run.Mode.{Mode}
use Rattle.sqlite_rules.specs.{Calls.ids_of, Edit.Edit, Edit.edited, Edit.taken_by, Edit.left_by}
use Rattle.sqlite_schema.specs.declared.command.Source.{Source, TheVariants.Values, TheVariants.Query}
use Rattle.{sqlite_schema.specs.declared.program.Program.Program, sqlite_value.specs.declared.keys.Order.Order}
use Rattle.review_sql_tables.proofs.Common.{ℤ, drop, unwrap_or, ◌≡◌, ◌≢◌, ◌⊎◌, inl, inr, ℕ, ◌/◌, List, [], ◌∷◌, length, map, slice_get, append-nil, true, false, Some, None, Ok, Err, Result, refl, sym, ap, subst, subst₂, ◌∙◌, IsTrue, Option, Bool, not, filter, eqb, eqb-true, or_cases, cases_Bool, eqb-false, and_parts, not-true, IsPermutation-map, AllByRecursion, list_any, IsPermutation, IsPlain, command_of, statement_of, runs_as, Tally, is_acted_on, Database, IsDatabase, value_rows, understood, State, Executes, without_table, KeepsRows, map-map, filter_same, cast_row, edit_of, without_all, id_in, have_rowids, are_fresh, numbered, put_all, is_taken, Chosen, Given, Insert, Update, Delete, DropTable, Column, Enforced, Schema, Table, overlay, Term, col, eval_all, all-permutation, Trees, rowid, put_row, is_int, Row, column, Value, Null, has_key, AreApart, IsAdded, Adds, Remakes, SparesOthers, simple, desk_schema, is_tree, columns_of, IsReady, over_table, HasNoKeys}
use Rattle.review_sql_tables.proofs.Lists.{id_of, added, removed, apart_put, apart_filter}
use Rattle.review_sql_tables.proofs.Moves.{apart_all, put_in_empty}
use Rattle.review_sql_tables.proofs.Queries.{passes, shows, selects}
use Rattle.review_sql_tables.proofs.Remade.{numbered_given, all_become, all_to_map, remade}

-- a part that gave a value did not stop on the way
pub went : {B E R : Type 0} {b : B} {Stops : E → Type 0} → ((stop : E) × Stops stop × (Ok b ≡ Err stop)) ⊎ R → R
went (inl stopped) = absurd (let e = stopped.2 in cc)
went (inr on) = on

pub same_value : {B E : Type 0} {a b : B} → ◌≡◌ {A = Result B E} (Ok a) (Ok b) → a ≡ b
same_value e = cc

otherwise : (b : Bool) (P Q : Type 0) → b ≡ false → MatchBool b P Q → Q
otherwise true P Q e h = absurd (cc)
otherwise false P Q e h = h

-- only the rows of one table, and they are these
pub record Sets (schema : Schema) (table : Table) (db next : Trees) (after : List Row) : Type 0 where
  pub is : next table.tree ≡ after
  pub others : AllByRecursion (λ t. t.tree ≢ table.tree → next t.tree ≡ db t.tree) schema.tables

-- the new rows have rowids that no row has
pub record IsFree (db : Trees) (edit : Edit) : Type 0 where
  pub keyed : have_rowids edit.news ≡ true
  pub fresh : are_fresh (left_by db edit) edit.news ≡ true

abbrev mode : Mode
mode = record { keys = Enforced; in_doubt = false; may_wait = false }

abbrev task : Option ℕ → Schema → Table → Row → Task
task limit schema table params = record { limit = limit; keys = Enforced; schema = schema; table = table; params = params }

concludes : (task : Task) (w : Written) (tally : Tally) (after : Database) → Concludes task mode None w (Ok (tally, after)) → after ≡ record { schema = task.schema; trees = w.trees }
concludes task w tally after h = ap (λ (p : Tally × Database). p.1) (same_value (went (went h).2).2)

tallies : (task : Task) (w : Written) (tally : Tally) (after : Database) → Concludes task mode None w (Ok (tally, after)) → tally.rows ≡ Some (length w.rows)
tallies task w tally after h = ap (λ (p : Tally × Database). p.0.rows) (same_value (went (went h).2).2)

on_table : (limit : Option ℕ) (params : Row) (db : Database) (table : Table) (found : Option Table) (P : Task → Part (Tally × Database)) (out : Tally × Database) → found ≡ Some table
    → AtPlace (λ t. P (task limit db.schema t params)) found (Ok out) → P (task limit db.schema table params) (Ok out)
on_table limit params db table found P out place h = subst (λ o. AtPlace (λ t. P (task limit db.schema t params)) o (Ok out)) place h

pub no_keys : HasNoKeys desk_schema
no_keys tree olds news = refl

spare_others : (tree : ℕ) (old new : Trees) (tables : List Table) → AllByRecursion (λ x. x.tree ≢ tree → new x.tree ≡ old x.tree) tables → (t : ℕ) → list_any (λ x. eqb x.tree t) tables ≡ true → t ≢ tree → new t ≡ old t
spare_others tree old new [] all t is other = absurd (cc)
spare_others tree old new (x ∷ tables) all t is other = elim (or_cases _ _ is) [
  | inl here ↦ let e = eqb-true x.tree t here in subst (λ n. n ≢ tree → new n ≡ old n) e all.0 other
  | inr later ↦ spare_others tree old new tables all.1 t later other
]

pub ready_after : (tree : ℕ) (old new : State) → IsReady old.now → new.now.schema ≡ old.now.schema → IsDatabase new.now → AreApart (new.now.trees tree) → SparesOthers tree old.now.trees new.now.trees → IsReady new.now
ready_after tree old new has schema sound up others = record {
  schema = schema ∙ has.schema;
  sound = sound;
  apart = λ t is. elim (cases_Bool (eqb t tree)) [
    | inl same ↦ subst (λ n. AreApart (new.now.trees n)) (sym (eqb-true t tree same)) up
    | inr other ↦ subst AreApart (sym (others t is (eqb-false t tree other))) (has.apart t is)
  ];
}

ids_shown : (params : Row) (project : List Term) (rows : List Row) → map (λ (r : Row). id_in (column r 0)) (map (shows params (col 1 0 ∷ project)) rows) ≡ map id_of rows
ids_shown params project rows = map-map _ _ rows

module _ (name : List ℕ) (tree : ℕ) (columns : List Column) (key : Option ℕ) (primary : List ℕ) (uniques : List (List ℕ)) (orders : List Order) where
  abbrev the : Table
  the = simple name tree columns key primary uniques orders

  puts : (limit : Option ℕ) (schema : Schema) (params : Row) (db : Trees) (from : Source) (w : Written) → HasNoKeys schema
      → Inserts (task limit schema the params) from db (Ok w)
      → (rows : List Row) × IsSource (record { schema = schema; trees = db }) (stamped the params) from rows × Sets schema the db w.trees (edited db (edit_of db the [] Chosen 0 rows))
      × IsFree db (edit_of db the [] Chosen 0 rows)
  puts limit schema params db from w none all =
      let given = went all in
      let written = went (went given.2).2 in
      let last = went written.2 in
      let edit = edit_of db the [] Chosen 0 given.0 in
      let step = one_step schema Enforced db written.0 edit (none tree (taken_by db edit) edit.news) written.1 in
      let trees : w.trees ≡ written.0 = ap (λ (it : Written). it.trees) (same_value last.2) ∙ same_value last.1 in (
        given.0,
        given.1,
        record {
          is = ap (λ (t : Trees). t tree) trees ∙ step.rows;
          others = subst (λ (t : Trees). AllByRecursion (λ x. x.tree ≢ tree → t x.tree ≡ db x.tree) schema.tables) (sym trees) step.tables;
        },
        record { keyed = step.keyed; fresh = step.fresh },
      )

  takes : (limit : Option ℕ) (schema : Schema) (params : Row) (db : Trees) (q : Program) (w : Written) → HasNoKeys schema → Deletes (task limit schema the params) q db (Ok w)
      → (rows : List Row) × Answers (record { schema = schema; trees = db }) q params rows × Sets schema the db w.trees (without_all (db tree) (ids_of rows))
  takes limit schema params db q w none all =
      let given = went all in
      let written = went given.2 in
      let edit = edit_of db the (ids_of given.0) Given 0 [] in
      let step = one_step schema Enforced db written.0 edit (none tree (taken_by db edit) edit.news) written.1 in
      let trees : w.trees ≡ written.0 = ap (λ (it : Written). it.trees) (same_value written.2) in (
        given.0,
        given.1,
        record {
          is = ap (λ (t : Trees). t tree) trees ∙ step.rows;
          others = subst (λ (t : Trees). AllByRecursion (λ x. x.tree ≢ tree → t x.tree ≡ db x.tree) schema.tables) (sym trees) step.tables;
        },
      )

  gives : (limit : Option ℕ) (schema : Schema) (params : Row) (db : Trees) (q : Program) (w : Written) → HasNoKeys schema → Updates (task limit schema the params) q params db (Ok w)
      → (rows : List Row) × Answers (record { schema = schema; trees = db }) q params rows × Sets schema the db w.trees (edited db (edit_of db the (ids_of rows) Given 1 rows))
      × IsFree db (edit_of db the (ids_of rows) Given 1 rows) × (w.rows ≡ (edit_of db the (ids_of rows) Given 1 rows).news)
  gives limit schema params db q w none all =
      let given = went all in
      let written = went given.2 in
      let edit = edit_of db the (ids_of given.0) Given 1 given.0 in
      let step = one_step schema Enforced db written.0 edit (none tree (taken_by db edit) edit.news) written.1 in
      let whole = same_value written.2 in
      let trees : w.trees ≡ written.0 = ap (λ (it : Written). it.trees) whole in (
        given.0,
        given.1,
        record {
          is = ap (λ (t : Trees). t tree) trees ∙ step.rows;
          others = subst (λ (t : Trees). AllByRecursion (λ x. x.tree ≢ tree → t x.tree ≡ db x.tree) schema.tables) (sym trees) step.tables;
        },
        record { keyed = step.keyed; fresh = step.fresh },
        ap (λ (it : Written). it.rows) whole,
      )

  module _ (limit : Option ℕ) (params : Row) (db : Database) (text : List ℕ) (at : ℕ) (place : slice_get db.schema.tables at ≡ Some the) (none : HasNoKeys db.schema) (tally : Tally) (after : Database) where
    pub inserts_in : (terms : List Term) (width : ℕ) → Does limit mode params db text None (Insert at (Values terms width)) (Ok (tally, after))
        → (after.schema ≡ db.schema) × Sets db.schema the db.trees after.trees (edited db.trees (edit_of db.trees the [] Chosen 0 (value_rows params width (length terms / width) terms)))
        × IsFree db.trees (edit_of db.trees the [] Chosen 0 (value_rows params width (length terms / width) terms))
    inserts_in terms width changed =
        let all = went (on_table limit params db the (slice_get db.schema.tables at) (λ t. OnRows t mode None (Insert at (Values terms width)) db.trees) (tally, after) place changed) in
        let it = puts limit db.schema params db.trees (Values terms width) all.0 none all.1 in
        let now = concludes (task limit db.schema the params) all.0 tally after all.2 in
        let rows : it.0 ≡ value_rows params width (length terms / width) terms = it.1.1 ∙ ap (λ given. value_rows given width (length terms / width) terms) (append-nil params) in
        (ap (λ (d : Database). d.schema) now, subst₂ (λ (d : Database) rows. Sets db.schema the db.trees d.trees (edited db.trees (edit_of db.trees the [] Chosen 0 rows))) (sym now) rows it.2, subst (λ rows. IsFree db.trees (edit_of db.trees the [] Chosen 0 rows)) rows it.3)

    pub deletes_in : (q : Program) → Does limit mode params db text None (Delete at q) (Ok (tally, after))
        → (after.schema ≡ db.schema) × (rows : List Row) × Answers db q params rows × Sets db.schema the db.trees after.trees (without_all (db.trees tree) (ids_of rows))
    deletes_in q changed =
        let all = went (on_table limit params db the (slice_get db.schema.tables at) (λ t. OnRows t mode None (Delete at q) db.trees) (tally, after) place changed) in
        let it = takes limit db.schema params db.trees q all.0 none all.1 in
        let now = concludes (task limit db.schema the params) all.0 tally after all.2 in
        (ap (λ (d : Database). d.schema) now, it.0, it.1, subst (λ (d : Database). Sets db.schema the db.trees d.trees (without_all (db.trees tree) (ids_of it.0))) (sym now) it.2)

    pub updates_in : (q : Program) → Does limit mode params db text None (Update at q) (Ok (tally, after))
        → (after.schema ≡ db.schema) × (rows : List Row) × Answers db q params rows × Sets db.schema the db.trees after.trees (edited db.trees (edit_of db.trees the (ids_of rows) Given 1 rows))
        × IsFree db.trees (edit_of db.trees the (ids_of rows) Given 1 rows) × (tally.rows ≡ Some (length (edit_of db.trees the (ids_of rows) Given 1 rows).news))
    updates_in q changed =
        let all = went (on_table limit params db the (slice_get db.schema.tables at) (λ t. OnRows t mode None (Update at q) db.trees) (tally, after) place changed) in
        let it = gives limit db.schema params db.trees q all.0 none all.1 in
        let now = concludes (task limit db.schema the params) all.0 tally after all.2 in
        let many = tallies (task limit db.schema the params) all.0 tally after all.2 in
        (ap (λ (d : Database). d.schema) now, it.0, it.1, subst (λ (d : Database). Sets db.schema the db.trees d.trees (edited db.trees (edit_of db.trees the (ids_of it.0) Given 1 it.0))) (sym now) it.2, it.3, many ∙ ap (λ (rows : List Row). Some (length rows)) it.4)

  -- the rows of a query are put into an empty table
  module _ (limit : Option ℕ) (db : Database) (text : List ℕ) (at : ℕ) (place : slice_get db.schema.tables at ≡ Some the) (none : HasNoKeys db.schema) (tally : Tally) (after : Database) where
    pub copies_in : (q : Program) → Does limit mode [] db text None (Insert at (Query q)) (Ok (tally, after)) → db.trees tree ≡ []
        → (after.schema ≡ db.schema) × (rows : List Row) × Answers db q [] rows
        × AllByRecursion (λ t. t.tree ≢ tree → after.trees t.tree ≡ db.trees t.tree) db.schema.tables
        × IsPermutation (map (λ (s : Row). columns_of (cast_row the s)) rows) (map columns_of (after.trees tree)) × AreApart (after.trees tree)
    copies_in q changed empty =
        let all = went (on_table limit [] db the (slice_get db.schema.tables at) (λ t. OnRows t mode None (Insert at (Query q)) db.trees) (tally, after) place changed) in
        let it = puts limit db.schema [] db.trees (Query q) all.0 none all.1 in
        let now = concludes (task limit db.schema the []) all.0 tally after all.2 in
        let sources = map (λ (s : Row). cast_row the s) it.0 in
        let news = numbered Chosen (db.trees tree) sources in
        let same : numbered Chosen [] sources ≡ news = ap (λ rows. numbered Chosen rows sources) (sym empty) in
        let fresh : are_fresh [] news ≡ true = subst (λ rows. are_fresh rows news ≡ true) empty it.3.fresh in
        let sets = subst (λ (d : Database). Sets db.schema the db.trees d.trees (edited db.trees (edit_of db.trees the [] Chosen 0 it.0))) (sym now) it.2 in
        let rows : after.trees tree ≡ put_all [] news = sets.is ∙ ap (λ rows. put_all rows news) empty in (
          ap (λ (d : Database). d.schema) now,
          it.0,
          it.1,
          sets.others,
          subst₂ IsPermutation (map-map columns_of (cast_row the) it.0) (ap (map columns_of) (sym rows)) (put_in_empty sources news (sym same) fresh),
          subst AreApart (sym rows) (apart_all news [] it.3.keyed fresh tt),
        )

    -- the table goes, and the others keep their rows
    pub drops_in : is_acted_on db.schema Enforced the ≡ false → Does limit mode [] db text None (DropTable at) (Ok (tally, after))
        → (after.schema ≡ without_table db.schema tree) × KeepsRows (without_table db.schema tree).tables db.trees after.trees
    drops_in alone changed =
        let all = went (on_table limit [] db the (slice_get db.schema.tables at) (λ t. Drops t mode db.trees) (tally, after) place changed) in
        let emptied : all.0 ≡ db.trees = same_value (otherwise (is_acted_on db.schema Enforced the) _ _ alone all.1) in
        let counted = went all.2 in
        let now : counted.0 ≡ db.trees = same_value counted.1 ∙ emptied in
        let left = went (went counted.2).2 in
        let last : after ≡ left.0 = ap (λ (p : Tally × Database). p.1) (same_value left.2) in (
          ap (λ (d : Database). d.schema) last ∙ left.1.0,
          subst₂ (λ (old : Trees) (d : Database). KeepsRows (without_table db.schema tree).tables old d.trees) now (sym last) left.1.1,
        )

  -- what the whole statement does
  module _ (sql : List ℕ) (params : Row) (old new : State) (has : IsReady old.now) (plain : IsPlain (understood desk_schema sql))
      (at : ℕ) (place : slice_get desk_schema.tables at ≡ Some the) (listed : is_tree tree ≡ true) where
    here : slice_get old.now.schema.tables at ≡ Some the
    here = rw (has.schema) place

    none : HasNoKeys old.now.schema
    none = subst HasNoKeys (sym has.schema) no_keys

    spares : (rows : List Row) → Sets old.now.schema the old.now.trees new.now.trees rows → SparesOthers tree old.now.trees new.now.trees
    spares rows it = spare_others tree old.now.trees new.now.trees desk_schema.tables (subst (λ (s : Schema). AllByRecursion (λ x. x.tree ≢ tree → new.now.trees x.tree ≡ old.now.trees x.tree) s.tables) has.schema it.others)

    -- the statement adds this row
    pub inserts : (terms : List Term) (width : ℕ) → command_of (understood desk_schema sql) ≡ Insert at (Values terms width) → (count : ℕ) → Executes sql params old new (Ok count)
        → (row : Row) → (edit_of old.now.trees the [] Chosen 0 (value_rows params width (length terms / width) terms)).news ≡ row ∷ []
        → IsReady new.now × Adds tree row old.now.trees new.now.trees
    inserts terms width is count h row news =
        let w = runs_as sql params old new desk_schema has.schema (Insert at (Values terms width)) is plain count h in
        let it = inserts_in old.step_limit params old.now (statement_of sql (understood desk_schema sql)) at here none w.tally new.now terms width w.changed in
        let rows : new.now.trees tree ≡ put_row row (old.now.trees tree) = it.1.is ∙ ap (put_all (old.now.trees tree)) news in
        let keyed : IsTrue (is_int (rowid row)) = (and_parts _ _ (ap have_rowids (sym news) ∙ it.2.keyed)).0 in
        let free : is_taken (old.now.trees tree) row ≡ false = not-true _ (and_parts _ _ (ap (are_fresh (old.now.trees tree)) (sym news) ∙ it.2.fresh)).0 in
        let others = spares _ it.1 in (
          ready_after tree old new has it.0 w.sound (subst AreApart (sym rows) (apart_put row (old.now.trees tree) keyed free (has.apart tree listed))) others,
          record { rows = subst (IsAdded row (old.now.trees tree)) (sym rows) (added row (old.now.trees tree) free); others = others },
        )

    -- the statement takes out the rows that pass its tests
    pub deletes : (tests : List Term) → command_of (understood desk_schema sql) ≡ Delete at (record { lets = []; body = over_table tree tests (col 1 0 ∷ []) [] })
        → overlay old.now.trees [] tree ≡ old.now.trees tree → (count : ℕ) → Executes sql params old new (Ok count)
        → (test : Row → Bool) → ((row : Row) → passes params tests row ≡ test row)
        → IsReady new.now × (new.now.trees tree ≡ filter (λ r. not (test r)) (old.now.trees tree)) × SparesOthers tree old.now.trees new.now.trees
    deletes tests is own count h test same =
        let q : Program = record { lets = []; body = over_table tree tests (col 1 0 ∷ []) [] } in
        let w = runs_as sql params old new desk_schema has.schema (Delete at q) is plain count h in
        let it = deletes_in old.step_limit params old.now (statement_of sql (understood desk_schema sql)) at here none w.tally new.now q w.changed in
        let found = selects tree tests (col 1 0 ∷ []) [] old.now.trees params it.1 own (it.2.answer Null) in
        let up = has.apart tree listed in
        let ids : IsPermutation (map id_of (filter (passes params tests) (old.now.trees tree))) (ids_of it.1) = subst (λ l. IsPermutation l (ids_of it.1)) (ids_shown params [] (filter (passes params tests) (old.now.trees tree))) (IsPermutation-map _ _ _ found) in
        let rows : new.now.trees tree ≡ filter (λ r. not (test r)) (old.now.trees tree) =
        it.3.is ∙ (removed (passes params tests) (old.now.trees tree) (ids_of it.1) up ids ∙ filter_same _ _ (λ r. ap not (same r)) (old.now.trees tree)) in
        let others = spares _ it.3 in
        (ready_after tree old new has it.0 w.sound (subst AreApart (sym rows) (apart_filter _ _ up)) others, rows, others)

    -- the statement gives the rows of a key other values
    pub updates : (tests project : List Term) → command_of (understood desk_schema sql) ≡ Update at (record { lets = []; body = over_table tree tests (col 1 0 ∷ project) [] })
        → overlay old.now.trees [] tree ≡ old.now.trees tree → (count : ℕ) → Executes sql params old new (Ok count)
        → (key : List (ℕ × Value)) → ((row : Row) → passes params tests row ≡ has_key key row)
        → (stored : ℤ → Row) → ((id : ℤ) → has_key key (stored id) ≡ true) → ((r : Row) → has_key key r ≡ true → IsTrue (is_int (rowid r)) → cast_row the (eval_all project (params ∷ r ∷ [])) ≡ stored (id_in (rowid r)))
        → IsReady new.now × Remakes tree key stored count old.now.trees new.now.trees
    updates tests project is own count h key same stored keyed cast =
        let q : Program = record { lets = []; body = over_table tree tests (col 1 0 ∷ project) [] } in
        let w = runs_as sql params old new desk_schema has.schema (Update at q) is plain count h in
        let it = updates_in old.step_limit params old.now (statement_of sql (understood desk_schema sql)) at here none w.tally new.now q w.changed in
        let before = old.now.trees tree in
        let up = has.apart tree listed in
        let show = shows params (col 1 0 ∷ project) in
        let become = λ (s : Row). cast_row the (drop 1 s) in
        let found : IsPermutation (map show (filter (has_key key) before)) it.1 = subst (λ l. IsPermutation (map show l) it.1) (filter_same _ _ same before) (selects tree tests (col 1 0 ∷ project) [] old.now.trees params it.1 own (it.2.answer Null)) in
        let ids : IsPermutation (map id_of (filter (has_key key) before)) (ids_of it.1) = subst (λ l. IsPermutation l (ids_of it.1)) (ids_shown params project (filter (has_key key) before)) (IsPermutation-map _ _ _ found) in
        let left : without_all before (ids_of it.1) ≡ filter (λ r. not (has_key key r)) before = removed (has_key key) before (ids_of it.1) up ids in
        let made = map become it.1 in
        let news : (edit_of old.now.trees the (ids_of it.1) Given 1 it.1).news ≡ made = numbered_given made (without_all before (ids_of it.1)) in
        let all : AllByRecursion (λ s. (id : ℤ) × (become s ≡ stored id)) it.1 = all-permutation _ _ _ found (all_become show become key stored cast before up) in
        let fresh : are_fresh (filter (λ r. not (has_key key r)) before) made ≡ true = subst₂ (λ rows l. are_fresh rows l ≡ true) left news it.4.fresh in
        let keyed_ids : have_rowids made ≡ true = subst (λ l. have_rowids l ≡ true) news it.4.keyed in
        let rows : new.now.trees tree ≡ put_all (filter (λ r. not (has_key key r)) before) made = it.3.is ∙ (λ i. put_all (left i) (news i)) in
        let others = spares _ it.3 in
        let many : count ≡ length made = w.counted ∙ (ap (λ o. unwrap_or o 0) it.5 ∙ ap length news) in (
          ready_after tree old new has it.0 w.sound (subst AreApart (sym rows) (apart_all made (filter (λ r. not (has_key key r)) before) keyed_ids fresh (apart_filter _ _ up))) others,
          remade key stored keyed tree old.now.trees new.now.trees made count many (all_to_map (λ n. (id : ℤ) × (n ≡ stored id)) become it.1 all) fresh rows others,
        )
