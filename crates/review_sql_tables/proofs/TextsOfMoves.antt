-- What the texts of a migration are understood as, and what such texts do.
use Rattle.sqlite_schema.specs.declared.command.Source.TheVariants.{Query}
use Rattle.review_sql_tables.proofs.Common.{◌≡◌, ◌≢◌, ◌∙◌, ℕ, List, [], ◌∷◌, map, filter, slice_get, Some, Ok, refl, ap, sym, subst, pos, IsPermutation-map, IsPermutation-trans, AllByRecursion, IsPermutation, statement_of, runs_as, is_acted_on, understood, State, Executes, without_table, KeepsRows, map-map, cast_row, Insert, DropTable, Enforced, Schema, lit, col, everything, Row, Binary, Null, Int, Text, schema_of, simple, Move, columns_of, projects_move, answers_move, MOVE_PROJECTS, DROP_PROJECTS, MOVE_ANSWERS, DROP_ANSWERS, FillsText, DropsText, HasNoKeys, with_both, Fills, Drops}
use Rattle.review_sql_tables.proofs.{Meaning.plain, Meaning.cast_int, Queries.selects_by, Queries.shows, Queries.passes}
use Rattle.review_sql_tables.{proofs.Statements.copies_in, proofs.Statements.drops_in, specs.inner.Words.all_rows}

-- ---- the texts of both steps

pub projects_filled : FillsText MOVE_PROJECTS.now projects_move
unfolding understood everything
projects_filled = record {
  at = 12;
  place = refl;
  simply = refl;
  no_keys = λ tree olds news. refl;
  terms = lit Null ∷ col 1 1 ∷ col 1 2 ∷ lit (Text []) ∷ [];
  collations = Binary ∷ Binary ∷ Binary ∷ Binary ∷ [];
  is = refl;
  plainly = (refl, refl);
  made = λ r. refl;
}

pub projects_dropped : DropsText DROP_PROJECTS.now projects_move
unfolding understood everything
projects_dropped = record { at = 2; place = refl; simply = refl; no_keys = λ tree olds news. refl; alone = refl; is = refl; plainly = (refl, refl); leaves = refl }

pub answers_filled : FillsText MOVE_ANSWERS.now answers_move
unfolding understood everything
answers_filled = record {
  at = 12;
  place = refl;
  simply = refl;
  no_keys = λ tree olds news. refl;
  terms = lit Null ∷ col 1 1 ∷ lit (Int (pos 0)) ∷ col 1 2 ∷ col 1 3 ∷ col 1 4 ∷ col 1 5 ∷ [];
  collations = Binary ∷ Binary ∷ Binary ∷ Binary ∷ Binary ∷ Binary ∷ Binary ∷ [];
  is = refl;
  plainly = (refl, refl);
  made = λ r. rw (cast_int (pos 0)) refl;
}

pub answers_dropped : DropsText DROP_ANSWERS.now answers_move
unfolding understood everything
answers_dropped = record { at = 9; place = refl; simply = refl; no_keys = λ tree olds news. refl; alone = refl; is = refl; plainly = (refl, refl); leaves = refl }

-- ---- what such texts do

rows_made : (made : Row → Row) (f : Row → Row) → ((r : Row) → f r ≡ made r) → (rows : List Row) → map f (filter (passes [] []) rows) ≡ map made rows
rows_made made f same [] = refl
rows_made made f same (r ∷ rows) = rw (same r, rows_made made f same rows) refl

module _ (sql : List ℕ) (move : Move) (old new : State) (has : old.now.schema ≡ schema_of (with_both move)) (count : ℕ) where
  pub fills : FillsText sql move → old.now.trees move.come.tree ≡ [] → Executes sql [] old new (Ok count) → Fills move old.now new.now
  fills it empty h =
      let t = move.come in
      let query = all_rows move.gone.tree it.terms it.collations in
      let w = runs_as sql [] old new (schema_of (with_both move)) has (Insert it.at (Query query)) it.is it.plainly count h in
      let done = copies_in t.name t.tree t.columns t.key t.primary t.uniques t.orders old.step_limit old.now (statement_of sql (understood (schema_of (with_both move)) sql)) it.at
      (ap (λ (s : Schema). slice_get s.tables it.at) has ∙ (it.place ∙ ap Some it.simply)) (subst HasNoKeys (sym has) it.no_keys) w.tally new.now query w.changed empty in
      let found = selects_by it.collations move.gone.tree [] it.terms [] old.now.trees [] done.1 (plain old.now.trees move.gone.tree) (done.2.answer Null) in
      let kept : (s : Row) → Row = λ s. columns_of (cast_row (simple t.name t.tree t.columns t.key t.primary t.uniques t.orders) s) in
      let made : (r : Row) → kept (shows [] it.terms r) ≡ move.made r = λ r. ap (λ x. columns_of (cast_row x (shows [] it.terms r))) (sym it.simply) ∙ it.made r in
      let rows = subst (λ l. IsPermutation l (map kept done.1)) (map-map kept (shows [] it.terms) _ ∙ rows_made move.made (λ r. kept (shows [] it.terms r)) made (old.now.trees move.gone.tree)) (IsPermutation-map kept _ _ found) in
      record {
        schema = done.0 ∙ has;
        moved = IsPermutation-trans _ _ _ rows done.4;
        apart = done.5;
        others = subst (λ (s : Schema). AllByRecursion (λ x. x.tree ≢ t.tree → new.now.trees x.tree ≡ old.now.trees x.tree) s.tables) has done.3;
      }

  pub drops : DropsText sql move → Executes sql [] old new (Ok count) → Drops move old.now new.now
  drops it h =
      let t = move.gone in
      let w = runs_as sql [] old new (schema_of (with_both move)) has (DropTable it.at) it.is it.plainly count h in
      let done = drops_in t.name t.tree t.columns t.key t.primary t.uniques t.orders old.step_limit old.now (statement_of sql (understood (schema_of (with_both move)) sql)) it.at
      (ap (λ (s : Schema). slice_get s.tables it.at) has ∙ (it.place ∙ ap Some it.simply)) (subst HasNoKeys (sym has) it.no_keys) w.tally new.now
      (ap (λ s. is_acted_on s Enforced (simple t.name t.tree t.columns t.key t.primary t.uniques t.orders)) has ∙ (ap (is_acted_on (schema_of (with_both move)) Enforced) (sym it.simply) ∙ it.alone)) w.changed in
      record {
        schema = done.0 ∙ (ap (λ s. without_table s t.tree) has ∙ it.leaves);
        others = subst (λ (s : Schema). KeepsRows s.tables old.now.trees new.now.trees) (ap (λ s. without_table s t.tree) has ∙ it.leaves) done.1;
        sound = w.sound;
      }
