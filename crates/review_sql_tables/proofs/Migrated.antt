-- What the texts of a migration do one after the other.
use Rattle.review_sql_tables.proofs.ByTree.{all_after, all_both, all_weaker, at_tree, covered, covered_but, has_tree}
use Rattle.review_sql_tables.proofs.Common.{◌≡◌, ◌≢◌, ◌∙◌, ℕ, Bool, true, false, List, [], ◌∷◌, ◌++◌, map, refl, sym, subst, eqb, eqb-true, eqb-false, or_parts, length_permutation, AllByRecursion, list_all, IsPermutation, Database, understood, next_tree, Table, everything, Row, AreApart, answers_3, desk_schema, desk_tables, epochs, projects_2, schema_0, schema_1, schema_2, schema_of, tables_1, tables_2, IsBlank, Grows, IsMade, MakesBy, MakesText, Migrates, Moves, AreMoved, Move, answers_move, columns_of, projects_move, with_first_epoch, without_parent, is_new, schema_at, version_of, DROP_ANSWERS, DROP_PROJECTS, MOVE_ANSWERS, MOVE_PROJECTS, EarlierVersion, DropsText, FillsText, DropsBy, FillsBy, Drops, Fills, with_both}
use Rattle.review_sql_tables.proofs.Sequences.{Next}
use Rattle.review_sql_tables.proofs.TextsOfMoves.{answers_dropped, answers_filled, projects_dropped, projects_filled}
use Rattle.review_sql_tables.specs.Versions.{tables_without_epochs, tables_since}
use Rattle.review_sql_tables.specs.declared.texts.TheConstants.{CREATE_ANSWERS_3, CREATE_EPOCHS, CREATE_PROJECTS_2}
use Rattle.review_sql_tables.specs.declared.versions.EarlierVersion.TheVariants as earlier

-- ---- one move

-- three texts make a move
record MovesText (move : Move) (create fill drop : List ℕ) : Type 0 where
  made : MakesText create (schema_of move.before) move.come (schema_of (with_both move))
  number : next_tree (schema_of move.before) ≡ move.come.tree
  filled : FillsText fill move
  dropped : DropsText drop move
  within : list_all (λ t. has_tree (with_both move) t.tree) move.after ≡ true
  comes : has_tree move.after move.come.tree ≡ true
  goes : has_tree move.before move.gone.tree ≡ true

-- what holds of tables holds of all but the one that comes where this stands last
but_last : (P : Table → Type 0) (come : Table) (tables : List Table) → AllByRecursion P tables → AllByRecursion (λ t. t.tree ≢ come.tree → P t) (tables ++ come ∷ [])
but_last P come [] all = ((λ other. absurd (other refl)), tt)
but_last P come (t ∷ tables) all = ((λ other. all.0), but_last P come tables all.1)

module _ (move : Move) (create fill drop : List ℕ) (text : MovesText move create fill drop) (old a b new : Database) (makes : MakesBy create old a) (fills : FillsBy fill a b) (drops : DropsBy drop b new) where
  module _ (has : old.schema ≡ schema_of move.before) where
    made : IsMade (schema_of move.before) (schema_of (with_both move)) old a
    made = makes (schema_of move.before) move.come (schema_of (with_both move)) text.made has

    filled : Fills move a b
    filled = fills move text.filled made.schema_is (subst (λ n. a.trees n ≡ []) text.number made.empty)

    dropped : Drops move b new
    dropped = drops move text.dropped filled.schema

    before : AllByRecursion (λ t. t.tree ≢ move.come.tree → b.trees t.tree ≡ old.trees t.tree) (with_both move)
    before = all_both (with_both move) (λ t two one other. two other ∙ one other) filled.others (but_last (λ t. a.trees t.tree ≡ old.trees t.tree) move.come move.before made.others)

    kept : AllByRecursion (λ t. t.tree ≢ move.come.tree → new.trees t.tree ≡ old.trees t.tree) move.after
    kept = all_both move.after (λ t last first other. last ∙ first other) dropped.others (covered (λ n. n ≢ move.come.tree → b.trees n ≡ old.trees n) (with_both move) move.after before text.within)

    last : new.trees move.come.tree ≡ b.trees move.come.tree
    last = at_tree (λ n. new.trees n ≡ b.trees n) move.after dropped.others move.come.tree text.comes

    first : a.trees move.gone.tree ≡ old.trees move.gone.tree
    first = at_tree (λ n. a.trees n ≡ old.trees n) move.before made.others move.gone.tree text.goes

    moved : AreMoved move.made (old.trees move.gone.tree) (new.trees move.come.tree)
    moved = subst (AreMoved move.made (old.trees move.gone.tree)) (sym last) (subst (λ rows. AreMoved move.made rows (b.trees move.come.tree)) first filled.moved)

  moves : Moves move old new
  moves = record { schema = λ has. (dropped has).schema; moved = moved; apart = λ has. subst AreApart (sym (last has)) (filled has).apart; others = kept; sound = λ has. (dropped has).sound }

projects_text : MovesText projects_move CREATE_PROJECTS_2.now MOVE_PROJECTS.now DROP_PROJECTS.now
unfolding understood everything
projects_text = record {
  made = record { command = refl; text = refl; plain = (refl, refl); defines = refl; uncounted = refl; leaves = refl };
  number = refl;
  filled = projects_filled;
  dropped = projects_dropped;
  within = refl;
  comes = refl;
  goes = refl;
}

answers_text : MovesText answers_move CREATE_ANSWERS_3.now MOVE_ANSWERS.now DROP_ANSWERS.now
unfolding understood everything
answers_text = record {
  made = record { command = refl; text = refl; plain = (refl, refl); defines = refl; uncounted = refl; leaves = refl };
  number = refl;
  filled = answers_filled;
  dropped = answers_dropped;
  within = refl;
  comes = refl;
  goes = refl;
}

pub moves_projects : (old a b new : Database) → MakesBy CREATE_PROJECTS_2.now old a → FillsBy MOVE_PROJECTS.now a b → DropsBy DROP_PROJECTS.now b new → Moves projects_move old new
moves_projects = moves projects_move CREATE_PROJECTS_2.now MOVE_PROJECTS.now DROP_PROJECTS.now projects_text

pub moves_answers : (old a b new : Database) → MakesBy CREATE_ANSWERS_3.now old a → FillsBy MOVE_ANSWERS.now a b → DropsBy DROP_ANSWERS.now b new → Moves answers_move old new
moves_answers = moves answers_move CREATE_ANSWERS_3.now MOVE_ANSWERS.now DROP_ANSWERS.now answers_text

-- ---- to the latest version

epochs_made : MakesText CREATE_EPOCHS.now (schema_of tables_without_epochs) epochs desk_schema
unfolding understood everything
epochs_made = record { command = refl; text = refl; plain = (refl, refl); defines = refl; uncounted = refl; leaves = refl }

-- a table that is not new since version 2 is not that of the stored requests
not_answers : (n : ℕ) → is_new earlier.Second n ≡ false → n ≢ answers_3.tree
not_answers n stays same = absurd (eqb-false answers_3.tree n (or_parts _ _ stays).0 (sym same))

-- a table that is not new since version 1 is neither the projects' nor new since version 2
not_projects : (n : ℕ) → is_new earlier.First n ≡ false → n ≢ projects_2.tree
not_projects n stays same = absurd (eqb-false projects_2.tree n (or_parts _ _ stays).0 (sym same))

not_later : (n : ℕ) → is_new earlier.First n ≡ false → is_new earlier.Second n ≡ false
not_later n stays = (or_parts _ _ stays).1

module _ (old mid new : Database) (moved : Moves answers_move old mid) (makes : MakesBy CREATE_EPOCHS.now mid new) where
  module _ (has : old.schema ≡ schema_2) where
    made_last : IsMade (schema_of tables_without_epochs) desk_schema mid new
    made_last = makes (schema_of tables_without_epochs) epochs desk_schema epochs_made (moved.schema has)

    answers_kept : new.trees answers_3.tree ≡ mid.trees answers_3.tree
    answers_kept = at_tree (λ n. new.trees n ≡ mid.trees n) tables_without_epochs made_last.others answers_3.tree refl

    second_kept : AllByRecursion (λ t. is_new earlier.Second t.tree ≡ false → new.trees t.tree ≡ old.trees t.tree) desk_tables
    second_kept =
        let Stays : Table → Type 0 = λ t. is_new earlier.Second t.tree ≡ false → new.trees t.tree ≡ old.trees t.tree in
        let Last : Table → Type 0 = λ t. new.trees t.tree ≡ mid.trees t.tree in
        let Told : Table → Type 0 = λ t. t.tree ≢ answers_3.tree → mid.trees t.tree ≡ old.trees t.tree in
        let before : AllByRecursion Stays tables_without_epochs = all_both {P = Last} {Q = Told} {R = Stays} tables_without_epochs (λ t one two stays. one ∙ two (not_answers t.tree stays)) made_last.others (moved.others has) in
        all_weaker {P = λ t. is_new earlier.Second t.tree ≡ false → Stays t} {Q = Stays} desk_tables (λ t it stays. it stays stays)
        (covered_but (is_new earlier.Second) (λ n. is_new earlier.Second n ≡ false → new.trees n ≡ old.trees n) tables_without_epochs desk_tables before refl)

  pub migrates_second : Migrates earlier.Second old new
  migrates_second = record {
    schema = λ has. (made_last has).schema_is;
    moved = λ has. (subst (AreMoved with_first_epoch (old.trees answers_move.gone.tree)) (sym (answers_kept has)) (moved.moved has), tt);
    apart = λ has. (subst AreApart (sym (answers_kept has)) (moved.apart has), (subst AreApart (sym (made_last has).empty) tt, tt));
    empty = λ has. (made_last has).empty;
    others = second_kept;
    sound = λ has. (made_last has).sound;
  }

module _ (old mid new : Database) (moved : Moves projects_move old mid) (later : Migrates earlier.Second mid new) where
  module _ (has : old.schema ≡ schema_1) where
    projects_kept : new.trees projects_2.tree ≡ mid.trees projects_2.tree
    projects_kept = at_tree (λ n. is_new earlier.Second n ≡ false → new.trees n ≡ mid.trees n) desk_tables (later.others (moved.schema has)) projects_2.tree refl refl

    answers_before : mid.trees answers_move.gone.tree ≡ old.trees answers_move.gone.tree
    answers_before = at_tree (λ n. n ≢ projects_2.tree → mid.trees n ≡ old.trees n) tables_2 (moved.others has) answers_move.gone.tree refl (λ same. eqb-false answers_move.gone.tree projects_2.tree refl same)

    first_kept : AllByRecursion (λ t. is_new earlier.First t.tree ≡ false → new.trees t.tree ≡ old.trees t.tree) desk_tables
    first_kept =
        let Stays : Table → Type 0 = λ t. is_new earlier.First t.tree ≡ false → new.trees t.tree ≡ old.trees t.tree in
        let First : Table → Type 0 = λ t. is_new earlier.First t.tree ≡ false → t.tree ≢ projects_2.tree → mid.trees t.tree ≡ old.trees t.tree in
        let Last : Table → Type 0 = λ t. is_new earlier.Second t.tree ≡ false → new.trees t.tree ≡ mid.trees t.tree in
        all_both {P = Last} {Q = First} {R = Stays} desk_tables (λ t last first stays. last (not_later t.tree stays) ∙ first stays (not_projects t.tree stays)) (later.others (moved.schema has))
        (covered_but (is_new earlier.First) (λ n. n ≢ projects_2.tree → mid.trees n ≡ old.trees n) tables_2 desk_tables (moved.others has) refl)

  pub migrates_first : Migrates earlier.First old new
  migrates_first = record {
    schema = λ has. later.schema (moved.schema has);
    moved = λ has. (
      subst (AreMoved without_parent (old.trees projects_move.gone.tree)) (sym (projects_kept has)) (moved.moved has),
      (subst (λ rows. AreMoved with_first_epoch rows (new.trees answers_3.tree)) (answers_before has) (later.moved (moved.schema has)).0, tt),
    );
    apart = λ has. (subst AreApart (sym (projects_kept has)) (moved.apart has), later.apart (moved.schema has));
    empty = λ has. later.empty (moved.schema has);
    others = first_kept;
    sound = λ has. later.sound (moved.schema has);
  }

-- the tables of an earlier version that are none of those that came since are among those of a desk
of_earlier : (version : EarlierVersion) (P : ℕ → Type 0) → AllByRecursion (λ t. P t.tree) (schema_at (version_of version)).tables → AllByRecursion (λ t. is_new version t.tree ≡ false → P t.tree) desk_tables
of_earlier earlier.First P all = covered_but (is_new earlier.First) P tables_1 desk_tables all refl
of_earlier earlier.Second P all = covered_but (is_new earlier.Second) P tables_2 desk_tables all refl

-- ---- empty tables

none_moved : (rows : List Row) → IsPermutation [] (map columns_of rows) → rows ≡ []
none_moved [] same = refl
none_moved (r ∷ rows) same = absurd (let l = length_permutation _ _ same in cc)

empty_moved : (move : Move) (old new : List Row) → old ≡ [] → AreMoved move.made old new → new ≡ []
empty_moved move old new none moved = none_moved new (subst (λ rows. AreMoved move.made rows new) none moved)

-- of the empty tables of version 1 those of version 2 are made
pub grows_second : (old new : Database) → Next (Grows schema_0 schema_1) (Moves projects_move) old new → Grows schema_0 schema_2 old new
grows_second old new h blank =
    let was = (h.1 blank).0 in
    let it = h.2 in
    let moved = empty_moved projects_move _ (new.trees projects_2.tree) (at_tree (λ n. h.0.trees n ≡ []) tables_1 was.empty projects_move.gone.tree refl) (it.moved was.schema_is) in
    let out : ℕ → Bool = λ n. eqb n projects_2.tree in
    let Told : Table → Type 0 = λ t. t.tree ≢ projects_2.tree → new.trees t.tree ≡ h.0.trees t.tree in
    let Stays : Table → Type 0 = λ t. out t.tree ≡ false → new.trees t.tree ≡ h.0.trees t.tree in
    let stay : AllByRecursion Stays tables_2 = all_weaker {P = Told} {Q = Stays} tables_2 (λ t stays other. stays (eqb-false t.tree projects_2.tree other)) (it.others was.schema_is) in
    let after : IsBlank schema_2 new = record {
      schema_is = it.schema was.schema_is;
      empty = all_after out (λ rows. rows ≡ []) h.0.trees new.trees tables_2 (λ t is. subst (λ n. new.trees n ≡ []) (sym (eqb-true t projects_2.tree is)) moved)
          stay (covered_but out (λ n. h.0.trees n ≡ []) tables_1 tables_2 was.empty refl);
    } in
    (after, it.sound was.schema_is)

-- and those of a desk
pub grows : (old new : Database) → Next (Grows schema_0 schema_1) (Migrates earlier.First) old new → Grows schema_0 desk_schema old new
grows old new h blank =
    let was = (h.1 blank).0 in
    let it = h.2 in
    let moved = it.moved was.schema_is in
    let projects = empty_moved projects_move _ (new.trees projects_2.tree) (at_tree (λ n. h.0.trees n ≡ []) tables_1 was.empty projects_move.gone.tree refl) moved.0 in
    let answers = empty_moved answers_move _ (new.trees answers_3.tree) (at_tree (λ n. h.0.trees n ≡ []) tables_1 was.empty answers_move.gone.tree refl) moved.1.0 in
    let after : IsBlank desk_schema new = record {
      schema_is = it.schema was.schema_is;
      empty = all_after (is_new earlier.First) (λ rows. rows ≡ []) h.0.trees new.trees desk_tables (λ t is. at_tree (λ n. new.trees n ≡ []) (tables_since earlier.First) (projects, (answers, (it.empty was.schema_is, tt))) t is) (it.others was.schema_is)
          (of_earlier earlier.First (λ n. h.0.trees n ≡ []) was.empty);
    } in
    (after, it.sound was.schema_is)
