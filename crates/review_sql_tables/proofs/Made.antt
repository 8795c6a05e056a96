-- What a fixed CREATE TABLE does.
use Rattle.sqlite.proofs.Callers.{memory_is_clean}
use Rattle.sqlite.specs.{Does.lacks_sequence, State.Writes, Steps.over_memory, Steps.IsEmpty}
use Rattle.{sqlite_catalog.specs.Change.created, sqlite_schema.specs.declared.command.Command.TheVariants.CreateTable}
use Rattle.sqlite_trees.specs.declared.memory.MemStore.{MemStore}
use Rattle.review_sql_tables.proofs.Common.{◌≡◌, ◌<◌, ℕ, zero, suc, List, [], false, None, Ok, refl, sym, ap, subst, subst₂, ◌∙◌, map, take, length, slice_index_or, append-nil, arith, ◌∷◌, ◌++◌, true, inl, inr, eqb, eqb-true, Bool, or_cases, and_parts, append_assoc, Decides, AllByRecursion, list_all, list_any, IsPlain, command_of, statement_of, runs_as, Tally, Database, IsDatabase, Held, state, understood, State, Executes, next_tree, KeepsRows, table_defined_by, Column, Schema, Table, is_null, everything, Trees, Value, Null, Int, Real, Text, Blob, AreApart, desk_schema, schema_of, schema_0, tables_1, tables_2, simple, MakesText, IsBlank, IsMade, MakesBy, Grows, IsReady, Transacts, schema_at, TablesVersion, First, Second, Third, IsSimple}
use Rattle.review_sql_tables.proofs.{Effects.are_simple, Sequences.Next, Statements.went, Statements.same_value}
use Rattle.review_sql_tables.proofs.TextsOfTables.{◌also◌}
use Rattle.review_sql_tables.specs.Plain.{IsPlainColumn, IsPlainForm, IsPlainSchema}
use Rattle.review_sql_tables.specs.declared.texts.TheConstants.{CREATE}

-- a table is made, and the others keep their rows
pub record Makes (schema : Schema) (table : Table) (old new : State) : Type 0 where
  pub schema_is : new.now.schema ≡ created schema table
  pub empty : new.now.trees (next_tree schema) ≡ []
  pub others : KeepsRows schema.tables old.now.trees new.now.trees
  pub sound : IsDatabase new.now

pub creates : (sql : List ℕ) (old new : State) (schema : Schema) (table : Table) → old.now.schema ≡ schema → command_of (understood schema sql) ≡ CreateTable
    → statement_of sql (understood schema sql) ≡ sql → IsPlain (understood schema sql) → table_defined_by sql ≡ Ok table → lacks_sequence (created schema table) ≡ false
    → (count : ℕ) → Executes sql [] old new (Ok count) → Makes schema table old new
creates sql old new schema table has is text plain defined uncounted count h =
    let w = subst (λ t. Writes old new None CreateTable t [] count) text (runs_as sql [] old new schema has CreateTable is plain count h) in
    let all = went w.changed in
    let first = went all.1 in
    let made = first.1 in
    let same : made.table ≡ table = same_value (sym made.defined ∙ defined) in
    let schema_is : first.0.schema ≡ created schema table = made.is ∙ ap (λ s. created s made.table) has ∙ ap (created schema) same in
    let none : lacks_sequence first.0.schema ≡ false = ap lacks_sequence schema_is ∙ uncounted in
    let now : new.now ≡ first.0 = ap (λ (p : Tally × Database). p.1) (same_value all.2) ∙ same_value (rw none at first.2) in
    record {
      schema_is = ap (λ (d : Database). d.schema) now ∙ schema_is;
      empty = ap (λ (d : Database). d.trees (next_tree schema)) now ∙ subst (λ s. first.0.trees (next_tree s) ≡ []) has made.empty;
      others = subst (λ (d : Database). KeepsRows schema.tables old.now.trees d.trees) (sym now) (subst (λ (s : Schema). KeepsRows s.tables old.now.trees first.0.trees) has made.others);
      sound = w.sound;
    }

all_more : (P : Table → Type 0) (tables : List Table) (t : Table) → AllByRecursion P tables → P t → AllByRecursion P (tables ++ t ∷ [])
all_more P [] t all it = (it, tt)
all_more P (x ∷ tables) t all it = (all.0, all_more P tables t all.1 it)

still_empty : (tables : List Table) (old new : Trees) → AllByRecursion (λ t. new t.tree ≡ old t.tree) tables → AllByRecursion (λ t. old t.tree ≡ []) tables → AllByRecursion (λ t. new t.tree ≡ []) tables
still_empty [] old new same none = tt
still_empty (x ∷ tables) old new same none = (same.0 ∙ none.0, still_empty tables old new same.1 none.1)

pub makes_by : (sql : List ℕ) (old new : State) (count : ℕ) → Executes sql [] old new (Ok count) → MakesBy sql old.now new.now
makes_by sql old new count h schema table after it has =
    let made = creates sql old new schema (record table { tree = 0 }) has it.command it.text it.plain it.defines it.uncounted count h in
    record { schema_is = made.schema_is ∙ it.leaves; empty = made.empty; others = made.others; sound = made.sound }

-- of empty tables all are empty with one more
blank_after : (sql : List ℕ) (schema : Schema) (table : Table) (after : Schema) (old new : Database) → MakesText sql schema table after → IsBlank schema old → IsMade schema after old new → IsBlank after new
blank_after sql schema table after old new it was made =
    let all = all_more (λ t. new.trees t.tree ≡ []) schema.tables (record table { tree = next_tree schema }) (still_empty schema.tables old.trees new.trees made.others was.empty) made.empty in
    record { schema_is = made.schema_is; empty = subst (λ (s : Schema). AllByRecursion (λ t. new.trees t.tree ≡ []) s.tables) it.leaves all }

pub empty_at : (db : Trees) (tables : List Table) → AllByRecursion (λ t. db t.tree ≡ []) tables → (t : ℕ) → list_any (λ x. eqb x.tree t) tables ≡ true → db t ≡ []
empty_at db [] all t is = absurd (cc)
empty_at db (x ∷ tables) all t is = elim (or_cases _ _ is) [ inl here ↦ subst (λ n. db n ≡ []) (eqb-true x.tree t here) all.0 | inr later ↦ empty_at db tables all.1 t later ]

-- empty tables of a desk are tables of a desk
pub ready_blank : (db : Database) → IsBlank desk_schema db → IsDatabase db → IsReady db
ready_blank db it sound = record { schema = it.schema_is; sound = sound; apart = λ t is. subst AreApart (sym (empty_at db.trees desk_schema.tables it.empty t is)) tt }

-- ---- the tables of the list, one after the other

-- each text makes its table, after those before it
abbrev pub AreMade : List (List ℕ) → List Table → List Table → Type 0
AreMade [] before [] = Unit {0}
AreMade [] before (t ∷ tables) = ⊥
AreMade (sql ∷ texts) before [] = ⊥
AreMade (sql ∷ texts) before (t ∷ tables) = MakesText sql (schema_of before) t (schema_of (before ++ t ∷ [])) × AreMade texts (before ++ t ∷ []) tables

are_made : AreMade (map (λ t. t.now) CREATE) [] tables_1
unfolding understood everything
are_made =
    record { command = refl; text = refl; plain = (refl, refl); defines = refl; uncounted = refl; leaves = refl } also
    record { command = refl; text = refl; plain = (refl, refl); defines = refl; uncounted = refl; leaves = refl } also
    record { command = refl; text = refl; plain = (refl, refl); defines = refl; uncounted = refl; leaves = refl } also
    record { command = refl; text = refl; plain = (refl, refl); defines = refl; uncounted = refl; leaves = refl } also
    record { command = refl; text = refl; plain = (refl, refl); defines = refl; uncounted = refl; leaves = refl } also
    record { command = refl; text = refl; plain = (refl, refl); defines = refl; uncounted = refl; leaves = refl } also
    record { command = refl; text = refl; plain = (refl, refl); defines = refl; uncounted = refl; leaves = refl } also
    record { command = refl; text = refl; plain = (refl, refl); defines = refl; uncounted = refl; leaves = refl } also
    record { command = refl; text = refl; plain = (refl, refl); defines = refl; uncounted = refl; leaves = refl } also
    record { command = refl; text = refl; plain = (refl, refl); defines = refl; uncounted = refl; leaves = refl } also
    record { command = refl; text = refl; plain = (refl, refl); defines = refl; uncounted = refl; leaves = refl } also
    record { command = refl; text = refl; plain = (refl, refl); defines = refl; uncounted = refl; leaves = refl } also
    tt

made_at : (texts : List (List ℕ)) (before tables : List Table) → AreMade texts before tables → (at : ℕ) (d : List ℕ) → at < length tables → (t : Table) × MakesText (slice_index_or texts at d) (schema_of (before ++ take at tables)) t (schema_of (before ++ take (suc at) tables))
made_at [] before [] all at d low = absurd (omega (arith, low))
made_at [] before (t ∷ tables) all at d low = absurd all
made_at (sql ∷ texts) before [] all at d low = absurd all
made_at (sql ∷ texts) before (t ∷ tables) all zero d low = (t, subst (λ b. MakesText sql (schema_of b) t (schema_of (before ++ t ∷ []))) (sym (append-nil before)) all.0)
made_at (sql ∷ texts) before (t ∷ tables) all (suc at) d low =
    let it = made_at texts (before ++ t ∷ []) tables all.1 at d (omega (arith, low)) in
    (it.0, subst₂ (λ a b. MakesText (slice_index_or texts at d) (schema_of a) it.0 (schema_of b)) (append_assoc before (t ∷ []) (take at tables)) (append_assoc before (t ∷ []) (take (suc at) tables)) it.1)

-- the table at a place of the list is made
makes_from : (at : ℕ) (sql : List ℕ) → at < 12 → ((d : List ℕ) → sql ≡ slice_index_or (map (λ t. t.now) CREATE) at d) → (mid new : Database)
    → IsBlank (schema_of (take at tables_1)) mid → MakesBy sql mid new → IsBlank (schema_of (take (suc at) tables_1)) new × IsDatabase new
makes_from at sql low is mid new blank makes =
    let it = made_at (map (λ t. t.now) CREATE) [] tables_1 are_made at [] low in
    let before = schema_of (take at tables_1) in
    let after = schema_of (take (suc at) tables_1) in
    let text = subst (λ s. MakesText s before it.0 after) (sym (is [])) it.1 in
    let made = makes before it.0 after text blank.schema_is in
    (blank_after sql before it.0 after mid new text blank made, made.sound)

-- one more table of the list is made
pub makes_next : (at : ℕ) (sql : List ℕ) → at < 12 → ((d : List ℕ) → sql ≡ slice_index_or (map (λ t. t.now) CREATE) at d) → (old new : Database)
    → Next (Grows schema_0 (schema_of (take at tables_1))) (MakesBy sql) old new → Grows schema_0 (schema_of (take (suc at) tables_1)) old new
makes_next at sql low is old new h was = makes_from at sql low is h.0 new (h.1 was).0 h.2

-- the first table of the list is made
pub makes_first : (sql : List ℕ) → ((d : List ℕ) → sql ≡ slice_index_or (map (λ t. t.now) CREATE) 0 d) → (old new : Database) → MakesBy sql old new → Grows schema_0 (schema_of (take 1 tables_1)) old new
makes_first sql is old new h was = makes_from 0 sql (omega arith) is old new was h

-- ---- whether a schema is that of a desk

abbrev no_defaults : List Column → Bool
no_defaults columns = list_all (λ c. is_null c.default) columns

plain_columns : (columns : List Column) → no_defaults columns ≡ true → AllByRecursion IsPlainColumn columns
plain_columns [] all = tt
plain_columns (c ∷ columns) all = let parts = and_parts _ _ all in (null_is c.default parts.0, plain_columns columns parts.1)
  where
    null_is : (v : Value) → is_null v ≡ true → v ≡ Null
    null_is Null is = refl
    null_is (Int n) is = absurd (cc)
    null_is (Real x) is = absurd (cc)
    null_is (Text t) is = absurd (cc)
    null_is (Blob b) is = absurd (cc)

plain_form : (t : Table) → no_defaults t.columns ≡ true → t ≡ simple t.name t.tree t.columns t.key t.primary t.uniques t.orders → IsPlainForm t
plain_form t columns is = (
  record {
    checks = ap (λ (x : Table). x.checks) is;
    references = ap (λ (x : Table). x.references) is;
    computed = ap (λ (x : Table). x.computed) is;
    places = ap (λ (x : Table). x.stamps.places) is;
    terms = ap (λ (x : Table). x.stamps.terms) is;
    formats = ap (λ (x : Table). x.stamps.formats) is;
  },
  plain_columns t.columns columns,
)

plain_forms : (tables : List Table) → AllByRecursion (λ t. t ≡ simple t.name t.tree t.columns t.key t.primary t.uniques t.orders) tables → list_all (λ t. no_defaults t.columns) tables ≡ true → AllByRecursion IsPlainForm tables
plain_forms [] all none = tt
plain_forms (t ∷ tables) all none = let parts = and_parts _ _ none in (plain_form t parts.0 all.0, plain_forms tables all.1 parts.1)

first_are_simple : AllByRecursion IsSimple tables_1
first_are_simple = (refl, (refl, (refl, (refl, (refl, (refl, (refl, (refl, (refl, (refl, (refl, (refl, tt))))))))))))

second_are_simple : AllByRecursion IsSimple tables_2
second_are_simple = (refl, (refl, (refl, (refl, (refl, (refl, (refl, (refl, (refl, (refl, (refl, (refl, tt))))))))))))

is_plain : (version : TablesVersion) → IsPlainSchema (schema_at version)
is_plain First = (refl, plain_forms tables_1 first_are_simple refl)
is_plain Second = (refl, plain_forms tables_2 second_are_simple refl)
is_plain Third = (refl, plain_forms desk_schema.tables are_simple refl)

-- the tables that were made in memory
pub made_in_memory : (schema : Schema) (old new : Held MemStore) (x : Unit {0}) → IsEmpty (state over_memory old) → Transacts (Grows schema_0 schema) (state over_memory old) (state over_memory new) (Ok x) → new.schema ≡ schema
made_in_memory schema old new x empty acts = ((acts.done (memory_is_clean new)).2 (record { schema_is = empty.2; empty = tt })).0.schema_is

pub decides_desk : (version : TablesVersion) (is : Bool) (schema plain : Schema) → plain ≡ schema_at version → Decides is ((schema ≡ plain) × IsPlainSchema plain) → Decides is (schema ≡ schema_at version)
decides_desk version is schema plain same d = (λ yes. (d.0 yes).0 ∙ same, λ it. d.1 (it ∙ sym same, subst IsPlainSchema (sym same) (is_plain version)))
