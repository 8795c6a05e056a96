-- Words that only proofs and private clauses use.
use Rattle.std.specs.{BTreeMap.is_at, List.AllByRecursion, List.IsDistinct, List.list_any, List.Sorted.IsPermutation}
use Rattle.std.specs.Ordering.{is_eq}
use Rattle.std.specs.Prelude.{List, map, Bool, IsTrue, ℤ, ◌≡◌, true, not, Option, Some, None, false, [], ℕ, filter, take, drop, option_to_list, ◌<◌, length, ◌⊎◌, ◌∷◌, pos, codes, ◌++◌, ◌≢◌, slice_get}
use Rattle.{std.specs.declared.cmp.Ordering.Ordering, sqlite.proofs.Callers.IsPlain, sqlite.proofs.Callers.command_of}
use Rattle.sqlite.specs.{Does.is_acted_on, Effect.Database, Effect.IsDatabase, Listing.understood}
use Rattle.sqlite_catalog.specs.Change.{without_table}
use Rattle.sqlite_rules.specs.{Action.works, Cast.cast_row}
use Rattle.sqlite_schema.specs.declared.command.Command.TheVariants.{Delete, Insert, DropTable}
use Rattle.sqlite_schema.specs.declared.{command.Source.TheVariants.Query as FromQuery, program.Program.Program}
use Rattle.sqlite_schema.specs.declared.schema.{Keys.TheVariants.Enforced, Schema.Schema, Table.Table}
use Rattle.sqlite_sql.specs.{Query.Query, Term.Term, Term.lit, Term.col, Term.op1, Term.op2, Term.eval_all}
use Rattle.sqlite_sql.specs.declared.ops.BinaryOp.TheVariants.{Compare}
use Rattle.sqlite_sql.specs.declared.ops.CompareOp.TheVariants.{Lt, Eq}
use Rattle.sqlite_sql.specs.declared.ops.UnaryOp.TheVariants.{Not, TypeOf}
use Rattle.sqlite_tied.specs.Listing.{counting}
use Rattle.sqlite_trees.specs.{Tree.Trees, Tree.rowid, View.is_int}
use Rattle.sqlite_value.specs.Order.{Row, column, value_cmp, Row as Raw}
use Rattle.sqlite_value.specs.declared.keys.Collation.{Collation, TheVariants.Binary}
use Rattle.sqlite_value.specs.declared.value.Value.{Value, TheVariants.Int, TheVariants.Text}
use Rattle.review_table.specs.Rows.{row_in}
use Rattle.review_sql_tables.specs.Content.{has_key, SparesOthers, AreApart}
use Rattle.review_sql_tables.specs.Desk.{desk_tables, schema_of, simple}
use Rattle.review_sql_tables.specs.Search.{IsGreatest, as_counted, HasOdd, Search, rows_at, shown, At}
use Rattle.review_sql_tables.specs.Texts.{tests_from, over_table, number_at, has_integer, Alters}
use Rattle.review_sql_tables.specs.Versions.{Move, AreMoved, columns_of}

-- ---- rowids as they are read

-- the values of the first column
abbrev pub firsts : List Row → List Value
firsts = map (λ r. column r 0)

-- SQL counts two values as one
abbrev pub is_same : Value → Value → Bool
is_same v w = is_eq (value_cmp v w)

-- integers, each once
abbrev pub AreOwn : List Value → Type 0
AreOwn values = AllByRecursion (λ v. IsTrue (is_int v)) values × IsDistinct is_same values

-- the numbers of the first column, or that one is no integer
abbrev pub AreIds : List Row → Option (List ℤ) → Type 0
AreIds rows (Some ids) = firsts rows ≡ map Int ids
AreIds rows None = list_any (λ r. not (is_int (column r 0))) rows ≡ true

-- the integer of the first column, or none where it is no integer
abbrev pub IsIdOf : Row → Option ℤ → Type 0
IsIdOf row (Some id) = column row 0 ≡ Int id
IsIdOf row None = is_int (column row 0) ≡ false

-- ---- look-ups and texts

-- one after the other
abbrev pub Then : (Trees → Trees → Type 0) → (Trees → Trees → Type 0) → Trees → Trees → Type 0
Then First Next old new = (mid : Trees) × First old mid × Next mid new

-- the rows of a key are these, and those of any key that no row has together with it are as they were
pub record Sets (tree : ℕ) (key : List (ℕ × Value)) (rows : List Row) (old new : Trees) : Type 0 where
  pub here : filter (has_key key) (new tree) ≡ rows
  pub there : (p : Row → Bool) → ((r : Row) → has_key key r ≡ true → p r ≡ false) → filter p (new tree) ≡ filter p (old tree)
  pub others : SparesOthers tree old new

-- the table at a place of their list, where there is one
abbrev pub table_at : ℕ → List Table
table_at at = take 1 (drop at desk_tables)

-- the items of a key
abbrev pub at_key : {K X : Type 0} → (K → K → Ordering) → K → List (K × X) → List (K × X)
at_key cmp k items = filter (λ e. is_at (cmp e.0) k) items

-- rows as they read, each key once, and what each key has
pub record WereApart {K X : Type 0} (cmp : K → K → Ordering) (read : Raw → Option (K × X)) (rows : List Raw) (entries : List (K × X)) : Type 0 where
  pub items : List (K × X)
  pub read_as : map read rows ≡ map Some items
  pub each : (k : K) → map (λ e. e.1) (at_key cmp k items) ≡ option_to_list (row_in cmp entries k)

-- whether what was read has the key
abbrev pub is_of : {K X : Type 0} → (K → K → Ordering) → K → Option (K × X) → Bool
is_of cmp k None = false
is_of cmp k (Some e) = is_at (cmp e.0) k

-- two of the rows read with one key
abbrev pub HasTwins : {K X : Type 0} → (K → K → Ordering) → (Raw → Option (K × X)) → List Raw → Type 0
HasTwins {K = K} cmp read rows = (k : K) × (1 < length (filter (λ r. is_of cmp k (read r)) rows))

-- rows as they read, each key once, or that one is odd, or two have one key
abbrev pub WereSorted : {K X : Type 0} → (K → K → Ordering) → (Raw → Option (K × X)) → List Raw → Option (List (K × X)) → Type 0
WereSorted cmp read rows None = HasOdd read rows ⊎ HasTwins cmp read rows
WereSorted cmp read rows (Some entries) = WereApart cmp read rows entries

-- a text shows the row with the greatest value of a column, or nothing where there is no row
abbrev pub ShowsGreatest : (Raw → Raw) → ℕ → List Raw → List Raw → Type 0
ShowsGreatest show place found [] = found ≡ []
ShowsGreatest show place found (x ∷ xs) = (r : Raw) × IsGreatest place found r × (x ∷ xs ≡ show r ∷ [])

-- a text shows how many rows there are
abbrev pub ShowsCount : List Raw → List Raw → Type 0
ShowsCount found rows = rows ≡ (Int (pos (as_counted (length found))) ∷ []) ∷ []

-- a look-up shows the row with the greatest value of a column
abbrev pub FindsGreatest : {A X : Type 0} → Search A X → ℕ → A → Trees → List Raw → Type 0
FindsGreatest s place a db rows = ShowsGreatest (shown s) place (rows_at (s.at a) (db s.tree)) rows

-- the first row as it reads, where there is one
abbrev pub first_as : {X : Type 0} → (Raw → Option X) → List Raw → Option (Option X)
first_as read [] = None
first_as read (r ∷ rows) = Some (read r)

-- the rowids of a table, in any order
abbrev pub FindsIds : ℕ → Trees → List Raw → Type 0
FindsIds tree db rows = IsPermutation (map (λ r. rowid r ∷ []) (db tree)) rows

-- all rows as they read, or that one of them is odd
abbrev pub WereRead : {X : Type 0} → (Raw → Option X) → List Raw → Option (List X) → Type 0
WereRead read rows None = HasOdd read rows
WereRead read rows (Some xs) = map read rows ≡ map Some xs

-- how many rows have a key
abbrev pub count_where : ℕ → At → Query
count_where tree key = counting (over_table tree (tests_from 0 key) [] [])

-- a column has no negative number
abbrev pub not_negative : ℕ → Term
not_negative place = op1 Not (op2 (Compare Lt Binary) (col 1 place) (lit (Int (pos 0))))

-- a column has a text
abbrev pub has_text : ℕ → Term
has_text place = op2 (Compare Eq Binary) (op1 TypeOf (col 1 place)) (lit (Text (codes "text")))

-- a row has an integer in one column that isn't negative and is below the one that is bound, an integer in another that isn't negative, and a text in a third
abbrev pub tests_below : ℕ → ℕ → ℕ → List Term
tests_below below number text =
    op2 (Compare Lt Binary) (col 1 below) (number_at below 0) ∷ not_negative below ∷ has_integer below ∷ not_negative number ∷ has_integer number ∷ has_text text ∷ []

-- a text takes these rows out of a table
abbrev pub DeletesBelow : List ℕ → ℕ → ℕ → ℕ → ℕ → Type 0
DeletesBelow sql tree below number text =
    Alters sql tree (λ at table. Delete at (record { lets = []; body = over_table tree (tests_below below number text) (col 1 0 ∷ []) [] }))

-- ---- how a text of a migration moves the rows of a table to another, and drops the first

-- the tables with both
abbrev pub with_both : Move → List Table
with_both move = move.before ++ move.come ∷ []

-- a table has neither more nor less than the tables of a desk
abbrev pub IsSimple : Table → Type 0
IsSimple t = t ≡ simple t.name t.tree t.columns t.key t.primary t.uniques t.orders

-- no foreign key of the schema acts
abbrev pub HasNoKeys : Schema → Type 0
HasNoKeys schema = (tree : ℕ) (olds news : List Row) → works schema Enforced 0 tree olds news ≡ []

-- all rows of a table, each shown by these terms
abbrev pub all_rows : ℕ → List Term → List Collation → Program
all_rows tree terms collations = record { lets = []; body = record (over_table tree [] terms []) { collations = collations } }

-- a text puts the rows of the old table into the new one
pub record FillsText (sql : List ℕ) (move : Move) : Type 0 where
  pub at : ℕ
  pub place : slice_get (with_both move) at ≡ Some move.come
  pub simply : IsSimple move.come
  pub no_keys : HasNoKeys (schema_of (with_both move))
  pub terms : List Term
  pub collations : List Collation
  pub is : command_of (understood (schema_of (with_both move)) sql) ≡ Insert at (FromQuery (all_rows move.gone.tree terms collations))
  pub plainly : IsPlain (understood (schema_of (with_both move)) sql)
  pub made : (r : Row) → columns_of (cast_row move.come (eval_all terms ([] ∷ r ∷ []))) ≡ move.made r

-- a text drops the old table
pub record DropsText (sql : List ℕ) (move : Move) : Type 0 where
  pub at : ℕ
  pub place : slice_get (with_both move) at ≡ Some move.gone
  pub simply : IsSimple move.gone
  pub no_keys : HasNoKeys (schema_of (with_both move))
  pub alone : is_acted_on (schema_of (with_both move)) Enforced move.gone ≡ false
  pub is : command_of (understood (schema_of (with_both move)) sql) ≡ DropTable at
  pub plainly : IsPlain (understood (schema_of (with_both move)) sql)
  pub leaves : without_table (schema_of (with_both move)) move.gone.tree ≡ schema_of move.after

-- the rows are moved to the empty new table, and all other tables keep theirs
pub record Fills (move : Move) (old new : Database) : Type 0 where
  pub schema : new.schema ≡ schema_of (with_both move)
  pub moved : AreMoved move.made (old.trees move.gone.tree) (new.trees move.come.tree)
  pub apart : AreApart (new.trees move.come.tree)
  pub others : AllByRecursion (λ t. t.tree ≢ move.come.tree → new.trees t.tree ≡ old.trees t.tree) (with_both move)

-- rows are moved to an empty table, where the text is one that moves them
abbrev pub FillsBy : List ℕ → Database → Database → Type 0
FillsBy sql old new = (move : Move) → FillsText sql move → old.schema ≡ schema_of (with_both move) → old.trees move.come.tree ≡ [] → Fills move old new

-- the old table goes, all others keep their rows, and the whole is a database
pub record Drops (move : Move) (old new : Database) : Type 0 where
  pub schema : new.schema ≡ schema_of move.after
  pub others : AllByRecursion (λ t. new.trees t.tree ≡ old.trees t.tree) move.after
  pub sound : IsDatabase new

-- a table goes, where the text is one that drops it
abbrev pub DropsBy : List ℕ → Database → Database → Type 0
DropsBy sql old new = (move : Move) → DropsText sql move → old.schema ≡ schema_of (with_both move) → Drops move old new
