-- What texts are understood as, by the tables of a desk.
use Rattle.std.specs.List.{list_all}
use Rattle.std.specs.Prelude.{[], ℕ, zero, suc, codes, List, ◌∷◌, ◌++◌, ◌+◌, map, pos, negsuc, false, None, true, ◌≡◌, Some, slice_get, drop, Option, ℤ, ◌/◌, length, IsTrue}
use Rattle.sqlite.proofs.Callers.{IsPlain, command_of}
use Rattle.sqlite.specs.{Effect.value_rows, Listing.understood, Listing.reads_listing}
use Rattle.sqlite_rules.specs.{Cast.cast_row, Edit.edit_of, Edit.id_in, declared.error.Rowids.TheVariants.Chosen}
use Rattle.sqlite_schema.specs.declared.command.Command.{Command}
use Rattle.sqlite_schema.specs.declared.command.Command.TheVariants.{Select, Delete, Insert, Update}
use Rattle.sqlite_schema.specs.declared.{command.Source.TheVariants.Values, schema.Column.Column, schema.Table.Table}
use Rattle.sqlite_sql.specs.Query.{Query, inner, end}
use Rattle.sqlite_sql.specs.Term.{Term, col, op1, lit, op2, holds, eval_all}
use Rattle.sqlite_sql.specs.declared.ops.{BinaryOp.TheVariants.Compare, CompareOp.TheVariants.Eq}
use Rattle.sqlite_sql.specs.declared.ops.UnaryOp.TheVariants.{ToNumeric, TypeOf}
use Rattle.sqlite_trees.specs.{Tree.Trees, Tree.rowid, View.is_int}
use Rattle.sqlite_value.specs.Order.{Row}
use Rattle.sqlite_value.specs.declared.{keys.Collation.TheVariants.Binary, keys.Key.Key, value.Value.Value}
use Rattle.sqlite_value.specs.declared.value.Value.TheVariants.{Text, Null, Int, Real, Blob}
use Rattle.review_sql_tables.specs.{Content.has_key, Desk.desk_schema, Search.At}

-- ---- the tests of a WHERE

-- what is bound at a place, as it is compared with a column of numbers; a rowid is compared with it as it is
abbrev pub number_at : ℕ → ℕ → Term
number_at zero at = col 0 at
number_at (suc place) at = op1 ToNumeric (col 0 at)

-- a column has an integer, and no other number that equals one
abbrev pub has_integer : ℕ → Term
has_integer place = op2 (Compare Eq Binary) (op1 TypeOf (col 1 place)) (lit (Text (codes "integer")))

-- a column has the number or the text that is bound at a place; no other value is asked for
abbrev pub tests_for : ℕ → Value → ℕ → List Term
tests_for place Null at = lit Null ∷ []
tests_for place (Int n) at = op2 (Compare Eq Binary) (col 1 place) (number_at place at) ∷ has_integer place ∷ []
tests_for place (Real x) at = lit Null ∷ []
tests_for place (Text t) at = op2 (Compare Eq Binary) (col 1 place) (col 0 at) ∷ []
tests_for place (Blob b) at = lit Null ∷ []

-- each of these columns has its value, of those that are bound from a place on
abbrev pub tests_from : ℕ → At → List Term
tests_from at [] = []
tests_from at (c ∷ key) = tests_for c.0 c.1 at ++ tests_from (suc at) key

-- the values that are bound for a key
abbrev pub values_of : At → Row
values_of key = map (λ c. c.1) key

-- ---- queries

-- some columns of the rows of a table that pass tests, in some order
abbrev pub over_table : ℕ → List Term → List Term → List (Term × Key) → Query
over_table tree tests project order = record {
  from = inner tree end;
  filter = tests;
  group = None;
  project = project;
  distinct = false;
  collations = [];
  order = order;
  limit = lit (Int (negsuc 0));
  offset = lit (Int (pos 0));
}

-- these columns of the rows of a key
abbrev pub rows_where : ℕ → At → List ℕ → Query
rows_where tree key columns = over_table tree (tests_from 0 key) (map (col 1) columns) []

-- by a column, the greatest value first
abbrev pub falling : ℕ → List (Term × Key)
falling place = (col 1 place, record { collation = Binary; descending = Rattle.std.specs.Prelude.true }) ∷ []

-- the same of the one row with the greatest value of a column
abbrev pub last_where : ℕ → At → List ℕ → ℕ → Query
last_where tree key columns place = record (over_table tree (tests_from 0 key) (map (col 1) columns) (falling place)) { limit = lit (Int (pos 1)) }

-- a text is understood as this query
pub record Asks (sql : List ℕ) (query : Query) : Type 0 where
  pub names : List (List ℕ)
  pub is : command_of (understood desk_schema sql) ≡ Select (record { lets = []; body = query }) names
  pub plain : IsPlain (understood desk_schema sql)
  pub unlisted : reads_listing desk_schema sql ≡ false

-- ---- changes

-- a text is understood as this change of the table of a tree
pub record Alters (sql : List ℕ) (tree : ℕ) (command : ℕ → Table → Command) : Type 0 where
  pub table : Table
  pub at : ℕ
  pub there : slice_get desk_schema.tables at ≡ Some table
  pub tree_is : table.tree ≡ tree
  pub is : command_of (understood desk_schema sql) ≡ command at table
  pub plain : IsPlain (understood desk_schema sql)

-- a text takes the rows of a key out of a table
abbrev pub Deletes : List ℕ → ℕ → At → Type 0
Deletes sql tree key = Alters sql tree (λ at table. Delete at (record { lets = []; body = rows_where tree key (0 ∷ []) }))

-- for each column what is bound at its place
abbrev pub bound_from : ℕ → List Column → List Term
bound_from at [] = []
bound_from at (c ∷ columns) = col 0 at ∷ bound_from (suc at) columns

-- the rowid of a new row, and then its columns; the number of a row is its rowid, and its column is left empty
abbrev pub terms_for : Option ℕ → List Column → List Term
terms_for None columns = lit Null ∷ bound_from 0 columns
terms_for (Some key) columns = col 0 0 ∷ lit Null ∷ bound_from 1 (drop 1 columns)

abbrev pub new_terms : Table → List Term
new_terms table = terms_for table.key table.columns

-- a text puts values into a table, as a row that is stored so
pub record Inserts (sql : List ℕ) (tree : ℕ) (values : Row) (stored : ℤ → Row) : Type 0 where
  pub alters : Alters sql tree (λ at table. Insert at (Values (new_terms table) (length (new_terms table))))
  pub row : (db : Trees) → (id : ℤ) × ((edit_of db alters.table [] Chosen 0 (value_rows values (length (new_terms alters.table)) (length (new_terms alters.table) / length (new_terms alters.table)) (new_terms alters.table))).news ≡ stored id ∷ [])

-- for a row that is there its rowid, and then for each column what is bound at its place; the number of a row is its rowid, and stays
abbrev pub changed_terms : Table → List Term
changed_terms table = col 1 0 ∷ drop 1 (new_terms table)

-- a text gives the rows of a key these values, each as a row that is stored so with the rowid that it has
pub record Updates (sql : List ℕ) (tree : ℕ) (key : At) (values : Row) (stored : ℤ → Row) : Type 0 where
  pub alters : Alters sql tree (λ at table. Update at (record { lets = []; body = over_table tree (tests_from 0 key) (col 1 0 ∷ changed_terms table) [] }))
  pub passing : (r : Row) → list_all (holds (values ∷ r ∷ [])) (tests_from 0 key) ≡ has_key key r
  pub row : (r : Row) → has_key key r ≡ true → IsTrue (is_int (rowid r)) → cast_row alters.table (eval_all (changed_terms alters.table) (values ∷ r ∷ [])) ≡ stored (id_in (rowid r))
