-- The tables of a desk.
use Rattle.std.specs.List.{flat_map, list_any}
use Rattle.std.specs.Prelude.{[], true, false, List, ℕ, Option, ◌∷◌, Some, codes, None, ◌+◌, Bool, ◌==◌}
use Rattle.{sqlite_catalog.specs.Change.automatics, sqlite_schema.specs.declared.schema.Column.Column}
use Rattle.sqlite_schema.specs.declared.schema.{Index.Index, Kind.Kind, Kind.TheVariants.Integer, Kind.TheVariants.Text}
use Rattle.sqlite_schema.specs.declared.schema.{Schema.Schema, Table.Table}
use Rattle.sqlite_value.specs.{Keys.plain, declared.keys.Collation.TheVariants.Binary}
use Rattle.sqlite_value.specs.declared.{keys.Order.Order, value.Value.TheVariants.Null}

abbrev pub required : List ℕ → Kind → Column
required name kind = record { name = name; kind = kind; is_strict = false; not_null = true; default = Null; collation = Binary }

-- a table with no default, CHECK, foreign key or AUTOINCREMENT
abbrev pub simple : List ℕ → ℕ → List Column → Option ℕ → List ℕ → List (List ℕ) → List Order → Table
simple name tree columns key primary uniques orders = record {
  name = name;
  tree = tree;
  columns = columns;
  key = key;
  primary = primary;
  uniques = uniques;
  orders = orders;
  checks = [];
  references = [];
  computed = [];
  stamps = record { places = []; terms = []; formats = [] };
  is_counted = false;
}

abbrev pub number_key : List ℕ → Column
number_key name = record (required name Integer) { not_null = false }

abbrev pub accounts : Table
accounts = simple (codes "accounts") 0 (number_key (codes "number") ∷ required (codes "name") Text ∷ []) (Some 0) (0 ∷ []) ((2 ∷ []) ∷ []) (plain ∷ [])

abbrev pub members : Table
members = simple (codes "members") 2 (required (codes "grp") Text ∷ required (codes "account") Integer ∷ []) None (1 ∷ 2 ∷ []) ((1 ∷ 2 ∷ []) ∷ []) (plain ∷ [])

-- the projects of version 1
abbrev pub projects_1 : Table
projects_1 = simple (codes "projects") 4 (required (codes "name") Text ∷ required (codes "file") Text ∷ []) None (1 ∷ []) ((1 ∷ []) ∷ []) (plain ∷ [])

abbrev pub bases : Table
bases = simple (codes "bases") 6 (required (codes "project") Text ∷ required (codes "branch") Text ∷ required (codes "place") Integer ∷ required (codes "commit_name") Text ∷ []) None (1 ∷ 2 ∷ 3 ∷ []) ((1 ∷ 2 ∷ 3 ∷ []) ∷ (1 ∷ 2 ∷ 4 ∷ 3 ∷ []) ∷ []) (plain ∷ plain ∷ [])

abbrev pub changes : Table
changes = simple (codes "changes") 9 (number_key (codes "number") ∷ required (codes "project") Text ∷ required (codes "branch") Text ∷ required (codes "subject") Text ∷ required (codes "owner") Integer ∷ required (codes "status") Text ∷ required (codes "wip") Integer ∷ required (codes "place") Integer ∷ required (codes "updated") Integer ∷ []) (Some 0) (0 ∷ []) ((2 ∷ 3 ∷ 8 ∷ 0 ∷ []) ∷ []) (plain ∷ [])

abbrev pub patches : Table
patches = simple (codes "patches") 11 (required (codes "change") Integer ∷ required (codes "patch") Integer ∷ required (codes "commit_name") Text ∷ required (codes "parent") Text ∷ required (codes "kind") Text ∷ required (codes "uploader") Integer ∷ required (codes "paths") Text ∷ []) None (1 ∷ 2 ∷ []) ((1 ∷ 2 ∷ []) ∷ (3 ∷ 1 ∷ 2 ∷ []) ∷ []) (plain ∷ plain ∷ [])

abbrev pub votes : Table
votes = simple (codes "votes") 14 (required (codes "change") Integer ∷ required (codes "patch") Integer ∷ required (codes "label") Text ∷ required (codes "account") Integer ∷ required (codes "value") Integer ∷ []) None (1 ∷ 2 ∷ 3 ∷ 4 ∷ []) ((1 ∷ 2 ∷ 3 ∷ 4 ∷ []) ∷ []) (plain ∷ [])

abbrev pub reviewers : Table
reviewers = simple (codes "reviewers") 16 (required (codes "change") Integer ∷ required (codes "account") Integer ∷ required (codes "role") Text ∷ []) None (1 ∷ 2 ∷ []) ((1 ∷ 2 ∷ []) ∷ []) (plain ∷ [])

abbrev pub comments : Table
comments = simple (codes "comments") 18 (required (codes "change") Integer ∷ required (codes "number") Integer ∷ required (codes "patch") Integer ∷ required (codes "path") Text ∷ required (codes "line") Integer ∷ required (codes "author") Integer ∷ required (codes "message") Text ∷ required (codes "unresolved") Integer ∷ required (codes "answers_to") Integer ∷ required (codes "request") Integer ∷ []) None (1 ∷ 2 ∷ []) ((1 ∷ 2 ∷ []) ∷ []) (plain ∷ [])

abbrev pub attention : Table
attention = simple (codes "attention") 20 (required (codes "change") Integer ∷ required (codes "account") Integer ∷ required (codes "reason") Text ∷ required (codes "request") Integer ∷ []) None (1 ∷ 2 ∷ []) ((1 ∷ 2 ∷ []) ∷ []) (plain ∷ [])

-- the stored requests of versions 1 and 2
abbrev pub answers_1 : Table
answers_1 = simple (codes "answers") 22 (required (codes "caller") Integer ∷ required (codes "id") Text ∷ required (codes "request") Integer ∷ required (codes "content") Text ∷ required (codes "reply") Text ∷ []) None (1 ∷ 2 ∷ []) ((1 ∷ 2 ∷ []) ∷ (3 ∷ []) ∷ []) (plain ∷ plain ∷ [])

abbrev pub desk : Table
desk = simple (codes "desk") 25 (required (codes "version") Integer ∷ required (codes "requests") Integer ∷ []) None [] [] []

-- the tables of version 1, in the order in which they are made
abbrev pub tables_1 : List Table
tables_1 = accounts ∷ members ∷ projects_1 ∷ bases ∷ changes ∷ patches ∷ votes ∷ reviewers ∷ comments ∷ attention ∷ answers_1 ∷ desk ∷ []

-- the projects of version 2, each with its parent, where it has one
abbrev pub projects_2 : Table
projects_2 = simple (codes "projects_2") 26 (required (codes "name") Text ∷ required (codes "file") Text ∷ required (codes "parent") Text ∷ []) None (1 ∷ []) ((1 ∷ []) ∷ []) (plain ∷ [])

-- the tables of version 2, those that stay of version 1 first
abbrev pub tables_2 : List Table
tables_2 = accounts ∷ members ∷ bases ∷ changes ∷ patches ∷ votes ∷ reviewers ∷ comments ∷ attention ∷ answers_1 ∷ desk ∷ projects_2 ∷ []

-- the stored requests of version 3, each with the epoch of its identity
abbrev pub answers_3 : Table
answers_3 = simple (codes "answers_3") 28 (required (codes "caller") Integer ∷ required (codes "epoch") Integer ∷ required (codes "id") Text ∷ required (codes "request") Integer ∷ required (codes "content") Text ∷ required (codes "reply") Text ∷ []) None (1 ∷ 2 ∷ 3 ∷ []) ((1 ∷ 2 ∷ 3 ∷ []) ∷ (4 ∷ []) ∷ []) (plain ∷ plain ∷ [])

-- the least open epoch
abbrev pub epochs : Table
epochs = simple (codes "epochs") 31 (required (codes "least") Integer ∷ []) None [] [] []

-- the tables of version 3, those that stay of version 2 first
abbrev pub tables_3 : List Table
tables_3 = accounts ∷ members ∷ bases ∷ changes ∷ patches ∷ votes ∷ reviewers ∷ comments ∷ attention ∷ desk ∷ projects_2 ∷ answers_3 ∷ epochs ∷ []

-- the tables of a desk, which are those of version 3
abbrev pub desk_tables : List Table
desk_tables = tables_3

-- the indexes of a table's UNIQUE keys, each of which takes a tree after the table's
abbrev pub indexes_of : Table → List Index
indexes_of table = automatics table 0 (table.tree + 1) table.uniques

-- the schema of tables and their indexes
abbrev pub schema_of : List Table → Schema
schema_of tables = record { tables = tables; indexes = flat_map indexes_of tables; views = [] }

abbrev pub desk_schema : Schema
desk_schema = schema_of desk_tables

-- no table
abbrev pub schema_0 : Schema
schema_0 = schema_of []

-- the schema of version 1
abbrev pub schema_1 : Schema
schema_1 = schema_of tables_1

-- the schema of version 2
abbrev pub schema_2 : Schema
schema_2 = schema_of tables_2

-- the trees of the tables
abbrev pub is_tree : ℕ → Bool
is_tree t = list_any (λ table. table.tree == t) desk_schema.tables
