-- Schemas with nothing but columns, keys and uniqueness.
use Rattle.std.specs.{List.AllByRecursion, Prelude.◌≡◌, Prelude.[]}
use Rattle.sqlite_schema.specs.declared.schema.{Column.Column, Schema.Schema, Table.Table}
use Rattle.sqlite_value.specs.declared.value.Value.TheVariants.{Null}

-- a column with no default
abbrev pub IsPlainColumn : Column → Type 0
IsPlainColumn c = c.default ≡ Null

-- a table with no CHECK, no foreign key and no default that is computed
pub record IsPlainTable (t : Table) : Type 0 where
  pub checks : t.checks ≡ []
  pub references : t.references ≡ []
  pub computed : t.computed ≡ []
  pub places : t.stamps.places ≡ []
  pub terms : t.stamps.terms ≡ []
  pub formats : t.stamps.formats ≡ []

-- such a table whose columns have no default
abbrev pub IsPlainForm : Table → Type 0
IsPlainForm t = IsPlainTable t × AllByRecursion IsPlainColumn t.columns

-- such tables alone, and no view
abbrev pub IsPlainSchema : Schema → Type 0
IsPlainSchema s = (s.views ≡ []) × AllByRecursion IsPlainForm s.tables

-- two tables have the same name, tree, columns and keys, and the columns of the other have no default
pub record IsSameForm (t other : Table) : Type 0 where
  pub name : t.name ≡ other.name
  pub tree : t.tree ≡ other.tree
  pub columns : (t.columns ≡ other.columns) × AllByRecursion IsPlainColumn other.columns
  pub key : t.key ≡ other.key
  pub primary : t.primary ≡ other.primary
  pub uniques : t.uniques ≡ other.uniques
  pub orders : t.orders ≡ other.orders
  pub counted : t.is_counted ≡ other.is_counted
