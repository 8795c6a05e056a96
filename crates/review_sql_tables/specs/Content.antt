-- What the rows of a table have at a key.
use Rattle.std.specs.{List.list_all, Ordering.is_eq}
use Rattle.std.specs.Prelude.{[], ℤ, Bool, false, ℕ, List, ◌≡◌, ◌∷◌, IsTrue, ◌+◌, true, filter, length, ◌≢◌, not, pos, nat_lt}
use Rattle.sqlite_rules.specs.Edit.{is_taken}
use Rattle.sqlite_trees.specs.{Tree.rowid, Tree.Trees, View.is_int}
use Rattle.sqlite_value.specs.{Order.value_cmp, Order.Row, Order.column, declared.value.Value.Value}
use Rattle.sqlite_value.specs.declared.value.Value.TheVariants.{Int, Null, Real, Text, Blob}
use Rattle.review_sql_tables.specs.Desk.{is_tree}

-- whether a value is this integer; a real number that equals it is not
abbrev pub is_integer : Value → ℤ → Bool
is_integer (Int m) n = is_eq (value_cmp (Int m) (Int n))
is_integer v n = false

-- whether a value is this integer or this text; no other value is in a key
abbrev pub is_value : Value → Value → Bool
is_value v Null = false
is_value v (Int n) = is_integer v n
is_value v (Real x) = false
is_value v (Text t) = is_eq (value_cmp v (Text t))
is_value v (Blob b) = false

-- whether the row has these values at these places
abbrev pub has_key : List (ℕ × Value) → Row → Bool
has_key key row = list_all (λ c. is_value (column row c.0) c.1) key

-- the rows have rowids, which are integers, and no two have the same
abbrev pub AreApart : List Row → Type 0
AreApart [] = Unit {0}
AreApart (r ∷ rows) = IsTrue (is_int (rowid r)) × (is_taken rows r ≡ false) × AreApart rows

-- one row came to others, among which a test finds it
pub record IsAdded (row : Row) (old new : List Row) : Type 0 where
  pub other : (p : Row → Bool) → p row ≡ false → filter p new ≡ filter p old
  pub first : (p : Row → Bool) → p row ≡ true → filter p old ≡ [] → filter p new ≡ row ∷ []
  pub count : (p : Row → Bool) → p row ≡ true → length (filter p new) ≡ length (filter p old) + 1

-- the other tables have their rows
abbrev pub SparesOthers : ℕ → Trees → Trees → Type 0
SparesOthers tree old new = (t : ℕ) → is_tree t ≡ true → t ≢ tree → new t ≡ old t

-- a table has one row more
pub record Adds (tree : ℕ) (row : Row) (old new : Trees) : Type 0 where
  pub rows : IsAdded row (old tree) (new tree)
  pub others : SparesOthers tree old new

-- a table has no more the rows of a key
pub record Removes (tree : ℕ) (key : List (ℕ × Value)) (old new : Trees) : Type 0 where
  pub rows : new tree ≡ filter (λ r. not (has_key key r)) (old tree)
  pub others : SparesOthers tree old new

-- the rows of a key, of which there were so many, got other values: a single one is such a row now, with a rowid, and all other rows are as they were
pub record Remakes (tree : ℕ) (key : List (ℕ × Value)) (stored : ℤ → Row) (count : ℕ) (old new : Trees) : Type 0 where
  pub none : count ≡ 0 → filter (has_key key) (new tree) ≡ []
  pub one : count ≡ 1 → (id : ℤ) × IsAdded (stored id) (filter (λ r. not (has_key key r)) (old tree)) (new tree)
  pub apart : filter (λ r. not (has_key key r)) (new tree) ≡ filter (λ r. not (has_key key r)) (old tree)
  pub others : SparesOthers tree old new

-- whether a value is an integer that isn't negative
abbrev pub is_natural : Value → Bool
is_natural (Int (pos n)) = true
is_natural v = false

-- whether a value is such an integer, and below this one
abbrev pub is_number_below : ℕ → Value → Bool
is_number_below least (Int (pos n)) = nat_lt n least
is_number_below least v = false

-- whether a value is a text
abbrev pub is_text : Value → Bool
is_text (Text t) = true
is_text v = false

-- a table has no more the rows that pass a test
pub record RemovesWhere (tree : ℕ) (test : Row → Bool) (old new : Trees) : Type 0 where
  pub rows : new tree ≡ filter (λ r. not (test r)) (old tree)
  pub others : SparesOthers tree old new
