-- How values of columns read, and how rows are looked up and stored, whatever the table.
use Rattle.std.specs.{BTreeMap.is_at, List.list_any, List.AllByRecursion, List.Sorted.IsPermutation, Ordering.is_gt}
use Rattle.std.specs.Prelude.{ℕ, pos, List, Option, Some, None, if◌then◌else◌, [], filter, Bool, map, ◌∷◌, ◌≡◌, true, not, is_some, ℤ, ◌≢◌, ◌+◌, false, length, option_map, min, ◌⊎◌}
use Rattle.std.specs.{Str.is_utf8, declared.cmp.Ordering.Ordering}
use Rattle.{sqlite_rules.specs.Lists.Has, sqlite_trees.specs.Tree.Trees}
use Rattle.sqlite_value.specs.{Order.Row as Raw, Order.column, Order.value_cmp, declared.value.Value.Value}
use Rattle.sqlite_value.specs.declared.value.Value.TheVariants.{Null, Int, Real, Text, Blob}
use Rattle.review_table.specs.{Rows.row_in, declared.table.RowEdit.RowEdit}
use Rattle.review_sql_tables.specs.Content.{has_key, Adds, SparesOthers}

-- ---- how values of columns read

-- a number that is not negative, where the value is one
abbrev pub number_in : Value → Option ℕ
number_in Null = None
number_in (Int (pos n)) = Some n
number_in (Int n) = None
number_in (Real x) = None
number_in (Text t) = None
number_in (Blob b) = None

-- a text, where the value is one and UTF-8
abbrev pub text_in : Value → Option (List ℕ)
text_in Null = None
text_in (Int n) = None
text_in (Real x) = None
text_in (Text t) = if is_utf8 t then Some t else None
text_in (Blob b) = None

-- ---- look-ups

-- places of columns, and the values that a row has there
abbrev pub At : Type 0
At = List (ℕ × Value)

-- the rows that have these values
abbrev pub rows_at : At → List Raw → List Raw
rows_at at rows = filter (has_key at) rows

-- a look-up: the tree of its table, which rows of the table have a key, the values that it asks for, the columns that it shows of a row, and how these read where it is a row of the table
pub record Search (A X : Type 0) : Type 0 where
  pub tree : ℕ
  pub keyed : Raw → Bool
  pub at : A → At
  pub columns : List ℕ
  pub read : Raw → Option X

-- what a look-up shows of a row
abbrev pub shown : {A X : Type 0} → Search A X → Raw → Raw
shown s r = map (column r) s.columns

-- how a stored row reads
abbrev pub reads : {A X : Type 0} → Search A X → Raw → Option X
reads s r = s.read (shown s r)

-- a look-up shows these rows, in any order
abbrev pub Finds : {A X : Type 0} → Search A X → A → Trees → List Raw → Type 0
Finds s a db rows = IsPermutation (map (shown s) (rows_at (s.at a) (db s.tree))) rows

-- the one row as it reads, or none; what does not read, or is one of several, is odd
abbrev pub only : {X : Type 0} → (Raw → Option X) → List Raw → Option (Option X)
only read [] = None
only read (r ∷ []) = Some (read r)
only read (r ∷ s ∷ rows) = Some None

-- what a table has at a key
abbrev pub row_at : {A X : Type 0} → Search A X → Trees → A → Option (Option X)
row_at s db a = only (reads s) (rows_at (s.at a) (db s.tree))

-- one of the rows is odd
abbrev pub HasOdd : {X : Type 0} → (Raw → Option X) → List Raw → Type 0
HasOdd read rows = list_any (λ r. not (is_some (read r))) rows ≡ true

-- all rows of a look-up as they read, in any order, or that one of them is odd
abbrev pub AreFound : {A X : Type 0} → Search A X → Trees → A → Option (List X) → Type 0
AreFound s db a None = HasOdd (reads s) (rows_at (s.at a) (db s.tree))
AreFound s db a (Some xs) = IsPermutation (map (reads s) (rows_at (s.at a) (db s.tree))) (map Some xs)

-- the values of a row and its key as they are put in, how they are stored, with a rowid where the table has no number of its own, and which keys and which rows are of the form of the table
pub record Form (A X : Type 0) : Type 0 where
  pub values : A → X → Raw
  pub stored : A → X → ℤ → Raw
  pub is_key : A → Bool
  pub is_good : X → Bool

-- rows that are stored as they are put in, with a rowid before them
abbrev pub with_rowid : {A X : Type 0} → (A → X → Raw) → (A → Bool) → (X → Bool) → Form A X
with_rowid values formed good = record { values = values; stored = λ a x id. Int id ∷ values a x; is_key = formed; is_good = good }

-- the first value is the rowid, and its column is left empty
abbrev pub numbered : Raw → Raw
numbered [] = []
numbered (number ∷ values) = number ∷ Null ∷ values

-- rows that begin with a number which is their rowid
abbrev pub with_number : {A X : Type 0} → (A → X → Raw) → (A → Bool) → (X → Bool) → Form A X
with_number values formed good = record { values = values; stored = λ a x id. numbered (values a x); is_key = formed; is_good = good }

-- A stored row has its key and reads as itself, no row has two keys, and one that has a key of the form of the table is among those that have a key.
pub record IsLawful {A X : Type 0} (s : Search A X) (f : Form A X) : Type 0 where
  pub keyed : (a : A) (x : X) (id : ℤ) → has_key (s.at a) (f.stored a x id) ≡ true
  pub reads_back : (a : A) (x : X) (id : ℤ) → f.is_good x ≡ true → reads s (f.stored a x id) ≡ Some x
  pub exact : (a b : A) (r : Raw) → has_key (s.at a) r ≡ true → has_key (s.at b) r ≡ true → a ≡ b
  pub known : (a : A) (r : Raw) → f.is_key a ≡ true → has_key (s.at a) r ≡ true → s.keyed r ≡ true

-- a row is put under a key
abbrev pub Puts : {A X : Type 0} → Search A X → Form A X → A → X → Trees → Trees → Type 0
Puts s f a x old new = (id : ℤ) × Adds s.tree (f.stored a x id) old new

-- how many rows a key has that has this one, or none
abbrev pub count_of : {X : Type 0} → Option X → ℕ
count_of None = 0
count_of (Some x) = 1

-- The key has this row or none, and all else is as it was.
pub record SetsRow {A X : Type 0} (s : Search A X) (key : A) (row : Option X) (old new : Trees) : Type 0 where
  pub here : row_at s new key ≡ option_map Some row
  pub there : (a : A) → a ≢ key → row_at s new a ≡ row_at s old a
  -- rows that are looked up by other columns, where no row of the key is among them
  pub apart : (p : Raw → Bool) → ((r : Raw) → has_key (s.at key) r ≡ true → p r ≡ false) → filter p (new s.tree) ≡ filter p (old s.tree)
  -- rows that are counted, where each row of the key is among them
  pub counted : (p : Raw → Bool) → ((r : Raw) → has_key (s.at key) r ≡ true → p r ≡ true)
      → length (filter p (new s.tree)) + length (rows_at (s.at key) (old s.tree)) ≡ length (filter p (old s.tree)) + count_of row
  -- a row of the key has a key of the table
  pub formed : (r : Raw) → has_key (s.at key) r ≡ true → s.keyed r ≡ true
  pub others : SparesOthers s.tree old new

-- the changes are made, the last first
abbrev pub SetsRows : {A X : Type 0} → Search A X → List (RowEdit A X) → Trees → Trees → Type 0
SetsRows s [] old new = new ≡ old
SetsRows s (c ∷ cs) old new = (mid : Trees) × SetsRows s cs old mid × SetsRow s c.key c.row mid new

-- ---- the row with the greatest value of a column, and how many rows there are

-- the row is one of these, and none of them has more in the column, as SQL orders values
pub record IsGreatest (place : ℕ) (rows : List Raw) (r : Raw) : Type 0 where
  pub among : Has rows r
  pub most : AllByRecursion (λ q. is_gt (value_cmp (column q place) (column r place)) ≡ false) rows

-- how many rows there are as SQL counts them, up to its greatest integer
abbrev pub as_counted : ℕ → ℕ
as_counted n = min n 9223372036854775807

-- the row with the greatest value of a column as it reads, or that there is no row
abbrev pub HasGreatest : {A X : Type 0} → Search A X → ℕ → A → Trees → Option (Option X) → Type 0
HasGreatest s place a db None = rows_at (s.at a) (db s.tree) ≡ []
HasGreatest s place a db (Some x) = (r : Raw) × IsGreatest place (rows_at (s.at a) (db s.tree)) r × (x ≡ reads s r)

-- one of the rows of a look-up as it reads, or that there is none
abbrev pub HasOne : {A X : Type 0} → Search A X → A → Trees → Option (Option X) → Type 0
HasOne s a db None = rows_at (s.at a) (db s.tree) ≡ []
HasOne s a db (Some x) = (r : Raw) × Has (rows_at (s.at a) (db s.tree)) r × (x ≡ reads s r)

-- ---- rows that are looked up by the front of their keys: those of an owner

-- the order of keys tells them apart
pub record IsExact {A : Type 0} (cmp : A → A → Ordering) : Type 0 where
  pub same : (a b : A) → is_at (cmp a) b ≡ true → a ≡ b
  pub itself : (a : A) → is_at (cmp a) a ≡ true

-- A look-up finds the rows of an owner, each with the rest of its key: they are those of the keys that begin with the owner, and read as such.
pub record IsFront {O K X : Type 0} (cmp : K → K → Ordering) (front : Search O (K × X)) (whole : Search (O × K) X) : Type 0 where
  pub tree : front.tree ≡ whole.tree
  pub exact : IsExact cmp
  pub within : (o : O) (k : K) (r : Raw) → has_key (whole.at (o, k)) r ≡ true → has_key (front.at o) r ≡ true
  pub keyed : (o : O) (k : K) (x : X) (r : Raw) → has_key (front.at o) r ≡ true → reads front r ≡ Some (k, x) → has_key (whole.at (o, k)) r ≡ true
  pub shows : (o : O) (k : K) (x : X) (r : Raw) → reads front r ≡ Some (k, x) → reads whole r ≡ Some x
  pub alone : (o : O) (j k : K) (x : X) (r : Raw) → reads front r ≡ Some (j, x) → has_key (whole.at (o, k)) r ≡ true → j ≡ k

-- the rows of an owner are these, by the rest of their keys
abbrev pub HaveRows : {O K X : Type 0} → (K → K → Ordering) → Search (O × K) X → O → Trees → List (K × X) → Type 0
HaveRows {K = K} cmp s o db entries = (k : K) → row_at s db (o, k) ≡ option_map Some (row_in cmp entries k)

-- the rows of an owner by the rest of their keys, or that one of them is odd, or two have one key
abbrev pub AreParts : {O K X : Type 0} → (K → K → Ordering) → Search O (K × X) → Search (O × K) X → O → Trees → Option (List (K × X)) → Type 0
AreParts {K = K} cmp front whole o db None = HasOdd (reads front) (rows_at (front.at o) (db front.tree)) ⊎ ((k : K) × (row_at whole db (o, k) ≡ Some None))
AreParts cmp front whole o db (Some entries) = HaveRows cmp whole o db entries

-- changes of an owner's rows are made, the last first
abbrev pub SetsParts : {O K X : Type 0} → Search (O × K) X → O → List (RowEdit K X) → Trees → Trees → Type 0
SetsParts s o [] old new = new ≡ old
SetsParts s o (c ∷ cs) old new = (mid : Trees) × SetsParts s o cs old mid × SetsRow s (o, c.key) c.row mid new
