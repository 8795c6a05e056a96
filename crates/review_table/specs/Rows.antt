-- Places by key, each with a row or none; the rows are what callers see.
use Rattle.std.specs.{BTreeMap.is_at, List.All, List.filter, Map.lookup}
use Rattle.std.specs.Prelude.{[], Option, Some, None, List, ◌∷◌, Bool, is_some, ◌≡◌, true, if◌then◌else◌}
use Rattle.{std.specs.declared.cmp.Ordering.Ordering, review_table.specs.declared.table.RowEdit.RowEdit}

-- a row that may be missing twice over
abbrev pub flat : {X : Type 0} → Option (Option X) → Option X
flat None = None
flat (Some o) = o

-- the row at the place of a key
abbrev pub row_at : {K X : Type 0} → (K → K → Ordering) → List (K × Option X) → K → Option X
row_at cmp t k = flat (lookup (is_at (cmp k)) t)

-- rows with that of a place in front, where it has one
abbrev pub with_row : {K X : Type 0} → K → Option X → List (K × X) → List (K × X)
with_row k None rows = rows
with_row k (Some v) rows = (k, v) ∷ rows

-- the rows, in the order of their keys
abbrev pub rows_of : {K X : Type 0} → List (K × Option X) → List (K × X)
rows_of [] = []
rows_of (e ∷ t) = with_row e.0 e.1 (rows_of t)

-- the row at a key, among rows
abbrev pub row_in : {K X : Type 0} → (K → K → Ordering) → List (K × X) → K → Option X
row_in cmp rows k = lookup (is_at (cmp k)) rows

-- whether a key has a place
abbrev pub has_place : {K X : Type 0} → (K → K → Ordering) → List (K × Option X) → K → Bool
has_place cmp t k = is_some (lookup (is_at (cmp k)) t)

-- a key has a place
abbrev pub HasPlace : {K X : Type 0} → (K → K → Ordering) → List (K × Option X) → K → Type 0
HasPlace cmp t k = has_place cmp t k ≡ true

-- the key of each edit has a place
abbrev pub HavePlaces : {K X : Type 0} → (K → K → Ordering) → List (K × Option X) → List (RowEdit K X) → Type 0
HavePlaces cmp t edits = All (λ c. HasPlace cmp t c.key) edits

-- the edits whose keys have places
abbrev pub placed : {K X : Type 0} → (K → K → Ordering) → List (K × Option X) → List (RowEdit K X) → List (RowEdit K X)
placed cmp t edits = filter (λ c. has_place cmp t c.key) edits

-- a key has a place without a row
abbrev pub IsEmptyPlace : {K X : Type 0} → (K → K → Ordering) → List (K × Option X) → K → Type 0
IsEmptyPlace cmp t k = lookup (is_at (cmp k)) t ≡ Some None

-- the edit of a key: the first that names it, with its new row or none
abbrev pub row_edit_of : {K X : Type 0} → (K → K → Ordering) → List (RowEdit K X) → K → Option (Option X)
row_edit_of cmp [] q = None
row_edit_of cmp (c ∷ cs) q = if is_at (cmp c.key) q then Some c.row else row_edit_of cmp cs q

-- what was there, unless it is changed
abbrev pub after_row_edit : {X : Type 0} → Option X → X → X
after_row_edit None was = was
after_row_edit (Some now) was = now

-- what a key has after edits
abbrev pub changed : {K X : Type 0} → (K → K → Ordering) → List (RowEdit K X) → K → Option X → Option X
changed cmp edits q was = after_row_edit (row_edit_of cmp edits q) was

-- no edit names the key of one before it
abbrev pub NamesOnce : {K X : Type 0} → (K → K → Ordering) → List (RowEdit K X) → Type 0
NamesOnce cmp [] = Unit {0}
NamesOnce cmp (c ∷ cs) = (row_edit_of cmp cs c.key ≡ None) × NamesOnce cmp cs

-- ---- places without a row

-- the place of a key: none, or one with a row or none
abbrev pub place_at : {K X : Type 0} → (K → K → Ordering) → List (K × Option X) → K → Option (Option X)
place_at cmp t k = lookup (is_at (cmp k)) t

-- whether one of these edits names the key
abbrev pub is_named : {K X : Type 0} → (K → K → Ordering) → List (RowEdit K X) → K → Bool
is_named cmp edits q = is_some (row_edit_of cmp edits q)

-- Every place has a row.
abbrev pub HasNoEmptyPlace : {K X : Type 0} → (K → K → Ordering) → List (K × Option X) → Type 0
HasNoEmptyPlace {K = K} cmp t = (q : K) → IsEmptyPlace cmp t q → ⊥

-- Every place has a row, but for keys that pass the test.
abbrev pub HasEmptyOnly : {K X : Type 0} → (K → K → Ordering) → (K → Bool) → List (K × Option X) → Type 0
HasEmptyOnly {K = K} cmp test t = (q : K) → IsEmptyPlace cmp t q → test q ≡ true
