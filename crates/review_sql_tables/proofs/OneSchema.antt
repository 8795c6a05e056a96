-- Trees list one schema.
use Rattle.std.proofs.lemmas.{Fmt.decimal_is_IsNumeral, List.append_cancel_left}
use Rattle.std.specs.{Char.to_ascii_lowercase, Fmt.decimal, Str.Parse.digits_value}
use Rattle.sqlite_catalog.specs.Listing.{IsTableRow, IsIndexRow, IsViewRow, IsDefined, automatic, is_table_row, is_index_row, is_view_row}
use Rattle.sqlite_schema.specs.{Names.same_name, declared.schema.Index.Index, declared.schema.View.View as Stored}
use Rattle.sqlite_trees.specs.{Objects.catalog_tree, Tree.IsAscending}
use Rattle.review_sql_tables.proofs.Common.{tied_itself, nat_list_cmp_total, ◌≡◌, ◌∙◌, inl, inr, ℕ, ◌+◌, ◌<◌, List, [], ◌∷◌, ◌++◌, Result, Ok, true, false, refl, sym, ap, subst, arith, same_Some, AllByRecursion, AllZip, is_eq, codes, filter, pos, slice_get, map, IsSound, table_defined_by, Has, Schema, Table, Trees, rowid, Row, column, Value, Null, Int, Text}

-- elements that stand in a relation to those of a list, each to one of its own
one_list : {A B : Type 0} (R : A → B → Type 0) → ((a : A) (x y : B) → R a x → R a y → x ≡ y) → (es : List A) (xs ys : List B) → AllZip R es xs → AllZip R es ys → xs ≡ ys
one_list R one [] [] [] h k = refl
one_list R one [] [] (y ∷ ys) h k = absurd k
one_list R one [] (x ∷ xs) ys h k = absurd h
one_list R one (a ∷ es) [] ys h k = absurd h
one_list R one (a ∷ es) (x ∷ xs) [] h k = absurd k
one_list R one (a ∷ es) (x ∷ xs) (y ∷ ys) h k = let head = one a x y h.0 k.0 in let tail = one_list R one es xs ys h.1 k.1 in λ i. head i ∷ tail i

one_tree : (row : Row) (a b : ℕ) → rowid row ≡ Int (pos (a + 1)) → rowid row ≡ Int (pos (b + 1)) → a ≡ b
one_tree row a b x y =
    let e : Int (pos (a + 1)) ≡ Int (pos (b + 1)) = sym x ∙ y in
    let n : a + 1 ≡ b + 1 = cc in
    omega (arith, n)

one_text : (v : Value) (a b : List ℕ) → v ≡ Text a → v ≡ Text b → a ≡ b
one_text v a b x y = let e : Text a ≡ Text b = sym x ∙ y in cc

one_ok : {A E : Type 0} (a b : A) (r : Result A E) → r ≡ Ok a → r ≡ Ok b → a ≡ b
one_ok a b r x y = cc

-- a row of a table tells which
one_table : (row : Row) (t u : Table) → IsTableRow row t → IsTableRow row u → t ≡ u
one_table row t u x y =
    let tree = one_tree row t.tree u.tree x.described.id y.described.id in
    let sql = one_text _ x.sql y.sql x.sql_is y.sql_is in
    let made = one_ok x.defined.0 y.defined.0 _ (ap table_defined_by (sym sql) ∙ x.defined.1) y.defined.1 in
    let both : record x.defined.0 { tree = t.tree } ≡ record y.defined.0 { tree = u.tree } = λ i. record (made i) { tree = tree i } in
    x.defined.2 ∙ both ∙ sym y.defined.2

same_as_itself : (name : List ℕ) → same_name name name ≡ true
unfolding same_name
same_as_itself name = ap is_eq (tied_itself nat_list_cmp_total (map to_ascii_lowercase name))

apart : (x : Table) (xs : List Table) → AllByRecursion (λ t. same_name x.name t.name ≡ false) xs → (t : Table) → Has xs t → x.name ≡ t.name → ⊥
apart x (y ∷ ys) all t (inl h) same = let e : true ≡ false = sym (same_as_itself x.name) ∙ ap (same_name x.name) (same ∙ ap (λ z. z.name) h) ∙ all.0 in cc
apart x (y ∷ ys) all t (inr h) same = apart x ys all.1 t h same
apart x [] all t h same = absurd h

one_number : (m n : ℕ) → m < 65536 → n < 65536 → decimal (m + 1) ≡ decimal (n + 1) → m ≡ n
one_number m n a b same =
    let e = sym (decimal_is_IsNumeral (m + 1) (omega (arith, a))).1 ∙ ap (digits_value 10) same ∙ (decimal_is_IsNumeral (n + 1) (omega (arith, b))).1 in
    omega (arith, e)

-- tables have names of their own
one_named : (tables : List Table) → IsAscending (λ s t. same_name s.name t.name ≡ false) tables → (t u : Table) → Has tables t → Has tables u → t.name ≡ u.name → t ≡ u
one_named [] named t u h k same = absurd h
one_named (x ∷ xs) named t u (inl h) (inl k) same = h ∙ sym k
one_named (x ∷ xs) named t u (inl h) (inr k) same = absurd (apart x xs named.0 u k (sym (ap (λ z. z.name) h) ∙ same))
one_named (x ∷ xs) named t u (inr h) (inl k) same = absurd (apart x xs named.0 t h (sym (ap (λ z. z.name) k) ∙ sym same))
one_named (x ∷ xs) named t u (inr h) (inr k) same = one_named xs named.1 t u h k same

-- the text of a row, or that it has none, tells which index of a table it is
one_defined : (t : Table) (i j : Index) (v : Value) → i.name ≡ j.name → i.tree ≡ j.tree → IsDefined t i v → IsDefined t j v → i ≡ j
one_defined t i j Null name tree x y =
    let front = codes "sqlite_autoindex_" in
    let names : front ++ (t.name ++ (codes "_" ++ decimal (x.0 + 1))) ≡ front ++ (t.name ++ (codes "_" ++ decimal (y.0 + 1))) = sym (ap (λ z. z.name) x.3) ∙ name ∙ ap (λ z. z.name) y.3 in
    let digits = append_cancel_left (codes "_") _ _ (append_cancel_left t.name _ _ (append_cancel_left front _ _ names)) in
    let at : x.0 ≡ y.0 = one_number x.0 y.0 x.4 y.4 digits in
    let key : x.1 ≡ y.1 = same_Some x.1 y.1 (sym x.2 ∙ ap (slice_get t.uniques) at ∙ y.2) in
    let both : automatic t x.0 x.1 i.tree ≡ automatic t y.0 y.1 j.tree = λ k. automatic t (at k) (key k) (tree k) in
    x.3 ∙ both ∙ sym y.3
one_defined t i j (Text sql) name tree x y =
    let made = one_ok x.0 y.0 _ x.1 y.1 in
    let both : record x.0 { tree = i.tree; table = t.tree } ≡ record y.0 { tree = j.tree; table = t.tree } = λ k. record (made k) { tree = tree k; table = t.tree } in
    x.2 ∙ both ∙ sym y.2
one_defined t i j _ name tree x y = absurd x

-- a row of an index of these tables tells which
one_index : (tables : List Table) → IsAscending (λ s t. same_name s.name t.name ≡ false) tables → (row : Row) (i j : Index) → IsIndexRow tables row i → IsIndexRow tables row j → i ≡ j
one_index tables named row i j x y =
    let owner = one_named tables named x.table y.table x.listed y.listed (one_text _ x.table.name y.table.name x.described.owner_is y.described.owner_is) in
    one_defined y.table i j (column row 4) (one_text _ i.name j.name x.described.name_is y.described.name_is) (one_tree row i.tree j.tree x.described.id y.described.id)
    (subst (λ t. IsDefined t i (column row 4)) owner x.defined) y.defined

no_views : (rows : List Row) (views : List Stored) → AllZip IsViewRow rows [] → AllZip IsViewRow rows views → views ≡ []
no_views [] [] none some = refl
no_views [] (v ∷ views) none some = absurd some
no_views (r ∷ rows) views none some = absurd none

-- Trees that obey a schema with no view obey no other.
pub one_schema : (db : Trees) (s u : Schema) → u.views ≡ [] → IsSound s db → IsSound u db → s ≡ u
one_schema db s u none x y =
    let rows = db catalog_tree in
    let a = x.lists.listed in
    let b = y.lists.listed in
    let tables = one_list IsTableRow one_table (filter is_table_row rows) s.tables u.tables a.tables b.tables in
    let indexes = one_list (IsIndexRow u.tables) (one_index u.tables b.named) (filter is_index_row rows) s.indexes u.indexes (subst (λ t. AllZip (IsIndexRow t) (filter is_index_row rows) s.indexes) tables a.indexes) b.indexes in
    let views = no_views (filter is_view_row rows) s.views (subst (AllZip IsViewRow (filter is_view_row rows)) none b.views) a.views ∙ sym none in
    λ k. record { tables = tables k; indexes = indexes k; views = views k }
