-- No two rows of a table have one UNIQUE key.
use Rattle.{std.specs.Ordering.is_ne, sqlite_schema.specs.Rules.clashes, sqlite_schema.specs.Rules.equal}
use Rattle.review_sql_tables.proofs.Common.{◌≡◌, ◌∙◌, ◌≤◌, ◌&&◌, inl, inr, ℕ, zero, suc, ℤ, List, [], ◌∷◌, Some, filter, get_or, slice_get, length, map, Bool, true, false, not, Ordering, Less, refl, sym, ap, subst, IsTrue, arith, and_parts, and_from, cases_Bool, or_parts, both_ways, AllByRecursion, list_any, is_eq, Database, keys_are_unique, IsSound, int_is, is_taken, id_in, Has, agree, differ, Table, binary, is_null, rowid, is_int, value_cmp-Null, plain, first_key, Row, column, value_cmp, Binary, Value, Null, Int, Real, Text, Blob, has_key, is_value, AreApart, desk_schema, is_tree, IsReady, At, rows_at}
use Rattle.review_sql_tables.proofs.{Effects.is_there, Keys.int_is as whole_is, Keys.itself, Keys.same_value}
use Rattle.review_sql_tables.proofs.{Lists.eq_back, Meaning.equals, Meaning.told_true}

there : (v w : Value) → is_null w ≡ false → is_eq (value_cmp v w) ≡ true → is_null v ≡ false
there Null w some is = absurd (let e = rw (value_cmp-Null-apart w some) at is in cc)
  where
    value_cmp-Null-apart : (w : Value) → is_null w ≡ false → is_eq (value_cmp Null w) ≡ false
    value_cmp-Null-apart Null some = absurd (cc)
    value_cmp-Null-apart (Int n) some = ap is_eq (value_cmp-Null (Int n))
    value_cmp-Null-apart (Real x) some = ap is_eq (value_cmp-Null (Real x))
    value_cmp-Null-apart (Text t) some = ap is_eq (value_cmp-Null (Text t))
    value_cmp-Null-apart (Blob b) some = ap is_eq (value_cmp-Null (Blob b))
there _ w some is = refl

-- two values that equal a third are equal to SQL
pub equal_values : (v a b : Value) → is_null v ≡ false → is_eq (value_cmp a v) ≡ true → is_eq (value_cmp b v) ≡ true → equal Binary a b ≡ true
equal_values v a b some p q = equals a b (there b v some q) ∙ ap is_eq (same_value v a b (eq_back v a ∙ p) (eq_back v b ∙ q))

is_ne_as : (o : Ordering) → is_ne o ≡ not (is_eq o)
is_ne_as Less = refl
is_ne_as _ = refl

differ_ints : (m n : ℤ) → differ (Int m) (Int n) ≡ not (is_eq (value_cmp (Int m) (Int n)))
unfolding binary
differ_ints m n = told_true _ ∙ is_ne_as (value_cmp (Int m) (Int n))

pub differ_ids : (r s : Row) → IsTrue (is_int (rowid r)) → IsTrue (is_int (rowid s)) → is_eq (value_cmp (rowid r) (rowid s)) ≡ false → differ (rowid r) (rowid s) ≡ true
differ_ids r s p q apart =
    let a = int_is (rowid r) p in
    let b = int_is (rowid s) q in
    rw (a, b) (differ_ints (id_in (rowid r)) (id_in (rowid s)) ∙ ap not (sym (λ i. is_eq (value_cmp (a i) (b i))) ∙ apart))

any_has : (q : Row → Bool) (xs : List Row) (x : Row) → list_any q xs ≡ false → Has xs x → q x ≡ false
any_has q [] x none has = absurd has
any_has q (y ∷ xs) x none (inl e) = subst (λ z. q z ≡ false) (sym e) (or_parts _ _ none).0
any_has q (y ∷ xs) x none (inr has) = any_has q xs x (or_parts _ _ none).1 has

-- Where any two rows that pass clash, and none clash, one passes at most.
module _ (p : Row → Bool) (clash : Row → Row → Bool) (all : List Row) (none : (r : Row) → Has all r → list_any (λ other. clash other r) all ≡ false)
    (clashing : (r s : Row) → IsTrue (is_int (rowid r)) → IsTrue (is_int (rowid s)) → is_eq (value_cmp (rowid s) (rowid r)) ≡ false → p r ≡ true → p s ≡ true → clash s r ≡ true) where
  none_after : (r : Row) (rows : List Row) → Has all r → IsTrue (is_int (rowid r)) → p r ≡ true → ((x : Row) → Has rows x → Has all x) → AreApart rows → is_taken rows r ≡ false → filter p rows ≡ []
  none_after r [] has keyed is among apart free = refl
  none_after r (s ∷ rows) has keyed is among apart free = elim (cases_Bool (p s)) [
    | inl too ↦ absurd (both_ways _ (any_has (λ other. clash other r) all s (none r has) (among s (inl refl))) (clashing r s keyed apart.0 (or_parts _ _ free).0 is too))
    | inr other ↦ rw other (none_after r rows has keyed is (λ x h. among x (inr h)) apart.2 (or_parts _ _ free).1)
  ]

  pub one_passes : (rows : List Row) → ((x : Row) → Has rows x → Has all x) → AreApart rows → length (filter p rows) ≤ 1
  one_passes [] among apart = omega arith
  one_passes (r ∷ rows) among apart = elim (cases_Bool (p r)) [
    | inl is ↦ rw (is, none_after r rows (among r (inl refl)) apart.0 is (λ x h. among x (inr h)) apart.2 apart.1) (omega arith)
    | inr other ↦ rw other (one_passes rows (λ x h. among x (inr h)) apart.2)
  ]

-- ---- the tables of a desk

-- no value of a key is missing
abbrev pub AreThere : At → Type 0
AreThere key = AllByRecursion (λ c. is_null c.1 ≡ false) key

has_equal : (v w : Value) → is_value v w ≡ true → is_eq (value_cmp v w) ≡ true
has_equal v (Int n) has = subst (λ u. is_eq (value_cmp u (Int n)) ≡ true) (sym (whole_is v n has)) (itself (Int n))
has_equal v (Text t) has = has
has_equal v _ has = absurd (cc)

-- rows that have one key agree on its columns
agreeing : (key : At) (r s : Row) → AreThere key → has_key key r ≡ true → has_key key s ≡ true → agree plain (map (λ c. c.0) key) s (map (λ c. c.0) key) r ≡ true
unfolding first_key
agreeing [] r s all p q = refl
agreeing (c ∷ key) r s all p q =
    let a = and_parts _ _ p in
    let b = and_parts _ _ q in
    and_from _ _ (equal_values c.1 (column s c.0) (column r c.0) all.0 (has_equal _ c.1 b.0) (has_equal _ c.1 a.0)) (agreeing key r s all.1 a.1 b.1)

-- a key whose columns a UNIQUE names has one row, at most
pub by_unique : (table : Table) (n : ℕ) (key : At) → Has desk_schema.tables table → slice_get table.uniques n ≡ Some (map (λ c. c.0) key) → get_or table.orders n plain ≡ plain → is_tree table.tree ≡ true
    → AreThere key → (db : Database) → IsReady db → length (rows_at key (db.trees table.tree)) ≤ 1
by_unique table n key listed unique order is all db ready =
    let rows = db.trees table.tree in
    let columns = map (λ c. c.0) key in
    let sound = subst (λ s. IsSound s db.trees) ready.schema ready.sound in
    one_passes (has_key key) (λ other row. agree plain columns other columns row && differ (rowid other) (rowid row)) rows
    (λ row has. subst (λ o. clashes o columns rows row ≡ false) order (keys_are_unique desk_schema db.trees table n columns row sound listed unique has))
    (λ r s keyed too other is it. and_from _ _ (agreeing key r s all is it) (differ_ids s r too keyed other))
    rows (λ x h. h) (ready.apart table.tree is)

listed_at : (tables : List Table) (at : ℕ) (t : Table) → slice_get tables at ≡ Some t → Has tables t
listed_at [] at t is = absurd (cc)
listed_at (x ∷ tables) zero t is = inl (let e : x ≡ t = cc in sym e)
listed_at (x ∷ tables) (suc at) t is = inr (listed_at tables at t is)

-- the same of the first UNIQUE of the table at a place
pub at_place : (at : ℕ) (table : Table) (key : At) → slice_get desk_schema.tables at ≡ Some table → slice_get table.uniques 0 ≡ Some (map (λ c. c.0) key) → get_or table.orders 0 plain ≡ plain → AreThere key
    → (db : Database) → IsReady db → length (rows_at key (db.trees table.tree)) ≤ 1
at_place at table key there unique order all = by_unique table 0 key (listed_at desk_schema.tables at table there) unique order (is_there desk_schema.tables at table there) all

-- a rowid has one row, at most
pub by_rowid : (tree : ℕ) (id : ℤ) → is_tree tree ≡ true → (db : Database) → IsReady db → length (rows_at ((0, Int id) ∷ []) (db.trees tree)) ≤ 1
by_rowid tree id is db ready = one_of (db.trees tree) (ready.apart tree is)
  where
    key : At
    key = (0, Int id) ∷ []

    none_of : (r : Row) (rows : List Row) → has_key key r ≡ true → is_taken rows r ≡ false → filter (has_key key) rows ≡ []
    none_of r [] has free = refl
    none_of r (s ∷ rows) has free = elim (cases_Bool (has_key key s)) [
      | inl too ↦ absurd (let e = same_value (Int id) (rowid s) (rowid r) (eq_back (Int id) (rowid s) ∙ has_equal (rowid s) (Int id) (and_parts _ _ too).0) (eq_back (Int id) (rowid r) ∙ has_equal (rowid r) (Int id) (and_parts _ _ has).0) in both_ways _ (or_parts _ _ free).0 (ap is_eq e))
      | inr other ↦ rw other (none_of r rows has (or_parts _ _ free).1)
    ]

    one_of : (rows : List Row) → AreApart rows → length (rows_at key rows) ≤ 1
    one_of [] apart = omega arith
    one_of (r ∷ rows) apart = elim (cases_Bool (has_key key r)) [
      | inl has ↦ rw (has, none_of r rows has apart.1) (omega arith)
      | inr other ↦ rw other (one_of rows apart.2)
    ]
