-- What the parts of texts mean: the tests of a WHERE, the values of an INSERT, and whole queries.
use Rattle.std.proofs.{Common.◌^◌, lemmas.Bool.ltb-true, lemmas.List.get_or-drop, lemmas.List.Folds.list_all-append}
use Rattle.sqlite_sql.specs.Ops.{unary, is_true, from_truth}
use Rattle.sqlite_sql.specs.{Term.eval, declared.ops.BinaryOp.TheVariants.Compare}
use Rattle.sqlite_sql.specs.declared.ops.CompareOp.TheVariants.{Eq, Lt}
use Rattle.sqlite_sql.specs.declared.ops.UnaryOp.TheVariants.{Not, ToNumeric, TypeOf}
use Rattle.review_sql_tables.proofs.Common.{arith, inl, inr, codes, ◌≡◌, ◌∙◌, ◌&&◌, ◌-◌, ℕ, zero, suc, ℤ, get_or, List, [], ◌∷◌, Bool, cond, Some, true, false, refl, sym, ap, map, filter, drop, nat_le, subst, subst₂, cases_Bool, slice_cmp, list_all, IsPermutation, is_eq, is_lt, nat_cmp, int_lt, pos, negsuc, nat_lt, not, Less, Equal, Greater, reads_as, State, Shown, filter_same, map-map, cast, Integer, binary, is_null, overlay, col, holds, Trees, rowid, is_int, value_cmp-Int, value_cmp-Null, value_cmp-Text, Row, column, value_cmp, Binary, Value, Null, Int, Real, Text, Blob, has_key, is_number_below, is_natural, is_text, is_value, desk_schema, At, Asks, tests_from, values_of, rows_where, FindsIds, tests_below}
use Rattle.review_sql_tables.proofs.Queries.{passes, shows, selects}
use Rattle.review_sql_tables.specs.{Content.is_integer, Texts.number_at, Texts.tests_for}

either : (b : Bool) (x : Value) → cond b x x ≡ x
either true x = refl
either false x = refl

pub cast_int : (n : ℤ) → cast Integer (Int n) ≡ Int n
unfolding unary
cast_int n = either _ (Int n)

pub cast_null : cast Integer Null ≡ Null
unfolding unary
cast_null = either _ Null

-- a comparison with a value that is not NULL
pub told_true : (b : Bool) → is_true (from_truth (Some b)) ≡ b
told_true true = refl
told_true false = refl

null_apart : (w : Value) → is_null w ≡ false → false ≡ is_eq (value_cmp Null w)
null_apart Null there = absurd (cc)
null_apart (Int n) there = rw (value_cmp-Null (Int n)) refl
null_apart (Real x) there = rw (value_cmp-Null (Real x)) refl
null_apart (Text t) there = rw (value_cmp-Null (Text t)) refl
null_apart (Blob b) there = rw (value_cmp-Null (Blob b)) refl

pub equals : (v w : Value) → is_null w ≡ false → is_true (binary (Compare Eq Binary) v w) ≡ is_eq (value_cmp v w)
unfolding binary
equals Null w there = null_apart w there
equals _ w there = rw there (told_true _)

-- the name of a type is the one that is asked for
is_named : (type name : List ℕ) → is_true (binary (Compare Eq Binary) (Text name) (Text type)) ≡ is_eq (slice_cmp nat_cmp name type)
is_named type name = equals (Text name) (Text type) refl ∙ ap is_eq (value_cmp-Text name type)

-- only an integer has this type
typed : (v : Value) → is_true (binary (Compare Eq Binary) (unary TypeOf v) (Text (codes "integer"))) ≡ is_int v
unfolding unary
typed Null = is_named (codes "integer") (codes "null")
typed (Int n) = is_named (codes "integer") (codes "integer")
typed (Real x) = is_named (codes "integer") (codes "real")
typed (Text t) = is_named (codes "integer") (codes "text")
typed (Blob b) = is_named (codes "integer") (codes "blob")

-- only a text has this one
typed_text : (v : Value) → is_true (binary (Compare Eq Binary) (unary TypeOf v) (Text (codes "text"))) ≡ is_text v
unfolding unary
typed_text Null = is_named (codes "text") (codes "null")
typed_text (Int n) = is_named (codes "text") (codes "integer")
typed_text (Real x) = is_named (codes "text") (codes "real")
typed_text (Text t) = is_named (codes "text") (codes "text")
typed_text (Blob b) = is_named (codes "text") (codes "blob")

pub and_true : (b : Bool) → (b && true) ≡ b
and_true true = refl
and_true false = refl

and_false : (b : Bool) → (b && false) ≡ false
and_false true = refl
and_false false = refl

exact_integer : (v : Value) (n : ℤ) → (is_eq (value_cmp v (Int n)) && (is_int v && true)) ≡ is_integer v n
exact_integer (Int m) n = elim (is_eq (value_cmp (Int m) (Int n))) as (λ b. (b && true) ≡ b) [ true ↦ refl | false ↦ refl ]
exact_integer _ n = and_false _

is_less : (m n : ℤ) → is_true (binary (Compare Lt Binary) (Int m) (Int n)) ≡ is_lt (cond (int_lt m n) Less (cond (int_lt n m) Greater Equal))
unfolding binary
is_less m n = told_true _ ∙ ap is_lt (value_cmp-Int m n)

less_by : (a b : Bool) → is_lt (cond a Less (cond b Greater Equal)) ≡ a
less_by true b = refl
less_by false true = refl
less_by false false = refl

negated : (b : Bool) → is_true (unary Not (from_truth (Some b))) ≡ not b
unfolding unary
negated true = refl
negated false = refl

-- whether an integer is not below zero
from_zero : (m : ℤ) → is_true (unary Not (binary (Compare Lt Binary) (Int m) (Int (pos 0)))) ≡ is_natural (Int m)
unfolding binary
from_zero (pos n) = negated _ ∙ ap not (ap is_lt (value_cmp-Int (pos n) (pos 0)) ∙ (less_by (nat_lt n 0) (nat_lt 0 n) ∙ never n))
  where
    never : (n : ℕ) → nat_lt n 0 ≡ false
    never n = elim (cases_Bool (nat_lt n 0)) [ inl is ↦ absurd (omega (arith, ltb-true n 0 is)) | inr other ↦ other ]
from_zero (negsuc n) = negated _ ∙ ap not (ap is_lt (value_cmp-Int (negsuc n) (pos 0)))

-- a number that isn't negative, whatever else is asked
natural : (v : Value) (b : Bool) → (is_true (unary Not (binary (Compare Lt Binary) v (Int (pos 0)))) && (is_int v && b)) ≡ (is_natural v && b)
natural (Int m) b = ap (λ a. a && b) (from_zero m)
natural _ b = and_false _

-- the same, and below another
below : (v : Value) (least : ℕ) (b : Bool) → (is_true (binary (Compare Lt Binary) v (Int (pos least))) && (is_natural v && b)) ≡ (is_number_below least v && b)
below (Int (pos n)) least b = ap (λ a. a && b) (is_less (pos n) (pos least) ∙ less_by (nat_lt n least) (nat_lt least n))
below _ least b = and_false _

-- ---- the tests of a key

module _ (params row : Row) where
  abbrev env : List Row
  env = params ∷ row ∷ []

  as_number : (place at : ℕ) (n : ℤ) → column params at ≡ Int n → eval (number_at place at) env ≡ Int n
  unfolding unary
  as_number zero at n is = is
  as_number (suc place) at n is = ap (unary ToNumeric) is

  pub passes_one : (place at : ℕ) (v : Value) → column params at ≡ v → list_all (holds env) (tests_for place v at) ≡ is_value (column row place) v
  passes_one place at Null is = refl
  passes_one place at (Int n) is =
      (λ i. (ap (λ x. is_true (binary (Compare Eq Binary) (column row place) x)) (as_number place at n is) ∙ equals (column row place) (Int n) refl) i && (typed (column row place) i && true))
      ∙ exact_integer (column row place) n
  passes_one place at (Real x) is = refl
  passes_one place at (Text t) is = and_true _ ∙ (ap (λ x. is_true (binary (Compare Eq Binary) (column row place) x)) is ∙ equals (column row place) (Text t) refl)
  passes_one place at (Blob b) is = refl

  passes_from : (key : At) (at : ℕ) → drop at params ≡ values_of key → list_all (holds env) (tests_from at key) ≡ has_key key row
  passes_from [] at bound = refl
  passes_from (c ∷ key) at bound =
      list_all-append (holds env) (tests_for c.0 c.1 at) (tests_from (suc at) key)
      ∙ (λ i. passes_one c.0 at c.1 (first params at c.1 (values_of key) bound) i && passes_from key (suc at) (rest params at c.1 (values_of key) bound) i)
    where
      first : (xs : Row) (at : ℕ) (v : Value) (vs : Row) → drop at xs ≡ v ∷ vs → column xs at ≡ v
      first xs at v vs is = ap (λ n. get_or xs n Null) (sym (native.Mathlib.Nat.add-zero at)) ∙ (sym (get_or-drop at xs 0 Null) ∙ ap (λ l. get_or l 0 Null) is)

      rest : (xs : Row) (at : ℕ) (v : Value) (vs : Row) → drop at xs ≡ v ∷ vs → drop (suc at) xs ≡ vs
      rest [] zero v vs is = absurd (cc)
      rest [] (suc at) v vs is = absurd (cc)
      rest (x ∷ xs) zero v vs is = let e : xs ≡ vs = cc in e
      rest (x ∷ xs) (suc at) v vs is = rest xs at v vs is

-- a row passes the tests of a key where it has the key
pub tested : (key : At) (row : Row) → passes (values_of key) (tests_from 0 key) row ≡ has_key key row
tested key row = passes_from (values_of key) row key 0 refl

-- which rows pass the tests of a number below the one that is bound
pub tested_below : (place number text least : ℕ) (row : Row) → passes (Int (pos least) ∷ []) (tests_below place number text) row ≡ (is_number_below least (column row place) && (is_natural (column row number) && is_text (column row text)))
unfolding unary
tested_below place number text least row =
    let v = column row place in
    let w = column row number in
    (λ i. is_true (binary (Compare Lt Binary) v (as_number (Int (pos least) ∷ []) row place 0 (pos least) refl i)) && (is_true (unary Not (binary (Compare Lt Binary) v (Int (pos 0)))) && (typed v i
    && (is_true (unary Not (binary (Compare Lt Binary) w (Int (pos 0)))) && (typed w i && (typed_text (column row text) i && true))))))
    ∙ ((λ i. is_true (binary (Compare Lt Binary) v (Int (pos least))) && natural v (natural w (and_true (is_text (column row text)) i) i) i) ∙ below v least (is_natural w && is_text (column row text)))

-- ---- queries

pub plain : (db : Trees) (tree : ℕ) → overlay db [] tree ≡ db tree
plain db tree = elim (nat_le (2 ^ 31) tree) as (λ b. Rattle.std.proofs.Common.unwrap_or (Rattle.std.proofs.Common.cond b (Rattle.std.proofs.Common.slice_get [] (tree - 2 ^ 31)) Rattle.std.proofs.Common.None) (db tree) ≡ db tree) [ true ↦ refl | false ↦ refl ]

pub shows_columns : (params : Row) (columns : List ℕ) (row : Row) → shows params (map (col 1) columns) row ≡ map (column row) columns
shows_columns params columns row = map-map _ _ columns

-- what a query for the rows of a key shows
pub asked : (sql : List ℕ) (tree : ℕ) (key : At) (columns : List ℕ) → Asks sql (rows_where tree key columns) → (old new : State) (rows : List Row) → old.now.schema ≡ desk_schema → Shown sql (values_of key) old new rows
    → IsPermutation (map (λ r. map (column r) columns) (filter (has_key key) (old.now.trees tree))) rows
asked sql tree key columns it old new rows has h =
    let params = values_of key in
    let answer = reads_as sql params old new desk_schema has _ it.is it.plain it.unlisted rows h in
    let found = selects tree (tests_from 0 key) (map (col 1) columns) [] old.now.trees params rows (plain old.now.trees tree) (answer.answer Null) in
    subst₂ (λ (show : Row → Row) l. IsPermutation (map show l) rows) (λ i row. shows_columns params columns row i) (filter_same _ _ (tested key) (old.now.trees tree)) found

pub all_pass : (rows : List Row) → filter (has_key []) rows ≡ rows
all_pass [] = refl
all_pass (r ∷ rows) = ap (λ l. r ∷ l) (all_pass rows)

-- what a query for all rowids shows
pub asked_ids : (sql : List ℕ) (tree : ℕ) → Asks sql (rows_where tree [] (0 ∷ [])) → (old new : State) (rows : List Row) → old.now.schema ≡ desk_schema → Shown sql [] old new rows → FindsIds tree old.now.trees rows
asked_ids sql tree it old new rows has h = subst (λ l. IsPermutation (map (λ r. rowid r ∷ []) l) rows) (all_pass (old.now.trees tree)) (asked sql tree [] (0 ∷ []) it old new rows has h)
