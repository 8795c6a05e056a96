-- What a query shows that counts the rows of a key.
use Rattle.sqlite_sql.specs.{Aggregate.count, Group.Grouping, Group.IsSummary, Group.value_over, Term.Env}
use Rattle.sqlite_sql.specs.declared.aggregate.AggregateOp.TheVariants.{CountRows}
use Rattle.review_sql_tables.proofs.Common.{◌≡◌, ◌∙◌, ℕ, false, List, [], ◌∷◌, Some, sym, ap, subst, map, filter, length, length-map, length_permutation, AllZip, reads_as, one_permutation, State, Shown, filter_same, overlay, Query, Output, output, lit, Row, Binary, Null, has_key, desk_schema, At, Asks, values_of, tests_from, ShowsCount, count_where}
use Rattle.review_sql_tables.proofs.{Meaning.tested, Meaning.plain, Queries.passes, Queries.staged_is}

-- how all rows are grouped
abbrev all_rows : Grouping
all_rows = record { keys = []; collations = []; aggregates = record { op = CountRows; distinct = false; collation = Binary; argument = lit Null } ∷ []; having = [] }

counted_values : (group : List Env) (values : Row) → AllZip (λ a v. value_over group a ≡ Some v) all_rows.aggregates values → values ≡ count (length group) ∷ []
counted_values group [] h = absurd h
counted_values group (v ∷ []) h =
    let same : Some v ≡ Some (count (length (map (λ (e : Env). Null) group))) = sym h.0 in
    let is : v ≡ count (length (map (λ (e : Env). Null) group)) = cc in
    ap (λ x. x ∷ []) (is ∙ ap count (length-map _ _))
counted_values group (v ∷ w ∷ values) h = absurd h.1

-- the one group is summed up by its count
summed : (order : List Env) (rows : List Row) → AllZip (IsSummary all_rows) (order ∷ []) rows → rows ≡ (count (length order) ∷ []) ∷ []
summed order [] h = absurd h
summed order (r ∷ []) h = ap (λ x. x ∷ []) (h.0.2 ∙ counted_values order h.0.0 h.0.1)
summed order (r ∷ s ∷ rows) h = absurd h.1

-- what a query shows for how many rows a key has
pub asked_count : (sql : List ℕ) (tree : ℕ) (key : At) → Asks sql (count_where tree key) → (old new : State) (rows : List Row) → old.now.schema ≡ desk_schema → Shown sql (values_of key) old new rows
    → ShowsCount (filter (has_key key) (old.now.trees tree)) rows
asked_count sql tree key it old new rows has h =
    let params = values_of key in
    let tests = tests_from 0 key in
    let q : Query = count_where tree key in
    let a = (reads_as sql params old new desk_schema has _ it.is it.plain it.unlisted rows h).answer Null in
    let db = old.now.trees in
    let order : List Env = a.grouped.grouping.0 in
    let many : length order ≡ length (filter (has_key key) (db tree)) =
    length_permutation _ _ a.grouped.grouping.1 ∙ (ap length (staged_is params tests (overlay db [] tree) ∙ ap (λ all. map (λ (r : Row). params ∷ r ∷ []) (filter (passes params tests) all)) (plain db tree))
    ∙ (length-map _ _ ∙ ap length (filter_same _ _ (tested key) (db tree)))) in
    let summaries = summed order a.grouped.rows (subst (λ gs. AllZip (IsSummary all_rows) gs a.grouped.rows) a.grouped.grouping.2 a.grouped.summaries) in
    let row : Row = count (length order) ∷ [] in
    let staged : a.staged ≡ (params ∷ row ∷ []) ∷ [] = a.grouped.having ∙ ap (λ rs. filter (λ (env : Env). Rattle.std.proofs.Common.true) (map (λ (r : Row). params ∷ r ∷ []) rs)) summaries in
    let kept : a.kept ≡ output q (params ∷ row ∷ []) ∷ [] = a.distinct ∙ ap (map (output q)) staged in
    let ordered = one_permutation _ a.ordered (subst (λ l. Rattle.std.specs.List.Sorted.IsPermutation l a.ordered) kept a.same) in
    a.shown ∙ (ap (map (λ (o : Output). o.1)) ordered ∙ ap (λ n. (count n ∷ []) ∷ []) many)
