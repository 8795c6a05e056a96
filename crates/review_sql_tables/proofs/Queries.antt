-- What a query over one table shows.
use Rattle.std.{proofs.Common.if◌then◌else◌, specs.List.flat_map}
use Rattle.sqlite_value.specs.declared.keys.{Collation.Collation, Key.Key}
use Rattle.review_sql_tables.proofs.Common.{◌≡◌, ℕ, List, [], ◌∷◌, true, false, refl, Bool, subst₂, map, filter, ap, ◌∙◌, ◌++◌, sym, IsPermutation-map, list_all, IsPermutation, map-map, overlay, Query, IsAnswer, output, Output, Term, holds, eval_all, Trees, Row, over_table}

abbrev pub passes : Row → List Term → Row → Bool
passes params tests row = list_all (holds (params ∷ row ∷ [])) tests

-- what the query shows of a row
abbrev pub shows : Row → List Term → Row → Row
shows params project row = eval_all project (params ∷ row ∷ [])

pub staged_is : (params : Row) (tests : List Term) (rows : List Row)
    → flat_map (λ r. if list_all (holds (params ∷ r ∷ [])) tests then (params ∷ r ∷ []) ∷ [] else []) rows ≡ map (λ r. params ∷ r ∷ []) (filter (passes params tests) rows)
staged_is params tests [] = refl
staged_is params tests (r ∷ rows) = elim (passes params tests r) as (λ b. (if b then (params ∷ r ∷ []) ∷ [] else []) ++ flat_map (λ x. if list_all (holds (params ∷ x ∷ [])) tests then (params ∷ x ∷ []) ∷ [] else []) rows
    ≡ map (λ x. params ∷ x ∷ []) (if b then r ∷ filter (passes params tests) rows else filter (passes params tests) rows)) [
      | true ↦ ap (λ xs. (params ∷ r ∷ []) ∷ xs) (staged_is params tests rows)
      | false ↦ staged_is params tests rows
    ]

pub selects_by : (collations : List Collation) (tree : ℕ) (tests project : List Term) (order : List (Term × Key)) (db : Trees) (params : Row) (rows : List Row) → overlay db [] tree ≡ db tree
    → IsAnswer (record (over_table tree tests project order) { collations = collations }) (overlay db []) params rows
    → IsPermutation (map (shows params project) (filter (passes params tests) (db tree))) rows
selects_by collations tree tests project order db params rows plain a =
    let q : Query = record (over_table tree tests project order) { collations = collations } in
    let staged : a.staged ≡ map (λ r. params ∷ r ∷ []) (filter (passes params tests) (db tree)) = a.grouped ∙ staged_is params tests (overlay db [] tree) ∙ ap (λ all. map (λ r. params ∷ r ∷ []) (filter (passes params tests) all)) plain in
    let found = filter (passes params tests) (db tree) in
    let kept : a.kept ≡ map (output q) (map (λ r. params ∷ r ∷ []) found) = a.distinct ∙ ap (map (output q)) staged in
    let shown : map (λ (o : Output). o.1) a.kept ≡ map (shows params project) found =
    ap (map (λ (o : Output). o.1)) kept ∙ map-map (λ (o : Output). o.1) (output q) (map (λ r. params ∷ r ∷ []) found) ∙ map-map (λ env. eval_all project env) (λ (r : Row). params ∷ r ∷ []) found in
    subst₂ IsPermutation shown (sym a.shown) (IsPermutation-map (λ (o : Output). o.1) a.kept a.ordered a.same)

pub selects : (tree : ℕ) (tests project : List Term) (order : List (Term × Key)) (db : Trees) (params : Row) (rows : List Row) → overlay db [] tree ≡ db tree
    → IsAnswer (over_table tree tests project order) (overlay db []) params rows
    → IsPermutation (map (shows params project) (filter (passes params tests) (db tree))) rows
selects = selects_by []
