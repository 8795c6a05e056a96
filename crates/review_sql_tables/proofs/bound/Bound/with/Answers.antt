use Rattle.std.proofs.{Common.slice_set, Math.ListN.length-set, lemmas.List.length-take-le, lemmas.List.take_more_set}
use Rattle.sqlite_value.specs.declared.value.ValueRef.{ValueRef}
use Rattle.review_sql_tables.proofs.Common.{◌≡◌, ◌∙◌, ◌+◌, ◌<◌, ◌≤◌, ◌++◌, ◌∷◌, [], List, ℕ, take, length, sym, ap, arith, length-map, map-append, bound, Row}
use Rattle.review_sql_tables.proofs.bound.Bound.with.Goals as goal

counted : (vs : List ValueRef) (n : ℕ) (row : Row) → n ≤ length vs → bound (take n vs) ≡ row → length row ≡ n
counted vs n row within is = ap length (sym is) ∙ (length-map _ _ ∙ length-take-le n vs within)

one_more : (vs : List ValueRef) (n : ℕ) (v : ValueRef) (row : Row) → n < length vs → bound (take n vs) ≡ row → bound (take (n + 1) (slice_set vs n v)) ≡ row ++ bound (v ∷ [])
one_more vs n v row within is = ap bound (take_more_set vs n v within) ∙ (map-append _ (take n vs) (v ∷ []) ∙ ap (λ l. l ++ bound (v ∷ [])) is)

fits : (vs : List ValueRef) (n : ℕ) (row : Row) → length vs ≡ 10 → n ≤ 10 → length row < 10 → bound (take n vs) ≡ row → n < 10
fits vs n row full within short is = let e = counted vs n row (omega (arith, full, within)) is in omega (arith, e, short)

pub bounds-values-count : goal.bounds-values-count
bounds-values-count c = fits c.self.inside.values c.self.inside.count c.args.self c.self.invariant.1 c.self.invariant.0 c.requires c.self.view_is

pub invariant_of-result : goal.invariant_of-result
invariant_of-result c =
    let low = fits c.self.inside.values c.self.inside.count c.args.self c.self.invariant.1 c.self.invariant.0 c.requires c.self.view_is in
    (omega (arith, low), length-set c.self.inside.values c.self.inside.count c.args.value ∙ c.self.invariant.1)

pub returns : goal.returns
returns c =
    let low = fits c.self.inside.values c.self.inside.count c.args.self c.self.invariant.1 c.self.invariant.0 c.requires c.self.view_is in
    one_more c.self.inside.values c.self.inside.count c.args.value c.args.self (omega (arith, low, c.self.invariant.1)) c.self.view_is
