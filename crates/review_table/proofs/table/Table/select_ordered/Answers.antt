use Rattle.std.proofs.Common.{◌≡◌, ◌∙◌, ap, sym, ◌++◌, map, append-nil}
use Rattle.std.specs.BTreeMap.Range.{range_contains, entries_between}
use Rattle.std.specs.{List.filter, Map.Iter.deref_pair, declared.ops.Bound.TheVariants.Included}
use Rattle.review_table.proofs.Places.{rows_of_filtered, row_between}
use Rattle.review_table.specs.Rows.{rows_of, row_in}
use Rattle.review_table.proofs.table.Table.select_ordered.Goals as goal

pub loop-key-init : goal.loop-key-init
loop-key-init g c =
    let R = g.K.Ord.cmp in
    let test = range_contains R (Included c.args.from) (Included c.args.to) in
    let es : rows_of c.into_iter-key-iterator.result ≡ filter (λ e. test e.0) (rows_of c.args.self.now) =
    ap rows_of (c.into_iter-key-iterator.ensures.into_iter_gives ∙ c.range-key-items.ensures.between c.new.ensures.exhausted)
    ∙ (λ i. rows_of (entries_between R (Included (c.new.ensures.start i)) (Included (c.new.ensures.end i)) c.self.inside.places.entries))
    ∙ (rows_of_filtered test c.self.inside.places.entries ∙ ap (λ t. filter (λ e. test e.0) (rows_of t)) c.self.view_is) in
    ap (λ v. map deref_pair v ++ rows_of c.into_iter-key-iterator.result) c.new-rows.ensures.items ∙ es

pub returns-clause-found : goal.returns-clause-found
returns-clause-found g c = λ q.
    let R = g.K.Ord.cmp in
    let rows = map deref_pair c.loop-key.rows.items in
    ap (λ xs. row_in R xs q) (sym (append-nil rows) ∙ (ap (λ t. rows ++ rows_of t) (sym c.in-None.ensures.steps.0) ∙ c.loop-key.invariant))
    ∙ row_between g.met.K.Ord.total c.args.from c.args.to (rows_of c.args.self.now) q
