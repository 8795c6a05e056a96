use Rattle.std.proofs.Common.{◌∙◌, ap, sym}
use Rattle.std.specs.BTreeMap.Range.{range_contains, entries_between}
use Rattle.std.specs.{List.filter, declared.ops.Bound.TheVariants.Included}
use Rattle.review_table.proofs.Places.{rows_of_filtered, rows_of_skipped, rows_of_ended}
use Rattle.review_table.specs.Rows.{rows_of}
use Rattle.review_table.proofs.table.Table.last_ordered.Goals as goal

pub loop-key-init : goal.loop-key-init
loop-key-init g c =
    let R = g.K.Ord.cmp in
    let test = range_contains R (Included c.args.from) (Included c.args.to) in
    ap rows_of (c.range-left.ensures.between c.new.ensures.exhausted)
    ∙ (λ i. rows_of (entries_between R (Included (c.new.ensures.start i)) (Included (c.new.ensures.end i)) c.self.inside.places.entries))
    ∙ (rows_of_filtered test c.self.inside.places.entries ∙ ap (λ t. filter (λ e. test e.0) (rows_of t)) c.self.view_is)

pub returns-then-is_some-clause-last : goal.returns-then-is_some-clause-last
returns-then-is_some-clause-last g c =
    let test = range_contains g.K.Ord.cmp (Included c.args.from) (Included c.args.to) in
    let kept = c.loop-key.invariant ∙ sym (rows_of_filtered test c.args.self.now) in
    let last = rows_of_ended c.in-Some.key.now c.in-Some.place.now (sym c.is_some.ensures ∙ c.if-is_some.true) c.next_back.new.self c.loop-key.left (filter (λ e. test e.0) c.args.self.now) c.in-Some.ensures.steps kept in
    (rows_of c.next_back.new.self, last.0, sym (rows_of_filtered test c.args.self.now) ∙ last.1)

pub loop-key-preserved : goal.loop-key-preserved
loop-key-preserved g c =
    let test = range_contains g.K.Ord.cmp (Included c.args.from) (Included c.args.to) in
    let kept = c.loop-key.invariant ∙ sym (rows_of_filtered test c.args.self.now) in
    rows_of_skipped c.in-Some.key.now c.in-Some.place.now (sym c.is_some.ensures ∙ c.if-is_some.false) c.next_back.new.self c.loop-key.left (filter (λ e. test e.0) c.args.self.now) c.in-Some.ensures.steps kept
    ∙ rows_of_filtered test c.args.self.now

pub returns-clause-none : goal.returns-clause-none
returns-clause-none g c = sym c.loop-key.invariant ∙ ap rows_of c.in_default.ensures.steps.0
