use Rattle.std.proofs.Common.{◌∙◌, ◌++◌, ap, sym, map, take}
use Rattle.std.{proofs.lemmas.List.append_assoc, proofs.lemmas.List.take_all, specs.Map.Iter.deref_pair}
use Rattle.review_memory_rows.{proofs.Dropped.lower_more, specs.Answers.if_lower, specs.Answers.lower}
use Rattle.review_memory_rows.proofs.lower.push_lower.Goals as goal

pub loop-row-preserved : goal.loop-row-preserved
loop-row-preserved c =
    let rows = c.args.rows.now in
    let i = c.loop-row.row-index in
    let item = c.row-item.result in
    let old = c.args.keys.now.items in
    c.in_ok-add_lower.ensures
    ∙ (ap (λ xs. xs ++ if_lower c.args.least item.0.now) c.loop-row.invariant
    ∙ (append_assoc old (lower c.args.least (map deref_pair (take i rows))) (if_lower c.args.least item.0.now)
    ∙ ap (λ l. old ++ l) (sym (lower_more c.args.least rows i item c.loop-row-test.true c.row-item.is))))

pub returns : goal.returns
returns c = c.loop-row.invariant ∙ ap (λ xs. c.args.keys.now.items ++ lower c.args.least (map deref_pair xs)) (take_all c.loop-row.row-index c.args.rows.now c.loop-row-test.false)
