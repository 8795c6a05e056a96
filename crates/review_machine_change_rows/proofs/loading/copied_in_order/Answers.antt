use Rattle.std.proofs.Common.{◌≡◌, ◌∙◌, ◌++◌, ◌∷◌, ap, map, sym, [], arith}
use Rattle.{std.proofs.lemmas.Grind.common_steps, std.specs.Map.Iter.deref_pair, review_table.specs.Rows.rows_of}
use Rattle.review_machine_change_rows.proofs.{Ordered.in_order, Ordered.not_next, Ordered.one_more, Shown.passed}
use Rattle.review_machine_change_rows.specs.inner.Words.{IsGap, numbered}
use Rattle.review_machine_change_rows.proofs.loading.copied_in_order.Goals as goal

pub loop-number-init : goal.loop-number-init
loop-number-init g c = ap (λ xs. numbered 0 xs ++ map deref_pair c.into_iter-number-iterator.result.rest.items) c.in_ok-rows.ensures.items ∙ ap (map deref_pair) c.into_iter-number-iterator.ensures.into_iter_gives.0 ∙ c.in_ok-left.ensures.rows

pub returns-in_err-add-clause-fault : goal.returns-in_err-add-clause-fault
returns-in_err-add-clause-fault g c =
    let all = rows_of c.args.table.now in
    let fault = c.in_err-add.field-0.0 in
    passed (IsGap all) fault c.from_residual-in_err-add.result c.from_residual-in_err-add.ensures
    (not_next all (map deref_pair c.loop-number.number-iterator.rest.items) (map deref_pair c.next.new.self.rest.items) c.loop-number.rows.items c.in-Some.number.now c.in_ok-copied.field-0 fault c.in_ok-left.ensures.sorted
    (ap (map deref_pair) c.in-Some.ensures.steps.0 ∙ ap (λ row. (c.in-Some.number.now, row) ∷ map deref_pair c.next.new.self.rest.items) (sym c.in_ok-copied.ensures)) c.loop-number.invariant c.in_err-add.ensures.fault)

pub loop-number-preserved : goal.loop-number-preserved
loop-number-preserved g c =
    one_more (rows_of c.args.table.now) (map deref_pair c.loop-number.number-iterator.rest.items) (map deref_pair c.next.new.self.rest.items) c.loop-number.rows.items c.add.new.rows.items c.in-Some.number.now c.in_ok-copied.field-0
    (ap (map deref_pair) c.in-Some.ensures.steps.0 ∙ ap (λ row. (c.in-Some.number.now, row) ∷ map deref_pair c.next.new.self.rest.items) (sym c.in_ok-copied.ensures)) c.in_ok-add.ensures.added c.loop-number.invariant

pub returns-clause-rows : goal.returns-clause-rows
returns-clause-rows g c =
    let steps = c.in-None.ensures.steps in
    let empty : c.loop-number.number-iterator.rest.items ≡ [] = grind (arith, common_steps) in
    in_order (rows_of c.args.table.now) c.loop-number.rows.items (ap (λ xs. numbered 0 c.loop-number.rows.items ++ map deref_pair xs) (sym empty) ∙ c.loop-number.invariant)
