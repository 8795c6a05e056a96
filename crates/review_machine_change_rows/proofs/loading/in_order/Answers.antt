use Rattle.std.proofs.Common.{◌≡◌, ◌∙◌, ◌++◌, ap, sym, [], arith}
use Rattle.{std.proofs.lemmas.Grind.common_steps, review_table.specs.Rows.rows_of}
use Rattle.review_machine_change_rows.proofs.{Ordered.in_order, Ordered.not_next, Ordered.one_more, Shown.passed}
use Rattle.review_machine_change_rows.specs.inner.Words.{IsGap, numbered}
use Rattle.review_machine_change_rows.proofs.loading.in_order.Goals as goal

pub loop-number-init : goal.loop-number-init
loop-number-init g c = ap (λ xs. numbered 0 xs ++ c.into_iter-number-iterator.result.rest.items) c.in_ok-rows.ensures.items ∙ c.into_iter-number-iterator.ensures.into_iter_gives.0 ∙ c.in_ok-left.ensures

pub returns-in_err-add-clause-fault : goal.returns-in_err-add-clause-fault
returns-in_err-add-clause-fault g c =
    let all = rows_of c.args.table in
    let fault = c.in_err-add.field-0.0 in
    passed (IsGap all) fault c.from_residual-in_err-add.result c.from_residual-in_err-add.ensures
    (not_next all c.loop-number.number-iterator.rest.items c.next.new.self.rest.items c.loop-number.rows.items c.in-Some.number c.in-Some.row fault c.once.ensures.sorted c.in-Some.ensures.steps.0 c.loop-number.invariant c.in_err-add.ensures.fault)

pub loop-number-preserved : goal.loop-number-preserved
loop-number-preserved g c =
    one_more (rows_of c.args.table) c.loop-number.number-iterator.rest.items c.next.new.self.rest.items c.loop-number.rows.items c.add.new.rows.items c.in-Some.number c.in-Some.row c.in-Some.ensures.steps.0 c.in_ok-add.ensures.added c.loop-number.invariant

pub returns-clause-rows : goal.returns-clause-rows
returns-clause-rows g c =
    let steps = c.in-None.ensures.steps in
    let empty : c.loop-number.number-iterator.rest.items ≡ [] = grind (arith, common_steps) in
    in_order (rows_of c.args.table) c.loop-number.rows.items (ap (λ xs. numbered 0 c.loop-number.rows.items ++ xs) (sym empty) ∙ c.loop-number.invariant)
