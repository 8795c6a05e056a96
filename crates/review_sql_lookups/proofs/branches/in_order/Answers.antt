use Rattle.std.proofs.Common.{◌≡◌, ◌+◌, ◌∙◌, ◌++◌, ap, sym, subst, Some, [], arith, length}
use Rattle.{std.proofs.lemmas.Grind.common_steps, review_table.specs.Rows.rows_of}
use Rattle.review_machine_change_rows.proofs.Ordered.{gap, in_order, numbered_more}
use Rattle.review_machine_change_rows.specs.inner.Words.{numbered}
use Rattle.review_sql_lookups.{proofs.Telling.ordered, proofs.Telling.unordered, specs.Loads.IsOrdered}
use Rattle.review_sql_lookups.proofs.branches.in_order.Goals as goal

pub loop-place-init : goal.loop-place-init
loop-place-init c = ap (λ xs. numbered 0 xs ++ c.into_iter-place-iterator.result.rest.items) c.new-bases.ensures.items ∙ c.into_iter-place-iterator.ensures.into_iter_gives.0 ∙ c.in_ok-items.ensures

pub returns-then-get-len : goal.returns-then-get-len
returns-then-get-len c =
    let s = c.in-Some.ensures.steps.0 in
    let value = c.get.ensures.value in
    let size : c.len.result ≡ length c.loop-place.bases.items = c.len.ensures ∙ c.loop-place.bases.ok.0 in
    let other = c.if-get-len.true in
    unordered (rows_of c.args.places) (gap (rows_of c.args.places) c.loop-place.bases.items c.in-Some.place c.in-Some.commit c.next.new.self.rest.items c.once.ensures.sorted
    (ap (λ xs. numbered 0 c.loop-place.bases.items ++ xs) (sym s) ∙ c.loop-place.invariant) c.get.ensures.least (λ e. other (omega (arith, e, value, size))))

pub loop-place-preserved : goal.loop-place-preserved
loop-place-preserved c =
    let size : c.len.result ≡ length c.loop-place.bases.items = c.len.ensures ∙ c.loop-place.bases.ok.0 in
    let is : c.in-Some.place ≡ 0 + length c.loop-place.bases.items + 1 = omega (arith, c.get.ensures.value, size, c.if-get-len.false, c.get.ensures.least) in
    ap (λ xs. numbered 0 xs ++ c.next.new.self.rest.items) c.in_ok-push.ensures.items
    ∙ numbered_more 0 c.loop-place.bases.items c.in-Some.place c.in-Some.commit c.next.new.self.rest.items is
    ∙ ap (λ xs. numbered 0 c.loop-place.bases.items ++ xs) (sym c.in-Some.ensures.steps.0) ∙ c.loop-place.invariant

pub returns : goal.returns
returns c =
    let steps = c.in-None.ensures.steps in
    let empty : c.loop-place.place-iterator.rest.items ≡ [] = grind (arith, common_steps) in
    subst (λ l. IsOrdered (rows_of c.args.places) (Some l)) (sym c.from_vec.ensures)
    (ordered (rows_of c.args.places) c.loop-place.bases.items (in_order (rows_of c.args.places) c.loop-place.bases.items (ap (λ xs. numbered 0 c.loop-place.bases.items ++ xs) (sym empty) ∙ c.loop-place.invariant)))
