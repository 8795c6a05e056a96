use Rattle.std.proofs.Common.{◌≡◌, ◌∙◌, ◌==◌, ◌+◌, ap, arith, cond, drop, false, is_some, nat_cmp, sym, true, Some, []}
use Rattle.std.proofs.lemmas.{Bool.Decides.nat_tests, Grind.common_steps}
use Rattle.{review_table.specs.Rows.row_in, review_memory_rows.proofs.Turned.first_left}
use Rattle.review_memory_rows.proofs.edits.is_edited.Goals as goal

pub returns-then-get : goal.returns-then-get
returns-then-get c =
    let changes = c.args.changes.now in
    let i = c.loop-edited.edited-index in
    let row = c.loop-edited-item.result in
    let a = c.get.ensures.value in
    let b = c.get-in-loop-edited.ensures.value in
    let same : (c.args.number == row.0) ≡ true = grind (arith, nat_tests) in
    sym (sym c.loop-edited.invariant ∙ first_left changes i row c.args.number c.loop-edited-test.true c.loop-edited-item.is ∙ ap (λ b. is_some (cond b (Some row.1) (row_in nat_cmp (drop (i + 1) changes) c.args.number))) same)

pub loop-edited-preserved : goal.loop-edited-preserved
loop-edited-preserved c =
    let changes = c.args.changes.now in
    let i = c.loop-edited.edited-index in
    let row = c.loop-edited-item.result in
    let a = c.get.ensures.value in
    let b = c.get-in-loop-edited.ensures.value in
    let other : (c.args.number == row.0) ≡ false = grind (arith, nat_tests) in
    sym (first_left changes i row c.args.number c.loop-edited-test.true c.loop-edited-item.is ∙ ap (λ b. is_some (cond b (Some row.1) (row_in nat_cmp (drop (i + 1) changes) c.args.number))) other) ∙ c.loop-edited.invariant

pub returns : goal.returns
returns c =
    let empty : drop c.loop-edited.edited-index c.args.changes.now ≡ [] = grind (arith, common_steps) in
    sym (ap (λ rows. is_some (row_in nat_cmp rows c.args.number)) empty) ∙ c.loop-edited.invariant
