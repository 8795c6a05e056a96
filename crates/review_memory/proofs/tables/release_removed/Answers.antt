use Rattle.std.proofs.Common.{◌≡◌, ◌∙◌, ◌∷◌, ◌+◌, sym, subst, drop, add-one}
use Rattle.{std.proofs.Math.Seq.drop-cons, review_table.specs.Rows.HasEmptyOnly}
use Rattle.review_memory.{proofs.Lower.none_removed, proofs.Lower.past_all, specs.Desk.is_removed}
use Rattle.review_memory.proofs.tables.release_removed.Goals as goal

pub loop-change-preserved : goal.loop-change-preserved
loop-change-preserved g c =
    let R = g.K.Ord.cmp in
    let xs = c.args.changes.now in
    let i = c.loop-change.change-index in
    let item = c.change-item.result in
    let split : drop i xs ≡ item ∷ drop (i + 1) xs = drop-cons xs i item c.loop-change-test.true ∙ (λ j. sym c.change-item.is j ∷ drop (sym (add-one i) j) xs) in
    record {
      same = c.release_one.ensures.same ∙ c.loop-change.invariant.same;
      left = λ only. c.release_one.ensures.left (drop (i + 1) xs) (subst (λ cs. HasEmptyOnly R (is_removed R cs) c.loop-change.table) split (c.loop-change.invariant.left only));
    }

pub returns-clause-filled : goal.returns-clause-filled
returns-clause-filled g c = λ only.
    let R = g.K.Ord.cmp in
    none_removed R c.loop-change.table
    (subst (λ cs. HasEmptyOnly R (is_removed R cs) c.loop-change.table) (past_all c.args.changes.now c.loop-change.change-index c.loop-change-test.false) (c.loop-change.invariant.left only))
