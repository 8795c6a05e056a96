use Rattle.std.proofs.Common.{◌∙◌, ap, cond, Some, subst, sym, take, arith}
use Rattle.std.proofs.lemmas.List.{take_all, Elements.All-more, Elements.All-weaker, Elements.All-same}
use Rattle.std.specs.{BTreeMap.is_at, Prelude.option_map}
use Rattle.review_table.proofs.Empty.{named_more, release_more, released}
use Rattle.review_table.specs.Rows.{IsEmptyPlace, is_named, place_at, row_at}
use Rattle.review_table.proofs.table.Table.release.Goals as goal

pub loop-edit-preserved : goal.loop-edit-preserved
loop-edit-preserved g c =
    let R = g.K.Ord.cmp in
    let xs = c.args.edits.now in
    let item = c.edit-item.result in
    let new = c.release_one.new.self in
    record {
      same = c.release_one.ensures.same ∙ c.loop-edit.invariant.same;
      gone = All-more (λ ch. IsEmptyPlace R new ch.key → ⊥) xs c.loop-edit.edit-index item (omega arith)
          (All-weaker (λ ch. IsEmptyPlace R c.loop-edit.self ch.key → ⊥) (λ ch. IsEmptyPlace R new ch.key → ⊥) (λ ch gone empty. gone (c.release_one.ensures.no_more ch.key empty)) (take c.loop-edit.edit-index xs) c.loop-edit.invariant.gone)
          (subst (λ ch. IsEmptyPlace R new ch.key → ⊥) c.edit-item.is c.release_one.ensures.gone);
      no_more = λ q empty. c.loop-edit.invariant.no_more q (c.release_one.ensures.no_more q empty);
      each = λ q. c.release_one.ensures.each q
          ∙ (release_more (is_named R (take c.loop-edit.edit-index xs) q) (is_at (R item.key) q) (place_at R c.args.self.now q) (place_at R c.loop-edit.self q) (c.loop-edit.invariant.each q)
          ∙ ap (λ b. cond b (option_map Some (row_at R c.args.self.now q)) (place_at R c.args.self.now q)) (sym (named_more R xs c.loop-edit.edit-index item item q (omega arith) (sym c.edit-item.is))));
    }

pub returns-clause-gone : goal.returns-clause-gone
returns-clause-gone g c =
    let R = g.K.Ord.cmp in
    All-same (λ ch. IsEmptyPlace R c.loop-edit.self ch.key → ⊥) c.args.edits.now (take c.loop-edit.edit-index c.args.edits.now) (sym (take_all c.loop-edit.edit-index c.args.edits.now c.loop-edit-test.false)) c.loop-edit.invariant.gone

pub returns-clause-each : goal.returns-clause-each
returns-clause-each g c = λ q.
    let R = g.K.Ord.cmp in
    let old = c.args.self.now in
    c.loop-edit.invariant.each q
    ∙ ap (λ cs. cond (is_named R cs q) (option_map Some (row_at R old q)) (place_at R old q)) (take_all c.loop-edit.edit-index c.args.edits.now c.loop-edit-test.false)

pub returns-clause-mended : goal.returns-clause-mended
returns-clause-mended g c = λ only q.
    let R = g.K.Ord.cmp in
    let old = c.args.self.now in
    released (is_named R c.args.edits.now q) (row_at R old q) (place_at R old q) (place_at R c.loop-edit.self q)
    (c.loop-edit.invariant.each q ∙ ap (λ cs. cond (is_named R cs q) (option_map Some (row_at R old q)) (place_at R old q)) (take_all c.loop-edit.edit-index c.args.edits.now c.loop-edit-test.false))
    (only q)
