use Rattle.std.proofs.Common.{◌∙◌, ap, cond, Some, subst, sym, take, arith}
use Rattle.std.proofs.lemmas.List.{take_all, Elements.All-more, Elements.All-weaker, Elements.All-same}
use Rattle.std.specs.BTreeMap.{is_at}
use Rattle.review_table.proofs.Empty.{named_more, named_whole, reserve_more, reserved, unnamed_front}
use Rattle.review_table.specs.Rows.{HasPlace, is_named, place_at, row_at}
use Rattle.review_table.proofs.table.Table.reserve_all.Goals as goal

pub loop-edit-preserved : goal.loop-edit-preserved
loop-edit-preserved g c =
    let R = g.K.Ord.cmp in
    let xs = c.args.edits.now in
    let item = c.edit-item.result in
    record {
      same = c.reserve_like.ensures.same ∙ c.loop-edit.invariant.same;
      rows = λ q. c.reserve_like.ensures.rows q ∙ c.loop-edit.invariant.rows q;
      stay = λ q there. c.reserve_like.ensures.stay q (c.loop-edit.invariant.stay q there);
      places = All-more (λ ch. HasPlace R c.reserve_like.new.self ch.key) xs c.loop-edit.edit-index item (omega arith)
          (All-weaker (λ ch. HasPlace R c.loop-edit.self ch.key) (λ ch. HasPlace R c.reserve_like.new.self ch.key) (λ ch. c.reserve_like.ensures.stay ch.key) (take c.loop-edit.edit-index xs) c.loop-edit.invariant.places)
          (subst (λ ch. HasPlace R c.reserve_like.new.self ch.key) c.edit-item.is c.in_ok-reserve_like.ensures.ok);
      each = λ q. c.in_ok-reserve_like.ensures.each q
          ∙ (reserve_more (is_named R (take c.loop-edit.edit-index xs) q) (is_at (R item.key) q) (place_at R c.args.self.now q) (place_at R c.loop-edit.self q) (c.loop-edit.invariant.each q)
          ∙ ap (λ b. cond b (Some (row_at R c.args.self.now q)) (place_at R c.args.self.now q)) (sym (named_more R xs c.loop-edit.edit-index item item q (omega arith) (sym c.edit-item.is))));
    }

pub returns-clause-ok : goal.returns-clause-ok
returns-clause-ok g c = let R = g.K.Ord.cmp in All-same (λ ch. HasPlace R c.loop-edit.self ch.key) c.args.edits.now (take c.loop-edit.edit-index c.args.edits.now) (sym (take_all c.loop-edit.edit-index c.args.edits.now c.loop-edit-test.false)) c.loop-edit.invariant.places

pub returns-clause-each : goal.returns-clause-each
returns-clause-each g c = λ q.
    let R = g.K.Ord.cmp in
    let old = c.args.self.now in
    c.loop-edit.invariant.each q
    ∙ ap (λ cs. cond (is_named R cs q) (Some (row_at R old q)) (place_at R old q)) (take_all c.loop-edit.edit-index c.args.edits.now c.loop-edit-test.false)

pub returns-in_err-reserve_like-clause-others : goal.returns-in_err-reserve_like-clause-others
returns-in_err-reserve_like-clause-others g c = λ q none.
    let R = g.K.Ord.cmp in
    let old = c.args.self.now in
    ap (λ t. place_at R t q) c.in_err-reserve_like.ensures.err ∙ (c.loop-edit.invariant.each q
    ∙ ap (λ b. cond b (Some (row_at R old q)) (place_at R old q)) (unnamed_front R c.args.edits.now c.loop-edit.edit-index q none))

pub returns-in_err-reserve_like-clause-only : goal.returns-in_err-reserve_like-clause-only
returns-in_err-reserve_like-clause-only g c = λ full q empty.
    let R = g.K.Ord.cmp in
    let xs = c.args.edits.now in
    let i = c.loop-edit.edit-index in
    let old = c.args.self.now in
    named_whole R xs i q (reserved (is_named R (take i xs) q) (row_at R old q) (place_at R old q) (place_at R c.loop-edit.self q) (c.loop-edit.invariant.each q) (full q)
    (sym (ap (λ t. place_at R t q) c.in_err-reserve_like.ensures.err) ∙ empty))
