use Rattle.std.proofs.{Common.◌∙◌, Common.sym, Common.◌++◌, Common.◌∷◌, Common.[], lemmas.List.take_more}
use Rattle.{review_table.specs.declared.table.RowEdit.RowEdit, review_machine_rows.proofs.Looked.All-step}
use Rattle.{review_machine_rows.specs.declared.rows.MemberKey.MemberKey, review_memory.specs.Desk.IsNumber}
use Rattle.review_memory.proofs.changes.copied_members.Goals as goal

pub loop-change-preserved : goal.loop-change-preserved
loop-change-preserved c =
    let changes = c.args.changes.now in
    let index = c.loop-change.change-index in
    let change = c.change-item.result in
    let numbered = λ (x : RowEdit MemberKey (Unit {0})). IsNumber x.key.account in
    record {
      copied = c.in_ok-push.ensures.items ∙ (λ i. c.loop-change.invariant.copied i ++ (c.in_ok-copied_member.ensures.copied ∙ c.change-item.is) i ∷ []) ∙ sym (take_more changes index change c.loop-change-test.true);
      numbered = All-step numbered numbered changes index change c.loop-change-test.true c.change-item.is (λ x h. h) c.loop-change.invariant.numbered c.copied_member.ensures.numbered;
    }
