use Rattle.std.proofs.Common.{rules, [], refl, sym, ap, ◌++◌, ◌∙◌}
use Rattle.review_machine_deliveries.proofs.Ran.{ran_one}
use Rattle.review_json_lines.proofs.Answering.{did_nothing, did_one, if_told, told_bad, told_reply, done_reply}
use Rattle.review_json_lines.specs.Answers.{bad_line, is_done, all_done}
use Rattle.review_json_lines.proofs.apply.answer.Goals as goal

pub returns-in_err-add-in-Unreadable-clause-answered :
    goal.returns-in_err-add-in-Unreadable-clause-answered
returns-in_err-add-in-Unreadable-clause-answered g c = did_nothing _ _ _ _ (sym c.in-Unreadable.is) refl (search rules)

pub returns-in-Nothing-clause-answered : goal.returns-in-Nothing-clause-answered
returns-in-Nothing-clause-answered g c = did_nothing _ _ _ _ (sym c.in-Nothing.is) refl (search rules)

pub returns-in_ok-add-in-Unreadable-clause-answered :
    goal.returns-in_ok-add-in-Unreadable-clause-answered
unfolding bad_line
returns-in_ok-add-in-Unreadable-clause-answered g c =
    did_nothing _ _ _ _ (sym c.in-Unreadable.is) refl (
      c.in_ok-add-in-Unreadable.ensures.added ∙ ap (λ l. c.args.output.now.waiting.items ++ l) (sym (told_bad c.args.asked.now _ c.in-Unreadable.is refl)),
      ap (λ x. is_done x [] (all_done [])) (sym c.in-Unreadable.is),
    )

pub returns-in-Asks-clause-answered : goal.returns-in-Asks-clause-answered
returns-in-Asks-clause-answered g c =
    did_one _ _ _ _ _ _ (sym c.in-Asks.is) (ran_one _ _ _ _ c.deliver-reply.ensures) (if_told c.tell-told.result _ _ _ _ c.tell-told.ensures.added c.tell-told.ensures.taken
    (λ added. added ∙ ap (λ l. c.args.output.now.waiting.items ++ l) (sym (told_reply c.args.asked.now c.in-Asks.delivery c.deliver-reply.result _ c.in-Asks.is refl)))
    (λ o taken. taken ∙ sym (done_reply c.args.asked.now c.in-Asks.delivery c.deliver-reply.result c.in-Asks.is)))
