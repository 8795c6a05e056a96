use Rattle.std.proofs.Common.{◌∙◌, [], ap, length, subst, sym}
use Rattle.std.proofs.lemmas.Result.{IfOk-weaker}
use Rattle.std.specs.Option.{option_copied, option_map, option_map_or}
use Rattle.review_file_lines.specs.Texts.{LineView}
use Rattle.review_machine_rows.specs.Steps.{HasFile, texts_in}
use Rattle.review_machine_needs.proofs.Filed.{below_later, below_parent, known_labels, refused_nothing}
use Rattle.review_machine_needs.proofs.projects.put_below.Goals as goal

pub returns-in-Some-clause-refused : goal.returns-in-Some-clause-refused
returns-in-Some-clause-refused c = refused_nothing c.refused.result c.in-Some.refusal c.refused.ensures.empty c.refused.ensures.reply

pub returns-in-Some-clause-put : goal.returns-in-Some-clause-put
returns-in-Some-clause-put c =
    let a = c.args in
    let above = c.in_ok-above in
    below_parent a.rows.now (option_copied a.effective) a.put.key a.put.row a.new.file c.is_some.result c.depth_of-depth.result (option_map (λ (v : LineView). v.file) above.above) c.is_some.ensures
    (c.depth_of-depth.ensures ∙ (ap (λ o. length (option_map_or (λ (v : LineView). v.texts) o [])) c.as_ref-2.ensures.value ∙ ap length (above.ensures.texts ∙ ap (texts_in a.rows.now) c.as_ref.ensures.value)))
    (subst (λ p. HasFile (texts_in a.rows.now p) (option_map (λ (v : LineView). v.file) above.above)) c.as_ref.ensures.value above.ensures.read)
    c.refused.result.0 c.refused.result.1 c.in-Some.refusal (sym c.parent_refused.ensures.refusal ∙ c.in-Some.is) (c.refused.ensures.reply, c.refused.ensures.empty)

pub returns-in-Ok-clause-put : goal.returns-in-Ok-clause-put
returns-in-Ok-clause-put c =
    let a = c.args in
    let above = c.in_ok-above in
    IfOk-weaker c.put_line.result _ _
    (λ r put.
    below_later a.rows.now (option_copied a.effective) a.put.key a.put.row a.new.file c.is_some.result c.depth_of-depth.result (option_map (λ (v : LineView). v.file) above.above) c.is_some.ensures
    (c.depth_of-depth.ensures ∙ (ap (λ o. length (option_map_or (λ (v : LineView). v.texts) o [])) c.as_ref-2.ensures.value ∙ ap length (above.ensures.texts ∙ ap (texts_in a.rows.now) c.as_ref.ensures.value)))
    (subst (λ p. HasFile (texts_in a.rows.now p) (option_map (λ (v : LineView). v.file) above.above)) c.as_ref.ensures.value above.ensures.read)
    r.0 r.1 _ (sym c.parent_refused.ensures.refusal ∙ c.in_default.is) (known_labels _ a.new.file c.in-Ok.line.file _ _ c.in-Ok.ensures.known c.in-Ok.ensures.file) put)
    c.put_line.ensures.put
