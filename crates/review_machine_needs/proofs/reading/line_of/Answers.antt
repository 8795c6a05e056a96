use Rattle.std.proofs.Common.{◌∙◌, ◌-◌, ◌∷◌, map, ap, sym}
use Rattle.{std.proofs.lemmas.List.map-append, std.specs.Option.option_copied, review_machine_rows.specs.Steps.texts_in}
use Rattle.review_machine_needs.proofs.Going.{taken_more, texts_from, texts_more}
use Rattle.review_machine_needs.proofs.reading.line_of.Goals as goal

pub loop-left-preserved : goal.loop-left-preserved
loop-left-preserved c =
    let rows = c.args.rows.now in
    let file = c.in-Some-2.file.now in
    let left = c.loop-left.left in
    taken_more (map (λ p. p.text.now) c.loop-left.parts.items) (map (λ p. p.text.now) c.push.new.self.items) file.text (texts_from rows (left - 1) (option_copied c.as_ref-next.result)) (texts_in rows (option_copied c.args.first))
    (texts_from rows left (option_copied c.loop-left.next))
    (ap (map (λ p. p.text.now)) c.in_ok-push.ensures.items ∙ map-append (λ p. p.text.now) c.loop-left.parts.items _)
    (texts_more rows left (option_copied c.loop-left.next) c.in-Some.project.now file c.loop-left-test.true (ap option_copied c.in-Some.is) (sym c.in_ok-file.ensures ∙ ap option_copied c.in-Some-2.is)
    ∙ ap (λ n. file.text ∷ texts_from rows (left - 1) n) (sym c.as_ref-next.ensures.value))
    c.loop-left.invariant
