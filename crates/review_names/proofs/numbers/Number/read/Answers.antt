use Rattle.std.proofs.Common.{◌≡◌, Some, None, refl, sym, ap, ◌∙◌}
use Rattle.std.specs.Prelude.{ok_or}
use Rattle.review_names.proofs.Spans.{most_fits, unread, told, refused}
use Rattle.review_names.specs.{Numerals.number_of, declared.names.Bad.TheVariants.Form}
use Rattle.review_names.proofs.numbers.Number.read.Goals as goal

pub returns-in_default-clause-form : goal.returns-in_default-clause-form
returns-in_default-clause-form g c =
    let read : number_of c.args.text.now ≡ None = ap number_of (sym c.as_bytes.ensures.value) ∙ sym c.read_number.ensures ∙ c.in_default.is in
    (refl, unread g.K.NumberKind.MOST g.K.NumberKind.is_met g.K.NumberKind.spans (most_fits g.K.NumberKind.MOST g.K.NumberKind.fits).1 c.args.text.now read)

pub returns-clause-ok : goal.returns-clause-ok
returns-clause-ok g c =
    let read : number_of c.args.text.now ≡ Some c.in-Some.number = ap number_of (sym c.as_bytes.ensures.value) ∙ sym c.read_number.ensures ∙ c.in-Some.is in
    told g.K.NumberKind.MOST g.K.NumberKind.is_met g.K.NumberKind.spans c.in-Some.number c.args.text.now c.ok_or.result read (c.ok_or.ensures.value ∙ ap (λ o. ok_or o Form) c.from_number.ensures)

pub returns-clause-form : goal.returns-clause-form
returns-clause-form g c =
    let read : number_of c.args.text.now ≡ Some c.in-Some.number = ap number_of (sym c.as_bytes.ensures.value) ∙ sym c.read_number.ensures ∙ c.in-Some.is in
    refused g.K.NumberKind.MOST g.K.NumberKind.is_met g.K.NumberKind.spans (most_fits g.K.NumberKind.MOST g.K.NumberKind.fits).1 c.in-Some.number c.args.text.now c.ok_or.result read
    (c.ok_or.ensures.value ∙ ap (λ o. ok_or o Form) c.from_number.ensures)
