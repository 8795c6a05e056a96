use Rattle.{std.proofs.Common.arith, review_names.proofs.Spans.passes, review_names.proofs.Spans.most_fits}
use Rattle.review_names.proofs.numbers.Number.last.Goals as goal

pub invariant_of-result : goal.invariant_of-result
invariant_of-result g c =
    let least = (most_fits g.K.NumberKind.MOST g.K.NumberKind.fits).0 in
    passes g.K.NumberKind.MOST g.K.NumberKind.is_met g.K.NumberKind.spans c.MOST.result (omega (arith, least)) (omega arith)
