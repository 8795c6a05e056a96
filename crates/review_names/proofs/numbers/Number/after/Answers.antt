use Rattle.{std.proofs.Common.◌+◌, std.proofs.Common.arith, review_names.proofs.Spans.passes}
use Rattle.review_names.proofs.numbers.Number.after.Goals as goal

pub invariant_of-result : goal.invariant_of-result
invariant_of-result g c = passes g.K.NumberKind.MOST g.K.NumberKind.is_met g.K.NumberKind.spans (c.args.last + 1) (omega arith) (omega arith)
