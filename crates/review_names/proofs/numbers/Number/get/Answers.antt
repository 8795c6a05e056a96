use Rattle.{std.proofs.Common.arith, review_names.proofs.Spans.bounds}
use Rattle.review_names.proofs.numbers.Number.get.Goals as goal

pub returns-clause-least : goal.returns-clause-least
returns-clause-least g c =
    let low = (bounds g.K.NumberKind.MOST g.K.NumberKind.is_met g.K.NumberKind.spans c.self.inside.number c.self.invariant).0 in omega (arith, low)

pub returns-clause-most : goal.returns-clause-most
returns-clause-most g c =
    let high = (bounds g.K.NumberKind.MOST g.K.NumberKind.is_met g.K.NumberKind.spans c.self.inside.number c.self.invariant).1 in omega (arith, high)
