use Rattle.std.proofs.Common.{◌≡◌, true, false, refl, arith}
use Rattle.review_names.proofs.Spans.{passes, is_below, is_above}
use Rattle.review_names.proofs.numbers.Number.from_number.Goals.{else-number-ge1-via-then-number-ge1+else-number-MOST, else-number-ge1-via-else-number-ge1}
use Rattle.review_names.proofs.numbers.Number.from_number.Goals as goal

pub invariant_of-result : goal.invariant_of-result
invariant_of-result g c = passes g.K.NumberKind.MOST g.K.NumberKind.is_met g.K.NumberKind.spans c.args.number (omega arith) (omega arith)

pub returns-then-number-MOST : goal.returns-then-number-MOST
returns-then-number-MOST g c =
    let met : g.K.NumberKind.is_met c.args.number ≡ true = passes g.K.NumberKind.MOST g.K.NumberKind.is_met g.K.NumberKind.spans c.args.number (omega arith) (omega arith) in rw met refl

pub returns-else-number-ge1 : goal.returns-else-number-ge1
returns-else-number-ge1 g c = elim c.else-number-ge1.branch [
  | else-number-ge1-via-then-number-ge1+else-number-MOST w ↦
      let met : g.K.NumberKind.is_met c.args.number ≡ false = is_above g.K.NumberKind.MOST g.K.NumberKind.is_met g.K.NumberKind.spans c.args.number (omega arith) in rw met refl
  | else-number-ge1-via-else-number-ge1 w ↦
      let met : g.K.NumberKind.is_met c.args.number ≡ false = is_below g.K.NumberKind.MOST g.K.NumberKind.is_met g.K.NumberKind.spans c.args.number (omega arith) in rw met refl
]
