use Rattle.std.proofs.Common.{Bool, subst}
use Rattle.review_json_lines.proofs.Begun.{part_consumed, longer, still, last}
use Rattle.review_json_lines.specs.inner.Words.{GavePart}
use Rattle.review_json_lines.proofs.lines.Lines.next_line.Goals as goal

pub returns-then-not-branch : goal.returns-then-not-branch
returns-then-not-branch g c =
    let taken = c.in_ok-longer.ensures in
    let gave = subst (λ (b : Bool). GavePart b c.loop.self.piece c.take_part.new.self taken.0) c.if-has_ended.false taken.1 in
    let more = longer _ _ _ _ _ _ c.loop.invariant taken.2 taken.3 (part_consumed _ _ _ _ gave) in
    let read = still _ _ _ _ more c.in_ok-read.ensures.kept in
    last _ _ _ read (c.in_ok-read.ensures.end c.if-not-branch.true) c.if-is_empty.ensures
