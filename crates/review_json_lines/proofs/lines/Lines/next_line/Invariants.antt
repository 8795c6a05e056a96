use Rattle.{std.specs.Io.KnownBytes.prepend_known, review_json_lines.proofs.Begun.IsBegun}
use Rattle.review_json_lines.proofs.lines.Lines.next_line.Given as goal

abbrev pub invariant-loop : goal.invariant-loop
invariant-loop g l =
    IsBegun (prepend_known l.fn.self.piece (g.R.Read.remaining l.fn.self.reader)) (prepend_known l.self.piece (g.R.Read.remaining l.self.reader)) l.line
