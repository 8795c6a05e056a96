use Rattle.std.proofs.Common.{ℕ, List}
use Rattle.{std.specs.Io.KnownBytes.prepend_known, review_words.specs.declared.reply.Reply.Reply}
use Rattle.review_json_lines.{proofs.Answering.AreAnswered, specs.Answers.is_complete}
use Rattle.review_json_lines.proofs.apply.answer_lines.Given as goal

-- the lines so far are answered, in what was sent and what waits
abbrev pub invariant-loop : goal.invariant-loop
invariant-loop g l = record {
  so_far : (lines : List (List ℕ)) × (replies : List Reply)
      × AreAnswered lines replies (is_complete l.outcome) (g.R.Read.remaining l.fn.reader) (prepend_known l.lines.piece (g.R.Read.remaining l.lines.reader))
      (g.W.Write.contents l.fn.writer) (g.W.Write.contents l.writer) l.output.waiting.items
      (g.S.Shelf.state l.fn.shelf) (g.S.Shelf.state l.shelf);
}
